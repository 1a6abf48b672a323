-- The instructions of operations and of blocks.
use Rattle.std.specs.Prelude.{ℕ, ◌%◌, ◌^◌, nat_eq, List, [], ◌∷◌, ◌++◌, Bool, true, false, Option, Some, None, map}
use Rattle.std.specs.Option.{option_map}
use Rattle.numbers.specs.Words.{word_of}
use Rattle.arithmetic.specs.Operations.{holds}
use Rattle.rv_decode.specs.declared.ops.Cond.{Cond}
use Rattle.rv_decode.specs.declared.ops.Cond.TheVariants.{Eq, Ne, Lt, Ge, Ltu, Geu}
use Rattle.rv_decode.specs.declared.ops.Reg.{Reg}
use Rattle.rv_decode.specs.declared.ops.Reg.TheVariants.{Zero, R}
use Rattle.runs.specs.Blocks.{blocks, block_of}
use Rattle.runs.specs.Numbers.{named}
use Rattle.runs.specs.Segments.{lowered}
use Rattle.lift_blocks.specs.Operations.{Operation, Plain, Branch, Jal, Jalr, Pair, HostCall, Sbrk}
use Rattle.lift_blocks.specs.Arithmetic.{of_cond}
use Rattle.lift_blocks.specs.Listed.{Lifted, ends_block}
use Rattle.pvm_ops.specs.declared.instr.Instr.{Instr}
use Rattle.pvm_ops.specs.BlockList.{Block, BlockList}
use Rattle.pvm_ops.specs.Fetch.{trap}
use Rattle.lower.specs.Instructions.{rro, rxo, jump, load_imm_jump, load_imm_jump_ind, ecalli, sbrk, fallthrough, jump_ind, load_imm}
use Rattle.lower.specs.Plain.{lower_plain}
use Rattle.lower.specs.Constants.{begins_run, runs, value_of, constant}

-- the opcode of a branch on two registers
abbrev pub branch_opcode : Cond → ℕ
branch_opcode Eq = 170
branch_opcode Ne = 171
branch_opcode Lt = 173
branch_opcode Ge = 175
branch_opcode Ltu = 172
branch_opcode Geu = 174

-- that of one on a register and 0, and on 0 and a register, which compares the other way round
abbrev pub branch_zero_opcode : Cond → ℕ
branch_zero_opcode Eq = 81
branch_zero_opcode Ne = 82
branch_zero_opcode Lt = 87
branch_zero_opcode Ge = 89
branch_zero_opcode Ltu = 83
branch_zero_opcode Geu = 85

abbrev pub zero_branch_opcode : Cond → ℕ
zero_branch_opcode Eq = 81
zero_branch_opcode Ne = 82
zero_branch_opcode Lt = 90
zero_branch_opcode Ge = 88
zero_branch_opcode Ltu = 86
zero_branch_opcode Geu = 84

-- a branch of x0 and x0 that holds is a jump, and one that doesn't goes on
abbrev pub jump_if : Bool → Instr
jump_if true = jump
jump_if false = fallthrough

abbrev pub branch : Cond → Reg → Reg → Instr
branch cond Zero Zero = jump_if (holds (of_cond cond) 0 0)
branch cond (R a) Zero = rxo (branch_zero_opcode cond) a 0
branch cond Zero (R b) = rxo (zero_branch_opcode cond) b 0
branch cond (R a) (R b) = rro (branch_opcode cond) a b

-- a jump with the number of the place after it as its link
abbrev pub jump_with : Reg → ℕ → Instr
jump_with Zero link = jump
jump_with (R d) link = load_imm_jump d link

-- a jump to what a number names, which is known where the number is a constant
abbrev pub jump_to : Option ℕ → Reg → ℕ → Instr
jump_to None rd link = trap
jump_to (Some target) rd link = jump_with rd link

-- a jump by a register and an immediate
abbrev pub jump_by_register : Reg → ℕ → ℕ → ℕ → Instr
jump_by_register Zero a x link = jump_ind a x
jump_by_register (R d) a x link = load_imm_jump_ind d a link x

-- a pair's auipc leaves 0 in its register, unless that is the link's
abbrev pub clears_if : Bool → ℕ → ℕ → ℕ → List Instr
clears_if true t d link = load_imm_jump d link ∷ []
clears_if false t d link = load_imm t 0 ∷ load_imm_jump d link ∷ []

abbrev pub pair : Reg → Reg → ℕ → List Instr
pair Zero rd link = jump_with rd link ∷ []
pair (R t) Zero link = load_imm_jump t 0 ∷ []
pair (R t) (R d) link = clears_if (nat_eq t d) t d link

-- The instructions of an operation, with 0 for an offset, by the needed places, which the address map's numbers name.
abbrev pub lower_op : List ℕ → Operation ℕ → List Instr
lower_op needed (Plain op) = lower_plain op
lower_op needed (Branch cond rs1 rs2 target) = branch cond rs1 rs2 ∷ []
lower_op needed (Jal rd link target) = jump_with rd link ∷ []
lower_op needed (Jalr rd Zero imm link) = jump_to (named needed (word_of imm % 2 ^ 32)) rd link ∷ []
lower_op needed (Jalr rd (R a) imm link) = jump_by_register rd a (word_of imm) link ∷ []
lower_op needed (Pair temp rd link target) = pair temp rd link
lower_op needed (HostCall number) = ecalli number ∷ []
lower_op needed Sbrk = sbrk 7 7 ∷ []

-- the instructions after an operation that ends its block, or doesn't
abbrev pub tail_if : Bool → List Instr
tail_if true = []
tail_if false = fallthrough ∷ []

-- where its last operation doesn't end it, a block falls through to the next
abbrev pub tail_of : List (Operation ℕ) → List Instr
tail_of [] = fallthrough ∷ []
tail_of (op ∷ []) = tail_if (ends_block op)
tail_of (op ∷ next ∷ ops) = tail_of (next ∷ ops)

-- a target where a test holds
abbrev pub target_if : Bool → ℕ → Option ℕ
target_if true target = Some target
target_if false target = None

abbrev pub branch_offset_target : Cond → Reg → Reg → ℕ → Option ℕ
branch_offset_target cond Zero Zero target = target_if (holds (of_cond cond) 0 0) target
branch_offset_target cond (R a) Zero target = Some target
branch_offset_target cond Zero (R b) target = Some target
branch_offset_target cond (R a) (R b) target = Some target

-- the target to which the offset of an operation's last instruction leads
abbrev pub offset_target : List ℕ → Operation ℕ → Option ℕ
offset_target needed (Plain op) = None
offset_target needed (Branch cond rs1 rs2 target) = branch_offset_target cond rs1 rs2 target
offset_target needed (Jal rd link target) = Some target
offset_target needed (Jalr rd Zero imm link) = named needed (word_of imm % 2 ^ 32)
offset_target needed (Jalr rd (R a) imm link) = None
offset_target needed (Pair temp rd link target) = Some target
offset_target needed (HostCall number) = None
offset_target needed Sbrk = None

-- the target of a block is that of its last operation
abbrev pub last_offset_target : List ℕ → List (Operation ℕ) → Option ℕ
last_offset_target needed [] = None
last_offset_target needed (op ∷ []) = offset_target needed op
last_offset_target needed (op ∷ next ∷ ops) = last_offset_target needed (next ∷ ops)

-- whether an operation calls the host
abbrev pub is_call : Operation ℕ → Bool
is_call (Plain op) = false
is_call (Branch cond rs1 rs2 target) = false
is_call (Jal rd link target) = false
is_call (Jalr rd rs1 imm link) = false
is_call (Pair temp rd link target) = false
is_call (HostCall number) = true
is_call Sbrk = false

-- the instruction of a run on a register; without a register, those of operations in no run
abbrev pub run_instrs_on : List ℕ → Option ℕ → List (Operation ℕ) → List Instr
run_instrs_on needed None ops = lowered (lower_op needed) ops
run_instrs_on needed (Some d) ops = constant d (value_of 0 ops) ∷ []

-- the instructions of a run, or of an operation that is in none
abbrev pub run_instrs : List ℕ → List (Operation ℕ) → List Instr
run_instrs needed [] = []
run_instrs needed (op ∷ ops) = run_instrs_on needed (begins_run op) (op ∷ ops)

-- the instructions of operations of a block: each maximal run is one constant, and what is in no run is lowered alone
abbrev pub part_instrs : List ℕ → List (Operation ℕ) → List Instr
part_instrs needed ops = lowered (run_instrs needed) (runs ops)

-- the instructions of a block
abbrev pub block_instrs : List ℕ → List (Operation ℕ) → List Instr
block_instrs needed ops = part_instrs needed ops ++ tail_of ops

-- its target as the block that holds it
abbrev pub lower_block : List ℕ → List Bool → List (Operation ℕ) → Block
lower_block needed begins ops = record { instrs = block_instrs needed ops; target = option_map (block_of begins) (last_offset_target needed ops) }

-- the blocks of the operations in code order, with the blocks of the entries and of the address map
abbrev pub lowered_blocks : Lifted → BlockList
lowered_blocks lifted = record {
  blocks = map (lower_block lifted.needed lifted.begins) (blocks lifted.begins lifted.ops);
  entries = map (block_of lifted.begins) lifted.entries;
  needed = map (block_of lifted.begins) lifted.needed;
}
