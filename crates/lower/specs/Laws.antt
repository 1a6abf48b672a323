-- The laws of lowering that the link rests on.
use Rattle.std.specs.Prelude.{◌≡◌, ℕ, ◌<◌, List, [], ◌∷◌, length, map, Bool, true, false, Option, Some, slice_get}
use Rattle.std.specs.Option.{option_map}
use Rattle.std.specs.List.{AllByRecursion}
use Rattle.rv_decode.specs.declared.ops.RvOp.{RvOp}
use Rattle.rv_decode.specs.declared.ops.RvOp.TheVariants as rv
use Rattle.rv_decode.specs.Operations.{IsOp}
use Rattle.runs.specs.Machine.{Outcome, Call, does}
use Rattle.runs.specs.Blocks.{block_of}
use Rattle.runs.specs.Segments.{Cut, Implements, Lowers, all_ops, all_instrs, op_place, instr_place}
use Rattle.machine_state.specs.State.{State, IsState}
use Rattle.machine_state.specs.Ends.{End}
use Rattle.symbols.specs.Wanted.{Given}
use Rattle.lift_blocks.specs.Operations.{Operation, Plain, HostCall}
use Rattle.lift_blocks.specs.Step.{plain_does, op_does}
use Rattle.lift_blocks.specs.Listed.{Lifted, IsLifted, ends_block}
use Rattle.lift_blocks.specs.Fits.{FitsInstructions}
use Rattle.jump_table.specs.Assembly.{members_of, first_of}
use Rattle.blob_check.specs.Starts.{is_terminator}
use Rattle.jump_table.specs.Laws.{IsPlaceable, IsBlock, IsAssemblable, AreEnded}
use Rattle.pvm_ops.specs.declared.instr.Instr.{Instr}
use Rattle.pvm_ops.specs.BlockList.{Block}
use Rattle.pvm_machine.specs.Effect.{effect}
use Rattle.lower.specs.Plain.{IsLowerable}
use Rattle.lower.specs.Constants.{IsCutAtRuns, runs}
use Rattle.lower.specs.Lowering.{lower_op, offset_target, last_offset_target, is_call, block_instrs, lowered_blocks}
use Rattle.lower.specs.Cutting.{targeted_op, block_segments, segments, first_segment, instr_does, instr_places}

-- the operation of a word can be lowered alone, unless it is a jump or a branch
abbrev pub IsLowerableUnlessJump : RvOp → Type 0
IsLowerableUnlessJump (rv.Jal rd offset) = Unit {0}
IsLowerableUnlessJump (rv.Jalr rd rs1 imm) = Unit {0}
IsLowerableUnlessJump (rv.Branch cond rs1 rs2 offset) = Unit {0}
IsLowerableUnlessJump op = IsLowerable op

abbrev pub WordsAreLowerable : Type 0
WordsAreLowerable = (op : RvOp) → IsOp op → IsLowerableUnlessJump op

-- from every good state these instructions lead where the operation leads
abbrev pub HasEffect : RvOp → List Instr → Type 0
HasEffect op is =
    (needed : List ℕ) (s : State) → IsState s
    → ◌≡◌ {A = Outcome ℕ State End} (does (effect needed 0) is s) (plain_does op s)

-- The instructions of an operation that can be lowered alone do what it does, are three at most, and keep the state good.
abbrev pub OperationsAreLowered : Type 0
OperationsAreLowered =
    (needed : List ℕ) (op : RvOp) → IsLowerable op
    → Lowers (op_does needed) (instr_does needed) IsState (targeted_op needed) (Plain op)

-- The instructions of an operation that is no call of the host, with its target, do what it does, are three at most, and
-- keep the state good.
abbrev pub AllAreLowered : Type 0
AllAreLowered = (needed : List ℕ) (op : Operation ℕ) → FitsInstructions op → is_call op ≡ false → Lowers (op_does needed) (instr_does needed) IsState (targeted_op needed) op

-- and that of a call makes the same call
abbrev pub CallsAreLowered : Type 0
CallsAreLowered = (needed : List ℕ) (number : ℕ) (s : State) → does (instr_does needed) (targeted_op needed (HostCall number)) s ≡ Call number s

-- Operations have one cut into maximal runs, by which the instructions of a block are made.
abbrev pub RunsAreMaximal : Type 0
RunsAreMaximal = (ops : List (Operation ℕ)) → IsCutAtRuns ops (runs ops) × ((parts : List (List (Operation ℕ))) → IsCutAtRuns ops parts → parts ≡ runs ops)

-- The instructions of an operation that ends its block: the last ends it, with an offset where the operation has a target.
pub record IsEnding (needed : List ℕ) (op : Operation ℕ) : Type 0 where
  pub block : IsBlock (record { instrs = lower_op needed op; target = offset_target needed op })
  pub placeable : AllByRecursion IsPlaceable (lower_op needed op)
  pub terminator : is_terminator block.last.op ≡ true

abbrev pub EndingsArePlaceable : Type 0
EndingsArePlaceable = (needed : List ℕ) (op : Operation ℕ) → FitsInstructions op → ends_block op ≡ true → IsEnding needed op

-- none but the last operation of a block ends it
abbrev pub FrontGoesOn : List (Operation ℕ) → Type 0
FrontGoesOn [] = Unit {0}
FrontGoesOn (op ∷ []) = Unit {0}
FrontGoesOn (op ∷ next ∷ ops) = (ends_block op ≡ false) × FrontGoesOn (next ∷ ops)

-- only the first operation of a block may call the host, and another comes after it
abbrev pub CallIsFirst : List (Operation ℕ) → Type 0
CallIsFirst [] = Unit {0}
CallIsFirst (op ∷ ops) = AllByRecursion (λ x. is_call x ≡ false) ops × (is_call op ≡ true → 0 < length ops)

-- A block of operations is implemented by its instructions, also if it ends with a branch or a jump, or begins with a
-- host call.
abbrev pub BlocksAreImplemented : Type 0
BlocksAreImplemented =
    (needed : List ℕ) (ops : List (Operation ℕ)) → AllByRecursion FitsInstructions ops → CallIsFirst ops → FrontGoesOn ops → 0 < length ops
    → AllByRecursion (Implements (op_does needed) (instr_does needed) IsState) (block_segments needed ops)

-- a block that can be placed, whose last instruction ends it
pub record IsPlacedBlock (instrs : List Instr) (target : Option ℕ) : Type 0 where
  pub block : IsBlock (record { instrs = instrs; target = target })
  pub placeable : AllByRecursion IsPlaceable instrs
  pub terminator : is_terminator block.last.op ≡ true

-- and so can its instructions be placed
abbrev pub BlocksArePlaceable : Type 0
BlocksArePlaceable =
    (needed : List ℕ) (begins : List Bool) (ops : List (Operation ℕ)) → AllByRecursion FitsInstructions ops → FrontGoesOn ops → 0 < length ops
    → IsPlacedBlock (block_instrs needed ops) (option_map (block_of begins) (last_offset_target needed ops))

-- Each block's instructions do what its operations do, at most four begun for each, and jumps lead to blocks.
abbrev pub LoweredIsCut : Type 0
LoweredIsCut =
    (given : Given) (lifted : Lifted) → IsLifted given lifted
    → Cut (op_does lifted.needed) (instr_does lifted.needed) IsState (segments lifted) (λ t. t) (instr_places lifted)

-- the blocks together are the operations in code order
abbrev pub BlocksAreAll : Type 0
BlocksAreAll = (given : Given) (lifted : Lifted) → IsLifted given lifted → all_ops (segments lifted) ≡ lifted.ops

-- an entry begins a block
abbrev pub EntriesBegin : Type 0
EntriesBegin = (given : Given) (lifted : Lifted) → IsLifted given lifted → (entry t : ℕ) → slice_get lifted.entries entry ≡ Some t → op_place (segments lifted) (first_segment lifted (block_of lifted.begins t)) ≡ t

-- each operation is in a block of the list
abbrev pub BlocksAreThere : Type 0
BlocksAreThere = (given : Given) (lifted : Lifted) → IsLifted given lifted → (t : ℕ) → t < length lifted.places → (b : Block) × (slice_get (lowered_blocks lifted).blocks (block_of lifted.begins t) ≡ Some b)

-- an instruction, with a block for the operation that is its target
pub record InBlock : Type 0 where
  pub instr : Instr
  pub target : Option ℕ

-- the pieces have the instructions of the list of blocks, with the same targets in the same places
abbrev pub SameInstrs : Type 0
SameInstrs =
    (lengths : List ℕ) (lifted : Lifted)
    → map {B = InBlock} (λ i. record { instr = i.instr; target = option_map (block_of lifted.begins) i.target }) (all_instrs (segments lifted))
    ≡ map {B = InBlock} (λ m. record { instr = m.instr; target = m.target }) (members_of lengths (lowered_blocks lifted))

abbrev pub SamePlaces : Type 0
SamePlaces = (lifted : Lifted) (block : ℕ) → instr_place (segments lifted) (first_segment lifted block) ≡ first_of (lowered_blocks lifted) block

-- the list of blocks can be placed, and each block's last instruction ends it
abbrev pub LoweredIsPlaceable : Type 0
LoweredIsPlaceable = (given : Given) (lifted : Lifted) → IsLifted given lifted → IsAssemblable (lowered_blocks lifted) × AreEnded (lowered_blocks lifted)
