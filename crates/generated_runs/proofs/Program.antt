-- The operations of a generated object are lowered to one block, with an instruction for each.
use Rattle.std.proofs.Common.{◌≡◌, ◌<◌, ℕ, zero, suc, List, [], ◌∷◌, ◌++◌, length, map, Bool, true, false, Option, Some, None, refl, ap, ◌∙◌, subst, arith}
use Rattle.std.specs.Prelude.{pos, replicate, slice_get}
use Rattle.std.specs.List.{AllByRecursion}
use Rattle.std.specs.Option.{option_map}
use Rattle.std.proofs.lemmas.List.{append-nil, length-append, length-map}
use Rattle.rv_decode.specs.declared.ops.Reg.TheVariants.{Zero, R}
use Rattle.runs.specs.Blocks.{in_first, blocks, block_of}
use Rattle.runs.specs.Segments.{lowered}
use Rattle.lift_blocks.specs.Operations.{Operation, Jalr}
use Rattle.pvm_ops.specs.declared.instr.Instr.{Instr}
use Rattle.pvm_ops.specs.BlockList.{Block}
use Rattle.lower.specs.Constants.{begins_run, runs}
use Rattle.lower.specs.Lowering.{lower_op, tail_of, offset_target, last_offset_target, run_instrs, part_instrs, block_instrs, lower_block, lowered_blocks}
use Rattle.lower.proofs.Lists.{all_from_places, all_at, from_map}
use Rattle.generated.specs.Words.{next}
use Rattle.generated_runs.specs.Operations.{operations}
use Rattle.generated_runs.specs.Lifted.{lifted_of, lifted}
use Rattle.generated_runs.specs.Program.{IsOneInstruction, instructions, program}
use Rattle.generated_runs.specs.Laws.{WordsAreInstructions, GeneratedIsLowered}
use Rattle.generated_runs.proofs.CodeWords.{operations-length}
use Rattle.generated_runs.proofs.Forms.{HoldsOfForms, each-operation, each-random}

-- what holds of the forms and of the return holds of each operation of the list
pub all-listed : (P : Operation ℕ → Type 0) → HoldsOfForms (λ op. P (lifted_of op)) → P (Jalr Zero (R 0) (pos 0) 0) → (seed count : ℕ) → AllByRecursion P (lifted seed count).ops
all-listed P forms return seed count =
    all_from_places P (lifted seed count).ops (λ at op is.
    (let from = from_map lifted_of (operations seed count) at op is in
    subst P from.is (each-operation (λ op. P (lifted_of op)) forms return seed count at from.x from.there)))

-- and what holds of the forms alone holds of each but the last
pub all-but_last : (P : Operation ℕ → Type 0) → HoldsOfForms (λ op. P (lifted_of op)) → (seed count at : ℕ) (op : Operation ℕ) → at < count → slice_get (lifted seed count).ops at ≡ Some op → P op
all-but_last P forms seed count at op lt is =
    let from = from_map lifted_of (operations seed count) at op is in
    subst P from.is (each-random (λ op. P (lifted_of op)) forms seed count at from.x lt from.there)

pub operations-count : (seed count : ℕ) → length (lifted seed count).ops ≡ suc count
operations-count seed count = length-map (operations seed count) lifted_of ∙ operations-length seed count

-- ---- instructions

one-instruction : (seed count : ℕ) → AllByRecursion IsOneInstruction (lifted seed count).ops
one-instruction =
    all-listed IsOneInstruction
    (record {
      of_addi = λ d s immediate d_fits s_fits fits. record { no_run = refl; one = λ needed. refl };
      of_srliw = λ d s immediate d_fits s_fits fits. record { no_run = refl; one = λ needed. refl };
      of_registers = λ op d s t d_fits s_fits t_fits. record { no_run = refl; one = λ needed. refl };
    })
    (record { no_run = refl; one = λ needed. refl })

pub words-are_instructions : WordsAreInstructions
words-are_instructions seed count at op is = all_at IsOneInstruction (lifted seed count).ops at op (one-instruction seed count) is

-- operations that are no constants are lowered one by one
alone : (needed : List ℕ) (ops : List (Operation ℕ)) → AllByRecursion IsOneInstruction ops → part_instrs needed ops ≡ lowered (lower_op needed) ops
alone needed [] each = refl
alone needed (op ∷ ops) each =
    let first : begins_run op ≡ None = each.0.no_run in
    rw first (ap (λ (is : List Instr). is ++ lowered (run_instrs needed) (runs ops)) (rw first (append-nil (lower_op needed op))) ∙ ap (λ (is : List Instr). lower_op needed op ++ is) (alone needed ops each.1))

lowered-length : (needed : List ℕ) (ops : List (Operation ℕ)) → AllByRecursion IsOneInstruction ops → length (lowered (lower_op needed) ops) ≡ length ops
lowered-length needed [] each = refl
lowered-length needed (op ∷ ops) each =
    omega (arith, length-append (lower_op needed op) (lowered (lower_op needed) ops), each.0.one needed, lowered-length needed ops each.1)

-- ---- one block

one-block : {A : Type 0} (n : ℕ) (b : Bool) (x : A) (xs : List A) → length xs ≡ n → blocks (b ∷ replicate n false) (x ∷ xs) ≡ (x ∷ xs) ∷ []
one-block zero b x [] len = refl
one-block zero b x (y ∷ xs) len = absurd (omega (arith, len))
one-block (suc n) b x [] len = absurd (omega (arith, len))
one-block (suc n) b x (y ∷ xs) len = ap (in_first x) (one-block n false y xs (omega (arith, len)))

blocks-are : (seed count : ℕ) → blocks (lifted seed count).begins (lifted seed count).ops ≡ (lifted seed count).ops ∷ []
blocks-are seed count = by_list (lifted seed count).ops (operations-count seed count)
  where
    by_list : (ops : List (Operation ℕ)) → length ops ≡ suc count → blocks (true ∷ replicate count false) ops ≡ ops ∷ []
    by_list [] len = absurd (omega (arith, len))
    by_list (op ∷ ops) len = one-block count true op ops (omega (arith, len))

-- the return ends it
no-tail : (seed count : ℕ) → tail_of (lifted seed count).ops ≡ []
unfolding operations
no-tail seed zero = refl
no-tail seed (suc zero) = refl
no-tail seed (suc (suc count)) = no-tail (next seed) (suc count)

-- and nothing has a target
no-target : (needed : List ℕ) (ops : List (Operation ℕ)) → AllByRecursion (λ op. offset_target needed op ≡ None) ops → last_offset_target needed ops ≡ None
no-target needed [] each = refl
no-target needed (op ∷ []) each = each.0
no-target needed (op ∷ other ∷ ops) each = no-target needed (other ∷ ops) each.1

untargeted : (seed count : ℕ) → last_offset_target [] (lifted seed count).ops ≡ None
untargeted seed count =
    no-target [] (lifted seed count).ops (all-listed (λ op. offset_target [] op ≡ None)
    (record { of_addi = λ d s immediate d_fits s_fits fits. refl; of_srliw = λ d s immediate d_fits s_fits fits. refl; of_registers = λ op d s t d_fits s_fits t_fits. refl })
    refl seed count)

instrs-are : (seed count : ℕ) → block_instrs [] (lifted seed count).ops ≡ instructions seed count
instrs-are seed count =
    ap (λ (is : List Instr). part_instrs [] (lifted seed count).ops ++ is) (no-tail seed count)
    ∙ append-nil (part_instrs [] (lifted seed count).ops)
    ∙ alone [] (lifted seed count).ops (one-instruction seed count)

block-is : (seed count : ℕ) → lower_block [] (lifted seed count).begins (lifted seed count).ops ≡ record { instrs = instructions seed count; target = None }
block-is seed count =
    ap (λ (is : List Instr). record { instrs = is; target = option_map (block_of (lifted seed count).begins) (last_offset_target [] (lifted seed count).ops) }) (instrs-are seed count)
    ∙ ap (λ (target : Option ℕ). record { instrs = instructions seed count; target = option_map (block_of (lifted seed count).begins) target }) (untargeted seed count)

program-is : (seed count : ℕ) → lowered_blocks (lifted seed count) ≡ program seed count
program-is seed count =
    ap (λ (bs : List (List (Operation ℕ))). record { blocks = map (lower_block [] (lifted seed count).begins) bs; entries = 0 ∷ []; needed = [] }) (blocks-are seed count)
    ∙ ap (λ (b : Block). record { blocks = b ∷ []; entries = 0 ∷ []; needed = [] }) (block-is seed count)

pub generated-is_lowered : GeneratedIsLowered
generated-is_lowered = record {
  program_is = program-is;
  size = λ seed count. lowered-length [] (lifted seed count).ops (one-instruction seed count) ∙ operations-count seed count ∙ omega arith;
}
