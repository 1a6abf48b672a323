-- What the blocks of a lifted list have: operations that instructions can hold, of which none but the last ends its block, with
-- targets that begin blocks.
use Rattle.std.proofs.Common.{◌≡◌, ℕ, zero, suc, ◌%◌, ◌/◌, ◌^◌, ◌<◌, Bool, true, false, List, [], ◌∷◌, length, Some, None}
use Rattle.std.specs.Prelude.{slice_get, nat_eq, if◌then◌else◌}
use Rattle.std.specs.List.{AllByRecursion}
use Rattle.numbers.specs.Words.{word_of}
use Rattle.arithmetic.specs.Operations.{holds}
use Rattle.rv_decode.specs.declared.ops.Reg.TheVariants.{Zero, R}
use Rattle.runs.specs.Numbers.{entry}
use Rattle.runs.specs.Blocks.{blocks, block_of}
use Rattle.runs.specs.Segments.{op_place}
use Rattle.symbols.specs.Wanted.{Given}
use Rattle.lift_blocks.specs.Arithmetic.{of_cond}
use Rattle.lift_blocks.specs.Operations.{Operation, Plain, Branch, Jal, Jalr, Pair, HostCall, Sbrk}
use Rattle.lift_blocks.specs.Listed.{Lifted, IsLifted, target_of}
use Rattle.lower.specs.Lowering.{target_if, offset_target, last_offset_target}
use Rattle.lower.specs.Cutting.{segments, first_segment}
use Rattle.lift_blocks.specs.Fits.{FitsInstructions}
use Rattle.lower.specs.Laws.{FrontGoesOn}
use Rattle.lower.proofs.Lists.{all_from_places, IsBlockOf, blocks_all}
use Rattle.lower.proofs.Fronts.{fronts_go_on}
use Rattle.lower.proofs.Targets.{target_begins}

-- an operation of a lifted list
pub record IsWell (lifted : Lifted) (op : Operation ℕ) : Type 0 where
  pub fits : FitsInstructions op
  pub begins : (t : ℕ) → target_of op ≡ Some t → op_place (segments lifted) (first_segment lifted (block_of lifted.begins t)) ≡ t
  pub is_below : (t : ℕ) → offset_target lifted.needed op ≡ Some t → t < length lifted.places

entry_is_there : (needed : List ℕ) (count k t : ℕ) → ((i t : ℕ) → slice_get needed i ≡ Some t → t < count) → entry needed k ≡ Some t → t < count
entry_is_there needed count zero t second e = absurd cc
entry_is_there needed count (suc k) t second e = second k t e

-- what the offset leads to is an operation
offset_target_below : (needed : List ℕ) (count : ℕ) (op : Operation ℕ) (t : ℕ) → ((t : ℕ) → target_of op ≡ Some t → t < count) → ((i t : ℕ) → slice_get needed i ≡ Some t → t < count) → offset_target needed op ≡ Some t → t < count
offset_target_below needed count (Plain op) t first second e = absurd cc
offset_target_below needed count (Branch cond Zero Zero target) t first second e = by_test (holds (of_cond cond) 0 0) e
  where
    by_test : (b : Bool) → target_if b target ≡ Some t → t < count
    by_test true e = first t e
    by_test false e = absurd cc
offset_target_below needed count (Branch cond Zero (R b) target) t first second e = first t e
offset_target_below needed count (Branch cond (R a) Zero target) t first second e = first t e
offset_target_below needed count (Branch cond (R a) (R b) target) t first second e = first t e
offset_target_below needed count (Jal rd link target) t first second e = first t e
offset_target_below needed count (Jalr rd Zero imm link) t first second e = by_even (nat_eq (word_of imm % 2 ^ 32 % 2) 0) e
  where
    by_even : (b : Bool) → (if b then entry needed (word_of imm % 2 ^ 32 / 2) else None) ≡ Some t → t < count
    by_even true e = entry_is_there needed count (word_of imm % 2 ^ 32 / 2) t second e
    by_even false e = absurd cc
offset_target_below needed count (Jalr rd (R a) imm link) t first second e = absurd cc
offset_target_below needed count (Pair temp rd link target) t first second e = first t e
offset_target_below needed count (HostCall number) t first second e = absurd cc
offset_target_below needed count Sbrk t first second e = absurd cc

lifted_is_well : (given : Given) (lifted : Lifted) → IsLifted given lifted → (q : ℕ) (op : Operation ℕ) → slice_get lifted.ops q ≡ Some op → IsWell lifted op
lifted_is_well given lifted h q op e = record {
  fits = h.ops_fit q op e;
  begins = λ t f. target_begins given lifted h q t op e f;
  is_below = λ t f. offset_target_below lifted.needed (length lifted.places) op t (λ u g. h.targets_exist q u op e g) h.needed_exist f;
}

-- a block of them
pub record IsWellBlock (lifted : Lifted) (ops : List (Operation ℕ)) : Type 0 where
  pub each : AllByRecursion (IsWell lifted) ops
  pub some : 0 < length ops
  pub front : FrontGoesOn ops

well_blocks : (lifted : Lifted) (ws : List (List (Operation ℕ))) → AllByRecursion (IsBlockOf (IsWell lifted)) ws → AllByRecursion FrontGoesOn ws → AllByRecursion (IsWellBlock lifted) ws
well_blocks lifted [] h f = tt
well_blocks lifted (w ∷ ws) h f = (record { each = h.0.0; some = h.0.1; front = f.0 }, well_blocks lifted ws h.1 f.1)

pub blocks_are_well : (given : Given) (lifted : Lifted) → IsLifted given lifted → AllByRecursion (IsWellBlock lifted) (blocks lifted.begins lifted.ops)
blocks_are_well given lifted h = well_blocks lifted (blocks lifted.begins lifted.ops) (blocks_all (IsWell lifted) lifted.begins lifted.ops (all_from_places (IsWell lifted) lifted.ops (lifted_is_well given lifted h))) (fronts_go_on given lifted h)

pub all_fit : (lifted : Lifted) (ops : List (Operation ℕ)) → AllByRecursion (IsWell lifted) ops → AllByRecursion FitsInstructions ops
all_fit lifted [] h = tt
all_fit lifted (op ∷ ops) h = (h.0.fits, all_fit lifted ops h.1)

-- the target of a block is an operation
pub last_is_below : (lifted : Lifted) (ops : List (Operation ℕ)) (t : ℕ) → AllByRecursion (IsWell lifted) ops → last_offset_target lifted.needed ops ≡ Some t → t < length lifted.places
last_is_below lifted [] t h e = absurd cc
last_is_below lifted (op ∷ []) t h e = h.0.is_below t e
last_is_below lifted (op ∷ next ∷ ops) t h e = last_is_below lifted (next ∷ ops) t h.1 e
