-- What is at the offsets of the code of a generated object: the operations of its text, the trap at its end, and no
-- relocation, so no pair.
use Rattle.std.proofs.Common.{◌≡◌, ℕ, zero, suc, ◌+◌, ◌-◌, ◌*◌, ◌%◌, ◌<◌, ◌≤◌, [], length, true, false, Option, Some, None, refl, ap, arith}
use Rattle.std.specs.Prelude.{nat_le, nat_eq, Result, Ok, slice_get}
use Rattle.std.proofs.lemmas.Bool.{le-leb, eq-eqb, ne_eqb, and_right}
use Rattle.std.proofs.lemmas.Option.{slice_get_within}
use Rattle.rv_decode.specs.declared.ops.RvOp.{RvOp}
use Rattle.rv_decode.specs.declared.ops.RvOp.TheVariants.{Trap}
use Rattle.rv_decode.specs.declared.ops.WordFault.{WordFault}
use Rattle.relocs.specs.Places.{Code, code_at}
use Rattle.relocs.specs.Words.{word_or_trap, word_of_place}
use Rattle.relocs.specs.Pairs.{relocations_at, can_call, is_pair_at, is_second}
use Rattle.generated.specs.Words.{next}
use Rattle.generated.specs.Objects.{text}
use Rattle.generated.proofs.Lengths.{text_length}
use Rattle.generated_runs.specs.Inputs.{given_of}
use Rattle.generated_runs.specs.Operations.{operations}
use Rattle.generated_runs.specs.Laws.{TextsAreOperations}

pub operations-length : (seed count : ℕ) → length (operations seed count) ≡ suc count
unfolding operations
operations-length seed zero = refl
operations-length seed (suc count) = ap suc (operations-length (next seed) count)

module _ (seed count stack : ℕ) where
  pub code-is : code_at (given_of seed count stack) 0 1 ≡ Some (text seed count)
  code-is = refl

  pub no-relocations : (offset : ℕ) → relocations_at (given_of seed count stack) 0 1 offset ≡ []
  no-relocations offset = refl

  pub no-pair : (offset : ℕ) → is_pair_at (given_of seed count stack) 0 1 offset ≡ false
  unfolding is_pair_at
  no-pair offset = and_right (can_call (given_of seed count stack) 0 1 offset) false refl

  pub no-second : (offset : ℕ) → is_second (given_of seed count stack) (Code 0 1 offset) ≡ false
  no-second offset = rw (no-pair (offset - 4)) (and_right (nat_le 4 offset) false refl)

  -- the operation of a word
  pub word-there : TextsAreOperations → (at : ℕ) (op : RvOp) → slice_get (operations seed count) at ≡ Some op
      → ◌≡◌ {A = Option (Result RvOp WordFault)} (word_of_place (given_of seed count stack) (Code 0 1 (4 * at))) (Some (Ok op))
  unfolding word_or_trap
  word-there words at op is =
      let below : at < length (operations seed count) = slice_get_within (operations seed count) at op is in
      let few : at ≤ count = omega (arith, below, operations-length seed count) in
      let multiple : nat_eq (4 * at % 4) 0 ≡ true = eq-eqb (4 * at % 4) 0 (omega arith) in
      let within : nat_le (4 * at) (length (text seed count)) ≡ true = le-leb (4 * at) (length (text seed count)) (omega (arith, few, text_length seed count)) in
      let before : nat_eq (4 * at) (length (text seed count)) ≡ false = ne_eqb (4 * at) (length (text seed count)) (λ e. omega (arith, few, text_length seed count, e)) in
      let room : nat_le (4 * at + 4) (length (text seed count)) ≡ true = le-leb (4 * at + 4) (length (text seed count)) (omega (arith, few, text_length seed count)) in
      rw (multiple, within, before, room) (ap (λ (r : Result RvOp WordFault). Some r) (words seed count at op is))

  -- a trap at the end
  pub word-at_end : (offset : ℕ) → offset ≡ 4 * suc count
      → ◌≡◌ {A = Option (Result RvOp WordFault)} (word_of_place (given_of seed count stack) (Code 0 1 offset)) (Some (Ok Trap))
  unfolding word_or_trap
  word-at_end offset is =
      let multiple : nat_eq (offset % 4) 0 ≡ true = eq-eqb (offset % 4) 0 (omega (arith, is)) in
      let within : nat_le offset (length (text seed count)) ≡ true = le-leb offset (length (text seed count)) (omega (arith, is, text_length seed count)) in
      let end : nat_eq offset (length (text seed count)) ≡ true = eq-eqb offset (length (text seed count)) (omega (arith, is, text_length seed count)) in
      rw (multiple, within, end) refl

  -- and nothing in between
  pub no-word : (offset : ℕ) → (offset % 4 ≡ 0 → ⊥) → ◌≡◌ {A = Option (Result RvOp WordFault)} (word_of_place (given_of seed count stack) (Code 0 1 offset)) None
  no-word offset not_multiple = rw (ne_eqb (offset % 4) 0 not_multiple) refl
