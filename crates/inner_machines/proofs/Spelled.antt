-- The ends of a range of a memory.
use Rattle.std.proofs.Common.{◌≡◌, ℕ, ◌+◌, ◌-◌, ◌%◌, ◌^◌, ◌<◌, ◌≤◌, min, false, List, length, take, ap, sym, ◌∙◌, arith, inl, inr}
use Rattle.std.specs.Prelude.{slice_index, None}
use Rattle.std.proofs.lemmas.Bool.{cases_lt}
use Rattle.std.proofs.lemmas.List.{take_all, take_at, get_or-append-add}
use Rattle.machine_state.specs.Memory as model
use Rattle.page_memory.specs.Access.{touched, least_refused}
use Rattle.page_memory.proofs.Parts.{touched-split}
use Rattle.page_memory.proofs.Steps.{length-touched}
use Rattle.inner_machines.proofs.Free.{free_part}
use Rattle.blob_codec.specs.Ends.{most_counts, EndsAre}

first_are : (m : model.Memory) (at len few : ℕ) → at < 2 ^ 32 → few ≡ min len most_counts → touched m at few ≡ take most_counts (touched m at len)
first_are m at len few below is = elim (cases_lt len most_counts) [
  | inl short ↦
      let all : few ≡ len = omega (arith, is, short) in
      ap (touched m at) all ∙ sym (take_all most_counts (touched m at len) (omega (arith, length-touched len at m, short)))
  | inr long ↦
      let first : few ≡ most_counts = omega (arith, is, long) in
      let rest = len - most_counts in
      let whole : len ≡ most_counts + rest = omega (arith, long) in
      ap (touched m at) first
      ∙ sym (take_at (touched m at most_counts) (touched m ((at + most_counts) % 2 ^ 32) rest) most_counts (length-touched most_counts at m))
      ∙ ap (take most_counts) (sym (touched-split most_counts at rest m below))
      ∙ ap (λ (n : ℕ). take most_counts (touched m at n)) (sym whole)
]

last_is : (m : model.Memory) (at len last : ℕ) → at + len ≤ 2 ^ 32 → 0 < len → last ≡ at + (len - 1) → slice_index (touched m at len) (len - 1) ≡ slice_index (touched m last 1) 0
last_is m at len last ends some is =
    let front = touched m at (len - 1) in
    let whole : len ≡ (len - 1) + 1 = omega (arith, some) in
    let there : (at + (len - 1)) % 2 ^ 32 ≡ last = omega (arith, is, ends, some) in
    let at_last : len - 1 ≡ length front + 0 = omega (arith, length-touched (len - 1) at m) in
    (λ i. slice_index (touched m at (whole i)) (at_last i))
    ∙ ap (λ (bytes : List ℕ). slice_index bytes (length front + 0)) (touched-split (len - 1) at 1 m (omega (arith, ends, some)))
    ∙ get_or-append-add front (touched m ((at + (len - 1)) % 2 ^ 32) 1) 0 0
    ∙ ap (λ (n : ℕ). slice_index (touched m n 1) 0) there

-- as many first bytes as are looked at, and the last byte, are the ends of the range
pub ends_are :
    (m : model.Memory) (at len few last byte : ℕ) (first : List ℕ) → at + len ≤ 2 ^ 32 → 0 < len → few ≡ min len most_counts → first ≡ touched m at few → last ≡ at + (len - 1)
    → byte ≡ slice_index (touched m last 1) 0 → EndsAre first len byte (touched m at len)
ends_are m at len few last byte first ends some few_is first_is last_at byte_is = record {
  begins = first_is ∙ first_are m at len few (omega (arith, ends, some)) few_is;
  counted = length-touched len at m;
  ends = λ _. last_is m at len last ends some last_at ∙ sym byte_is;
}

-- a part of a range that may be read may be read
pub part_is_free : (m : model.Memory) (at len i n part : ℕ) → at + len ≤ 2 ^ 32 → least_refused m false at len ≡ None → part ≡ at + i → i + n ≤ len → least_refused m false part n ≡ None
part_is_free m at len i n part ends free is within = rw is (free_part m m false false at len i n ends within (λ q h. h) free)
