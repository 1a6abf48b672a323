-- Ranges that may be read: none of their addresses is barred. Stores bring no page.
use Rattle.std.proofs.Common.{◌≡◌, ℕ, zero, suc, ◌+◌, ◌<◌, ◌≤◌, ◌^◌, Bool, true, false, List, Option, Some, None, refl, ap, sym, ◌∙◌, arith, inl, inr, slice_index}
use Rattle.std.specs.Prelude.{◌&&◌, not, nat_le, nat_lt, if◌then◌else◌}
use Rattle.std.specs.Option.{is_some}
use Rattle.std.specs.FinMap as map
use Rattle.std.proofs.lemmas.Bool.{cases_lt}
use Rattle.std.proofs.lemmas.Bool.Decides.{nat_tests}
use Rattle.machine_state.specs.Memory.{Mode, Readable, Writable, Page, Memory}
use Rattle.machine_state.specs.Output.{is_readable, all_from, range_readable, output_range}
use Rattle.page_memory.specs.Access.{mode_allows, page_allows}
use Rattle.page_memory.specs.Ranges.{is_barred, IsLeastBarred}

readable_any : (mode : Mode) → mode_allows false mode ≡ true
readable_any Readable = refl
readable_any Writable = refl

allows_is : (o : Option Page) → page_allows false o ≡ is_some o
allows_is None = refl
allows_is (Some page) = readable_any page.mode

-- an address below 2^32 is barred where no page may be read
barred_is : (memory : Memory) (address : ℕ) → address < 2 ^ 32 → is_barred memory false address ≡ not (is_readable memory address)
barred_is memory address below =
    let test : nat_le (2 ^ 32) address ≡ false = grind (arith, nat_tests) in
    rw (test, allows_is (map.get memory _)) refl

not_false : (b : Bool) → not b ≡ false → b ≡ true
not_false true e = refl
not_false false e = cc

not_true : (b : Bool) → not b ≡ true → b ≡ false
not_true true e = cc
not_true false e = refl

and_false : (b : Bool) → (b && false) ≡ false
and_false true = refl
and_false false = refl

-- no address of the range is barred
all_readable : (len at : ℕ) (memory : Memory) → at + len ≤ 2 ^ 32 → ((a : ℕ) → at ≤ a → a < at + len → is_barred memory false a ≡ false) → range_readable memory at len ≡ true
unfolding all_from
all_readable zero at memory end free = refl
all_readable (suc len) at memory end free =
    let here : is_readable memory at ≡ true = not_false _ (sym (barred_is memory at (omega arith)) ∙ free at (omega arith) (omega arith)) in
    rw (here, all_readable len (at + 1) memory (omega arith) (λ a low high. free a (omega arith) (omega arith))) refl

-- one address of the range is barred
one_barred : (len at least : ℕ) (memory : Memory) → at + len ≤ 2 ^ 32 → at ≤ least → least < at + len → is_barred memory false least ≡ true → range_readable memory at len ≡ false
unfolding all_from
one_barred zero at least memory end low high barred = absurd (omega arith)
one_barred (suc len) at least memory end low high barred = elim (cases_lt at least) [
  | inl less ↦ rw (one_barred len (at + 1) least memory (omega arith) (omega arith) (omega arith) barred) (and_false (is_readable memory at))
  | inr not_less ↦
      let same : least ≡ at = omega arith in
      let here : is_readable memory at ≡ false = not_true _ (sym (barred_is memory at (omega arith)) ∙ ap (is_barred memory false) (sym same) ∙ barred) in
      rw here refl
]

module _ (registers : List ℕ) (memory : Memory) (o : Option ℕ) (some : 0 < slice_index registers 8) (end : slice_index registers 7 + slice_index registers 8 ≤ 2 ^ 32) (least : IsLeastBarred memory false (slice_index registers 7) (slice_index registers 8) o) where
  readable_by : (r : Bool) → range_readable memory (slice_index registers 7) (slice_index registers 8) ≡ r → output_range registers memory ≡ (if r then Some (slice_index registers 7, slice_index registers 8) else None)
  readable_by r e =
      let has : nat_lt 0 (slice_index registers 8) ≡ true = grind (arith, nat_tests) in
      let ends : nat_le (slice_index registers 7 + slice_index registers 8) (2 ^ 32) ≡ true = grind (arith, nat_tests) in
      rw (has, ends, e) refl

  none_barred : (o : Option ℕ) → IsLeastBarred memory false (slice_index registers 7) (slice_index registers 8) o → is_some o ≡ false → range_readable memory (slice_index registers 7) (slice_index registers 8) ≡ true
  none_barred None free e = all_readable (slice_index registers 8) (slice_index registers 7) memory end free
  none_barred (Some at) free e = cc

  some_barred : (o : Option ℕ) → IsLeastBarred memory false (slice_index registers 7) (slice_index registers 8) o → is_some o ≡ true → range_readable memory (slice_index registers 7) (slice_index registers 8) ≡ false
  some_barred None free e = cc
  some_barred (Some at) free e = one_barred (slice_index registers 8) (slice_index registers 7) at memory end free.0 free.1 free.2

  -- what is reported of barred addresses says where the output is
  pub output_free : is_some o ≡ false → output_range registers memory ≡ Some (slice_index registers 7, slice_index registers 8)
  output_free e = readable_by true (none_barred o least e)

  pub output_barred : is_some o ≡ true → output_range registers memory ≡ None
  output_barred e = readable_by false (some_barred o least e)

none_of : (o : Option Page) → is_some o ≡ false → o ≡ None
none_of None e = refl
none_of (Some page) e = cc
