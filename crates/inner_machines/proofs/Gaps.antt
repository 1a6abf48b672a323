-- The slots of a list as the machines that contracts see.
use Rattle.std.proofs.Common.{◌≡◌, ◌≢◌, ℕ, zero, suc, ◌+◌, ◌<◌, ◌≤◌, Bool, true, false, List, [], ◌∷◌, ◌++◌, length, Option, Some, None, refl, ap, sym, ◌∙◌, arith, nat_eq, inl, inr, slice_set}
use Rattle.std.specs.Prelude.{if◌then◌else◌}
use Rattle.std.specs.Ordering.{nat_cmp}
use Rattle.std.specs.Cmp.{nat_cmp_total, unsigned_tied}
use Rattle.std.specs.FinMap as map
use Rattle.std.proofs.Math.ListN.{get_or}
use Rattle.std.proofs.lemmas.Option.{slice_get_read, get_or_from_slice_get}
use Rattle.std.proofs.lemmas.List.{get_or-set_same, get_or-set_other, get_or_past, get_or_at}
use Rattle.std.proofs.lemmas.Bool.{cases_eq}
use Rattle.std.proofs.lemmas.Bool.Decides.{nat_tests}
use Rattle.inner_machines.specs.Inner.{Inner, Inners, no_inners}
use Rattle.inner_machines.specs.Views.{with_slot, inners_from, inners_of}

-- the machine at a number
pub get-with_slot : (inners : Inners) (k : ℕ) (slot : Option Inner) (q : ℕ) → map.get (with_slot inners k slot) q ≡ (if nat_eq q k then slot else map.get inners q)
get-with_slot inners k None q = map.get-remove nat_cmp_total inners k q ∙ ap (λ (b : Bool). if b then None else map.get inners q) (unsigned_tied q k)
get-with_slot inners k (Some inner) q = map.get-insert nat_cmp_total inners k inner q ∙ ap (λ (b : Bool). if b then Some inner else map.get inners q) (unsigned_tied q k)

pub same_inners : (m n : Inners) → ((q : ℕ) → map.get m q ≡ map.get n q) → m ≡ n
same_inners m n h = map.same_map nat_cmp_total map.nat_cmp-IsAntisymmetric m n h

pub get_here : (inners : Inners) (k : ℕ) (slot : Option Inner) → map.get (with_slot inners k slot) k ≡ slot
get_here inners k slot = let test : nat_eq k k ≡ true = grind (arith, nat_tests) in get-with_slot inners k slot k ∙ rw test refl

pub get_other : (inners : Inners) (k : ℕ) (slot : Option Inner) (q : ℕ) → q ≢ k → map.get (with_slot inners k slot) q ≡ map.get inners q
get_other inners k slot q other = let test : nat_eq q k ≡ false = grind (arith, nat_tests) in get-with_slot inners k slot q ∙ rw test refl

-- to insert what is there already changes nothing
pub with_same : (inners : Inners) (k : ℕ) (slot : Option Inner) → map.get inners k ≡ slot → with_slot inners k slot ≡ inners
with_same inners k slot is = same_inners _ _ (λ q. elim (cases_eq q k) [
  | inl same ↦ rw same (get_here inners k slot ∙ sym is)
  | inr other ↦ get_other inners k slot q other
])

none_before : (slots : List (Option Inner)) (at q : ℕ) → q < at → map.get (inners_from at slots) q ≡ None
unfolding inners_from
none_before [] at q less = map.get-empty nat_cmp q
none_before (slot ∷ slots) at q less = get_other (inners_from (at + 1) slots) at slot q (omega (arith, less)) ∙ none_before slots (at + 1) q (omega arith)

-- the machine of a slot
seen_from : (slots : List (Option Inner)) (at i q : ℕ) → q ≡ at + i → map.get (inners_from at slots) q ≡ get_or slots i None
unfolding inners_from
seen_from [] at i q is = map.get-empty nat_cmp q ∙ sym (get_or_past [] i None (omega arith))
seen_from (slot ∷ slots) at zero q is = let same : q ≡ at = omega arith in rw same (get_here (inners_from (at + 1) slots) at slot)
seen_from (slot ∷ slots) at (suc i) q is = get_other (inners_from (at + 1) slots) at slot q (omega arith) ∙ seen_from slots (at + 1) i q (omega arith)

pub seen : (slots : List (Option Inner)) (q : ℕ) → map.get (inners_of slots) q ≡ get_or slots q None
seen slots q = seen_from slots 0 q q (omega arith)

-- a slot that is changed
pub changed_slot : (slots : List (Option Inner)) (k : ℕ) (slot : Option Inner) → k < length slots → inners_of (slice_set slots k slot) ≡ with_slot (inners_of slots) k slot
changed_slot slots k slot less = same_inners _ _ (λ q. elim (cases_eq q k) [
  | inl same ↦ rw same (seen (slice_set slots k slot) k ∙ get_or-set_same slots k slot None less ∙ sym (get_here (inners_of slots) k slot))
  | inr other ↦ seen (slice_set slots k slot) q ∙ get_or-set_other slots k q slot None other ∙ sym (seen slots q) ∙ sym (get_other (inners_of slots) k slot q other)
])

pushed_other : (slots : List (Option Inner)) (slot : Option Inner) (q : ℕ) → q ≢ length slots → get_or (slots ++ slot ∷ []) q None ≡ get_or slots q None
pushed_other [] slot zero other = absurd (omega (arith, other))
pushed_other [] slot (suc q) other = get_or_past (slot ∷ []) (suc q) None (omega arith) ∙ sym (get_or_past [] (suc q) None (omega arith))
pushed_other (x ∷ slots) slot zero other = refl
pushed_other (x ∷ slots) slot (suc q) other = pushed_other slots slot q (λ e. other (ap suc e))

-- a slot more
pub one_slot_more : (slots : List (Option Inner)) (slot : Option Inner) → inners_of (slots ++ slot ∷ []) ≡ with_slot (inners_of slots) (length slots) slot
one_slot_more slots slot = same_inners _ _ (λ q. elim (cases_eq q (length slots)) [
  | inl same ↦ rw same (seen (slots ++ slot ∷ []) (length slots) ∙ get_or_at slots slot [] None (length slots) refl ∙ sym (get_here (inners_of slots) (length slots) slot))
  | inr other ↦ seen (slots ++ slot ∷ []) q ∙ pushed_other slots slot q other ∙ sym (seen slots q) ∙ sym (get_other (inners_of slots) (length slots) slot q other)
])

-- no machine has the number of no slot
pub none_past : (slots : List (Option Inner)) (q : ℕ) → length slots ≤ q → map.get (inners_of slots) q ≡ None
none_past slots q past = seen slots q ∙ get_or_past slots q None past

-- no slots are no machines
pub no_slots : (slots : List (Option Inner)) → slots ≡ [] → inners_of slots ≡ no_inners
unfolding inners_from
no_slots slots is = rw is refl

-- a slot that is read
pub read_slot : (slots : List (Option Inner)) (k : ℕ) (slot : Option Inner) → k < length slots → slot ≡ get_or slots k slot → get_or slots k None ≡ slot
read_slot slots k slot less is = get_or_from_slice_get slots k slot None (slice_get_read slots (length slots) k slot refl less is)

-- the machine of a slot that is read
pub read_inner : (slots : List (Option Inner)) (inners : Inners) (k : ℕ) (slot : Option Inner) → inners_of slots ≡ inners → k < length slots → slot ≡ get_or slots k slot → map.get inners k ≡ slot
read_inner slots inners k slot is less read = ap (λ (m : Inners). map.get m k) (sym is) ∙ seen slots k ∙ read_slot slots k slot less read

-- the machines with one slot changed
pub changed_inners : (slots : List (Option Inner)) (inners : Inners) (k : ℕ) (new : Option Inner) → inners_of slots ≡ inners → k < length slots → inners_of (slice_set slots k new) ≡ with_slot inners k new
changed_inners slots inners k new is less = changed_slot slots k new less ∙ ap (λ (m : Inners). with_slot m k new) is

pub same_some : (x y : Inner) → Some x ≡ Some y → x ≡ y
same_some x y e = cc

-- one more machine after the last
pub one_inner_more : (slots new : List (Option Inner)) (inners : Inners) (inner : Inner) → inners_of slots ≡ inners → new ≡ slots ++ Some inner ∷ [] → inners_of new ≡ map.insert inners (length slots) inner
one_inner_more slots new inners inner is new_is = ap inners_of new_is ∙ one_slot_more slots (Some inner) ∙ ap (λ (m : Inners). map.insert m (length slots) inner) is
