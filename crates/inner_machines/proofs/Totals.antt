-- What machines count together, where one of them is changed.
use Rattle.std.proofs.Common.{◌≡◌, ℕ, zero, suc, ◌+◌, ◌-◌, ◌<◌, ◌≤◌, List, length, Option, None, refl, ap, sym, ◌∙◌, arith, inl, inr}
use Rattle.std.proofs.Math.ListN.{get_or}
use Rattle.std.specs.FinMap as map
use Rattle.std.specs.Ordering.{nat_cmp}
use Rattle.std.proofs.lemmas.Bool.{cases_eq}
use Rattle.inner_machines.specs.Inner.{Inner, Inners, no_inners, counted, total}
use Rattle.inner_machines.specs.Views.{with_slot, inners_of}
use Rattle.inner_machines.proofs.Gaps.{get_here, get_other, seen, none_past}

-- a machine with no number below
pub total_past : (count : Inner → ℕ) (n k : ℕ) (inners : Inners) (slot : Option Inner) → n ≤ k → total count n (with_slot inners k slot) ≡ total count n inners
unfolding total
total_past count zero k inners slot le = refl
total_past count (suc n) k inners slot le =
    let here : map.get (with_slot inners k slot) n ≡ map.get inners n = get_other inners k slot n (omega (arith, le)) in
    rw (here, total_past count n k inners slot (omega arith)) refl

-- another machine in the place of one, or of none
pub total_slot : (count : Inner → ℕ) (n k : ℕ) (inners : Inners) (slot : Option Inner) → k < n → total count n (with_slot inners k slot) + counted count (map.get inners k) ≡ total count n inners + counted count slot
unfolding total
total_slot count zero k inners slot less = absurd (omega arith)
total_slot count (suc n) k inners slot less = elim (cases_eq k n) [
  | inl same ↦
      let here : map.get (with_slot inners k slot) n ≡ slot = ap (map.get (with_slot inners k slot)) (sym same) ∙ get_here inners k slot in
      let was : counted count (map.get inners k) ≡ counted count (map.get inners n) = ap (λ (q : ℕ). counted count (map.get inners q)) same in
      let below : total count n (with_slot inners k slot) ≡ total count n inners = total_past count n k inners slot (omega (arith, same)) in
      rw (here, below, was) (omega arith)
  | inr other ↦
      let here : map.get (with_slot inners k slot) n ≡ map.get inners n = get_other inners k slot n (λ e. other (sym e)) in
      let below = total_slot count n k inners slot (omega (arith, other, less)) in
      rw here (omega (arith, below))
]

pub total_none : (count : Inner → ℕ) (n : ℕ) → total count n no_inners ≡ 0
unfolding total
total_none count zero = refl
total_none count (suc n) =
    let none : map.get no_inners n ≡ None = map.get-empty nat_cmp n in
    rw (none, total_none count n) refl

-- no slots, and one slot more
pub none_counted : (count : Inner → ℕ) (inners : Inners) → total count 0 inners ≡ 0
unfolding total
none_counted count inners = refl

pub one_more_counted : (count : Inner → ℕ) (slots : List (Option Inner)) (at sum : ℕ) (slot : Option Inner) → sum ≡ total count at (inners_of slots) → get_or slots at None ≡ slot → total count (at + 1) (inners_of slots) ≡ sum + counted count slot
unfolding total
one_more_counted count slots at sum slot is here =
    let next : at + 1 ≡ suc at = omega arith in
    let got : map.get (inners_of slots) at ≡ slot = seen slots at ∙ here in
    ap (λ (n : ℕ). total count n (inners_of slots)) next ∙ rw (← is, got) refl

-- there are no machines after the slots
pub all_counted : (count : Inner → ℕ) (more : ℕ) (slots : List (Option Inner)) → total count (length slots + more) (inners_of slots) ≡ total count (length slots) (inners_of slots)
unfolding total
all_counted count zero slots = let same : length slots + 0 ≡ length slots = omega arith in ap (λ (n : ℕ). total count n (inners_of slots)) same
all_counted count (suc more) slots =
    let next : length slots + suc more ≡ suc (length slots + more) = omega arith in
    let none : map.get (inners_of slots) (length slots + more) ≡ None = none_past slots (length slots + more) (omega arith) in
    ap (λ (n : ℕ). total count n (inners_of slots)) next ∙ rw none (omega (arith, all_counted count more slots))

-- so all that there may be are counted in the slots
pub counted_in_all : (count : Inner → ℕ) (n : ℕ) (slots : List (Option Inner)) → length slots ≤ n → total count n (inners_of slots) ≡ total count (length slots) (inners_of slots)
counted_in_all count n slots few =
    let whole : n ≡ length slots + (n - length slots) = omega (arith, few) in
    ap (λ (k : ℕ). total count k (inners_of slots)) whole ∙ all_counted count (n - length slots) slots
