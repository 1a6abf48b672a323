-- The first fault at an offset is the one with the least code.
use Rattle.std.proofs.Common.{◌≡◌, ℕ, zero, suc, ◌<◌, min, Bool, true, false, eqb, List, [], ◌∷◌, Option, Some, None, refl, ◌∙◌, subst, arith}
use Rattle.std.specs.Prelude.{nat_eq, ◌||◌}
use Rattle.std.specs.List.{list_any}
use Rattle.std.specs.Option.{option_map}
use Rattle.faults.specs.First.{where_true, first_below}
use Rattle.faults.specs.Present.{broken, each_below, first_in}
use Rattle.faults.proofs.Heads.{first_in-each, first_in-broken}
use Rattle.faults.proofs.Firsts.{first_below-found}
use Rattle.relocs.specs.CodeFaults.{code_limit, fault_at, faults_with}
use Rattle.relocs.specs.Operands.{lesser, least}
use Rattle.relocs.proofs.Named.{eqb_self}

-- a code is among these, and none below it
record IsLeast (codes : List ℕ) (m : ℕ) : Type 0 where
  among : list_any (nat_eq m) codes ≡ true
  none_below : (c : ℕ) → c < m → list_any (nat_eq c) codes ≡ false

least_none : (codes : List ℕ) → least codes ≡ None → codes ≡ []
least_none [] e = refl
least_none (x ∷ codes) e = absurd (by (least codes) e)
  where
    by : (o : Option ℕ) → lesser (Some x) o ≡ None → ⊥
    by None e = absurd cc
    by (Some k) e = absurd cc

other_code : (c x : ℕ) → c < x → eqb c x ≡ false
other_code c x lt = grind (arith, lt)

is_least : (codes : List ℕ) (m : ℕ) → least codes ≡ Some m → IsLeast codes m
is_least [] m e = absurd cc
is_least (x ∷ codes) m e = by (least codes) refl (λ k f. is_least codes k f) e
  where
    by : (o : Option ℕ) → least codes ≡ o → ((k : ℕ) → least codes ≡ Some k → IsLeast codes k) → lesser (Some x) o ≡ Some m → IsLeast (x ∷ codes) m
    by None n rest e =
        let same : x ≡ m = cc in
        let empty : codes ≡ [] = least_none codes n in
        record {
          among = rw (← same, eqb_self x) refl;
          none_below = λ c lt. (let below : c < x = omega (arith, lt, same) in rw (other_code c x below, empty) refl);
        }
    by (Some k) n rest e =
        let r = rest k n in
        let m_is : min x k ≡ m = cc in
        record {
          among = first_or_rest (eqb m x) refl k r m_is;
          none_below = λ c lt. (let below : c < x = omega (arith, lt, m_is) in let rest_below : c < k = omega (arith, lt, m_is) in rw (other_code c x below, r.none_below c rest_below) refl);
        }
      where
        first_or_rest : (b : Bool) → eqb m x ≡ b → (k : ℕ) → IsLeast codes k → min x k ≡ m → (eqb m x || list_any (nat_eq m) codes) ≡ true
        first_or_rest true f k r g = rw f refl
        first_or_rest false f k r g = (let same : k ≡ m = grind (arith, f, g) in rw f (subst (λ c. list_any (nat_eq c) codes ≡ true) same r.among))

first_none : {F : Type 0} (codes : List ℕ) (f : ℕ → F) (n : ℕ) → ((c : ℕ) → c < n → list_any (nat_eq c) codes ≡ false) → first_below n (λ c. where_true (list_any (nat_eq c) codes) (f c)) ≡ None
first_none codes f zero none = refl
first_none codes f (suc n) none = rw (first_none codes f n (λ c lt. none c (omega (arith, lt))), none n (omega arith)) refl

least_first : {F : Type 0} (codes : List ℕ) (f : ℕ → F) (n : ℕ) → ((c : ℕ) → list_any (nat_eq c) codes ≡ true → c < n)
    → first_in (each_below n (λ c. broken (list_any (nat_eq c) codes) (f c))) ≡ option_map f (least codes)
least_first codes f n within =
    first_in-each n (λ c. broken (list_any (nat_eq c) codes) (f c)) (λ c. where_true (list_any (nat_eq c) codes) (f c)) (λ c. first_in-broken (list_any (nat_eq c) codes) (f c))
    ∙ by (least codes) refl
  where
    by : (o : Option ℕ) → least codes ≡ o → first_below n (λ c. where_true (list_any (nat_eq c) codes) (f c)) ≡ option_map f (least codes)
    by None e = (let empty : codes ≡ [] = least_none codes e in rw e (first_none codes f n (λ c lt. rw empty refl)))
    by (Some m) e =
        let r = is_least codes m e in
        rw e (first_below-found (λ c. where_true (list_any (nat_eq c) codes) (f c)) n m (f m) (within m r.among) (first_none codes f m r.none_below) (rw r.among refl))

-- the first fault at an offset has the least code
pub first_least : (codes : List ℕ) (o s offset : ℕ) → ((c : ℕ) → list_any (nat_eq c) codes ≡ true → c < code_limit) → first_in (faults_with codes o s offset) ≡ option_map (fault_at o s offset) (least codes)
first_least codes o s offset within = least_first codes (fault_at o s offset) code_limit within
