-- Offsets of the code of a generated object, four bytes apart, and what is chosen of them.
use Rattle.std.proofs.Common.{◌≡◌, ℕ, zero, suc, ◌+◌, ◌*◌, ◌<◌, ◌≤◌, List, [], ◌∷◌, ◌++◌, length, Bool, true, false, Option, Some, None, refl, sym, ap, ◌∙◌, arith}
use Rattle.std.specs.Prelude.{◌||◌}
use Rattle.std.specs.List.{filter, filter_map, cons_option, list_any}
use Rattle.relocs.specs.Places.{CodePlace, Code, offsets_from}
use Rattle.lift_blocks.specs.Listed.{place}

next-offset : (n k : ℕ) → offsets_from 0 1 (4 * k + 4) n ≡ offsets_from 0 1 (4 * suc k) n
next-offset n k = ap (λ offset. offsets_from 0 1 offset n) (omega arith)

pub offsets-first : (n k : ℕ) → offsets_from 0 1 (4 * k) (suc n) ≡ Code 0 1 (4 * k) ∷ offsets_from 0 1 (4 * suc k) n
offsets-first n k = ap (λ places. Code 0 1 (4 * k) ∷ places) (next-offset n k)

pub offsets-last : (n k : ℕ) → offsets_from 0 1 (4 * k) (suc n) ≡ offsets_from 0 1 (4 * k) n ++ Code 0 1 (4 * (k + n)) ∷ []
offsets-last zero k = ap (λ offset. Code 0 1 offset ∷ []) (omega arith)
offsets-last (suc n) k =
    let last : offsets_from 0 1 (4 * suc k) (suc n) ≡ offsets_from 0 1 (4 * suc k) n ++ Code 0 1 (4 * (suc k + n)) ∷ [] = offsets-last n (suc k) in
    let same : 4 * (suc k + n) ≡ 4 * (k + suc n) = omega arith in
    offsets-first (suc n) k
    ∙ ap (λ places. Code 0 1 (4 * k) ∷ places) (last ∙ ap (λ offset. offsets_from 0 1 (4 * suc k) n ++ Code 0 1 offset ∷ []) same)
    ∙ ap (λ places. Code 0 1 (4 * k) ∷ (places ++ Code 0 1 (4 * (k + suc n)) ∷ [])) (sym (next-offset n k))

pub offsets-length : (n offset : ℕ) → length (offsets_from 0 1 offset n) ≡ n
offsets-length zero offset = refl
offsets-length (suc n) offset = ap suc (offsets-length n (offset + 4))

pub place-at : (n k q : ℕ) → q < n → place (offsets_from 0 1 (4 * k) n) q ≡ Code 0 1 (4 * (k + q))
place-at zero k q lt = absurd (omega (arith, lt))
place-at (suc n) k zero lt = ap (Code 0 1) (omega arith)
place-at (suc n) k (suc q) lt =
    ap (λ places. place places q) (next-offset n k) ∙ place-at n (suc k) q (omega (arith, lt)) ∙ ap (Code 0 1) (omega arith)

-- all are chosen
pub all-kept : (test : CodePlace → Bool) (n k : ℕ) → ((at : ℕ) → k ≤ at → at < k + n → test (Code 0 1 (4 * at)) ≡ true) → filter test (offsets_from 0 1 (4 * k) n) ≡ offsets_from 0 1 (4 * k) n
all-kept test zero k h = refl
all-kept test (suc n) k h =
    let first : test (Code 0 1 (4 * k)) ≡ true = h k (omega arith) (omega arith) in
    let rest : filter test (offsets_from 0 1 (4 * suc k) n) ≡ offsets_from 0 1 (4 * suc k) n = all-kept test n (suc k) (λ at from to. h at (omega (arith, from)) (omega (arith, to))) in
    rw (first, next-offset n k, rest) refl

-- none is chosen
pub none-mapped : {X : Type 0} (f : CodePlace → Option X) (n k : ℕ) → ((at : ℕ) → k ≤ at → at < k + n → f (Code 0 1 (4 * at)) ≡ None) → filter_map f (offsets_from 0 1 (4 * k) n) ≡ []
none-mapped f zero k h = refl
none-mapped {X} f (suc n) k h =
    let first : f (Code 0 1 (4 * k)) ≡ None = h k (omega arith) (omega arith) in
    let rest : filter_map f (offsets_from 0 1 (4 * suc k) n) ≡ [] = none-mapped f n (suc k) (λ at from to. h at (omega (arith, from)) (omega (arith, to))) in
    rw (first, next-offset n k, rest) refl

abbrev pub passes : (CodePlace → Bool) → Option CodePlace → Bool
passes test None = false
passes test (Some p) = test p

-- nothing that is made of them passes a test
pub none-passes : (test : CodePlace → Bool) (f : CodePlace → Option CodePlace) (n k : ℕ) → ((at : ℕ) → k ≤ at → at < k + n → passes test (f (Code 0 1 (4 * at))) ≡ false)
    → list_any test (filter_map f (offsets_from 0 1 (4 * k) n)) ≡ false
none-passes test f zero k h = refl
none-passes test f (suc n) k h =
    let rest : list_any test (filter_map f (offsets_from 0 1 (4 * suc k) n)) ≡ false = none-passes test f n (suc k) (λ at from to. h at (omega (arith, from)) (omega (arith, to))) in
    rw (next-offset n k) (by_option (f (Code 0 1 (4 * k))) (h k (omega arith) (omega arith)) rest)
  where
    by_option : (o : Option CodePlace) → passes test o ≡ false → list_any test (filter_map f (offsets_from 0 1 (4 * suc k) n)) ≡ false → list_any test (cons_option o (filter_map f (offsets_from 0 1 (4 * suc k) n))) ≡ false
    by_option None first rest = rest
    by_option (Some p) first rest = rw (first, rest) refl

pub none-in_both : {X : Type 0} (test : X → Bool) (xs ys : List X) → list_any test xs ≡ false → list_any test ys ≡ false → list_any test (xs ++ ys) ≡ false
none-in_both test [] ys f g = g
none-in_both test (x ∷ xs) ys f g = by_test (test x) f (λ e. none-in_both test xs ys e g)
  where
    by_test : (b : Bool) → (b || list_any test xs) ≡ false → (list_any test xs ≡ false → list_any test (xs ++ ys) ≡ false) → (b || list_any test (xs ++ ys)) ≡ false
    by_test true e more = e
    by_test false e more = more e

pub nothing-named : (test : CodePlace → Bool) (places : List CodePlace) → ((p : CodePlace) → test p ≡ false) → filter test places ≡ []
nothing-named test [] h = refl
nothing-named test (p ∷ places) h = rw (h p, nothing-named test places h) refl
