-- Relocations by offset: searches, and those at one offset.
use Rattle.std.proofs.Common.{◌≡◌, ℕ, zero, suc, ◌+◌, ◌-◌, ◌<◌, ◌≤◌, Bool, true, false, List, [], ◌∷◌, length, take, drop, get_or, nat_cmp, ◌++◌, subst, inl, inr, ◌⊎◌, Option, Some, refl, sym, ap, ◌∙◌, arith}
use Rattle.std.specs.Prelude.{slice_get, cond, if◌then◌else◌, pos, IfSome}
use Rattle.std.specs.List.{filter, find}
use Rattle.std.specs.List.Sorted.{IsNonDecreasingBy, ties}
use Rattle.std.specs.Ordering.{is_lt}
use Rattle.std.proofs.lemmas.Option.{slice_get-get_or, slice_get_within}
use Rattle.std.proofs.lemmas.Bool.{cases_lt}
use Rattle.elf_objects.specs.declared.parts.Relocation.{Relocation}
use Rattle.elf_objects.specs.Objects.{Object}
use Rattle.symbols.specs.Faults.{has_effect}
use Rattle.relocs.specs.declared.found.Found.{Found}
use Rattle.relocs.specs.Pairs.{relocation_is_at}
use Rattle.relocs.specs.Sites.{gives_high, found_of}
use Rattle.relocs.specs.ByOffset.{changes_something, is_at, offset_of, IsBound, IsRow, AreNamed}

some_same : {A : Type 0} {o : Option A} {x y : A} → o ≡ Some x → o ≡ Some y → x ≡ y
some_same e f = cc

rises_at : (row : List Relocation) → IsNonDecreasingBy offset_of row → (k m : ℕ) (r q : Relocation) → k ≤ m → slice_get row k ≡ Some r → slice_get row m ≡ Some q → r.offset ≤ q.offset
rises_at row rises k m r q le e f =
    let in_row = slice_get_within row m q f in
    let a : get_or row k r ≡ r = some_same (slice_get-get_or row k r (omega (arith, le, in_row))) e in
    let b : get_or row m r ≡ q = some_same (slice_get-get_or row m r in_row) f in
    let n = rises k m r le in_row in
    omega (arith, n, ap offset_of a, ap offset_of b)

-- one step of the search
pub low_more :
    (row : List Relocation) (limit middle : ℕ) (m : Relocation) → IsNonDecreasingBy offset_of row → slice_get row middle ≡ Some m → m.offset < limit
    → (k : ℕ) (r : Relocation) → k < middle + 1 → slice_get row k ≡ Some r → r.offset < limit
low_more row limit middle m rises here less k r lt e =
    let n = rises_at row rises k middle r m (omega (arith, lt)) e here in
    omega (arith, n, less)

pub high_less :
    (row : List Relocation) (limit middle : ℕ) (m : Relocation) → IsNonDecreasingBy offset_of row → slice_get row middle ≡ Some m → limit ≤ m.offset
    → (k : ℕ) (r : Relocation) → middle ≤ k → slice_get row k ≡ Some r → limit ≤ r.offset
high_less row limit middle m rises here from k r le e =
    let n = rises_at row rises middle k m r le here e in
    omega (arith, n, from)

-- ---- those at an offset are between two bounds

tail_bound : (x : Relocation) (row : List Relocation) (limit a : ℕ) → IsBound (x ∷ row) limit (suc a) → IsBound row limit a
tail_bound x row limit a b = record {
  within = (let w = b.within in omega (arith, w));
  below = λ k r lt e. b.below (suc k) r (omega (arith, lt)) e;
  above = λ k r le e. b.above (suc k) r (omega (arith, le)) e;
}

tail_bound_zero : (x : Relocation) (row : List Relocation) (limit : ℕ) → IsBound (x ∷ row) limit 0 → IsBound row limit 0
tail_bound_zero x row limit b = record {
  within = omega arith;
  below = λ k r lt e. absurd (omega (arith, lt));
  above = λ k r le e. b.above (suc k) r (omega arith) e;
}

at_same : (f : ℕ) (x : Relocation) → f ≤ x.offset → x.offset < f + 1 → is_at f x ≡ true
at_same f x le lt = grind (arith, le, lt)

at_less : (f : ℕ) (x : Relocation) → x.offset < f → is_at f x ≡ false
at_less f x lt = grind (arith, lt)

at_more : (f : ℕ) (x : Relocation) → f + 1 ≤ x.offset → is_at f x ≡ false
at_more f x le = grind (arith, le)

between : (row : List Relocation) (f a b n : ℕ) → n + a ≡ b → IsBound row f a → IsBound row (f + 1) b → take n (drop a row) ≡ filter (is_at f) row
between [] f zero b zero e from to = refl
between [] f zero b (suc n) e from to = (let w = to.within in absurd (omega (arith, w, e)))
between [] f (suc a) b n e from to = (let w = from.within in absurd (omega (arith, w)))
between (x ∷ row) f zero zero zero e from to =
    let r = between row f 0 0 0 (omega arith) (tail_bound_zero x row f from) (tail_bound_zero x row (f + 1) to) in
    let t = at_more f x (to.above 0 x (omega arith) refl) in
    rw t r
between (x ∷ row) f zero (suc b) zero e from to = absurd (omega (arith, e))
between (x ∷ row) f zero zero (suc n) e from to = absurd (omega (arith, e))
between (x ∷ row) f zero (suc b) (suc n) e from to =
    let r = between row f 0 b n (omega (arith, e)) (tail_bound_zero x row f from) (tail_bound x row (f + 1) b to) in
    let t = at_same f x (from.above 0 x (omega arith) refl) (to.below 0 x (omega arith) refl) in
    rw t (ap (λ l. x ∷ l) r)
between (x ∷ row) f (suc a) zero n e from to = absurd (omega (arith, e))
between (x ∷ row) f (suc a) (suc b) n e from to =
    let r = between row f a b n (omega (arith, e)) (tail_bound x row f a from) (tail_bound x row (f + 1) b to) in
    let t = at_less f x (from.below 0 x (omega arith) refl) in
    rw t r

bounds_rise : (row : List Relocation) (f a b : ℕ) → IsBound row f a → IsBound row (f + 1) b → a ≤ b
bounds_rise [] f a b from to = (let w = from.within in omega (arith, w))
bounds_rise (x ∷ row) f zero b from to = omega arith
bounds_rise (x ∷ row) f (suc a) zero from to =
    let l = from.below 0 x (omega arith) refl in
    let m = to.above 0 x (omega arith) refl in
    absurd (omega (arith, l, m))
bounds_rise (x ∷ row) f (suc a) (suc b) from to = (let r = bounds_rise row f a b (tail_bound x row f a from) (tail_bound x row (f + 1) b to) in omega (arith, r))

pub rise : (row : List Relocation) (f l m a b : ℕ) → l ≡ f → m ≡ f + 1 → IsBound row l a → IsBound row m b → a ≤ b
rise row f l m a b e g from to = bounds_rise row f a b (subst (λ k. IsBound row k a) e from) (subst (λ k. IsBound row k b) g to)

pub part : (row : List Relocation) (f l m a b : ℕ) → l ≡ f → m ≡ f + 1 → IsBound row l a → IsBound row m b → take (b - a) (drop a row) ≡ filter (is_at f) row
part row f l m a b e g from to =
    let le = rise row f l m a b e g from to in
    between row f a b (b - a) (omega (arith, le)) (subst (λ k. IsBound row k a) e from) (subst (λ k. IsBound row k b) g to)

-- ---- rows

filter_same : (s t : Relocation → Bool) → ((r : Relocation) → s r ≡ t r) → (rs : List Relocation) → filter s rs ≡ filter t rs
filter_same s t same [] = refl
filter_same s t same (r ∷ rs) = rw (same r) (by_test (filter_same s t same rs) (t r))
  where
    by_test : filter s rs ≡ filter t rs → (b : Bool) → cond b (r ∷ filter s rs) (filter s rs) ≡ cond b (r ∷ filter t rs) (filter t rs)
    by_test e true = ap (λ l. r ∷ l) e
    by_test e false = e

filter_twice : (f : ℕ) (rs : List Relocation) → filter (is_at f) (filter changes_something rs) ≡ filter (relocation_is_at f) rs
filter_twice f [] = refl
filter_twice f (r ∷ rs) = by_test (has_effect r.kind) refl (is_at f r) refl (filter_twice f rs)
  where
    by_test : (a : Bool) → has_effect r.kind ≡ a → (b : Bool) → is_at f r ≡ b → filter (is_at f) (filter changes_something rs) ≡ filter (relocation_is_at f) rs → filter (is_at f) (filter changes_something (r ∷ rs)) ≡ filter (relocation_is_at f) (r ∷ rs)
    by_test true e true g rest = rw (e, g) (ap (λ l. r ∷ l) rest)
    by_test true e false g rest = rw (e, g) rest
    by_test false e b g rest = rw e rest

abbrev pub by_offset : Relocation → Relocation → Bool
by_offset x y = is_lt (nat_cmp x.offset y.offset)

abbrev pub at_zero : ℕ → Relocation
at_zero f = record { offset = f; kind = 0; symbol = 0; addend = pos 0 }

tie_same : (f : ℕ) (x r : Relocation) → x.offset ≡ f → ties by_offset x r ≡ is_at f r
tie_same f x r e = grind (arith, e)

pub is_row : (table row : List Relocation) → IsNonDecreasingBy offset_of row → ((y : Relocation) → filter (ties by_offset y) row ≡ filter (ties by_offset y) (filter changes_something table)) → IsRow table row
is_row table row rises stable = record {
  rises = rises;
  each = λ f.
      sym (filter_same (ties by_offset (at_zero f)) (is_at f) (λ r. tie_same f (at_zero f) r refl) row) ∙ stable (at_zero f)
      ∙ filter_same (ties by_offset (at_zero f)) (is_at f) (λ r. tie_same f (at_zero f) r refl) (filter changes_something table) ∙ filter_twice f table;
}

-- one relocation more
pub filter_next : (t : Relocation → Bool) (rs : List Relocation) (at : ℕ) (r : Relocation) → slice_get rs at ≡ Some r → filter t (take at rs) ++ (if t r then r ∷ [] else []) ≡ filter t (take (suc at) rs)
filter_next t [] at r e = absurd cc
filter_next t (x ∷ rs) zero r e = (let same : x ≡ r = cc in rw same (by_test (t r)))
  where
    by_test : (b : Bool) → (if b then r ∷ [] else []) ≡ cond b (r ∷ []) []
    by_test true = refl
    by_test false = refl
filter_next t (x ∷ rs) (suc at) r e = by_test (filter_next t rs at r e) (t x)
  where
    by_test : filter t (take at rs) ++ (if t r then r ∷ [] else []) ≡ filter t (take (suc at) rs) → (b : Bool)
        → cond b (x ∷ filter t (take at rs)) (filter t (take at rs)) ++ (if t r then r ∷ [] else []) ≡ cond b (x ∷ filter t (take (suc at) rs)) (filter t (take (suc at) rs))
    by_test e true = ap (λ l. x ∷ l) e
    by_test e false = e

-- ---- rows one after another

last_or_before : {A : Type 0} (xs : List A) (x y : A) (i : ℕ) → slice_get (xs ++ x ∷ []) i ≡ Some y → (slice_get xs i ≡ Some y) ⊎ ((i ≡ length xs) × (x ≡ y))
last_or_before [] x y zero e = inr (refl, cc)
last_or_before [] x y (suc i) e = absurd cc
last_or_before (z ∷ xs) x y zero e = inl e
last_or_before (z ∷ xs) x y (suc i) e =
    elim (last_or_before xs x y i e) [
      | inl before ↦ inl before
      | inr last ↦ inr (omega (arith, last.0), last.1)
    ]

pub each_more : {A : Type 0} (P : ℕ → A → Type 0) (xs ys : List A) (x : A) (n : ℕ) → length xs ≡ n → ((i : ℕ) (y : A) → slice_get xs i ≡ Some y → P i y) → P n x → ys ≡ xs ++ x ∷ [] → (i : ℕ) (y : A) → slice_get ys i ≡ Some y → P i y
each_more P xs ys x n count all more grown i y e =
    elim (last_or_before xs x y i (ap (λ l. slice_get l i) (sym grown) ∙ e)) [
      | inl before ↦ all i y before
      | inr last ↦ subst (P i) last.1 (subst (λ k. P k x) (let f : n ≡ i = omega (arith, count, last.0) in f) more)
    ]

-- ---- relocations that name symbols of an object

abbrev pub NamedBelow : Object → List Relocation → ℕ → Type 0
NamedBelow of table n = (k : ℕ) (r : Relocation) → k < n → slice_get table k ≡ Some r → r.symbol < length of.symbols

pub named_none : (of : Object) (table : List Relocation) → NamedBelow of table 0
named_none of table k r lt e = absurd (omega (arith, lt))

pub named_more : (of : Object) (table : List Relocation) (n : ℕ) (r : Relocation) → NamedBelow of table n → slice_get table n ≡ Some r → r.symbol < length of.symbols → NamedBelow of table (n + 1)
named_more of table n r before e named k q lt f =
    elim (cases_lt k n) [
      | inl less ↦ before k q less f
      | inr not_less ↦
          (let at : k ≡ n = omega (arith, not_less, lt) in let same : r ≡ q = some_same e (ap (slice_get table) (sym at) ∙ f) in subst (λ x. x.symbol < length of.symbols) same named)
    ]

pub named_all : (of : Object) (table : List Relocation) (n : ℕ) → length table ≤ n → NamedBelow of table n → AreNamed of table
named_all of table n all below = record { each = λ i r e. (let w = slice_get_within table i r e in below i r (omega (arith, w, all)) e) }

-- a filtered list has elements of the list alone
pub filter_from : {A : Type 0} (test : A → Bool) (xs : List A) (i : ℕ) (x : A) → slice_get (filter test xs) i ≡ Some x → (k : ℕ) × (slice_get xs k ≡ Some x)
filter_from test [] i x e = absurd cc
filter_from test (y ∷ xs) i x e = by_head (λ k f. filter_from test xs k x f) (test y) i e
  where
    later : (k : ℕ) × (slice_get xs k ≡ Some x) → (k : ℕ) × (slice_get (y ∷ xs) k ≡ Some x)
    later found = (suc found.0, found.1)

    by_head : ((k : ℕ) → slice_get (filter test xs) k ≡ Some x → (m : ℕ) × (slice_get xs m ≡ Some x))
        → (b : Bool) (i : ℕ) → slice_get (cond b (y ∷ filter test xs) (filter test xs)) i ≡ Some x → (k : ℕ) × (slice_get (y ∷ xs) k ≡ Some x)
    by_head rest true zero f = (0, f)
    by_head rest true (suc i) f = later (rest i f)
    by_head rest false i f = later (rest i f)

pub named_part : (of : Object) (test : Relocation → Bool) (table part : List Relocation) → AreNamed of table → part ≡ filter test table → AreNamed of part
named_part of test table part named is = subst (AreNamed of) (sym is) (record { each = λ i r e. (let found = filter_from test table i r e in named.each found.0 r found.1) })

-- what is filtered already stays as it is
pub filter_again : {A : Type 0} (test : A → Bool) (xs : List A) → filter test (filter test xs) ≡ filter test xs
filter_again test [] = refl
filter_again test (x ∷ xs) = by_head (test x) refl (filter_again test xs)
  where
    by_head : (b : Bool) → test x ≡ b → filter test (filter test xs) ≡ filter test xs → filter test (filter test (x ∷ xs)) ≡ filter test (x ∷ xs)
    by_head true e rest = rw (e, e) (ap (λ l. x ∷ l) rest)
    by_head false e rest = rw e rest

found_named : (of : Object) (relocations : List Relocation) → AreNamed of relocations → IfSome (find gives_high relocations) (λ r. r.symbol < length of.symbols)
found_named of [] named = tt
found_named of (r ∷ rs) named = by_test (gives_high r) (found_named of rs (record { each = λ i q e. named.each (suc i) q e }))
  where
    by_test : (b : Bool) → IfSome (find gives_high rs) (λ r. r.symbol < length of.symbols) → IfSome (cond b (Some r) (find gives_high rs)) (λ r. r.symbol < length of.symbols)
    by_test true rest = named.each 0 r refl
    by_test false rest = rest

-- what is found at an offset names a symbol of the object
pub named_high :
    (of : Object) (test : Relocation → Bool) (table : List Relocation) (found : Found) → AreNamed of table → found ≡ found_of (filter test table)
    → IfSome found.high (λ r. r.symbol < length of.symbols)
named_high of test table found named is =
    subst (λ high. IfSome high (λ r. r.symbol < length of.symbols)) (sym (ap (λ f. f.high) is)) (found_named of (filter test table) (named_part of test table (filter test table) named refl))
