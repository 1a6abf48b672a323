-- What holds of each element of a list, of each block of it, and of an element that was mapped.
use Rattle.std.proofs.Common.{◌≡◌, ℕ, zero, suc, ◌<◌, Bool, true, false, List, [], ◌∷◌, ◌++◌, length, map, Some, refl, subst, arith}
use Rattle.std.specs.Prelude.{slice_get}
use Rattle.std.specs.List.{AllByRecursion}
use Rattle.relocs.specs.Places.{CodePlace}
use Rattle.lift_blocks.specs.Listed.{place}
use Rattle.runs.specs.Joined.{joined}
use Rattle.runs.specs.Blocks.{begins_first, with_first, blocks}

-- from each index
pub all_from_places : {A : Type 0} (P : A → Type 0) (xs : List A) → ((k : ℕ) (x : A) → slice_get xs k ≡ Some x → P x) → AllByRecursion P xs
all_from_places P [] h = tt
all_from_places P (x ∷ xs) h = (h 0 x refl, all_from_places P xs (λ k y e. h (suc k) y e))

-- at an index
pub all_at : {A : Type 0} (P : A → Type 0) (xs : List A) (k : ℕ) (x : A) → AllByRecursion P xs → slice_get xs k ≡ Some x → P x
all_at P [] k x h e = absurd cc
all_at P (y ∷ xs) zero x h e = let same : y ≡ x = cc in subst P same h.0
all_at P (y ∷ xs) (suc k) x h e = all_at P xs k x h.1 e

-- for the concatenation of two lists
pub all_append : {A : Type 0} (P : A → Type 0) (xs ys : List A) → AllByRecursion P xs → AllByRecursion P ys → AllByRecursion P (xs ++ ys)
all_append P [] ys h g = g
all_append P (x ∷ xs) ys h g = (h.0, all_append P xs ys h.1 g)

pub all_front : {A : Type 0} (P : A → Type 0) (xs ys : List A) → AllByRecursion P (xs ++ ys) → AllByRecursion P xs
all_front P [] ys h = tt
all_front P (x ∷ xs) ys h = (h.0, all_front P xs ys h.1)

pub all_back : {A : Type 0} (P : A → Type 0) (xs ys : List A) → AllByRecursion P (xs ++ ys) → AllByRecursion P ys
all_back P [] ys h = h
all_back P (x ∷ xs) ys h = all_back P xs ys h.1

-- what a mapped element comes from
pub record From {A B : Type 0} (f : A → B) (xs : List A) (k : ℕ) (y : B) : Type 0 where
  pub x : A
  pub there : slice_get xs k ≡ Some x
  pub is : f x ≡ y

-- each mapped element comes from one
pub from_map : {A B : Type 0} (f : A → B) (xs : List A) (k : ℕ) (y : B) → slice_get (map f xs) k ≡ Some y → From f xs k y
from_map f [] k y e = absurd cc
from_map f (x ∷ xs) zero y e = record { x = x; there = refl; is = cc }
from_map f (x ∷ xs) (suc k) y e = let r = from_map f xs k y e in record { x = r.x; there = r.there; is = r.is }

-- a block: it has some, and each has the property
abbrev pub IsBlockOf : {A : Type 0} → (A → Type 0) → List A → Type 0
IsBlockOf P xs = AllByRecursion P xs × (0 < length xs)

-- of one more element
with_first_all : {A : Type 0} (P : A → Type 0) (b : Bool) (x : A) (ws : List (List A)) → P x → AllByRecursion (IsBlockOf P) ws → AllByRecursion (IsBlockOf P) (with_first b x ws)
with_first_all P true x ws p h = (((p, tt), omega arith), h)
with_first_all P false x [] p h = (((p, tt), omega arith), tt)
with_first_all P false x (w ∷ ws) p h = (((p, h.0.0), omega arith), h.1)

-- of each element of the blocks of a list
pub blocks_all : {A : Type 0} (P : A → Type 0) (bs : List Bool) (xs : List A) → AllByRecursion P xs → AllByRecursion (IsBlockOf P) (blocks bs xs)
blocks_all P bs [] h = tt
blocks_all P [] (x ∷ xs) h = tt
blocks_all P (b ∷ bs) (x ∷ xs) h = with_first_all P (begins_first bs) x (blocks bs xs) h.0 (blocks_all P bs xs h.1)

-- what holds of each element of the lists of elements holds of each of their concatenation
pub all_joined : {A B : Type 0} (P : B → Type 0) (f : A → List B) (Q : A → Type 0) (xs : List A) → ((x : A) → Q x → AllByRecursion P (f x)) → AllByRecursion Q xs → AllByRecursion P (joined (map f xs))
all_joined P f Q [] h q = tt
all_joined P f Q (x ∷ xs) h q = all_append P (f x) (joined (map f xs)) (h x q.0) (all_joined P f Q xs h q.1)

-- the place of a number below the count is listed
pub is_listed : (places : List CodePlace) (q : ℕ) → q < length places → slice_get places q ≡ Some (place places q)
is_listed [] q lt = absurd (omega (arith, lt))
is_listed (p ∷ places) zero lt = refl
is_listed (p ∷ places) (suc q) lt = is_listed places q (omega (arith, lt))
