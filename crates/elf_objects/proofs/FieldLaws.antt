-- Numbers of a file, as they are read, are the numbers that their bytes spell.
use Rattle.std.proofs.Common.{◌≡◌, ℕ, zero, suc, List, [], ◌∷◌, refl, take}
use Rattle.byteorder.specs.Endian.{little_from, little_number}
use Rattle.numbers.specs.Bytes.{number_of}

little_from-nil : (i n : ℕ) → little_from i n [] ≡ 0
little_from-nil i zero = refl
little_from-nil i (suc n) = rw (little_from-nil (suc i) n) refl

little_from-cons : (i n x : ℕ) (xs : List ℕ) → little_from (suc i) n (x ∷ xs) ≡ little_from i n xs
little_from-cons i zero x xs = refl
little_from-cons i (suc n) x xs = rw (little_from-cons (suc i) n x xs) refl

pub little_number-take : (n : ℕ) (xs : List ℕ) → little_number n xs ≡ number_of (take n xs)
little_number-take zero xs = refl
little_number-take (suc n) [] = rw (little_from-nil 1 n) refl
little_number-take (suc n) (x ∷ xs) = rw (little_from-cons 0 n x xs, little_number-take n xs) refl

pub spelled_16 : (xs : List ℕ) → little_number 2 xs ≡ number_of (take 2 xs)
spelled_16 xs = little_number-take 2 xs

pub spelled_32 : (xs : List ℕ) → little_number 4 xs ≡ number_of (take 4 xs)
spelled_32 xs = little_number-take 4 xs

pub spelled_64 : (xs : List ℕ) → little_number 8 xs ≡ number_of (take 8 xs)
spelled_64 xs = little_number-take 8 xs

pub ruleset fields = (spelled_16, spelled_32, spelled_64)
