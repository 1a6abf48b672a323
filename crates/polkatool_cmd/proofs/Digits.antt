-- Numbers in decimal digits.
use Rattle.std.proofs.Common.{◌≡◌, ℕ, suc, ◌<◌, length, drop, get_or, add-one, drop-cons, ◌+◌, ◌-◌, ◌*◌, ◌^◌, ◌≤◌, List, [], ◌∷◌, true, false, Some, None, refl, ap, ◌∙◌, arith}
use Rattle.std.proofs.lemmas.Bool.Decides.{nat_tests}
use Rattle.std.proofs.lemmas.List.{drop_all}
use Rattle.std.specs.Prelude.{nat_lt}
use Rattle.std.specs.Char.{is_ascii_digit}
use Rattle.polkatool_cmd.specs.Values.{digits_after, below}

-- a digit more
digits_after-digit : (n b : ℕ) (bs : List ℕ) → is_ascii_digit b ≡ true → digits_after n (b ∷ bs) ≡ digits_after (10 * n + (b - 48)) bs
unfolding digits_after
digits_after-digit n b bs digit = rw digit refl

-- another byte
digits_after-other : (n b : ℕ) (bs : List ℕ) → is_ascii_digit b ≡ false → digits_after n (b ∷ bs) ≡ None
unfolding digits_after
digits_after-other n b bs other = rw other refl

digits_after-nil : (n : ℕ) → digits_after n [] ≡ Some n
unfolding digits_after
digits_after-nil n = refl

below-large : (n : ℕ) → 2 ^ 64 ≤ n → below (2 ^ 64) (Some n) ≡ None
below-large n large =
    let test : nat_lt n (2 ^ 64) ≡ false = grind (arith, nat_tests) in
    rw test refl

-- from a number that is too large digits make no smaller one
pub digits_after-large : (n : ℕ) (bs : List ℕ) → 2 ^ 64 ≤ n → below (2 ^ 64) (digits_after n bs) ≡ None
digits_after-large n [] large = ap (below (2 ^ 64)) (digits_after-nil n) ∙ below-large n large
digits_after-large n (b ∷ bs) large =
    elim (is_ascii_digit b) as (λ t. is_ascii_digit b ≡ t → below (2 ^ 64) (digits_after n (b ∷ bs)) ≡ None) [
      | true ↦ λ digit. ap (below (2 ^ 64)) (digits_after-digit n b bs digit) ∙ digits_after-large (10 * n + (b - 48)) bs (omega arith)
      | false ↦ λ other. ap (below (2 ^ 64)) (digits_after-other n b bs other)
    ] refl

-- a digit at a place of a word
pub digits_after-at : (n i : ℕ) (word : List ℕ) → i < length word → is_ascii_digit (get_or word i 0) ≡ true → digits_after n (drop i word) ≡ digits_after (10 * n + (get_or word i 0 - 48)) (drop (i + 1) word)
digits_after-at n i word within digit = rw (add-one, drop-cons word i 0) (digits_after-digit n (get_or word i 0) (drop (suc i) word) digit)

-- another byte there
pub digits_after-other_at : (n i : ℕ) (word : List ℕ) → i < length word → is_ascii_digit (get_or word i 0) ≡ false → digits_after n (drop i word) ≡ None
digits_after-other_at n i word within other = rw (drop-cons word i 0) (digits_after-other n (get_or word i 0) (drop (suc i) word) other)

-- the end of the word
pub digits_after-end : (n i : ℕ) (word : List ℕ) → length word ≤ i → n < 2 ^ 64 → below (2 ^ 64) (digits_after n (drop i word)) ≡ Some n
digits_after-end n i word past small =
    let test : nat_lt n (2 ^ 64) ≡ true = grind (arith, nat_tests) in
    ap (λ rest. below (2 ^ 64) (digits_after n rest)) (drop_all i word past) ∙ ap (below (2 ^ 64)) (digits_after-nil n) ∙ rw test refl
