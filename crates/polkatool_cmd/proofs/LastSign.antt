-- The last '=' of a value.
use Rattle.std.proofs.Common.{◌≡◌, ℕ, ◌<◌, ◌≤◌, ◌-◌, List, length, take, drop, get_or, true, false, not, ap, arith}
use Rattle.std.proofs.lemmas.List.Sums.{suffix_len_is}
use Rattle.std.specs.List.{suffix_len, before_last, after_last}
use Rattle.polkatool_cmd.specs.LinkWords.{is_equals_sign}

-- there is no '=' at an index or after it
abbrev pub NoneFrom : ℕ → List ℕ → Type 0
NoneFrom end value = (k : ℕ) → end ≤ k → k < length value → is_equals_sign (get_or value k 0) ≡ false

-- the part after the last '=' before `end`, if there is one
past_last :
    (end : ℕ) (value : List ℕ) → end ≤ length value → NoneFrom end value
    → (0 < end → is_equals_sign (get_or value (end - 1) 0) ≡ true)
    → length value - suffix_len (λ b. not (is_equals_sign b)) value ≡ end
past_last end value within other sign =
    let found = suffix_len_is (λ b. not (is_equals_sign b)) value end 0 within (λ k from below. ap not (other k from below)) (λ some. ap not (sign some)) in
    omega (arith, found)

pub before_last-sign :
    (end : ℕ) (value : List ℕ) → end ≤ length value → NoneFrom end value
    → (0 < end → is_equals_sign (get_or value (end - 1) 0) ≡ true)
    → before_last is_equals_sign value ≡ take (end - 1) value
before_last-sign end value within other sign = ap (λ n. take (n - 1) value) (past_last end value within other sign)

pub after_last-sign :
    (end : ℕ) (value : List ℕ) → end ≤ length value → NoneFrom end value
    → (0 < end → is_equals_sign (get_or value (end - 1) 0) ≡ true)
    → after_last is_equals_sign value ≡ drop end value
after_last-sign end value within other sign = ap (λ n. drop n value) (past_last end value within other sign)
