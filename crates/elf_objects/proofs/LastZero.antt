-- The part of a string table up to its last 00.
use Rattle.std.proofs.Common.{◌≡◌, ◌==◌, ◌<◌, ◌≤◌, ◌+◌, ◌-◌, nat_lt, Bool, true, false, refl, arith, ℕ, zero, suc, List, [], ◌∷◌, length, drop, get_or, drop-cons, length-drop}
use Rattle.std.proofs.lemmas.Bool.{ltb-true}
use Rattle.std.proofs.lemmas.Bool.Decides.{nat_tests}
use Rattle.std.proofs.lemmas.List.{get_or-drop}
use Rattle.std.proofs.lemmas.List.Folds.{list_any_at}
use Rattle.elf_objects.specs.Contents.{EndsNames, has_name}

bool_cases : (b : Bool) (P : Type 0) → (b ≡ true → P) → (b ≡ false → P) → P
bool_cases true P so otherwise = so refl
bool_cases false P so otherwise = otherwise refl

pub no_name-past : (xs : List ℕ) (at : ℕ) → length xs ≤ at → has_name xs at ≡ false
unfolding has_name
no_name-past [] zero h = refl
no_name-past [] (suc at) h = refl
no_name-past (x ∷ xs) zero h = absurd (omega arith)
no_name-past (x ∷ xs) (suc at) h = no_name-past xs at (omega arith)

pub no_name-back : (xs : List ℕ) (end : ℕ) → 0 < end → end ≤ length xs → (get_or xs (end - 1) 0 ≡ 0 → ⊥) → ((at : ℕ) → end ≤ at → has_name xs at ≡ false) → (at : ℕ) → end - 1 ≤ at → has_name xs at ≡ false
unfolding has_name
no_name-back xs end pos le other rest at h =
    let now : (at ≡ end - 1) → has_name xs at ≡ false =
    λ e. let here : (get_or xs at 0 == 0) ≡ false = rw e (grind (arith, nat_tests)) in
    let lt : at < length xs = omega arith in
    let after : has_name xs (suc at) ≡ false = rest (suc at) (omega arith) in
    rw (drop-cons xs at 0, here) after in
    let split : nat_lt at end ≡ true → has_name xs at ≡ false = λ t. let lt : at < end = ltb-true at end t in now (omega arith) in
    grind (arith, nat_tests, split, rest at)

pub name_before : (xs : List ℕ) (end at : ℕ) → at < end → end ≤ length xs → get_or xs (end - 1) 0 ≡ 0 → has_name xs at ≡ true
unfolding has_name
name_before xs end at lt le z =
    let same : at + (end - 1 - at) ≡ end - 1 = omega arith in
    let here : (get_or (drop at xs) (end - 1 - at) 0 == 0) ≡ true = rw (get_or-drop at xs (end - 1 - at) 0, same, z) refl in
    let inside : end - 1 - at < length (drop at xs) = omega (arith, length-drop at xs) in
    list_any_at (λ x. x == 0) (drop at xs) (end - 1 - at) 0 inside here

pub ends_here : (xs : List ℕ) (end : ℕ) → end ≤ length xs → ((at : ℕ) → end ≤ at → has_name xs at ≡ false) → (0 < end → get_or xs (end - 1) 0 ≡ 0) → EndsNames xs end
ends_here xs end le rest last =
    let each : (at : ℕ) → has_name xs at ≡ nat_lt at end =
    λ at. let inside : nat_lt at end ≡ true → has_name xs at ≡ nat_lt at end =
    λ t. let lt : at < end = ltb-true at end t in rw (t, name_before xs end at lt le (last (omega arith))) refl in
    let past : nat_lt at end ≡ false → has_name xs at ≡ nat_lt at end =
    λ t. let ge : end ≤ at = grind (arith, nat_tests) in rw (t, rest at ge) refl in
    bool_cases (nat_lt at end) (has_name xs at ≡ nat_lt at end) inside past in
    record { within = le; last = each }
