-- The names of opcodes are short.
use Rattle.std.proofs.Common.{◌≡◌, ℕ, zero, suc, ◌-◌, ◌≤◌, List, [], ◌∷◌, length, Bool, true, false, ◌&&◌, refl, arith}
use Rattle.std.proofs.lemmas.Bool.Decides.{nat_tests}
use Rattle.std.specs.Prelude.{nat_le, if◌then◌else◌}
use Rattle.pvm_ops.specs.Opcodes.{Range, table, is_in, name_at, name_in, name_of}

is_short : List ℕ → Bool
is_short name = nat_le (length name) 32

are_short : List (List ℕ) → Bool
are_short [] = true
are_short (name ∷ names) = is_short name && are_short names

has_short : List Range → Bool
has_short [] = true
has_short (r ∷ rs) = are_short r.names && has_short rs

and-left : (a b : Bool) → (a && b) ≡ true → a ≡ true
and-left true b e = refl
and-left false b e = cc

and-right : (a b : Bool) → (a && b) ≡ true → b ≡ true
and-right true b e = e
and-right false b e = cc

name_at-short : (names : List (List ℕ)) (n : ℕ) → are_short names ≡ true → length (name_at names n) ≤ 32
unfolding are_short is_short
name_at-short [] n e = omega arith
name_at-short (x ∷ xs) zero e = let here : nat_le (length x) 32 ≡ true = and-left _ _ e in grind (arith, nat_tests)
name_at-short (x ∷ xs) (suc n) e = name_at-short xs n (and-right _ _ e)

name_in-short : (rs : List Range) (op : ℕ) → has_short rs ≡ true → length (name_in rs op) ≤ 32
unfolding has_short
name_in-short [] op e = omega arith
name_in-short (r ∷ rs) op e =
    elim (is_in r op) as (λ b. length (if b then name_at r.names (op - r.first) else name_in rs op) ≤ 32) [
      | true ↦ name_at-short r.names (op - r.first) (and-left _ _ e)
      | false ↦ name_in-short rs op (and-right _ _ e)
    ]

pub names_are_short : (op : ℕ) → length (name_of op) ≤ 32
unfolding name_of has_short are_short is_short
names_are_short op = name_in-short table op refl
