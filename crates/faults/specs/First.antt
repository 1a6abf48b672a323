-- The first fault, computed as code finds it: by rules that answer Some fault if they are broken, asked one after
-- another, in a row or in a loop that counts up, up to the first that answers. Functions that check a part of the input
-- promise these; proofs/Heads shows that the result is the first of all faults that are present.
use Rattle.std.specs.Prelude.{ℕ, zero, suc, Bool, cond, Option, Some, None}
use Rattle.std.specs.Option.{option_or}

-- the left one, and where there is none the right one
infixr 3 ◌or_else◌
abbrev pub ◌or_else◌ : {F : Type 0} → Option F → Option F → Option F
a or_else b = option_or a b

-- a fault where a condition holds
abbrev pub where_true : {F : Type 0} → Bool → F → Option F
where_true b fault = cond b (Some fault) None

-- the first of those at 0, 1, .. below n
abbrev pub first_below : {F : Type 0} → ℕ → (ℕ → Option F) → Option F
first_below zero at = None
first_below (suc n) at = first_below n at or_else at n

-- the least number below n that passes a test
unfoldable pub least_below : ℕ → (ℕ → Bool) → Option ℕ
least_below n test = first_below n (λ i. where_true (test i) i)
