-- Which of several faults is reported. Where a call checks its input by many rules and the input breaks several, the
-- answer is the first fault of a stated order. A list states the order: `followed_by` puts the faults of one rule or
-- phase before those of the next, `each_below` takes things that are checked alike, one after another. The list holds
-- all faults that are present; its first is the one that is reported, and the input is valid if the list is empty. This
-- is all that a reader of a contract needs; `First` describes code that finds the first without making the list.
use Rattle.std.specs.Prelude.{ℕ, zero, suc, Bool, cond, List, [], ◌∷◌, ◌++◌, Option, Some, None}

-- a rule's fault, where it is broken
abbrev pub broken : {F : Type 0} → Bool → F → List F
broken is fault = cond is (fault ∷ []) []

-- faults, and after them later ones
infixr 3 ◌followed_by◌
abbrev pub ◌followed_by◌ : {F : Type 0} → List F → List F → List F
a followed_by b = a ++ b

-- the faults at 0, those at 1, and so on below n
unfoldable pub each_below : {F : Type 0} → ℕ → (ℕ → List F) → List F
each_below zero at = []
each_below (suc n) at = each_below n at ++ at n

-- the first of them
abbrev pub first_in : {F : Type 0} → List F → Option F
first_in [] = None
first_in (fault ∷ later) = Some fault
