-- The main laws of this crate, with numbers for faults, so that contracts of functions name them. The lemmas in proofs/ say
-- the same of faults of any type: such a claim is too large for a clause, and other crates cite the lemmas.
use Rattle.std.specs.Prelude.{◌≡◌, ℕ, ◌<◌, List, [], Option, Some, None}
use Rattle.faults.specs.First.{◌or_else◌, first_below}
use Rattle.faults.specs.Present.{◌followed_by◌, each_below, first_in}

-- the first of two phases is the first of the earlier one, and where that has none, the first of the later one
abbrev pub FirstOfPhases : Type 0
FirstOfPhases = (earlier later : List ℕ) → first_in (earlier followed_by later) ≡ (first_in earlier or_else first_in later)

-- where a rule finds the first fault at each number, a loop over it finds the first of all
abbrev pub FirstOfEach : Type 0
FirstOfEach = (n : ℕ) (at : ℕ → List ℕ) (rule : ℕ → Option ℕ) → ((i : ℕ) → first_in (at i) ≡ rule i) → first_in (each_below n at) ≡ first_below n rule

-- what a loop finds at i, where it found nothing before, is the first of all
abbrev pub FirstFound : Type 0
FirstFound = (rule : ℕ → Option ℕ) (n i fault : ℕ) → i < n → first_below i rule ≡ None → rule i ≡ Some fault → first_below n rule ≡ Some fault

-- where no fault is present, none is present at any number
abbrev pub NoneAtEach : Type 0
NoneAtEach = (n i : ℕ) (at : ℕ → List ℕ) → each_below n at ≡ [] → i < n → at i ≡ []
