-- Machines that fetch by place: the objects by their code places, the PVM by positions in its code. Such a machine has
-- a list of operations or instructions at its places if each of the list has a place of its own, does the same there,
-- and is followed by the next of the list. Then the machine that counts through the list and the one that fetches by
-- place run in lockstep. This is used twice: for the objects and the operations listed from them, and for the
-- instructions and the code that they are written into.
use Rattle.std.specs.Prelude.{◌≡◌, ℕ, ◌+◌, List, [], Option, Some, None, slice_get}
use Rattle.runs.specs.Turn.{Turn, Stops}
use Rattle.runs.specs.Machine.{Outcome, Next, Jump, Call, Ends, At, Rules, move, retarget}

-- what is at a place, and the next place
pub record Fetched (Instr Place : Type 0) : Type 0 where
  pub instr : Instr
  pub next : Place

-- the turn of what was fetched, whose targets are places; a panic if there was nothing
abbrev pub act_on : {Instr Place Data Event End : Type 0} → Rules Data Event End → (Instr → Data → Outcome Place Data End) → Option (Fetched Instr Place) → Data → Turn (At Place Data) Event End
act_on rules act None d = Stops [] (rules.panic d)
act_on rules act (Some f) d = move rules (λ p. p) f.next (act f.instr d)

-- a machine that fetches by place, and panics where nothing is
abbrev pub step_at : {Instr Place Data Event End : Type 0} → Rules Data Event End → (Instr → Data → Outcome Place Data End) → (Place → Option (Fetched Instr Place)) → At Place Data → Turn (At Place Data) Event End
step_at rules act fetch s = act_on rules act (fetch s.at) s.of

-- an outcome that goes on to the next, or calls and returns there, goes on to this next place
abbrev pub GoesOn : {Place Target Data End : Type 0} → Place → Place → Outcome Target Data End → Type 0
GoesOn next after (Next d) = next ≡ after
GoesOn next after (Jump target d) = Unit {0}
GoesOn next after (Call number d) = next ≡ after
GoesOn next after (Ends f) = Unit {0}

-- The q-th of a list, i, is at its place `position q` in the form `instr`: that does the same, with the place of each
-- target for the target, and where it goes on, it goes on to the place of the next of the list.
pub record LockstepAt {Instr Placed Place Target Data End : Type 0} (act : Instr → Data → Outcome Target Data End) (act' : Placed → Data → Outcome Place Data End) (places : Target → ℕ) (position : ℕ → Place) (fetch : Place → Option (Fetched Placed Place)) (q : ℕ) (i : Instr) : Type 0 where
  pub instr : Placed
  pub next : Place
  pub is : fetch (position q) ≡ Some (record { instr = instr; next = next })
  pub same : (d : Data) → act' instr d ≡ retarget (λ t. position (places t)) (act i d)
  pub goes_on : (d : Data) → GoesOn next (position (q + 1)) (act i d)

-- each of the list is at its place, and nothing is after the last
pub record Lockstep {Instr Placed Place Target Data End : Type 0} (act : Instr → Data → Outcome Target Data End) (act' : Placed → Data → Outcome Place Data End) (code : List Instr) (places : Target → ℕ) (position : ℕ → Place) (fetch : Place → Option (Fetched Placed Place)) : Type 0 where
  pub at_its_place : (q : ℕ) (i : Instr) → slice_get code q ≡ Some i → LockstepAt act act' places position fetch q i
  pub past : (q : ℕ) → slice_get code q ≡ None → fetch (position q) ≡ None

-- both machines are at the same element of the list, with the same data
pub record SamePlace {Place Data : Type 0} (position : ℕ → Place) (s : At ℕ Data) (t : At Place Data) : Type 0 where
  pub at : t.at ≡ position s.at
  pub same : s.of ≡ t.of
