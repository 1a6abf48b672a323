-- The machine that counts through a list, and the one that has the list at its places and fetches by place, are in
-- lockstep: so they run the same.
use Rattle.std.proofs.Common.{◌≡◌, ℕ, ◌+◌, List, Option, Some, None, refl, sym, ap, ◌∙◌, subst}
use Rattle.std.specs.Prelude.{slice_get}
use Rattle.runs.specs.Turn.{Turn, Goes, Stops}
use Rattle.runs.specs.Follow.{SameTurn}
use Rattle.runs.specs.Runs.{run, run_at_most}
use Rattle.runs.specs.Machine.{Outcome, Next, Jump, Call, Ends, At, Rules, placed, move, step, retarget}
use Rattle.runs.specs.Lockstep.{Fetched, step_at, GoesOn, Lockstep, SamePlace}
use Rattle.runs.proofs.SameTurns.{same_run, same_with_gas}

module _ {Instr Placed Place Target Data Event End : Type 0} (rules : Rules Data Event End) (act : Instr → Data → Outcome Target Data End) (act' : Placed → Data → Outcome Place Data End) (code : List Instr) (places : Target → ℕ) (position : ℕ → Place) (fetch : Place → Option (Fetched Placed Place)) (lockstep : Lockstep act act' code places position fetch) where
  abbrev listed : At ℕ Data → Turn (At ℕ Data) Event End
  listed = step rules act code places

  abbrev fetched : At Place Data → Turn (At Place Data) Event End
  fetched = step_at rules act' fetch

  called : (x : ℕ) (next : Place) (t : Turn Data Event End) → next ≡ position x → SameTurn (SamePlace position) (placed x t) (placed next t)
  called x next (Goes events spent rest d) e = (refl, refl, refl, record { at = e; same = refl })
  called x next (Stops events f) e = (refl, refl)

  same_move : (o : Outcome Target Data End) (next : Place) (x : ℕ) → GoesOn next (position x) o → SameTurn (SamePlace position) (move rules places x o) (move rules (λ p. p) next (retarget (λ t. position (places t)) o))
  same_move (Next d) next x e = (refl, refl, refl, record { at = e; same = refl })
  same_move (Jump target d) next x e = (refl, refl, refl, record { at = refl; same = refl })
  same_move (Call number d) next x e = called x next (rules.answer number d) e
  same_move (Ends f) next x e = (refl, refl)

  at_instr : (s : At ℕ Data) (o : Option Instr) → slice_get code s.at ≡ o → SameTurn (SamePlace position) (listed s) (fetched (record { at = position s.at; of = s.of }))
  at_instr s None e = rw (e, lockstep.past s.at e) (refl, refl)
  at_instr s (Some i) e =
      let l = lockstep.at_its_place s.at i e in
      rw (e, l.is, l.same s.of) (same_move (act i s.of) l.next (s.at + 1) (l.goes_on s.of))

  pub same_turns : (s : At ℕ Data) (t : At Place Data) → SamePlace position s t → SameTurn (SamePlace position) (listed s) (fetched t)
  same_turns s t m =
      let e : record { at = position s.at; of = s.of } ≡ t = ap (λ (x : Place). record { at = x; of = s.of }) (sym m.at) ∙ ap (λ (x : Data). record { at = t.at; of = x }) m.same in
      subst (λ x. SameTurn (SamePlace position) (listed s) (fetched x)) e (at_instr s (slice_get code s.at) refl)

  -- from the same place they run the same, step by step and under gas
  pub lockstep_run : (n : ℕ) (s : At ℕ Data) (t : At Place Data) → SamePlace position s t → run listed n s ≡ run fetched n t
  lockstep_run = same_run listed fetched (SamePlace position) same_turns

  pub lockstep_with_gas : (most gas : ℕ) (s : At ℕ Data) (t : At Place Data) → SamePlace position s t → run_at_most listed most gas s ≡ run_at_most fetched most gas t
  lockstep_with_gas = same_with_gas listed fetched (SamePlace position) same_turns
