-- A call is answered: by the inner machines, or by the next reply.
use Rattle.std.proofs.Common.{◌≡◌, ℕ, zero, suc, ◌+◌, ◌-◌, ◌<◌, ◌≤◌, Bool, true, false, List, [], ◌∷◌, length, drop, slice_get, Option, Some, None, Ok, Err, refl, ap, sym, ◌∙◌, subst, arith}
use Rattle.std.specs.Prelude.{nat_le, if◌then◌else◌}
use Rattle.std.proofs.lemmas.Bool.Decides.{nat_tests}
use Rattle.runs.specs.World.{World}
use Rattle.machine_state.specs.State.{State}
use Rattle.machine_state.specs.Ends.{End, Answer, Answered, Ended, Panic, Unanswered, BadReply, panic}
use Rattle.pvm_machine.specs.Machine.{Machine}
use Rattle.inner_machines.specs.Inner.{Inners}
use Rattle.inner_machines.specs.Calls.{is_nest_call, nest_call}
use Rattle.inner_machines.specs.Served.{Left, stayed, under_gas, left_by, Leaves, MayRunOut}
use Rattle.inner_machines.specs.CallRules.{IsOrPanics, CallsPanic}
use Rattle.inner_machines.specs.declared.answer.Served.{Served}
use Rattle.inner_machines.specs.declared.answer.Served.TheVariants as served
use Rattle.transcript.specs.Hosts.{Reply, HostState, replied, by_replies, reply_or, by_nest, answering, left_of, IsReplied, IsRepliedBy}
use Rattle.transcript.specs.Ends.{end_of, HasAddress}
use Rattle.transcript.specs.WritingRuns.{IsAnswered, EndsRun, IsEndedBy, IsReaction, RepliesTo, AnswersCall}
use Rattle.transcript.specs.declared.run_end.RunEnd.TheVariants as run_end
use Rattle.transcript.specs.declared.calls.Reaction.{Reaction}
use Rattle.transcript.specs.declared.writing_runs.WriteRunFault.TheVariants.{Memory as memory}
use Rattle.transcript.specs.declared.calls.Reaction.TheVariants.{GoesOn, Ends}

-- the reply at a place, and those from there on
place : (replies : List Reply) (n : ℕ) → n < length replies → (r : Reply) × (slice_get replies n ≡ Some r) × (drop n replies ≡ r ∷ drop (n + 1) replies)
place [] n less = absurd (omega arith)
place (r ∷ rs) zero less = (r, refl, refl)
place (r ∷ rs) (suc n) less = let e : suc n + 1 ≡ suc (n + 1) = omega arith in rw e (place rs n (omega arith))

none_left : (replies : List Reply) (n : ℕ) → n ≡ length replies → drop n replies ≡ []
none_left [] zero all = refl
none_left [] (suc n) all = absurd (omega arith)
none_left (r ∷ rs) zero all = absurd (omega arith)
none_left (r ∷ rs) (suc n) all = none_left rs n (omega arith)

module _ (number : ℕ) (replies : List Reply) (given : ℕ) (m : Machine) where
  abbrev world : Inners → World State HostState
  world inners = record { state = m.state; held = left_of replies given inners }

  -- no reply is left
  pub unanswered : given ≡ length replies → RepliesTo number replies given m (Ends (run_end.Unanswered number)) m
  unanswered all inners =
      let IsEnd : List Reply → Type 0 = λ rs. EndsRun (by_replies rs number (world inners)) m.gas (Some (Unanswered number m.state.memory)) in
      record { ended = subst IsEnd (sym (none_left replies given all)) refl; left = refl; address = tt }

  -- the reply writes where it may not
  pub bad_reply : (after : Machine) (address line : ℕ) → given < length replies → line ≡ given + 1 → IsRepliedBy (slice_get replies given) m after (Err address)
      → RepliesTo number replies given m (Ends (run_end.BadReply line address)) after
  bad_reply after address line less line_is by inners =
      let at = place replies given less in
      let IsBy : Option Reply → Type 0 = λ o. IsRepliedBy o m after (Err address) in
      let bad : IsReplied at.0 m after (Err address) = subst IsBy at.1 by in
      let left : HostState = record { replies = drop (given + 1) replies; given = given + 1; inner = inners } in
      let asked : by_replies (drop given replies) number (world inners) ≡ Ended (BadReply (given + 1) address m.state.memory) =
      ap (λ rs. by_replies rs number (world inners)) at.2 ∙ ap (λ o. reply_or o at.0 left m.state) bad.0 in
      let same : Some (BadReply line address after.state.memory) ≡ Some (BadReply (given + 1) address m.state.memory) =
      ap (λ (n : Machine). Some (BadReply line address n.state.memory)) bad.1 ∙ ap (λ l. Some (BadReply l address m.state.memory)) line_is in
      let IsEnd : Answer HostState → Type 0 = λ a. EndsRun a m.gas (Some (BadReply line address after.state.memory)) in
      record { ended = subst IsEnd (sym asked) same; left = ap (λ (n : Machine). n.gas) bad.1; address = bad.2 }

  -- the reply is given
  pub goes_on : (after : Machine) (line : ℕ) → given < length replies → line ≡ given + 1 → IsRepliedBy (slice_get replies given) m after (Ok tt)
      → RepliesTo number replies given m (GoesOn line) after
  goes_on after line less line_is by inners =
      let at = place replies given less in
      let IsBy : Option Reply → Type 0 = λ o. IsRepliedBy o m after (Ok tt) in
      let done : IsReplied at.0 m after (Ok tt) = subst IsBy at.1 by in
      let left : HostState = record { replies = drop (given + 1) replies; given = given + 1; inner = inners } in
      let next : State = replied at.0 m.state in
      let none : m.gas ≡ m.gas - 0 = omega arith in
      let asked : by_replies (drop given replies) number (world inners) ≡ Answered 0 0 (record { state = next; held = left }) =
      ap (λ rs. by_replies rs number (world inners)) at.2 ∙ ap (λ o. reply_or o at.0 left m.state) done.0 in
      let here : IsAnswered (by_replies (drop given replies) number (world inners)) m (left_of replies (given + 1) inners) after = record {
        spent = 0;
        rest = 0;
        state = next;
        answered = asked;
        suffices = omega arith;
        machine = done.1 ∙ ap (λ (g : ℕ). record m { state = next; gas = g }) none;
      } in
      let IsOn : ℕ → Type 0 = λ l. IsAnswered (by_replies (drop given replies) number (world inners)) m (left_of replies l inners) after × (l ≤ length replies) in
      subst IsOn (sym line_is) (here, omega (arith, less))

  module _ (inners inners' : Inners) (m' : Machine) where
    -- what a call leaves, and what the host answers, by the test of its number and what a call on inner machines answers
    abbrev left_if : Bool → Answer Inners → Left
    left_if b a = if b then under_gas m inners a else stayed m inners served.NotMine

    abbrev asked_if : Bool → Answer Inners → Answer HostState
    asked_if b a = if b then by_nest (left_of replies given inners) a else by_replies (drop given replies) number (world inners)

    abbrev left : Served → Left
    left how = record { outer = m'; inners = inners'; answer = how }

    how_of : (how how' : Served) (l : Left) → left how ≡ l → l.answer ≡ how' → how ≡ how'
    how_of how how' l e f = ap (λ (x : Left). x.answer) e ∙ f

    -- a call on inner machines is done
    done_if : (b : Bool) (a : Answer Inners) → left served.Done ≡ left_if b a → IsAnswered (asked_if b a) m (left_of replies given inners') m'
    done_if false a e = let no : served.Done ≡ served.NotMine = how_of _ _ _ e refl in absurd cc
    done_if true (Ended f) e = let no : served.Done ≡ served.Panic = how_of _ _ _ e refl in absurd cc
    done_if true (Answered spent rest next) e = by_gas (nat_le (spent + rest) m.gas) refl e
      where
        by_gas : (fits : Bool) → nat_le (spent + rest) m.gas ≡ fits
            → left served.Done ≡ (if fits then record { outer = record m { state = next.state; gas = m.gas - spent }; inners = next.held; answer = served.Done } else stayed m inners served.OutOfGas)
            → IsAnswered (by_nest (left_of replies given inners) (Answered spent rest next)) m (left_of replies given inners') m'
        by_gas false f e = let no : served.Done ≡ served.OutOfGas = how_of _ _ _ e refl in absurd cc
        by_gas true f e = record {
          spent = spent;
          rest = rest;
          state = next.state;
          answered = ap (λ (h : Inners). Answered spent rest (record { state = next.state; held = left_of replies given h })) (sym (ap (λ (l : Left). l.inners) e));
          suffices = grind (arith, nat_tests, f);
          machine = ap (λ (l : Left). l.outer) e;
        }

    -- it panics
    panics_if : (b : Bool) (a : Answer Inners) → IsOrPanics m.state a → left served.Panic ≡ left_if b a → IsEndedBy (asked_if b a) m m' run_end.Panic
    panics_if false a is e = let no : served.Panic ≡ served.NotMine = how_of _ _ _ e refl in absurd cc
    panics_if true (Ended f) is e =
        let same : m' ≡ m = ap (λ (l : Left). l.outer) e in
        record {
          ended = ap (λ (n : Machine). Some (Panic n.state.memory)) same ∙ ap (λ (end : End). Some end) (sym is);
          left = ap (λ (n : Machine). n.gas) same;
          address = tt;
        }
    panics_if true (Answered spent rest next) is e = by_gas (nat_le (spent + rest) m.gas) e
      where
        by_gas : (fits : Bool)
            → left served.Panic ≡ (if fits then record { outer = record m { state = next.state; gas = m.gas - spent }; inners = next.held; answer = served.Done } else stayed m inners served.OutOfGas)
            → IsEndedBy (by_nest (left_of replies given inners) (Answered spent rest next)) m m' run_end.Panic
        by_gas false e = let no : served.Panic ≡ served.OutOfGas = how_of _ _ _ e refl in absurd cc
        by_gas true e = let no : served.Panic ≡ served.Done = how_of _ _ _ e refl in absurd cc

    -- it asks for more gas than is left
    lacks_if : (b : Bool) (a : Answer Inners) → left served.OutOfGas ≡ left_if b a → IsEndedBy (asked_if b a) m m' run_end.OutOfGas
    lacks_if false a e = let no : served.OutOfGas ≡ served.NotMine = how_of _ _ _ e refl in absurd cc
    lacks_if true (Ended f) e = let no : served.OutOfGas ≡ served.Panic = how_of _ _ _ e refl in absurd cc
    lacks_if true (Answered spent rest next) e = by_gas (nat_le (spent + rest) m.gas) refl e
      where
        by_gas : (fits : Bool) → nat_le (spent + rest) m.gas ≡ fits
            → left served.OutOfGas ≡ (if fits then record { outer = record m { state = next.state; gas = m.gas - spent }; inners = next.held; answer = served.Done } else stayed m inners served.OutOfGas)
            → IsEndedBy (by_nest (left_of replies given inners) (Answered spent rest next)) m m' run_end.OutOfGas
        by_gas true f e = let no : served.OutOfGas ≡ served.Done = how_of _ _ _ e refl in absurd cc
        by_gas false f e = record { ended = (grind (arith, nat_tests, f), refl); left = ap (λ (l : Left). l.outer.gas) e; address = tt }

    -- it is none of those calls
    record IsNone (b : Bool) : Type 0 where
      pub test : b ≡ false
      pub machine : m' ≡ m
      pub inner : inners' ≡ inners

    none_if : (b : Bool) (a : Answer Inners) → left served.NotMine ≡ left_if b a → IsNone b
    none_if false a e = record { test = refl; machine = ap (λ (l : Left). l.outer) e; inner = ap (λ (l : Left). l.inners) e }
    none_if true (Ended f) e = let no : served.NotMine ≡ served.Panic = how_of _ _ _ e refl in absurd cc
    none_if true (Answered spent rest next) e = by_gas (nat_le (spent + rest) m.gas) e
      where
        by_gas : (fits : Bool)
            → left served.NotMine ≡ (if fits then record { outer = record m { state = next.state; gas = m.gas - spent }; inners = next.held; answer = served.Done } else stayed m inners served.OutOfGas)
            → IsNone true
        by_gas false e = let no : served.NotMine ≡ served.OutOfGas = how_of _ _ _ e refl in absurd cc
        by_gas true e = let no : served.NotMine ≡ served.Done = how_of _ _ _ e refl in absurd cc

    abbrev nest_answer : Answer Inners
    nest_answer = nest_call number (record { state = m.state; held = inners })

    pub done : given ≤ length replies → Leaves (left_by number m inners) m inners m' inners' served.Done → AnswersCall number replies given inners m (Ok (GoesOn given)) inners' m'
    done few e = (done_if (is_nest_call number) nest_answer e, few)

    pub panics : CallsPanic → Leaves (left_by number m inners) m inners m' inners' served.Panic → AnswersCall number replies given inners m (Ok (Ends run_end.Panic)) inners' m'
    panics is e = panics_if (is_nest_call number) nest_answer (is number (record { state = m.state; held = inners })) e

    pub lacks : Leaves (left_by number m inners) m inners m' inners' served.OutOfGas → AnswersCall number replies given inners m (Ok (Ends run_end.OutOfGas)) inners' m'
    lacks e = lacks_if (is_nest_call number) nest_answer e

    pub fails : MayRunOut number → Leaves (left_by number m inners) m inners m' inners' served.Memory → AnswersCall number replies given inners m (Err memory) inners' m'
    fails may e = (may, e.0)

    -- then a reply answers it
    pub not_mine : (after : Machine) (reaction : Reaction) → Leaves (left_by number m inners) m inners m' inners' served.NotMine → RepliesTo number replies given m' reaction after
        → AnswersCall number replies given inners m (Ok reaction) inners' after
    not_mine after reaction e by =
        let is = none_if (is_nest_call number) nest_answer e in
        let IsBy : Machine → Type 0 = λ n. RepliesTo number replies given n reaction after in
        let here : RepliesTo number replies given m reaction after = subst IsBy is.machine by in
        let Is : Bool → Type 0 = λ b. IsReaction replies (asked_if b nest_answer) m reaction inners after in
        let there : IsReaction replies (answering number (world inners)) m reaction inners after = subst Is (sym is.test) (here inners) in
        let IsWith : Inners → Type 0 = λ h. AnswersCall number replies given inners m (Ok reaction) h after in
        subst IsWith (sym is.inner) there
