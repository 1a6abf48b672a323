-- Laws of one run under gas, for code that makes such a run in a loop. The bound on instructions with which a run under
-- gas is defined is never met, so a run is its first instruction and then a run (`one_instruction`). `Reached` is the
-- invariant of the loop: the whole run is the events made and the instructions begun before, and then the run from here.
use Rattle.std.proofs.Common.{◌≡◌, ℕ, zero, suc, ◌+◌, ◌-◌, ◌≤◌, Bool, true, false, List, [], ◌++◌, refl, sym, ap, ◌∙◌, arith, append_assoc, add_assoc, zero-add, Some, None}
use Rattle.std.specs.Prelude.{nat_le}
use Rattle.std.proofs.lemmas.Bool.{le-leb}
use Rattle.runs.specs.Turn.{Turn, Goes, Stops}
use Rattle.runs.specs.Runs.{MeteredRun, metered_after, go_if, metered_step, run_at_most, run_with_gas}

module _ {State Event End : Type 0} (step : State → Turn State Event End) where
  same_with_gas : (f g : ℕ → State → MeteredRun Event End) (gas : ℕ) → ((k : ℕ) (s : State) → k ≤ gas → f k s ≡ g k s) → (x : Turn State Event End) → metered_step f gas x ≡ metered_step g gas x
  same_with_gas f g gas h (Stops events e) = refl
  same_with_gas f g gas h (Goes events spent rest s) = by_test (nat_le (spent + rest) gas)
    where
      by_test : (b : Bool) → go_if b f gas events spent s ≡ go_if b g gas events spent s
      by_test true = ap (metered_after events (1 + spent)) (h (gas - spent) s (omega arith))
      by_test false = refl

  -- any bound from the gas on gives the same run
  pub any_bound : (most most' gas : ℕ) (s : State) → gas ≤ most → gas ≤ most' → run_at_most step most gas s ≡ run_at_most step most' gas s
  any_bound zero zero gas s l l' = refl
  any_bound zero (suc most') zero s l l' = refl
  any_bound zero (suc most') (suc gas) s l l' = absurd (omega arith)
  any_bound (suc most) zero zero s l l' = refl
  any_bound (suc most) zero (suc gas) s l l' = absurd (omega arith)
  any_bound (suc most) (suc most') zero s l l' = refl
  any_bound (suc most) (suc most') (suc gas) s l l' =
      same_with_gas (run_at_most step most) (run_at_most step most') gas (λ k t le. any_bound most most' k t (omega arith) (omega arith)) (step s)

  -- a run under gas, one instruction at a time
  pub one_instruction : (gas : ℕ) (s : State) → run_with_gas step (suc gas) s ≡ metered_step (run_with_gas step) gas (step s)
  one_instruction gas s = same_with_gas (run_at_most step gas) (run_with_gas step) gas (λ k t le. any_bound gas k k t le (omega arith)) (step s)

-- what came before what came before
pub metered_after_twice : {Event End : Type 0} → (e f : List Event) (a b : ℕ) (r : MeteredRun Event End) → metered_after e a (metered_after f b r) ≡ metered_after (e ++ f) (a + b) r
metered_after_twice {Event} e f a b r =
    ap (λ (l : List Event). record { events = l; end = r.end; left = r.left; begun = a + (b + r.begun) }) (sym (append_assoc e f r.events))
    ∙ ap (λ (n : ℕ). record { events = e ++ f ++ r.events; end = r.end; left = r.left; begun = n }) (sym (add_assoc a b r.begun))

-- a run from s0 with gas0 that has reached another state
module _ {State Event End : Type 0} (step : State → Turn State Event End) (gas0 : ℕ) (s0 : State) where
  -- it made these events, began this number of instructions, and goes on with this gas from the state s
  abbrev pub Reached : List Event → ℕ → ℕ → State → Type 0
  Reached events begun gas s = run_with_gas step gas0 s0 ≡ metered_after events begun (run_with_gas step gas s)

  -- one more instruction
  pub reaches_next : (events es : List Event) (begun gas spent rest : ℕ) (s s' : State) → Reached events begun (suc gas) s → step s ≡ Goes es spent rest s' → spent + rest ≤ gas → Reached (events ++ es) (begun + (1 + spent)) (gas - spent) s'
  reaches_next events es begun gas spent rest s s' c is le =
      c
      ∙ ap (metered_after events begun) (one_instruction step gas s ∙ ap (metered_step (run_with_gas step) gas) is ∙ ap (λ b. go_if b (run_with_gas step) gas es spent s') (le-leb (spent + rest) gas le))
      ∙ metered_after_twice events es begun (1 + spent) (run_with_gas step (gas - spent) s')

  -- one more silent instruction
  pub reaches_silently : (begun gas : ℕ) (s s' : State) → Reached [] begun (suc gas) s → step s ≡ Goes [] 0 0 s' → Reached [] (begun + 1) gas s'
  reaches_silently begun gas s s' c is =
      let e : gas - 0 ≡ gas = omega arith in
      rw e at (reaches_next [] [] begun gas 0 0 s s' c is (omega arith))

  -- so the loop begins
  pub reaches_start : Reached [] 0 gas0 s0
  reaches_start = ap (λ (n : ℕ). record { events = (run_with_gas step gas0 s0).events; end = (run_with_gas step gas0 s0).end; left = (run_with_gas step gas0 s0).left; begun = n }) (sym (zero-add (run_with_gas step gas0 s0).begun))

  -- so it ends where the machine stops
  pub reaches_end : (begun gas : ℕ) (s : State) (es : List Event) (f : End) → Reached [] begun (suc gas) s → step s ≡ Stops es f → run_with_gas step gas0 s0 ≡ record { events = es; end = Some f; left = gas; begun = begun + 1 }
  reaches_end begun gas s es f c is = c ∙ ap (metered_after [] begun) (one_instruction step gas s ∙ ap (metered_step (run_with_gas step) gas) is)

  -- and so where no gas is left
  pub reaches_no_gas : (begun : ℕ) (s : State) → Reached [] begun 0 s → run_with_gas step gas0 s0 ≡ record { events = []; end = None; left = 0; begun = begun + 0 }
  reaches_no_gas begun s c = c
