-- The simulation between the operations and the instructions of a program that is cut into implemented segments: from
-- the beginning of a segment both machines walk through it, and the last of each leads to the same turn. After the last
-- segment both panic.
use Rattle.std.proofs.Common.{◌≡◌, ℕ, ◌+◌, List, length, map, Option, Some, None, refl, sym, ap, ◌∙◌, subst, arith}
use Rattle.std.specs.Prelude.{slice_get, option_map}
use Rattle.std.proofs.lemmas.Option.{slice_get-map}
use Rattle.runs.specs.Turn.{Turn, Goes, Stops}
use Rattle.runs.specs.Follow.{Silent, SameTurn, SimulationStep}
use Rattle.runs.specs.Machine.{Outcome, Next, Jump, Call, Ends, At, Rules, placed, move, step, does, begun}
use Rattle.runs.specs.Segments.{Segment, all_ops, all_instrs, op_place, instr_place, Begins, Whole, GoodOutcome, GoodTurn, JumpsToSegments, Cut, Match}
use Rattle.runs.proofs.HasAt.{HasAt, has_list_at, position_next, position_past}
use Rattle.runs.proofs.Walk.{walk, past, begun_some, some_begun}

-- the k-th segment is at its places, and the next one follows it
module _ {Op Instr : Type 0} (ps : List (Segment Op Instr)) (k : ℕ) (p : Segment Op Instr) (is : slice_get ps k ≡ Some p) where
  ops_of : slice_get (map (λ p. p.ops) ps) k ≡ Some p.ops
  ops_of = slice_get-map (λ p. p.ops) ps k ∙ ap (option_map (λ p. p.ops)) is

  instrs_of : slice_get (map (λ p. p.instrs) ps) k ≡ Some p.instrs
  instrs_of = slice_get-map (λ p. p.instrs) ps k ∙ ap (option_map (λ p. p.instrs)) is

  ops_are_there : HasAt (all_ops ps) (op_place ps k) p.ops
  ops_are_there = has_list_at (map (λ p. p.ops) ps) k p.ops ops_of

  instrs_are_there : HasAt (all_instrs ps) (instr_place ps k) p.instrs
  instrs_are_there = has_list_at (map (λ p. p.instrs) ps) k p.instrs instrs_of

  begins_next : Begins ps (op_place ps k + length p.ops) (instr_place ps k + length p.instrs)
  begins_next = record {
    segment = k + 1;
    op_is = sym (position_next (map (λ p. p.ops) ps) k p.ops ops_of);
    instr_is = sym (position_next (map (λ p. p.instrs) ps) k p.instrs instrs_of);
  }

module _ {Op Instr Target Data Event End : Type 0} (rules : Rules Data Event End) (op_does : Op → Data → Outcome Target Data End) (instr_does : Instr → Data → Outcome Target Data End) (good : Data → Type 0) (ps : List (Segment Op Instr)) (op_places instr_places : Target → ℕ) (cut : Cut op_does instr_does good ps op_places instr_places) (answers : (n : ℕ) (d : Data) → good d → GoodTurn good (rules.answer n d)) where
  abbrev Same : At ℕ Data → At ℕ Data → Type 0
  Same = Match good ps

  abbrev source : At ℕ Data → Turn (At ℕ Data) Event End
  source = step rules op_does (all_ops ps) op_places

  abbrev target : At ℕ Data → Turn (At ℕ Data) Event End
  target = step rules instr_does (all_instrs ps) instr_places

  called : (x y : ℕ) (t : Turn Data Event End) → Begins ps x y → GoodTurn good t → SameTurn Same (placed x t) (placed y t)
  called x y (Goes events spent rest d) b g = (refl, refl, refl, record { begins = b; same = refl; good_data = g })
  called x y (Stops events f) b g = (refl, refl)

  -- the turn at the end of a segment
  same_move : (o : Outcome Target Data End) (x y n m k l : ℕ) → GoodOutcome good o → JumpsToSegments ps op_places instr_places o → Whole o n k → Whole o m l → Begins ps (x + k) (y + l) → SameTurn Same (move rules op_places (x + n) o) (move rules instr_places (y + m) o)
  same_move (Next d) x y n m k l g a wn wm b =
      let b' : Begins ps (x + n) (y + m) = rw (wn, wm) b in
      (refl, refl, refl, record { begins = b'; same = refl; good_data = g })
  same_move (Jump target d) x y n m k l g a wn wm b = (refl, refl, refl, record { begins = a; same = refl; good_data = g })
  same_move (Call number d) x y n m k l g a wn wm b =
      let b' : Begins ps (x + n) (y + m) = rw (wn, wm) b in
      called (x + n) (y + m) (rules.answer number d) b' (answers number d g)
  same_move (Ends f) x y n m k l g a wn wm b = (refl, refl)

  -- at the end of the program both panic
  at_end : (k : ℕ) → slice_get ps k ≡ None → (s t : At ℕ Data) → s.at ≡ op_place ps k → t.at ≡ instr_place ps k → s.of ≡ t.of → SimulationStep source target Same s t
  at_end k none s t es et same =
      let no_ops = slice_get-map (λ p. p.ops) ps k ∙ ap (option_map (λ p. p.ops)) none in
      let no_instrs = slice_get-map (λ p. p.instrs) ps k ∙ ap (option_map (λ p. p.instrs)) none in
      let last_op = es ∙ position_past (map (λ p. p.ops) ps) k no_ops in
      let last_instr = et ∙ position_past (map (λ p. p.instrs) ps) k no_instrs in
      record {
        before = 0;
        begun = 0;
        at = s;
        to = t;
        source_silent = refl;
        target_silent = refl;
        bound = omega arith;
        same = rw (past rules op_does (all_ops ps) op_places s (omega arith), past rules instr_does (all_instrs ps) instr_places t (omega arith)) (refl, ap rules.panic same);
      }

  at_segment : (k : ℕ) (p : Segment Op Instr) → slice_get ps k ≡ Some p → (s t : At ℕ Data) → s.at ≡ op_place ps k → t.at ≡ instr_place ps k → s.of ≡ t.of → good s.of → SimulationStep source target Same s t
  at_segment k p is s t es et same g =
      let c = cut.implements k p is in
      let d = s.of in
      let bound = c.bound d g in
      let instrs_some = c.some in
      let begun_instrs = begun_some instr_does p.instrs d instrs_some in
      let ops_some = some_begun op_does p.ops d (omega arith) in
      let ops_at : HasAt (all_ops ps) s.at p.ops = rw es (ops_are_there ps k p is) in
      let instrs_at : HasAt (all_instrs ps) t.at p.instrs = rw et (instrs_are_there ps k p is) in
      let w = walk rules op_does (all_ops ps) op_places p.ops s.at d ops_some ops_at in
      let v = walk rules instr_does (all_instrs ps) instr_places p.instrs t.at d instrs_some instrs_at in
      let wc = w.count in
      let vc = v.count in
      let next : Begins ps (s.at + length p.ops) (t.at + length p.instrs) = rw (es, et) (begins_next ps k p is) in
      record {
        before = w.before;
        begun = v.before;
        at = w.at;
        to = v.at;
        source_silent = w.silent;
        target_silent = subst (λ x. Silent target v.before (record { at = t.at; of = x }) v.at) same v.silent;
        bound = omega arith;
        same =
            rw (w.last, v.last, c.same d g)
            (same_move (does op_does p.ops d) s.at t.at (begun op_does p.ops d) (begun instr_does p.instrs d) (length p.ops) (length p.instrs) (c.stays d g) (cut.jump_to_segments k p is d g) (c.whole_ops d g) (c.whole_instrs d g) next);
      }

  -- from the beginning of a segment, operations and instructions lead to the same turn
  pub simulation_step : (s t : At ℕ Data) → Match good ps s t → SimulationStep source target Same s t
  simulation_step s t m = by_segment (slice_get ps m.begins.segment) refl
    where
      by_segment : (o : Option (Segment Op Instr)) → slice_get ps m.begins.segment ≡ o → SimulationStep source target Same s t
      by_segment None e = at_end m.begins.segment e s t m.begins.op_is m.begins.instr_is m.same
      by_segment (Some p) e = at_segment m.begins.segment p e s t m.begins.op_is m.begins.instr_is m.same m.good_data
