-- Runs among the operations of a range of a list.
use Rattle.std.proofs.Common.{◌≡◌, ℕ, ◌+◌, ◌-◌, ◌<◌, ◌≤◌, true, false, List, [], ◌∷◌, ◌++◌, length, take, drop, Some, None, refl, sym, ap, ◌∙◌, subst, arith}
use Rattle.std.specs.Prelude.{slice_get, slice_range, not}
use Rattle.std.proofs.Math.Seq.{take-add, drop-drop}
use Rattle.lift_blocks.specs.Operations.{Operation}
use Rattle.lower.specs.Constants.{begins_run, goes_on, ends_before, runs, computed, value_of, constant}
use Rattle.lower.specs.Lowering.{lower_op, run_instrs}
use Rattle.lower.proofs.Lists.{all_append}
use Rattle.lower.proofs.Building.{slice_range-none, slice_range-more}
use Rattle.lower.proofs.Cuts.{AllGoOn, cut_run, cut_alone}
use Rattle.lower.proofs.Joining.{run_instr, alone_instrs}

-- a range is two, one after the other
range-split : {A : Type 0} (xs : List A) (from mid to : ℕ) → from ≤ mid → mid ≤ to → slice_range xs from to ≡ slice_range xs from mid ++ slice_range xs mid to
range-split xs from mid to le more =
    let all : to - from ≡ (mid - from) + (to - mid) = omega arith in
    let there : from + (mid - from) ≡ mid = omega arith in
    ap (λ n. take n (drop from xs)) all
    ∙ take-add (mid - from) (to - mid) (drop from xs)
    ∙ ap (λ l. take (mid - from) (drop from xs) ++ take (to - mid) l) (drop-drop (mid - from) from xs ∙ ap (λ n. drop n xs) there)

-- a range of one
range-one : {A : Type 0} (xs : List A) (from : ℕ) (x : A) → from < length xs → slice_get xs from ≡ Some x → slice_range xs from (from + 1) ≡ x ∷ []
range-one xs from x lt e = slice_range-more xs from from x (omega arith) lt e ∙ ap (λ l. l ++ x ∷ []) (slice_range-none xs from)

-- and its first element
range-first : {A : Type 0} (xs : List A) (from to : ℕ) (x : A) → from < to → from < length xs → slice_get xs from ≡ Some x → slice_range xs from to ≡ x ∷ slice_range xs (from + 1) to
range-first xs from to x lt within e = range-split xs from (from + 1) to (omega arith) (omega arith) ∙ ap (λ l. l ++ slice_range xs (from + 1) to) (range-one xs from x within e)

module _ (ops : List (Operation ℕ)) where
  -- what the first operation of a run leaves
  pub first_value : (from v : ℕ) (op : Operation ℕ) → from < length ops → slice_get ops from ≡ Some op → v ≡ computed 0 op → v ≡ value_of 0 (slice_range ops from (from + 1))
  first_value from v op lt e is = is ∙ ap (value_of 0) (sym (range-one ops from op lt e))

  pub none_go_on : (d at : ℕ) → AllGoOn d (slice_range ops at at)
  none_go_on d at = subst (AllGoOn d) (sym (slice_range-none ops at)) tt

  value_of-more : (v : ℕ) (a : List (Operation ℕ)) (op : Operation ℕ) → value_of v (a ++ op ∷ []) ≡ computed (value_of v a) op
  value_of-more v [] op = refl
  value_of-more v (x ∷ a) op = value_of-more (computed v x) a op

  -- and one more
  pub next_value : (from at v next : ℕ) (op : Operation ℕ) → from ≤ at → at < length ops → slice_get ops at ≡ Some op → v ≡ value_of 0 (slice_range ops from at) → next ≡ computed v op → next ≡ value_of 0 (slice_range ops from (at + 1))
  next_value from at v next op le lt e is new =
      new ∙ ap (λ n. computed n op) is ∙ sym (value_of-more 0 (slice_range ops from at) op) ∙ ap (value_of 0) (sym (slice_range-more ops from at op le lt e))

  pub next_goes : (d from at : ℕ) (op : Operation ℕ) → from ≤ at → at < length ops → slice_get ops at ≡ Some op → AllGoOn d (slice_range ops from at) → goes_on d op ≡ true → AllGoOn d (slice_range ops from (at + 1))
  next_goes d from at op le lt e h g = subst (AllGoOn d) (sym (slice_range-more ops from at op le lt e)) (all_append (λ x. goes_on d x ≡ true) (slice_range ops from at) (op ∷ []) h (g, tt))

  -- where a run ends
  pub ends_at_end : (d to : ℕ) → ends_before (Some d) (slice_range ops to to) ≡ true
  ends_at_end d to = ap (ends_before (Some d)) (slice_range-none ops to)

  pub ends_at : (d end to : ℕ) (op : Operation ℕ) → end < to → to ≤ length ops → slice_get ops end ≡ Some op → goes_on d op ≡ false → ends_before (Some d) (slice_range ops end to) ≡ true
  ends_at d end to op lt within e g = ap (ends_before (Some d)) (range-first ops end to op lt (omega arith) e) ∙ ap not g

  -- the first run of a range
  pub first_run : (d from end to : ℕ) (op : Operation ℕ) → from < end → end ≤ to → to ≤ length ops → slice_get ops from ≡ Some op → begins_run op ≡ Some d → AllGoOn d (slice_range ops (from + 1) end) → ends_before (Some d) (slice_range ops end to) ≡ true
      → runs (slice_range ops from to) ≡ slice_range ops from end ∷ runs (slice_range ops end to)
  first_run d from end to op lt le within e b h ends =
      let run : slice_range ops from end ≡ op ∷ slice_range ops (from + 1) end = range-first ops from end op lt (omega arith) e in
      ap runs (range-split ops from end to (omega arith) le ∙ ap (λ l. l ++ slice_range ops end to) run)
      ∙ cut_run d op (slice_range ops (from + 1) end) (slice_range ops end to) b h ends
      ∙ ap (λ l. l ∷ runs (slice_range ops end to)) (sym run)

  -- and an operation in none
  pub first_alone : (from to : ℕ) (op : Operation ℕ) → from < to → to ≤ length ops → slice_get ops from ≡ Some op → begins_run op ≡ None
      → runs (slice_range ops from to) ≡ slice_range ops from (from + 1) ∷ runs (slice_range ops (from + 1) to)
  first_alone from to op lt within e b =
      ap runs (range-first ops from to op lt (omega arith) e)
      ∙ cut_alone op (slice_range ops (from + 1) to) b
      ∙ ap (λ l. l ∷ runs (slice_range ops (from + 1) to)) (sym (range-one ops from op (omega arith) e))

  -- and their instructions
  pub run_is_added : (needed : List ℕ) (d from end : ℕ) (op : Operation ℕ) → from < end → from < length ops → slice_get ops from ≡ Some op → begins_run op ≡ Some d
      → run_instrs needed (slice_range ops from end) ≡ constant d (value_of 0 (slice_range ops from end)) ∷ []
  run_is_added needed d from end op lt within e b =
      let run : slice_range ops from end ≡ op ∷ slice_range ops (from + 1) end = range-first ops from end op lt within e in
      ap (run_instrs needed) run ∙ run_instr needed d op (slice_range ops (from + 1) end) b ∙ ap (λ l. constant d (value_of 0 l) ∷ []) (sym run)

  pub one_is_added : (needed : List ℕ) (from : ℕ) (op : Operation ℕ) → from < length ops → slice_get ops from ≡ Some op → begins_run op ≡ None → run_instrs needed (slice_range ops from (from + 1)) ≡ lower_op needed op
  one_is_added needed from op lt e b = ap (run_instrs needed) (range-one ops from op lt e) ∙ alone_instrs needed op b
