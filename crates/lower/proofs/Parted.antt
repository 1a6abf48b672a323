-- Operations in parts, each lowered as a whole: if each part is implemented by its instructions, so are their operations.
use Rattle.std.proofs.Common.{◌≡◌, ℕ, ◌+◌, ◌<◌, ◌≤◌, List, [], ◌∷◌, length, refl, sym, ◌∙◌, arith}
use Rattle.std.specs.List.{AllByRecursion}
use Rattle.runs.specs.Machine.{Outcome, Next, Jump, Call, Ends, and_then, does, one_more, begun}
use Rattle.runs.specs.Joined.{joined}
use Rattle.runs.specs.Segments.{NoCall, Implements, AllLower}
use Rattle.runs.proofs.Straight.{more, does_append, begun_append, whole}
use Rattle.runs.proofs.Walk.{begun_some}

module _ {I Target Data End : Type 0} (act : I → Data → Outcome Target Data End) where
  same_then : (o : Outcome Target Data End) (f g : Data → Outcome Target Data End) → ((d : Data) → f d ≡ g d) → and_then o f ≡ and_then o g
  same_then (Next d) f g h = h d
  same_then (Jump t d) f g h = refl
  same_then (Call n d) f g h = refl
  same_then (Ends e) f g h = refl

  -- parts do what their operations do
  pub does_parts : (parts : List (List I)) (d : Data) → does (does act) parts d ≡ does act (joined parts) d
  does_parts [] d = refl
  does_parts (part ∷ parts) d =
      same_then (does act part d) (does (does act) parts) (does act (joined parts)) (λ e. does_parts parts e)
      ∙ sym (does_append act part (joined parts) d)

  one_for_some : (o : Outcome Target Data End) (f g : Data → ℕ) (n : ℕ) → 0 < n → ((d : Data) → f d ≤ g d) → one_more o f ≤ n + more o g
  one_for_some (Next d) f g n some le = let l = le d in omega arith
  one_for_some (Jump t d) f g n some le = omega arith
  one_for_some (Call m d) f g n some le = omega arith
  one_for_some (Ends e) f g n some le = omega arith

  -- no more parts are begun than operations
  pub begun_parts : (parts : List (List I)) (d : Data) → AllByRecursion (λ part. 0 < length part) parts → begun (does act) parts d ≤ begun act (joined parts) d
  begun_parts [] d h = omega arith
  begun_parts (part ∷ parts) d h =
      let all = begun_append act part (joined parts) d in
      let le = one_for_some (does act part d) (begun (does act) parts) (begun act (joined parts)) (begun act part d) (begun_some act part d h.0) (λ e. begun_parts parts e h.1) in
      omega arith

  silent_then : (o : Outcome Target Data End) (f : Data → Outcome Target Data End) → NoCall o → ((d : Data) → NoCall (f d)) → NoCall (and_then o f)
  silent_then (Next d) f h q = q d
  silent_then (Jump t d) f h q = tt
  silent_then (Call n d) f h q = absurd h
  silent_then (Ends x) f h q = tt

module _ {Op Instr Target Data End : Type 0} (op_does : Op → Data → Outcome Target Data End) (instr_does : Instr → Data → Outcome Target Data End) (good : Data → Type 0) (lower : Op → List Instr) where
  silent_all : (ops : List Op) → AllLower op_does instr_does good lower ops → (d : Data) → NoCall (does op_does ops d)
  silent_all [] h d = tt
  silent_all (op ∷ ops) h d = silent_then op_does (op_does op d) (does op_does ops) (h.0.silent d) (λ e. silent_all ops h.1 e)

  pub implements_joined : (parts : List (List Op)) (instrs : List Instr) → AllByRecursion (λ part. 0 < length part) parts → AllLower op_does instr_does good lower (joined parts)
      → Implements (does op_does) instr_does good (record { ops = parts; instrs = instrs }) → Implements op_does instr_does good (record { ops = joined parts; instrs = instrs })
  implements_joined parts instrs each lowers h = record {
    some = h.some;
    same = λ d g. h.same d g ∙ does_parts op_does parts d;
    bound = λ d g. (let le = h.bound d g in let most = begun_parts op_does parts d each in omega arith);
    whole_ops = λ d g. whole op_does (joined parts) d (silent_all (joined parts) lowers d);
    whole_instrs = λ d g. rw (does_parts op_does parts d) at (h.whole_instrs d g);
    stays = λ d g. rw (does_parts op_does parts d) at (h.stays d g);
  }
