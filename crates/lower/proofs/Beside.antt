-- What the instructions of a block do under the target of its last: without an offset they do the same under each.
use Rattle.std.proofs.Common.{◌≡◌, ℕ, ◌≤◌, List, [], ◌∷◌, ◌++◌, length, Option, refl, ap, ◌∙◌, arith}
use Rattle.std.specs.List.{AllByRecursion}
use Rattle.runs.specs.Machine.{Outcome, Next, Jump, Call, Ends, and_then, does}
use Rattle.runs.specs.Segments.{lowered, Lowers}
use Rattle.machine_state.specs.State.{State, IsState}
use Rattle.machine_state.specs.Ends.{End}
use Rattle.lift_blocks.specs.Operations.{Operation}
use Rattle.lift_blocks.specs.Step.{op_does}
use Rattle.pvm_ops.specs.declared.instr.Instr.{Instr}
use Rattle.pvm_machine.specs.Effect.{effect}
use Rattle.pvm_machine.proofs.Effects.{plain}
use Rattle.pvm_machine.proofs.Opcodes as opcode
use Rattle.jump_table.specs.Laws.{IsPlainInstr}
use Rattle.lower.specs.Instructions.{fallthrough}
use Rattle.lower.specs.Lowering.{lower_op, offset_target, tail_of}
use Rattle.lower.specs.Cutting.{Targeted, or_zero, targeted, targeted_op, instr_does}
use Rattle.lower.proofs.Tails.{tail_has}
use Rattle.lower.proofs.Same.{targeted_append, targeted_length}

-- instructions of several parts, with one target
pub targeted_lowered : {Part : Type 0} (lower : Part → List Instr) (target : Option ℕ) (parts : List Part) → targeted target (lowered lower parts) ≡ lowered (λ part. targeted target (lower part)) parts
targeted_lowered lower target [] = refl
targeted_lowered lower target (part ∷ parts) = targeted_append target (lower part) (lowered lower parts) ∙ ap (λ l. targeted target (lower part) ++ l) (targeted_lowered lower target parts)

module _ (needed : List ℕ) where
  -- a single operation, with the target of its block
  abbrev pub targeted_alone : Option ℕ → Operation ℕ → List Targeted
  targeted_alone target op = targeted target (lower_op needed op)

  -- two outcomes with what comes then, which is the same
  then_same : (o : Outcome ℕ State End) (f g : State → Outcome ℕ State End) → ((s : State) → f s ≡ g s) → and_then o f ≡ and_then o g
  then_same (Next s) f g e = e s
  then_same (Jump target s) f g e = refl
  then_same (Call number s) f g e = refl
  then_same (Ends x) f g e = refl

  -- instructions without offsets do the same with every target
  other_target : (target other : Option ℕ) (is : List Instr) → AllByRecursion IsPlainInstr is → (s : State) → does (instr_does needed) (targeted target is) s ≡ does (instr_does needed) (targeted other is) s
  other_target target other [] h s = refl
  other_target target other (i ∷ is) h s =
      ap (λ o. and_then o (does (instr_does needed) (targeted target is))) (plain needed (or_zero target) (or_zero other) i s h.0.no_offset)
      ∙ then_same (effect needed (or_zero other) i s) (does (instr_does needed) (targeted target is)) (does (instr_does needed) (targeted other is)) (λ t. other_target target other is h.1 t)

  -- so an operation without a target is lowered in a block with whatever target
  pub lowers_beside : (target : Option ℕ) (op : Operation ℕ) → AllByRecursion IsPlainInstr (lower_op needed op) → Lowers (op_does needed) (instr_does needed) IsState (targeted_op needed) op → Lowers (op_does needed) (instr_does needed) IsState (targeted_alone target) op
  lowers_beside target op plain_op h = record {
    same = λ s g. other_target target (offset_target needed op) (lower_op needed op) plain_op s ∙ h.same s g;
    three = rw (targeted_length target (lower_op needed op)) (rw (targeted_length (offset_target needed op) (lower_op needed op)) at h.three);
    silent = h.silent;
    stays = h.stays;
  }

  -- a fallthrough goes on
  fallthrough_goes_on : (target : Option ℕ) (s : State) → ◌≡◌ {A = Outcome ℕ State End} (does (instr_does needed) (targeted target (fallthrough ∷ [])) s) (Next s)
  unfolding effect
  fallthrough_goes_on target s = rw opcode.fallthrough refl

  -- a tail only goes on
  pub tail_goes_on : (target : Option ℕ) (ops : List (Operation ℕ)) (s : State) → ◌≡◌ {A = Outcome ℕ State End} (does (instr_does needed) (targeted target (tail_of ops)) s) (Next s)
  tail_goes_on target ops s = tail_has (λ is. ◌≡◌ {A = Outcome ℕ State End} (does (instr_does needed) (targeted target is) s) (Next s)) refl (fallthrough_goes_on target s) ops

  -- a tail is one instruction at most
  pub one_after : (target : Option ℕ) (ops : List (Operation ℕ)) → length (targeted target (tail_of ops)) ≤ 1
  one_after target ops = tail_has (λ is. length (targeted target is) ≤ 1) (omega arith) (omega arith) ops
