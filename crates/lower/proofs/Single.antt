-- An operation that is lowered to one instruction.
use Rattle.std.proofs.Common.{◌≡◌, ℕ, ◌≤◌, List, [], ◌∷◌, length, map, None, refl, ap, ◌∙◌, arith}
use Rattle.std.proofs.lemmas.List.{length-map}
use Rattle.rv_decode.specs.declared.ops.RvOp.{RvOp}
use Rattle.runs.specs.Machine.{Outcome, Next, Jump, Call, Ends, and_then, does}
use Rattle.runs.specs.Segments.{NoCall, GoodOutcome, Lowers}
use Rattle.machine_state.specs.State.{State, IsState}
use Rattle.machine_state.specs.Ends.{End}
use Rattle.lift_blocks.specs.Operations.{Operation, Plain}
use Rattle.lift_blocks.specs.Step.{plain_does, op_does}
use Rattle.pvm_ops.specs.declared.instr.Instr.{Instr}
use Rattle.pvm_machine.specs.Effect.{effect}
use Rattle.lower.specs.Plain.{lower_plain}
use Rattle.lower.specs.Cutting.{Targeted, targeted_op, instr_does}

-- an outcome, and then nothing
pub and_no_more : (o : Outcome ℕ State End) → and_then o (λ s. Next s) ≡ o
and_no_more (Next s) = refl
and_no_more (Jump target s) = refl
and_no_more (Call number s) = refl
and_no_more (Ends f) = refl

-- an instruction without an offset
abbrev pub targeted_at_none : Instr → Targeted
targeted_at_none i = record { instr = i; target = None }

module _ (needed : List ℕ) where
  -- the instructions of an operation do what it does
  abbrev pub LowersOp : Operation ℕ → Type 0
  LowersOp op = Lowers (op_does needed) (instr_does needed) IsState (targeted_op needed) op

  -- what instructions without an offset do
  abbrev pub run_alone : List Instr → State → Outcome ℕ State End
  run_alone is s = does (instr_does needed) (map targeted_at_none is) s

  -- as many instructions with their targets
  pub few_targeted : (is : List Instr) → length is ≤ 3 → length (map targeted_at_none is) ≤ 3
  few_targeted is few = rw (length-map is targeted_at_none) few

  -- an instruction that does what the operation does
  pub lowers_one :
      (op : RvOp) (i : Instr) → lower_plain op ≡ i ∷ []
      → ((s : State) → IsState s → effect needed 0 i s ≡ plain_does op s)
      → ((s : State) → NoCall (plain_does {Target = ℕ} op s))
      → ((s : State) → IsState s → GoodOutcome IsState (plain_does {Target = ℕ} op s))
      → LowersOp (Plain op)
  lowers_one op i is same silent stays =
      let few : length (i ∷ []) ≤ 3 = omega arith in
      record {
        same = λ s g. ap (λ is. run_alone is s) is ∙ and_no_more (effect needed 0 i s) ∙ same s g;
        three = few_targeted (lower_plain op) (rw is few);
        silent = silent;
        stays = stays;
      }
