-- The instructions of a single operation: what they do, and that each can be placed.
use Rattle.std.proofs.Common.{◌≡◌, ℕ, ◌≤◌, List, [], ◌∷◌, length, map, refl, sym, ap, ◌∙◌, subst, arith}
use Rattle.std.specs.List.{AllByRecursion}
use Rattle.std.proofs.lemmas.List.{length-map}
use Rattle.rv_decode.specs.declared.ops.RvOp.{RvOp}
use Rattle.runs.specs.Machine.{Outcome, Next, Jump, Call, Ends, and_then, does}
use Rattle.machine_state.specs.State.{State}
use Rattle.machine_state.specs.Ends.{End}
use Rattle.pvm_ops.specs.declared.instr.Instr.{Instr}
use Rattle.pvm_machine.specs.Effect.{effect}
use Rattle.jump_table.specs.Laws.{IsPlainInstr}
use Rattle.lower.specs.Plain.{lower_plain, three_of, listed, IsLowerable}
use Rattle.lower.specs.Cutting.{instr_does}
use Rattle.lower.specs.Laws.{HasEffect, OperationsAreLowered}
use Rattle.lower.proofs.Single.{targeted_at_none}
use Rattle.lower.proofs.Effects.{lowers_plain}
use Rattle.lower.proofs.Encodable.{alone_is_plain}

pub operations_are_lowered : OperationsAreLowered
operations_are_lowered needed op h = lowers_plain needed op h

-- at most three instructions are all listed
all_listed : (is : List Instr) → length is ≤ 3 → listed (three_of is) ≡ is
all_listed [] few = refl
all_listed (i ∷ []) few = refl
all_listed (i ∷ j ∷ []) few = refl
all_listed (i ∷ j ∷ k ∷ []) few = refl
all_listed (i ∷ j ∷ k ∷ l ∷ is) few = absurd (omega arith)

module _ (needed : List ℕ) where
  -- two outcomes with what comes then, which is the same
  then_same : (o : Outcome ℕ State End) (f g : State → Outcome ℕ State End) → ((s : State) → f s ≡ g s) → and_then o f ≡ and_then o g
  then_same (Next s) f g e = e s
  then_same (Jump target s) f g e = refl
  then_same (Call number s) f g e = refl
  then_same (Ends x) f g e = refl

  -- instructions without offsets do the same with and without targets
  untargeted_does : (is : List Instr) (s : State) → ◌≡◌ {A = Outcome ℕ State End} (does (effect needed 0) is s) (does (instr_does needed) (map targeted_at_none is) s)
  untargeted_does [] s = refl
  untargeted_does (i ∷ is) s = then_same (effect needed 0 i s) (does (effect needed 0) is) (does (instr_does needed) (map targeted_at_none is)) (λ t. untargeted_does is t)

-- an operation has three instructions at most
few_of_alone : (op : RvOp) → IsLowerable op → length (lower_plain op) ≤ 3
few_of_alone op h = rw (← length-map (lower_plain op) targeted_at_none) (lowers_plain [] op h).three

-- so all of them are listed
pub all_are_listed : (op : RvOp) → IsLowerable op → listed (three_of (lower_plain op)) ≡ lower_plain op
all_are_listed op h = all_listed (lower_plain op) (few_of_alone op h)

-- and each can be placed
pub listed_are_plain : (op : RvOp) → IsLowerable op → AllByRecursion IsPlainInstr (listed (three_of (lower_plain op)))
listed_are_plain op h = subst (λ is. AllByRecursion IsPlainInstr is) (sym (all_are_listed op h)) (alone_is_plain op h)

-- the instructions that are listed of an operation do what it does
pub has_effect : (op : RvOp) → IsLowerable op → HasEffect op (listed (three_of (lower_plain op)))
has_effect op h needed s g =
    let lowers = lowers_plain needed op h in
    ap (λ is. does (effect needed 0) is s) (all_are_listed op h) ∙ untargeted_does needed (lower_plain op) s ∙ lowers.same s g
