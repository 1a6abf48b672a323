-- Pairs at places of code without faults: their targets.
use Rattle.std.proofs.Common.{◌≡◌, ℕ, ◌+◌, Bool, true, false, List, [], ◌∷◌, None, refl, sym, ap, ◌∙◌, subst}
use Rattle.std.specs.Prelude.{slice_get, if◌then◌else◌, ◌||◌}
use Rattle.elf_objects.specs.declared.parts.Relocation.{Relocation}
use Rattle.symbols.specs.Wanted.{Given}
use Rattle.relocs.specs.declared.kinds.Kind.{Kind}
use Rattle.relocs.specs.declared.kinds.Kind.TheVariants.{Call}
use Rattle.relocs.specs.declared.operand.Operand.TheVariants.{Nothing}
use Rattle.relocs.specs.Kinds.{kind_of, is_call}
use Rattle.relocs.specs.Places.{Code}
use Rattle.relocs.specs.Words.{raw_at}
use Rattle.relocs.specs.Pairs.{relocations_at, joins, is_none_of, can_call, has_call, is_pair_at}
use Rattle.relocs.specs.Operands.{symbol_place, meaning_fault, operand_by, operand_of}
use Rattle.lift_blocks.specs.Operations.{first_operand, operand_at}
use Rattle.lift_blocks.specs.PlacedOps.{IsFaultless, IsTarget}
use Rattle.lift_blocks.proofs.Faultless.{and_left, and_right}
use Rattle.lift_blocks.proofs.Relocated.{IsLone, lone, is_meant}
use Rattle.lift_blocks.proofs.Taken.{target_is_there}

-- a pair is an auipc and a jalr by its register
pub pair_joins : (given : Given) (o s f : ℕ) → is_pair_at given o s f ≡ true → joins (raw_at given (Code o s f)) (raw_at given (Code o s (f + 4))) ≡ true
unfolding is_pair_at
pair_joins given o s f pair =
    let may = and_left (can_call given o s f) (has_call (relocations_at given o s f)) pair in
    and_left (joins (raw_at given (Code o s f)) (raw_at given (Code o s (f + 4)))) (is_none_of (relocations_at given o s (f + 4))) may

call_targets : (given : Given) (o s : ℕ) (r : Relocation) (k : Kind) → is_call k ≡ true → meaning_fault k given o r ≡ None → IsTarget (operand_by k given o s r)
call_targets given o s r Call e m = target_is_there given o s r (symbol_place given o r) m
call_targets given o s r k e m = absurd cc

or_false : (b : Bool) → (b || false) ≡ true → b ≡ true
or_false true e = refl
or_false false e = absurd cc

lone_targets : (given : Given) (o s f : ℕ) (r : Relocation) → IsLone given o s f r → is_call (kind_of r.kind) ≡ true → IsTarget (operand_of given o s r)
unfolding operand_of
lone_targets given o s f r only call =
    let means = is_meant given o s r only.no_fault in
    subst (λ b. IsTarget (if b then operand_by (kind_of r.kind) given o s r else Nothing)) (sym only.effect) (call_targets given o s r (kind_of r.kind) call means.meant)

-- and its relocation gives a target
pub pair_targets : (given : Given) (o s f : ℕ) → IsFaultless given o s f → is_pair_at given o s f ≡ true → IsTarget (operand_at given o s f)
unfolding is_pair_at
pair_targets given o s f free pair = by_relocations (relocations_at given o s f) refl (and_right (can_call given o s f) (has_call (relocations_at given o s f)) pair)
  where
    by_relocations : (rs : List Relocation) → relocations_at given o s f ≡ rs → has_call rs ≡ true → IsTarget (first_operand given o s rs)
    by_relocations [] e call = absurd cc
    by_relocations (r ∷ rs) e call =
        let only = lone given o s f r free (ap (λ l. slice_get l 0) e) in
        let one : r ∷ rs ≡ r ∷ [] = sym e ∙ only.lone in
        let this = or_false (is_call (kind_of r.kind)) (subst (λ l. has_call l ≡ true) one call) in
        lone_targets given o s f r only this

pub ruleset pairs = (pair_joins, pair_targets)
