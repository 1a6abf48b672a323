use Rattle.std.proofs.Common.{◌≡◌, true, sym, ap, subst, ◌∙◌}
use Rattle.symbols.specs.Faults.{has_effect}
use Rattle.relocs.specs.Kinds.{kind_of}
use Rattle.relocs.specs.Operands.{operand_by}
use Rattle.relocs.specs.Sites.{FitsOperand, OperandFits}
use Rattle.relocs.proofs.Fitting.{operand_fits}
use Rattle.relocs.proofs.Nearby.{in_table}
use Rattle.relocs.proofs.Unrefused.{fits_unrefused}
use Rattle.relocs.proofs.sources.Sources.operand.Goals as goal

pub operand_by-requires : goal.operand_by-requires
operand_by-requires g c =
    let r = c.args.relocation in
    let is = c.requires.1.1.0 in
    let code = c.requires.1.0.1 in
    let effect : has_effect r.kind ≡ true = sym c.has_effect.ensures ∙ c.if-has_effect.true in
    let fits = fits_unrefused g.given c.args.object c.args.section is.at r code (in_table g.given c.args.object c.args.section r code is) c.requires.1.1.1.1 effect in
    (c.requires.0, (c.requires.1.0, (c.requires.1.1.1.0, subst (λ kind. FitsOperand kind g.given c.args.object r) (sym c.kind_of.ensures) fits)))

pub returns-then-has_effect-clause-fits : goal.returns-then-has_effect-clause-fits
returns-then-has_effect-clause-fits g c =
    let r = c.args.relocation in
    let is = c.requires.1.1.0 in
    let code = c.requires.1.0.1 in
    let effect : has_effect r.kind ≡ true = sym c.has_effect.ensures ∙ c.if-has_effect.true in
    let fits = fits_unrefused g.given c.args.object c.args.section is.at r code (in_table g.given c.args.object c.args.section r code is) c.requires.1.1.1.1 effect in
    subst (OperandFits (kind_of r.kind)) (sym (c.operand_by.ensures ∙ ap (λ kind. operand_by kind g.given c.args.object c.args.section r) c.kind_of.ensures))
    (operand_fits g.given c.args.object c.args.section r (kind_of r.kind) c.requires.0.placed_is.no_fault fits)
