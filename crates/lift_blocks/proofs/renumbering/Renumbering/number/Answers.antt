use Rattle.std.proofs.Common.{◌∙◌, length, ap, sym, false, Some, arith}
use Rattle.std.specs.Prelude.{slice_get}
use Rattle.std.proofs.lemmas.Option.{slice_get-get_or}
use Rattle.lift_blocks.proofs.Relisted.{length_counts, number_of_listed}
use Rattle.lift_blocks.proofs.renumbering.Renumbering.number.Goals as goal

pub bounds-self-place-then-self-place : goal.bounds-self-place-then-self-place
bounds-self-place-then-self-place g c = omega (arith, ap length c.requires.0, length_counts 0 c.args.self.now.listed.now, c.requires.1.0, c.requires.1.1)

pub returns-then-self-place : goal.returns-then-self-place
returns-then-self-place g c =
    let listed = c.args.self.now.listed.now in
    let counts = c.args.self.now.counts.now in
    number_of_listed g.places listed c.args.place _ c.requires.1.1
    (sym (ap (λ l. slice_get l c.args.place) c.requires.0) ∙ slice_get-get_or counts c.args.place 0 (omega (arith, ap length c.requires.0, length_counts 0 listed, c.requires.1.0, c.requires.1.1)))
    (slice_get-get_or listed c.args.place false (omega (arith, c.requires.1.0, c.requires.1.1)) ∙ ap Some c.if-self-place.true)
