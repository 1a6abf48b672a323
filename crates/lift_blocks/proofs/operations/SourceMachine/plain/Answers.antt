use Rattle.std.proofs.Common.{sym, ap, ◌∙◌}
use Rattle.relocs.specs.Pairs.{is_place}
use Rattle.lift_blocks.specs.Kept.{site_of}
use Rattle.lift_blocks.proofs.Faultless.{faultless}
use Rattle.lift_blocks.proofs.operations.SourceMachine.plain.Goals as goal

pub plain_word-requires : goal.plain_word-requires
plain_word-requires g c =
    let free = faultless g.given c.in-Code.object c.in-Code.section c.in-Code.offset c.requires.0.no_fault (ap (λ p. is_place g.given (site_of p)) (sym c.in-Code.is) ∙ c.requires.1) in
    (c.requires.0, free.section)
