use Rattle.std.proofs.Common.{◌<◌, length, arith}
use Rattle.symbols.proofs.Marking.{AddsMarks-section}
use Rattle.symbols.proofs.named.mark_sections.Goals as goal

pub loop-section-preserved : goal.loop-section-preserved
loop-section-preserved c =
    let within : c.loop-section.section < length c.args.object.now.sections = omega arith in
    AddsMarks-section c.args.marks.now c.loop-section.marks _ c.args.object.now.sections c.loop-section.section within c.loop-section.auto.marks c.loop-section.invariant c.mark_section.ensures
