use Rattle.link_core.proofs.DataLines.{none_below, more_below}
use Rattle.link_core.proofs.map_text.push_object_lines.Goals as goal

pub loop-section-init : goal.loop-section-init
loop-section-init c = none_below c.args.text.now.items _

pub loop-section-preserved : goal.loop-section-preserved
loop-section-preserved c = more_below c.args.text.now.items c.loop-section.text.items _ c.loop-section.section _ c.loop-section.invariant c.in_ok-push_section_line.ensures
