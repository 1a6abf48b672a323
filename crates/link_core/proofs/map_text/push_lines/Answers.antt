use Rattle.link_core.specs.DataParts.{holds}
use Rattle.link_core.specs.MapText.{object_lines}
use Rattle.link_core.proofs.DataLines.{none_below, more_below}
use Rattle.link_core.proofs.map_text.push_lines.Goals as goal

pub loop-object-init : goal.loop-object-init
loop-object-init c = none_below c.args.text.now.items (object_lines (holds c.args.part) c.args.input.now)

pub loop-object-preserved : goal.loop-object-preserved
loop-object-preserved c = more_below c.args.text.now.items c.loop-object.text.items _ c.loop-object.object (object_lines (holds c.args.part) c.args.input.now) c.loop-object.invariant c.in_ok-push_object_lines.ensures
