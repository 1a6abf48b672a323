use Rattle.std.proofs.Common.{arith}
use Rattle.lower.proofs.Building.{entry_is_added}
use Rattle.lower.proofs.program.add_entries.Goals as goal

pub loop-at-preserved : goal.loop-at-preserved
loop-at-preserved c =
    entry_is_added c.args.lifted.now.begins c.args.lifted.now.entries c.loop-at.at c.entry.result _ c.args.list.now c.loop-at.list c.add_entry.new.self
    (omega arith) c.entry.ensures.value (c.requires.each c.entry.result c.entry.ensures.within) c.loop-at.invariant c.in_ok-add_entry.ensures.ok
