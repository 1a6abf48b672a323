use Rattle.std.proofs.Common.{◌<◌, length, arith, ap, ◌∙◌}
use Rattle.layout.specs.Slots.{with_place}
use Rattle.lift_blocks.proofs.FirstFault.{entries_none, entries_more, entry_is, entry_within}
use Rattle.lift_blocks.proofs.first_fault.entry_places.Goals as goal

pub loop-entry-init : goal.loop-entry-init
loop-entry-init g c = entries_none g.given c.new-places.result c.new-places.ensures

pub entry-requires : goal.entry-requires
entry-requires g c = entry_within g.given c.args.resolved.now c.loop-entry.entry c.requires.0 (omega (arith, c.loop-entry-test.true, c.requires.1))

pub loop-entry-preserved : goal.loop-entry-preserved
loop-entry-preserved g c =
    let n = c.loop-entry.entry in
    let lt : n < length g.given.wanted.entries = omega (arith, c.loop-entry-test.true, c.requires.1) in
    let is = entry_is g.given c.args.resolved.now n c.entry.result c.requires.0 lt c.entry.ensures in
    entries_more g.given n c.loop-entry.places c.add.new.self c.loop-entry.invariant (c.in_ok-add.ensures ∙ ap (with_place c.loop-entry.places) is)
