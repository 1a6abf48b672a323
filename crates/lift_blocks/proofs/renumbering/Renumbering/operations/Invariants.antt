use Rattle.std.proofs.Common.{◌≡◌, ◌≤◌, length, map, take, drop}
use Rattle.lift_blocks.specs.Kept.{operation_of}
use Rattle.lift_blocks.specs.Listing.{AreNumbered, at_places}
use Rattle.lift_blocks.specs.Marks.{chosen}
use Rattle.lift_blocks.proofs.renumbering.Renumbering.operations.Given as goal

abbrev pub ghost-operation : goal.ghost-operation
ghost-operation g a = g.places

abbrev pub invariant-loop-at : goal.invariant-loop-at
invariant-loop-at g l = record {
  count : length l.ops.items ≡ length l.self.listed.now;
  few : l.to ≤ l.at;
  numbered : AreNumbered (chosen l.self.listed.now g.places) (chosen (take l.at l.self.listed.now) (take l.at (at_places g.places l.fn.ops.items))) (map operation_of (take l.to l.ops.items));
  rest : drop l.at l.ops.items ≡ drop l.at l.fn.ops.items;
}
