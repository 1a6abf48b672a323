use Rattle.std.proofs.Common.{◌≡◌, ◌≤◌, length, take, drop}
use Rattle.lift_blocks.specs.Marks.{chosen}
use Rattle.lift_blocks.proofs.marks.marked.Given as goal

abbrev pub invariant-loop-at : goal.invariant-loop-at
invariant-loop-at g l = record {
  count : length l.items.items ≡ length l.marks;
  few : l.to ≤ l.at;
  front : take l.to l.items.items ≡ chosen (take l.at l.marks) (take l.at l.fn.items.items);
  rest : drop l.at l.items.items ≡ drop l.at l.fn.items.items;
}
