use Rattle.std.proofs.Common.{◌≡◌, map, take}
use Rattle.jump_table.specs.Shapes.{shape_of}
use Rattle.jump_table.proofs.shapes.shapes_of.Given as goal

abbrev pub invariant-loop-block : goal.invariant-loop-block
invariant-loop-block l = l.shapes.items ≡ map shape_of (take l.block l.blocks.blocks)
