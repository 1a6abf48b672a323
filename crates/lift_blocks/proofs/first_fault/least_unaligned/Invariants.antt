use Rattle.std.proofs.Common.{take}
use Rattle.lift_blocks.specs.FirstFault.{AreAligned}
use Rattle.lift_blocks.proofs.first_fault.least_unaligned.Given as goal

abbrev pub invariant-loop-relocation : goal.invariant-loop-relocation
invariant-loop-relocation l = AreAligned (take l.relocation-index l.row) l.least
