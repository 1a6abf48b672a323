use Rattle.std.proofs.Common.{ap, sym, length, arith}
use Rattle.lower.proofs.Numbering.{block_of_first}
use Rattle.lower.proofs.program.block_numbers.Goals as goal

pub loop-at-init : goal.loop-at-init
loop-at-init c = record {
  count = ap length c.new-numbers.ensures.items;
  few = omega arith;
  last = sym (block_of_first c.args.lifted.now.begins);
  each = λ t lt. absurd (omega arith);
}
