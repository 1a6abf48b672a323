use Rattle.std.proofs.Common.{◌≡◌, sym, ap, ◌∙◌, arith}
use Rattle.std.specs.Prelude.{slice_range}
use Rattle.lower.specs.Building.{extended}
use Rattle.lower.specs.Lowering.{part_instrs}
use Rattle.lower.proofs.Building.{still_some, none_is_left, one_part_less}
use Rattle.lower.proofs.block.add_operations.Goals as goal

pub loop-at-preserved : goal.loop-at-preserved
loop-at-preserved c = record {
  within = c.in_ok-at.ensures.within;
  some = still_some _ _ _ c.in_ok-at.ensures.added c.loop-at.invariant.some;
  left = one_part_less c.args.lifted.now.needed c.args.lifted.now.ops c.loop-at.at c.in_ok-at.at c.args.to c.loop-at.blocks c.add_next.new.blocks c.in_ok-at.ensures.first c.in_ok-at.ensures.added ∙ c.loop-at.invariant.left;
}

pub returns : goal.returns
returns c =
    let same : c.loop-at.at ≡ c.args.to = omega arith in
    sym (none_is_left c.args.lifted.now.needed c.args.lifted.now.ops c.args.to c.loop-at.blocks)
    ∙ ap (λ at. extended (part_instrs c.args.lifted.now.needed (slice_range c.args.lifted.now.ops at c.args.to)) c.loop-at.blocks) (sym same)
    ∙ c.loop-at.invariant.left
