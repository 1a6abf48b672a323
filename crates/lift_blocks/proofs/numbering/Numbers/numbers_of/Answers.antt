use Rattle.std.proofs.Common.{map, arith}
use Rattle.lift_blocks.specs.declared.site.Site.TheVariants.{Code}
use Rattle.lift_blocks.specs.Kept.{site_of}
use Rattle.lift_blocks.proofs.Finding.{mapped_at}
use Rattle.lift_blocks.proofs.ListedOps.{numbers_more}
use Rattle.lift_blocks.proofs.numbering.Numbers.numbers_of.Goals as goal

pub loop-at-preserved : goal.loop-at-preserved
loop-at-preserved c =
    numbers_more (map site_of c.args.self.now.places.now) (map site_of c.args.these.now) c.loop-at.found.items c.push.new.self.items c.loop-at.at _ c.in_ok-number.number
    (mapped_at c.args.these.now c.loop-at.at (Code 0 0 0) (omega arith)) c.loop-at.invariant c.in_ok-number.ensures c.in_ok-push.ensures.items
