use Rattle.std.proofs.Common.{◌+◌, drop, map, arith}
use Rattle.std.proofs.lemmas.Option.{slice_get-get_or}
use Rattle.lift_blocks.specs.Kept.{operation_of}
use Rattle.lift_blocks.specs.Listing.{begins_from}
use Rattle.lift_blocks.proofs.ListedOps.{begins_more, listed_next}
use Rattle.lift_blocks.proofs.listing.begins.Goals as goal

pub loop-at-preserved : goal.loop-at-preserved
loop-at-preserved c =
    let ops = c.args.ops.now in
    let targeted = c.args.targeted.now in
    let at = c.loop-at.at in
    let more = begins_from c.ends_block-ended.result (drop (at + 1) targeted) (map operation_of (drop (at + 1) ops)) in
    listed_next c.loop-at.begins.items c.push.new.self.items (begins_from c.loop-at.ended (drop at targeted) (map operation_of (drop at ops))) more _ c.either.result
    c.loop-at.invariant c.in_ok-push.ensures.items
    (begins_more c.loop-at.ended c.either.result c.ends_block-ended.result targeted ops at _ (slice_get-get_or ops at _ (omega arith)) c.requires c.either.ensures c.ends_block-ended.ensures)
