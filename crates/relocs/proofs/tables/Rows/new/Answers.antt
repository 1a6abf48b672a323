use Rattle.std.proofs.Common.{rules}
use Rattle.relocs.specs.ByOffset.{IsRowOf}
use Rattle.relocs.proofs.ByOffset.{each_more}
use Rattle.relocs.proofs.tables.Rows.new.Goals as goal

pub loop-section-preserved : goal.loop-section-preserved
loop-section-preserved c = record {
  count = search (rules, c.loop-section.invariant.count);
  each = each_more (IsRowOf c.args.object.now) _ _ _ c.loop-section.section c.loop-section.invariant.count c.loop-section.invariant.each c.in_ok-new.ensures c.in_ok-push.ensures.items;
}
