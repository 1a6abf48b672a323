use Rattle.std.proofs.Common.{◌≡◌, ap, sym, subst, rules}
use Rattle.std.specs.Prelude.{unwrap_or}
use Rattle.symbols.specs.Parts.{object_at, no_object}
use Rattle.relocs.specs.ByOffset.{HasRows}
use Rattle.relocs.proofs.ByOffset.{each_more}
use Rattle.relocs.proofs.tables.Tables.new.Goals as goal

pub loop-object-preserved : goal.loop-object-preserved
loop-object-preserved c =
    let there : object_at c.args.objects.now c.loop-object.object ≡ c.object.result.now = ap (λ x. unwrap_or x no_object) c.object.ensures in
    record {
      count = search (rules, c.loop-object.invariant.count);
      each = each_more (λ o rows. HasRows (object_at c.args.objects.now o) rows) _ _ _ c.loop-object.object c.loop-object.invariant.count c.loop-object.invariant.each
          (subst (λ x. HasRows x c.in_ok-new.field-0) (sym there) c.in_ok-new.ensures) c.in_ok-push.ensures.items;
    }
