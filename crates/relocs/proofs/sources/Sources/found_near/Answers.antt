use Rattle.std.proofs.Common.{arith}
use Rattle.symbols.specs.Parts.{object_at}
use Rattle.relocs.specs.Near.{items_of}
use Rattle.relocs.proofs.Finding.{found_next, found_few, named_next}
use Rattle.relocs.proofs.sources.Sources.found_near.Goals as goal

pub with-found-requires : goal.with-found-requires
with-found-requires g c =
    let few = found_few c.args.offset c.loop-at.at (items_of c.near-relocations.result) c.loop-at.found c.loop-at.invariant.found_is in
    let end = c.len-at-end.type_inv in
    omega (arith, few, c.loop-at-test.true, end)

pub loop-at-preserved : goal.loop-at-preserved
loop-at-preserved g c =
    record {
      found_is = found_next c.args.offset c.loop-at.at (items_of c.near-relocations.result) c.get.result c.loop-at.found _
          c.get.ensures.entry c.loop-at.invariant.found_is c.with-found.ensures;
      named = named_next g.given c.args.object c.args.offset c.get.result c.loop-at.found _ c.loop-at.invariant.named
          (c.get.ensures.named (object_at g.given.objects c.args.object) c.near-relocations.ensures.named) c.with-found.ensures;
    }
