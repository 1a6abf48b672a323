use Rattle.std.proofs.Common.{◌+◌, ◌∙◌, arith, get_or, length}
use Rattle.std.proofs.lemmas.List.{length-set}
use Rattle.std.proofs.lemmas.Option.{slice_get-get_or}
use Rattle.std.proofs.lemmas.Result.{err_from_is_err_and}
use Rattle.jump_table.specs.Shapes.{start}
use Rattle.jump_table.proofs.Least.{start_zero, start_more, start_le, at_set, no_shape}
use Rattle.jump_table.proofs.positions.place.Goals as goal

pub loop-at-init : goal.loop-at-init
loop-at-init c = record {
  count = c.requires.starts;
  are = λ t lt. absurd (omega arith);
  end = omega (arith, start_zero c.args.shapes.now c.args.lengths.now);
  small = c.requires.base;
}

pub returns-in_err-end : goal.returns-in_err-end
returns-in_err-end c =
    let p = err_from_is_err_and c.from_residual.result c.from_residual.ensures.1 in
    let is = slice_get-get_or c.args.shapes.now c.loop-at.at no_shape c.loop-at-test.true in
    let more = start_more c.args.shapes.now c.args.lengths.now c.loop-at.at (get_or c.args.shapes.now c.loop-at.at no_shape) is in
    let le = start_le c.args.shapes.now c.args.lengths.now (c.loop-at.at + 1) (length c.args.shapes.now) (omega (arith, c.loop-at-test.true)) in
    rw p.1 (p.2 ∙ c.in_err-end.ensures.0, omega (arith, c.in_err-end.ensures.1, c.loop-at.invariant.end, more, le))

pub loop-at-preserved : goal.loop-at-preserved
loop-at-preserved c =
    let is = slice_get-get_or c.args.shapes.now c.loop-at.at no_shape c.loop-at-test.true in
    let more = start_more c.args.shapes.now c.args.lengths.now c.loop-at.at (get_or c.args.shapes.now c.loop-at.at no_shape) is in
    record {
      count = length-set _ _ _ ∙ c.loop-at.invariant.count;
      are = at_set c.loop-at.starts.items c.loop-at.at c.loop-at.end (λ t. c.args.base + start c.args.shapes.now c.args.lengths.now t) (omega (arith, c.loop-at.invariant.count, c.loop-at-test.true)) c.loop-at.invariant.are c.loop-at.invariant.end;
      end = omega (arith, c.in_ok-end.ensures.0, c.loop-at.invariant.end, more);
      small = c.in_ok-end.ensures.1;
    }
