use Rattle.std.proofs.Common.{◌≡◌, ◌<◌, ◌/◌, length, arith, sym}
use Rattle.pvm_ops.proofs.NextMark.{Lowest, skip-is, first_is_marked, first_is_not_marked}
use Rattle.pvm_ops.proofs.code.Code.skip.Goals as goal

pub returns-then-marks-eq0 : goal.returns-then-marks-eq0
returns-then-marks-eq0 c = first_is_not_marked c.args.self.now c.args.at c.marks-marks.result (omega arith) c.marks-marks.ensures c.if-marks-eq0.true

pub returns : goal.returns
returns c =
    let inside : c.args.at < length c.args.self.now.bytes = omega arith in
    let place : Lowest (c.marks-marks.result / 2) c.first_mark.result = record { bound = c.first_mark.ensures.bound; below = c.first_mark.ensures.below; here = c.first_mark.ensures.here } in
    (first_is_marked c.args.self.now c.args.at c.marks-marks.result inside c.marks-marks.ensures c.if-marks-eq0.false, inside, sym (skip-is c.args.self.now c.args.at c.marks-marks.result c.first_mark.result c.marks-marks.ensures place), c.first_mark.ensures.bound)
