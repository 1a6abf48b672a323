use Rattle.std.proofs.Common.{◌≡◌, ◌+◌, sym, ◌∙◌, arith}
use Rattle.lift_blocks.specs.Kept.{operation_of}
use Rattle.lower.proofs.Ranges.{first_value, none_go_on, next_value, next_goes, ends_at_end, ends_at, first_run}
use Rattle.lower.proofs.constants.run_on.Goals as goal

pub loop-end-init : goal.loop-end-init
loop-end-init c = record {
  after = omega arith;
  within = omega arith;
  value = first_value c.args.lifted.now.ops c.args.from c.computed-value.result (operation_of c.operation.result) (omega arith) c.operation.ensures.value c.computed-value.ensures;
  run = none_go_on c.args.lifted.now.ops c.args.register (c.args.from + 1);
}

pub loop-end-preserved : goal.loop-end-preserved
loop-end-preserved c = record {
  after = omega arith;
  within = omega arith;
  value = next_value c.args.lifted.now.ops c.args.from c.loop-end.end c.loop-end.value c.computed-value-in-loop-end.result (operation_of c.operation-in-loop-end-2.result) (omega arith) (omega arith) c.operation-in-loop-end-2.ensures.value c.loop-end.invariant.value c.computed-value-in-loop-end.ensures;
  run = next_goes c.args.lifted.now.ops c.args.register (c.args.from + 1) c.loop-end.end (operation_of c.operation-in-loop-end.result) (omega arith) (omega arith) c.operation-in-loop-end.ensures.value c.loop-end.invariant.run (sym c.goes_on.ensures ∙ c.if-goes_on.true);
}

pub returns-else-goes_on-clause-first : goal.returns-else-goes_on-clause-first
returns-else-goes_on-clause-first c =
    first_run c.args.lifted.now.ops c.args.register c.args.from c.loop-end.end c.args.to (operation_of c.operation.result) c.loop-end.invariant.after c.loop-end.invariant.within c.requires.within c.operation.ensures.value
    (rw c.operation.ensures.value at c.requires.begins) c.loop-end.invariant.run
    (ends_at c.args.lifted.now.ops c.args.register c.loop-end.end c.args.to (operation_of c.operation-in-loop-end.result) (omega arith) c.requires.within c.operation-in-loop-end.ensures.value (sym c.goes_on.ensures ∙ c.if-goes_on.false))

pub returns-after-loop-end-clause-first : goal.returns-after-loop-end-clause-first
returns-after-loop-end-clause-first c =
    first_run c.args.lifted.now.ops c.args.register c.args.from c.loop-end.end c.args.to (operation_of c.operation.result) c.loop-end.invariant.after c.loop-end.invariant.within c.requires.within c.operation.ensures.value
    (rw c.operation.ensures.value at c.requires.begins) c.loop-end.invariant.run
    (let same : c.loop-end.end ≡ c.args.to = omega arith in rw same (ends_at_end c.args.lifted.now.ops c.args.register c.args.to))
