use Rattle.std.proofs.Common.{◌+◌, refl, ap, length, arith}
use Rattle.std.specs.Prelude.{slice_get}
use Rattle.link_core.specs.Faults.{faults_in_file}
use Rattle.link_core.specs.LinkFaults.{of_object}
use Rattle.link_core.proofs.LinkSteps.{file-fails, fails-at, no-faults, objects-more, few-objects}
use Rattle.faults.proofs.Steps.{each_below-zero}
use Rattle.link_core.proofs.linker.read_objects.Goals as goal

pub returns-in_err-read : goal.returns-in_err-read
returns-in_err-read c =
    fails-at _ _ _ (of_object c.in_err-read.field-0.0) c.from_residual.ensures.1
    (file-fails c.args.bundle.now c.loop-at.at c.part.result.now c.in_err-read.field-0.0 (omega (arith, c.loop-at-test.true, c.len-at-end.ensures.count)) c.loop-at.invariant.none c.part.ensures.there c.in_err-read.ensures)

pub loop-at-init : goal.loop-at-init
loop-at-init c = record {
  none = each_below-zero (λ i. faults_in_file i (slice_get c.args.bundle.now i));
  objects = c.new-objects.ensures;
}

pub push-requires : goal.push-requires
push-requires c = omega (arith, few-objects c.args.bundle.now c.loop-at.at, ap length c.loop-at.invariant.objects, c.loop-at-test.true, c.len-at-end.ensures.few)

pub loop-at-preserved : goal.loop-at-preserved
loop-at-preserved c = record {
  none = no-faults c.args.bundle.now c.loop-at.at (c.loop-at.at + 1) _ _ refl c.loop-at.invariant.none c.part.ensures.there c.in_ok-read.ensures;
  objects = objects-more c.args.bundle.now c.loop-at.at (c.loop-at.at + 1) _ _ c.loop-at.objects _ refl c.part.ensures.there c.in_ok-read.ensures c.loop-at.invariant.objects c.in_ok-push.ensures.ok;
}
