use Rattle.link_core.proofs.LinkSteps.{fails-at}
use Rattle.link_core.proofs.FaultOrder.{object_first, objects_last}
use Rattle.link_core.proofs.linker.link.Goals as goal

pub returns-in_err-objects : goal.returns-in_err-objects
returns-in_err-objects c =
    fails-at _ _ _ c.in_err-objects.field-0.0 c.from_residual.ensures.1
    (object_first c.args.bundle.now c.args.wanted.now c.in_err-objects.field-0.0 c.in_err-objects.ensures)

pub returns : goal.returns
returns c = objects_last c.args.bundle.now c.args.wanted.now c.in_ok-objects.objects c.link_objects.result c.in_ok-objects.ensures.1 c.in_ok-objects.ensures.0 c.link_objects.ensures
