use Rattle.std.proofs.Common.{sym, subst}
use Rattle.link_core.specs.Linked.{IsLinked}
use Rattle.polkatool_cmd.proofs.Execing.{one_container}
use Rattle.polkatool_cmd.proofs.generate.generate.Goals as goal

pub run_generated-requires : goal.run_generated-requires
run_generated-requires g c =
    let holds = c.in-Ok.ensures in
    subst (IsLinked _)
    (sym (one_container c.container.result.now c.in-Ok.linked.container c.linked_container-container.result holds.container c.container.ensures holds.spelled holds.is_linked.fits c.linked_container-container.ensures))
    holds.is_linked
