use Rattle.std.proofs.Common.{◌++◌}
use Rattle.symbols.specs.Faults.{symbol_faults}
use Rattle.layout.specs.Faults.{layout_faults}
use Rattle.link_core.specs.Faults.{content_faults}
use Rattle.link_core.specs.LinkFaults.{of_symbols, of_layout}
use Rattle.link_core.proofs.LinkSteps.{fails-at}
use Rattle.link_core.proofs.FaultOrder.{given_with, refused_before, symbols_refused, layout_refused, layout_first, content_last}
use Rattle.link_core.proofs.linker.link_objects.Goals as goal

pub returns-in_err-resolved : goal.returns-in_err-resolved
returns-in_err-resolved c =
    let given = given_with c.args.objects.now c.args.wanted.now in
    let fault = c.in_err-resolved.field-0.0 in
    fails-at _ _ _ (of_symbols fault) c.from_residual.ensures.1
    (refused_before (symbol_faults given) (layout_faults given ++ content_faults given) given (of_symbols fault) (symbols_refused given fault c.in_err-resolved.ensures))

pub returns-in_err-placed : goal.returns-in_err-placed
returns-in_err-placed c =
    let given = given_with c.args.objects.now c.args.wanted.now in
    let fault = c.in_err-placed.field-0.0 in
    fails-at _ _ _ (of_layout fault) c.from_residual-in_err-placed.ensures.1
    (layout_first given (of_layout fault) c.in_ok-resolved.ensures.1 (layout_refused given fault c.in_err-placed.ensures))

pub returns : goal.returns
returns c = content_last (given_with c.args.objects.now c.args.wanted.now) c.new.result c.link_input.result c.new.ensures c.in_ok-resolved.ensures.1 c.in_ok-placed.ensures.no_fault c.link_input.ensures
