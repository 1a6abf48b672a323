use Rattle.std.proofs.Common.{sym, ap, ◌∙◌, subst}
use Rattle.jump_table.specs.Laws.{IsAssemblable}
use Rattle.jump_table.specs.Assembling.{Assembles}
use Rattle.link_core.specs.LinkFaults.{of_code, of_data}
use Rattle.link_core.proofs.LinkSteps.{fails-at}
use Rattle.link_core.proofs.FaultOrder.{code_first, data_first, size_refused, has_none}
use Rattle.link_core.proofs.program.link_input.Goals as goal

pub returns-in_err-lifted : goal.returns-in_err-lifted
returns-in_err-lifted c =
    fails-at _ _ _ (of_code c.in_err-lifted.field-0.0) c.from_residual.ensures.1 (code_first c.args.input.now c.in_err-lifted.field-0.0 c.in_err-lifted.ensures)

pub assemble_blocks-requires : goal.assemble_blocks-requires
assemble_blocks-requires c =
    let given = c.args.input.now in
    let is = c.in_ok-lifted.ensures.is in
    subst IsAssemblable (sym c.in_ok-blocks.ensures) (c.blocks_are_implemented.ensures.placeable given c.in_ok-lifted.lifted is).0

pub returns-in_err-program : goal.returns-in_err-program
returns-in_err-program c =
    fails-at _ _ _ c.in_err-program.field-0.0 c.from_residual-in_err-program.ensures.1
    (size_refused c.args.input.now c.in_ok-lifted.lifted c.in_ok-lifted.ensures.is c.in_ok-blocks.blocks c.in_err-program.field-0.0 c.in_ok-blocks.ensures c.in_ok-lifted.ensures.no_fault c.in_ok-images.ensures.no_fault c.in_err-program.ensures)

pub finish-requires-clause-assemblable : goal.finish-requires-clause-assemblable
finish-requires-clause-assemblable c =
    let given = c.args.input.now in
    let is = c.in_ok-lifted.ensures.is in
    subst IsAssemblable (sym c.in_ok-blocks.ensures) (c.blocks_are_implemented.ensures.placeable given c.in_ok-lifted.lifted is).0

pub returns : goal.returns
returns c =
    let given = c.args.input.now in (
      has_none given c.in_ok-lifted.lifted c.in_ok-lifted.ensures.is c.lifted_is_one.ensures c.in_ok-program.program c.in_ok-lifted.ensures.no_fault c.in_ok-images.ensures.no_fault
          (subst (λ b. Assembles b c.in_ok-program.program) c.in_ok-blocks.ensures c.in_ok-program.ensures),
      c.in_ok-finish.ensures,
    )
