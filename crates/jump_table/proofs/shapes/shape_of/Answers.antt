use Rattle.std.proofs.Common.{ℕ, ap, arith, Option}
use Rattle.std.proofs.lemmas.Result.{err_from_is_err_and}
use Rattle.jump_table.specs.Assembly.{offset_len}
use Rattle.jump_table.specs.Shapes.{offset_bytes}
use Rattle.jump_table.proofs.Shaping.{some_instrs, front_placeable, last_placeable, front_refused, last_bytes}
use Rattle.jump_table.proofs.shapes.shape_of.Goals as goal

pub overflow_sub-count : goal.overflow_sub-count
overflow_sub-count c = some_instrs c.args.blocks.now c.requires.assemblable c.args.block c.requires.block _ c.block-instrs.ensures

pub size_of-requires : goal.size_of-requires
size_of-requires c = front_placeable c.args.blocks.now c.requires.assemblable c.args.block c.requires.block _ c.block-instrs.ensures

pub returns-in_err-front : goal.returns-in_err-front
returns-in_err-front c =
    let p = err_from_is_err_and c.from_residual.result c.from_residual.ensures.1 in
    rw p.1 (front_refused c.args.blocks.now c.requires.assemblable c.args.block c.requires.block _ c.block-instrs.ensures _ p.0 p.2 c.in_err-front.ensures)

pub bounds-instrs-count : goal.bounds-instrs-count
bounds-instrs-count c = omega (arith, some_instrs c.args.blocks.now c.requires.assemblable c.args.block c.requires.block c.block-instrs.result.now c.block-instrs.ensures)

pub length-requires-clause-known : goal.length-requires-clause-known
length-requires-clause-known c = (last_placeable c.args.blocks.now c.requires.assemblable c.args.block c.requires.block c.block-instrs.result.now c.block-instrs.ensures).known

pub length-requires-clause-encodable : goal.length-requires-clause-encodable
length-requires-clause-encodable c = (last_placeable c.args.blocks.now c.requires.assemblable c.args.block c.requires.block c.block-instrs.result.now c.block-instrs.ensures).encodable

pub overflow_sub-last : goal.overflow_sub-last
overflow_sub-last c =
    let enough = last_bytes c.args.blocks.now c.requires.assemblable c.args.block c.requires.block c.block-instrs.result.now c.block-instrs.ensures in
    let target = ap (λ (o : Option ℕ). offset_bytes o offset_len) c.target-target.ensures in
    omega (arith, enough, target, c.offset_bytes.ensures, c.length.ensures.value)
