use Rattle.std.proofs.Common.{◌≡◌, ℕ, ◌+◌, ◌<◌, ◌≤◌, length, Some, slice_index_or, arith}
use Rattle.std.specs.Prelude.{slice_get}
use Rattle.std.proofs.lemmas.Option.{slice_get-get_or}
use Rattle.jump_table.proofs.Least.{no_shape}
use Rattle.jump_table.proofs.Lengthening.{place_small, front_small, shift_within, span_is}
use Rattle.jump_table.proofs.settling.Places.span.Goals as goal

pub position-requires-clause-small : goal.position-requires-clause-small
position-requires-clause-small c = place_small _ _ _ c.requires.placed.1 c.args.block c.requires.block

pub overflow_add-result : goal.overflow_add-result
overflow_add-result c =
    let there = slice_get-get_or c.args.shapes.now c.args.block no_shape c.requires.block in
    let small = front_small _ _ _ c.requires.placed.1 c.args.block _ there c.requires.block in
    omega (arith, small, c.position.ensures)

pub position-requires-2-clause-start : goal.position-requires-2-clause-start
position-requires-2-clause-start c =
    let there = slice_get-get_or c.args.shapes.now c.args.block no_shape c.requires.block in
    omega (arith, c.requires.placed.1.targets c.args.block c.in-Some.target _ there c.in-Some.is, c.requires.placed.1.starts_count)

pub position-requires-2-clause-shift : goal.position-requires-2-clause-shift
position-requires-2-clause-shift c =
    let there = slice_get-get_or c.args.shapes.now c.args.block no_shape c.requires.block in
    shift_within _ _ _ c.requires.placed.1 c.in-Some.target (c.requires.placed.1.targets c.args.block c.in-Some.target _ there c.in-Some.is)

pub position-requires-2-clause-small : goal.position-requires-2-clause-small
position-requires-2-clause-small c =
    let there = slice_get-get_or c.args.shapes.now c.args.block no_shape c.requires.block in
    place_small _ _ _ c.requires.placed.1 c.in-Some.target (c.requires.placed.1.targets c.args.block c.in-Some.target _ there c.in-Some.is)

pub returns : goal.returns
returns c =
    let there = slice_get-get_or c.args.shapes.now c.args.block no_shape c.requires.block in
    span_is _ _ _ c.requires.placed.1 c.args.block _ c.in-Some.target _ there c.requires.block c.in-Some.is (omega (arith, c.position.ensures)) c.position-2.ensures
