use Rattle.std.proofs.Common.{◌≤◌, rules, arith}
use Rattle.relocs.proofs.ByOffset.{rise, part}
use Rattle.relocs.proofs.rows.at_offset_in.Goals as goal

pub slice_bounds-result-count : goal.slice_bounds-result-count
slice_bounds-result-count c = rise c.args.row.now c.args.offset _ _ _ _ c.from.ensures (omega (arith, c.from-2.ensures)) c.bound-first.ensures c.bound-last.ensures

pub slice_bounds-result-start : goal.slice_bounds-result-start
slice_bounds-result-start c =
    let le : c.bound-first.result ≤ c.bound-last.result = rise c.args.row.now c.args.offset _ _ _ _ c.from.ensures (omega (arith, c.from-2.ensures)) c.bound-first.ensures c.bound-last.ensures in
    let within = c.bound-first.ensures.within in
    let end = c.bound-last.ensures.within in
    search (rules, le, within, end)

pub returns : goal.returns
returns c = part c.args.row.now c.args.offset _ _ _ _ c.from.ensures (omega (arith, c.from-2.ensures)) c.bound-first.ensures c.bound-last.ensures
