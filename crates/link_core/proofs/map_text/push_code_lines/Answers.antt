use Rattle.std.proofs.Common.{◌+◌, refl, arith}
use Rattle.std.proofs.lemmas.Option.{slice_get-get_or}
use Rattle.link_core.proofs.MapLines.{code_lines-none, code_lines-step, code_lines-all}
use Rattle.link_core.proofs.map_text.push_code_lines.Goals as goal

pub loop-at-init : goal.loop-at-init
loop-at-init c = code_lines-none c.args.input.now c.args.text.now.items c.args.map.now c.args.table.now

pub loop-at-preserved : goal.loop-at-preserved
loop-at-preserved c =
    code_lines-step c.args.input.now c.args.map.now c.args.table.now c.loop-at.at _ _ c.args.text.now.items c.loop-at.text.items _ c.place.ensures.place
    (slice_get-get_or c.args.table.now c.loop-at.at 0 (omega (arith, c.loop-at-test.true, c.len-at-end.ensures, c.requires.same))) c.loop-at.invariant c.in_ok-push_code_line.ensures
