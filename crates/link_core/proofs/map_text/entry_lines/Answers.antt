use Rattle.std.proofs.Common.{◌+◌, refl, arith}
use Rattle.std.proofs.lemmas.Option.{slice_get-get_or}
use Rattle.link_core.proofs.MapLines.{lines-step}
use Rattle.link_core.proofs.map_text.entry_lines.Goals as goal

pub loop-at-preserved : goal.loop-at-preserved
loop-at-preserved c =
    lines-step c.args.wanted.now.entries c.args.positions.now c.loop-at.at (c.loop-at.at + 1) _ _ c.loop-at.text.items _ refl c.entry_name.ensures
    (slice_get-get_or c.args.positions.now c.loop-at.at 0 (omega (arith, c.loop-at-test.true, c.entries-at-end.ensures, c.requires))) c.loop-at.invariant c.in_ok-push_line.ensures
