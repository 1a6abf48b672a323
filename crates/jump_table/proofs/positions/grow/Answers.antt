use Rattle.std.proofs.Common.{arith, ◌≡◌, ◌<◌, length}
use Rattle.std.specs.Prelude.{slice_index}
use Rattle.std.proofs.lemmas.Option.{slice_get-get_or}
use Rattle.std.proofs.lemmas.List.{get_or_read}
use Rattle.jump_table.proofs.Least.{sweep_raised, sweep_kept, sweep_end}
use Rattle.jump_table.proofs.positions.grow.Goals as goal
use Rattle.jump_table.proofs.positions.grow.Goals.{then-len-index, else-len-index}

pub loop-at-preserved : goal.loop-at-preserved
loop-at-preserved c =
    let is = slice_get-get_or c.args.shapes.now c.loop-at.at _ c.loop-at-test.true in
    let within : c.loop-at.at < length c.loop-at.lengths.items = omega (arith, c.loop-at.invariant.count, c.loop-at-test.true) in
    let read : c.index.result.now ≡ slice_index c.loop-at.lengths.items c.loop-at.at = get_or_read c.loop-at.lengths.items c.loop-at.at c.index.result.now within c.index.ensures 0 in
    elim c.if-len-index.branch [
      | then-len-index w ↦
          rw (w.lengths-is, w.grown-is)
          (sweep_raised _ _ _ _ _ _ _ _ _ c.requires.starts.1 c.requires.targets c.loop-at-test.true is c.loop-at.invariant c.wanted_len-len.ensures (omega (arith, read, w.if-len-index.true)))
      | else-len-index w ↦
          rw (w.lengths-is, w.grown-is)
          (sweep_kept _ _ _ _ _ _ _ _ _ c.requires.starts.1 c.requires.targets c.loop-at-test.true is c.loop-at.invariant c.wanted_len-len.ensures (omega (arith, read, w.if-len-index.false)))
    ]

pub returns-clause-fits : goal.returns-clause-fits
returns-clause-fits c e = sweep_end _ _ _ _ _ c.loop-at.invariant e c.loop-at-test.false
