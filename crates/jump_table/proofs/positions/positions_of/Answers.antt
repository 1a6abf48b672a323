use Rattle.std.proofs.Common.{ℕ, ◌*◌, List, ap, ◌∙◌, sym, subst, refl, arith, length}
use Rattle.std.proofs.lemmas.Result.{err_from_is_err_and}
use Rattle.jump_table.specs.Assembly.{entry_len}
use Rattle.jump_table.specs.Lengths.{Below}
use Rattle.jump_table.specs.Shapes.{Wide}
use Rattle.jump_table.proofs.Least.{sum_most}
use Rattle.jump_table.proofs.Shaping.{too_large_entries}
use Rattle.jump_table.proofs.Growing.{starts_small, fronts_small, targets_are, end_refused, are_positions}
use Rattle.jump_table.proofs.positions.positions_of.Goals as goal

pub returns-then-entries : goal.returns-then-entries
returns-then-entries c = too_large_entries c.args.blocks.now c.requires (omega (arith, ap length c.entries-entries.ensures))

pub returns-in_err-end : goal.returns-in_err-end
returns-in_err-end c =
    let p = err_from_is_err_and c.from_residual-in_err-end.result c.from_residual-in_err-end.ensures.1 in
    rw p.1
    (end_refused c.args.blocks.now c.requires _ (omega (arith, ap length c.entries-entries.ensures)) c.in_ok-shapes.shapes.items c.in_ok-shapes.ensures _ c.deref.ensures.value c.loop-starts.lengths.items c.loop-starts.invariant.least
    _ c.deref-in-loop-starts.ensures.value _ p.0 p.2 c.in_err-end.ensures)

pub grow-grown-requires-clause-small : goal.grow-grown-requires-clause-small
grow-grown-requires-clause-small c = rw c.deref-in-loop-starts-3.ensures.value (starts_small _ c.in_ok-end.end _ _ c.place.new.starts.items c.in_ok-end.ensures.0 c.in_ok-end.ensures.1 c.in_ok-end.ensures.2)

pub grow-grown-requires-clause-fronts : goal.grow-grown-requires-clause-fronts
grow-grown-requires-clause-fronts c =
    let same = c.deref-in-loop-starts-2.ensures.value ∙ sym c.deref.ensures.value in
    rw (c.deref-in-loop-starts-3.ensures.value, same) (fronts_small _ c.in_ok-end.end _ _ c.place.new.starts.items c.in_ok-end.ensures.0 c.in_ok-end.ensures.1 c.in_ok-end.ensures.2)

pub grow-grown-requires-clause-targets : goal.grow-grown-requires-clause-targets
grow-grown-requires-clause-targets c =
    targets_are c.args.blocks.now c.requires (entry_len * length c.args.blocks.now.entries) refl c.in_ok-shapes.shapes.items c.in_ok-shapes.ensures c.deref-in-loop-starts-2.result.now c.deref-in-loop-starts-2.ensures.value c.loop-starts.lengths.items c.loop-starts.invariant.least

pub returns-then-grown-eq0 : goal.returns-then-grown-eq0
returns-then-grown-eq0 c =
    let fits = c.grow-grown.ensures.fits c.if-grown-eq0.true in
    let shapes = c.in_ok-shapes.shapes.items in
    let new = c.grow-grown.new.lengths.items in
    let least : (other : List ℕ) → Wide shapes other → Below new other = λ other wide. subst (λ l. Below l other) (sym fits.0) (c.loop-starts.invariant.least other wide) in
    let same = c.deref-in-loop-starts-2.ensures.value ∙ sym c.deref.ensures.value in
    are_positions c.args.blocks.now c.requires _ (omega (arith, ap length c.entries-entries.ensures)) shapes c.in_ok-shapes.ensures c.deref.result.now c.deref.ensures.value new least
    _ c.place.new.starts.items c.in_ok-end.end (c.deref-in-loop-starts.ensures.value ∙ sym fits.0) (c.grow-grown.ensures.count ∙ ap length c.deref-in-loop-starts-2.ensures.value) (subst (λ xs. Wide xs new) same fits.1)
    c.in_ok-end.ensures.0 c.in_ok-end.ensures.1 c.in_ok-end.ensures.2

pub loop-starts-smaller : goal.loop-starts-smaller
loop-starts-smaller c =
    let more = c.grow-grown.ensures.grew (omega (arith, c.if-grown-eq0.false)) in
    let most = sum_most c.grow-grown.new.lengths.items c.grow-grown.ensures.most in
    let count = c.grow-grown.ensures.count ∙ ap length c.deref-in-loop-starts-2.ensures.value in
    omega (arith, more, most, count)

pub settle-requires-clause-targets : goal.settle-requires-clause-targets
settle-requires-clause-targets c =
    targets_are c.args.blocks.now c.requires (entry_len * length c.args.blocks.now.entries) refl c.in_ok-shapes.shapes.items c.in_ok-shapes.ensures c.deref-then-grown-len.result.now c.deref-then-grown-len.ensures.value c.loop-starts.lengths.items c.loop-starts.invariant.least

pub loop-starts-smaller-in-Continue-branch-5 : goal.loop-starts-smaller-in-Continue-branch-5
loop-starts-smaller-in-Continue-branch-5 c =
    let more = c.grow-grown.ensures.grew (omega (arith, c.if-grown-eq0.false)) in
    let settled = c.settle.ensures in
    let most = sum_most c.settle.new.lengths.items (settled.most c.grow-grown.ensures.most) in
    let count = settled.count ∙ c.grow-grown.ensures.count ∙ ap length c.deref-in-loop-starts-2.ensures.value in
    omega (arith, more, settled.more, most, count)
