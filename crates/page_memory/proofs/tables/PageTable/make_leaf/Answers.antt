use Rattle.std.proofs.Common.{◌≡◌, ◌/◌, length, sym, ap, arith, ◌∙◌}
use Rattle.std.specs.Prelude.{None, slice_index_or}
use Rattle.page_memory.specs.Pages.{Leaf}
use Rattle.page_memory.proofs.TwoLevels.{fresh}
use Rattle.page_memory.proofs.tables.PageTable.make_leaf.Goals as goal

pub returns-clause-same : goal.returns-clause-same
returns-clause-same c =
    let t = c.self.inside.leaves.items in
    let at = c.args.number / 1024 in
    let all : length t ≡ 1024 = ap length c.self.view_is ∙ c.requires.made in
    let none : slice_index_or t at None ≡ None = ap (λ (d : Leaf). slice_index_or t at d) (sym c.in_default.is) ∙ sym c.index.ensures ∙ c.in_default.is in
    rw (← c.self.view_is) (fresh t at c.in_ok-leaf.leaf (omega (arith, all, c.requires.within)) none c.in_ok-leaf.ensures)
