use Rattle.std.proofs.Common.{List, sym, ap, subst, ◌∙◌}
use Rattle.page_memory.specs.Pages.{Leaf, page_of, memory_of, IsKept}
use Rattle.page_memory.proofs.TwoLevels.{nothing, ready, kept_there}
use Rattle.page_memory.proofs.Views.{unchanged}
use Rattle.page_memory.proofs.tables.PageTable.reserve.Goals as goal

pub returns-in_err-make_root-clause-same : goal.returns-in_err-make_root-clause-same
returns-in_err-make_root-clause-same c = unchanged _ _ c.make_root.ensures.same

pub returns-in_err-make_leaf-clause-same : goal.returns-in_err-make_leaf-clause-same
returns-in_err-make_leaf-clause-same c = unchanged _ _ c.make_leaf.ensures.same ∙ unchanged _ _ c.make_root.ensures.same

pub returns-in_err-page-clause-same : goal.returns-in_err-page-clause-same
returns-in_err-page-clause-same c = unchanged _ _ c.make_leaf.ensures.same ∙ unchanged _ _ c.make_root.ensures.same

pub returns-else-is_none-clause-same : goal.returns-else-is_none-clause-same
returns-else-is_none-clause-same c = unchanged _ _ c.make_leaf.ensures.same ∙ unchanged _ _ c.make_root.ensures.same

pub returns-in_ok-page-clause-same : goal.returns-in_ok-page-clause-same
returns-in_ok-page-clause-same c =
    let t = c.make_leaf.new.self in
    ap memory_of c.set.ensures
    ∙ ready t c.args.number c.in_ok-page.page c.requires c.in_ok-make_leaf.ensures.place (nothing _ _ _ c.page.ensures c.is_none.ensures c.if-is_none.true) (ap page_of c.in_ok-page.ensures)
    ∙ unchanged _ _ c.make_leaf.ensures.same
    ∙ unchanged _ _ c.make_root.ensures.same

pub returns-in_ok-page-clause-there : goal.returns-in_ok-page-clause-there
returns-in_ok-page-clause-there c = subst (λ (t : List Leaf). IsKept t c.args.number) (sym c.set.ensures) (kept_there c.make_leaf.new.self c.args.number c.in_ok-page.page c.in_ok-make_leaf.ensures.place)
