use Rattle.std.proofs.lemmas.Bool.Decides.{nat_tests}
use Rattle.std.proofs.Common.{◌≡◌, length, sym, arith, ◌∙◌}
use Rattle.page_memory.proofs.TwoLevels.{no_places, none_of}
use Rattle.page_memory.proofs.tables.PageTable.make_root.Goals as goal

pub returns-in_ok-self-inside-clause-same : goal.returns-in_ok-self-inside-clause-same
returns-in_ok-self-inside-clause-same c =
    let none : length c.self.inside.leaves.items ≡ 0 = grind (arith, nat_tests, c.is_empty.ensures, c.if-is_empty.true, c.self.inside.leaves.ok.0) in
    no_places _ _ (sym c.self.view_is ∙ none_of _ none) c.in_ok-self-inside.ensures
