use Rattle.std.proofs.Common.{sym, ◌∙◌}
use Rattle.symbols.specs.Wanted.{given_of}
use Rattle.symbols.proofs.DefinitionsThere.{is_meaning}
use Rattle.symbols.proofs.link.Link.meaning.Goals as goal

pub returns : goal.returns
returns c = is_meaning (given_of c.args.self.now.objects.now c.args.self.now.wanted.now) c.args.name.now c.get.result (sym (c.args.self.now.meanings.meanings_are c.args.name.now) ∙ sym c.get.ensures)
