use Rattle.std.proofs.Common.{◌<◌}
use Rattle.elf_objects.specs.Symbols.{symbol_count}
use Rattle.elf_objects.proofs.Records.{length-symbols_of, slice_get-symbols_of}
use Rattle.elf_objects.proofs.object.Object.symbol.Goals as goal

pub symbol-requires : goal.symbol-requires
symbol-requires c = rw (← length-symbols_of c.self.inside.file) (rw (← c.self.view_is) at c.requires)

pub returns-clause-shows : goal.returns-clause-shows
returns-clause-shows c =
    let b = c.self.inside.file in
    let within : c.args.at < symbol_count b = rw (← c.self.view_is, length-symbols_of b) at c.requires in
    rw (← c.self.view_is, slice_get-symbols_of b c.args.at within) c.symbol.ensures.shows
