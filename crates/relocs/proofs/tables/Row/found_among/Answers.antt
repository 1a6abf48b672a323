use Rattle.std.proofs.Common.{refl}
use Rattle.relocs.specs.ByOffset.{calls}
use Rattle.relocs.specs.Sites.{gives_high}
use Rattle.relocs.proofs.Parting.{part_at, part_rises}
use Rattle.relocs.proofs.tables.Row.found_among.Goals as goal

pub at_offset-requires : goal.at_offset-requires
at_offset-requires c = part_rises calls c.args.self.now.relocations c.args.self.now.calls _ c.requires.parts.rises c.requires.parts.calls_are (cc)

pub at_offset-requires-2 : goal.at_offset-requires-2
at_offset-requires-2 c = part_rises gives_high c.args.self.now.relocations c.args.self.now.highs _ c.requires.parts.rises c.requires.parts.highs_are (cc)

pub of-requires-clause-calls : goal.of-requires-clause-calls
of-requires-clause-calls c = part_at calls c.args.offset c.args.self.now.relocations c.args.self.now.calls c.args.self.now.relocations _ _ _ c.requires.parts.calls_are refl (cc) c.requires.row c.at_offset.ensures

pub of-requires-clause-highs : goal.of-requires-clause-highs
of-requires-clause-highs c = part_at gives_high c.args.offset c.args.self.now.relocations c.args.self.now.highs c.args.self.now.relocations _ _ _ c.requires.parts.highs_are refl (cc) c.requires.row c.at_offset-2.ensures
