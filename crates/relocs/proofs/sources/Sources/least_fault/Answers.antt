use Rattle.relocs.specs.Near.{items_of}
use Rattle.symbols.specs.Parts.{object_at}
use Rattle.relocs.specs.Operands.{relocation_fault}
use Rattle.relocs.proofs.Least.{least_next}
use Rattle.relocs.proofs.sources.Sources.least_fault.Goals as goal

pub relocation_fault_at-requires : goal.relocation_fault_at-requires
relocation_fault_at-requires g c = (c.requires.0, (c.requires.1, c.get-relocation.ensures.named (object_at g.given.objects c.args.object) c.near-relocations.ensures.named))

pub loop-at-preserved : goal.loop-at-preserved
loop-at-preserved g c =
    least_next (relocation_fault g.given c.args.object c.args.section) c.args.offset c.loop-at.at (items_of c.near-relocations.result) c.get-relocation.result
    c.loop-at.least _ c.relocation_fault_at.result c.get-relocation.ensures.entry c.loop-at.invariant c.relocation_fault_at.ensures c.lesser-least.ensures
