use Rattle.std.proofs.Common.{◌≡◌, Some, slice_get, rules}
use Rattle.elf_objects.specs.Objects.{relocations_of}
use Rattle.symbols.specs.Faults.{names_symbol}
use Rattle.symbols.proofs.Marking.{AddsMarks-more}
use Rattle.symbols.proofs.named.mark_relocations.Goals as goal

pub loop-at-preserved : goal.loop-at-preserved
loop-at-preserved c =
    let here : slice_get (relocations_of c.args.object.now c.args.section) c.loop-at.at ≡ Some c.relocation.result = search rules in
    AddsMarks-more c.args.marks.now c.loop-at.marks _ names_symbol (relocations_of c.args.object.now c.args.section) c.loop-at.at c.relocation.result c.loop-at.auto.marks here c.loop-at.invariant c.mark.ensures
