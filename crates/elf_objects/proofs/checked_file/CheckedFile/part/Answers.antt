use Rattle.std.proofs.Common.{arith}
use Rattle.elf_objects.proofs.Places.{first_part, part_leads}
use Rattle.elf_objects.proofs.checked_file.CheckedFile.part.Goals as goal

pub part_at-requires-clause-some : goal.part_at-requires-clause-some
part_at-requires-clause-some c =
    let within = rw (← c.self.view_is) at c.requires.section in
    let lt = rw (← c.self.view_is) at c.requires.at in
    (first_part c.self.inside.tables.file.bytes.now c.self.inside.rows.items c.args.section c.args.at _ _ c.self.invariant.indexed within lt c.index-row.ensures c.deref.ensures.value).0

pub part_at-requires-clause-first : goal.part_at-requires-clause-first
part_at-requires-clause-first c =
    let within = rw (← c.self.view_is) at c.requires.section in
    let lt = rw (← c.self.view_is) at c.requires.at in
    let first = (first_part c.self.inside.tables.file.bytes.now c.self.inside.rows.items c.args.section c.args.at _ _ c.self.invariant.indexed within lt c.index-row.ensures c.deref.ensures.value).1 in
    omega (arith, first)

pub returns : goal.returns
returns c =
    let within = rw (← c.self.view_is) at c.requires.section in
    let lt = rw (← c.self.view_is) at c.requires.at in
    let here = rw (← c.deref.ensures.value) at c.index.ensures in
    rw (← c.self.view_is) (part_leads c.self.inside.tables.file.bytes.now c.self.inside.rows.items c.args.section c.args.at _ _ _ _ c.self.invariant.indexed within lt c.index-row.ensures c.deref.ensures.value c.part_at.ensures here)
