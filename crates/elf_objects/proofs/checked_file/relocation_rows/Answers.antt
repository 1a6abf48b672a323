use Rattle.std.proofs.Common.{◌≡◌, ◌/◌, arith, refl, add-one, length, true, false}
use Rattle.elf_objects.specs.Headers.{header_of}
use Rattle.elf_objects.specs.Relocations.{entry_count, is_rela}
use Rattle.elf_objects.proofs.Rows.{indexed-start, indexed-skip, indexed-take, rela-info}
use Rattle.elf_objects.proofs.checked_file.relocation_rows.Goals as goal
use Rattle.elf_objects.proofs.checked_file.relocation_rows.Goals.{then-is_rela+in_ok-room+in_ok-add_part, else-is_rela}

pub loop-section-init : goal.loop-section-init
loop-section-init c =
    let e = c.args.tables.now.file.has_table.counts in
    indexed-start _ _ (rw (← e) c.in_ok-rows.ensures)

pub add_part-requires : goal.add_part-requires
add_part-requires c =
    let b = c.args.tables.now.file.bytes.now in
    let is : is_rela b c.loop-section.section ≡ true = cc in
    let small = rela-info b c.loop-section.section is in
    let long = c.loop-section.invariant.long in
    rw c.header-header.ensures (omega (arith, small, long))

pub loop-section-preserved : goal.loop-section-preserved
loop-section-preserved c =
    let b = c.args.tables.now.file.bytes.now in
    elim c.if-is_rela.branch [
      | then-is_rela+in_ok-room+in_ok-add_part w ↦
          (let is : is_rela b c.loop-section.section ≡ true = cc in
          let info : (header_of b c.loop-section.section).info ≡ w.header-header.result.info = rw w.header-header.ensures refl in
          let entries : entry_count b c.loop-section.section ≡ length w.content.result.now / 24 = rw (w.content.ensures.bytes, w.header-header.ensures) refl in
          rw (w.rows-is, add-one) (indexed-take b _ _ c.loop-section.section _ _ is info entries c.loop-section.invariant w.in_ok-add_part.ensures))
      | else-is_rela w ↦
          (let isnt : is_rela b c.loop-section.section ≡ false = cc in
          rw (w.rows-is, add-one) (indexed-skip b _ c.loop-section.section isnt c.loop-section.invariant))
    ]
