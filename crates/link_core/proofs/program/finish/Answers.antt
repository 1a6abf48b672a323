use Rattle.std.proofs.Common.{ℕ, sym, ap, ◌∙◌, ◌++◌, subst, length, map}
use Rattle.std.specs.Prelude.{slice_index}
use Rattle.std.proofs.lemmas.List.{length-map}
use Rattle.layout.specs.Addresses.{got_of}
use Rattle.jump_table.specs.Laws.{IsAssemblable}
use Rattle.jump_table.specs.Assembling.{Assembles}
use Rattle.lower.specs.Lowering.{lowered_blocks}
use Rattle.link_core.specs.MapText.{entry_lines, data_lines, got_line, code_lines}
use Rattle.link_core.proofs.Containers.{spelled_is, holds, entries_len}
use Rattle.link_core.proofs.program.finish.Goals as goal

pub write-requires : goal.write-requires
write-requires c =
    spelled_is c.args.input.now c.args.lifted c.requires.lifted c.args.images.now c.requires.images c.args.program.now (subst (λ b. Assembles b c.args.program.now) c.requires.blocks c.requires.program)
    c.images_have_lengths.ensures c.map-map.ensures.few c.fits.ensures.no_layout_fault c.fits.ensures.stack

pub map_text-requires-clause-entries : goal.map_text-requires-clause-entries
map_text-requires-clause-entries c =
    ap length c.deref.ensures.value ∙ ap length c.in_ok-entries.ensures ∙ length-map c.args.blocks.now.entries (λ block. slice_index c.args.program.now.starts block) ∙ ap (λ b. length b.entries) c.requires.blocks
    ∙ entries_len c.args.input.now c.args.lifted c.requires.lifted c.args.images.now c.requires.images c.args.program.now (subst (λ b. Assembles b c.args.program.now) c.requires.blocks c.requires.program)

pub returns : goal.returns
returns c =
    let given = c.args.input.now in
    let assembled = c.args.program.now in
    let start : ℕ → ℕ = λ block. slice_index assembled.starts block in
    let assembles = subst (λ b. Assembles b assembled) c.requires.blocks c.requires.program in
    let assemblable = subst IsAssemblable c.requires.blocks c.requires.assemblable in
    holds given c.args.lifted c.requires.lifted c.args.images.now c.requires.images assembled assembles
    c.linked_agrees.ensures c.images_have_lengths.ensures c.map-map.ensures.few c.fits.ensures.no_layout_fault c.fits.ensures.stack
    assemblable.entries _
    c.in_ok-container.ensures c.into_map.ensures
    (c.in_ok-text.ensures
    ∙ ap (λ ps. entry_lines 0 given.wanted.entries ps ++ data_lines given ++ got_line (got_of given) ++ code_lines given 0 c.map-map.result.now c.table.result.now)
    (c.deref.ensures.value ∙ c.in_ok-entries.ensures ∙ ap (λ b. map start b.entries) c.requires.blocks)
    ∙ ap (λ m. entry_lines 0 given.wanted.entries (map start (lowered_blocks c.args.lifted).entries) ++ data_lines given ++ got_line (got_of given) ++ code_lines given 0 m c.table.result.now) c.map-map.ensures.value
    ∙ ap (λ t. entry_lines 0 given.wanted.entries (map start (lowered_blocks c.args.lifted).entries) ++ data_lines given ++ got_line (got_of given) ++ code_lines given 0 c.args.lifted.map t) c.table.ensures)
