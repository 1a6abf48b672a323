use Rattle.std.proofs.Common.{◌≡◌, ◌==◌, true, false, refl, sym, arith, eq-eqb}
use Rattle.std.proofs.lemmas.Bool.Decides.{nat_tests}
use Rattle.faults.proofs.Firsts.{least_below-more, least_below-found, least_below-zero}
use Rattle.elf_objects.specs.Headers.{header_of, section_count}
use Rattle.elf_objects.specs.Sections.{symbol_table}
use Rattle.elf_objects.proofs.tables.symbol_table.Goals as goal

pub loop-section-init : goal.loop-section-init
loop-section-init c = least_below-zero _

pub returns-then-header-eq-SYMTAB-clause-first : goal.returns-then-header-eq-SYMTAB-clause-first
unfolding symbol_table
returns-then-header-eq-SYMTAB-clause-first c =
    let here : ((header_of c.args.file.now.bytes.now c.loop-section.section).kind == 2) ≡ true = rw (← c.header.ensures) (eq-eqb _ _ c.if-header-eq-SYMTAB.true) in
    sym (least_below-found _ (section_count c.args.file.now.bytes.now) _ (omega arith) c.loop-section.invariant here)

pub loop-section-preserved : goal.loop-section-preserved
loop-section-preserved c =
    let here : ((header_of c.args.file.now.bytes.now c.loop-section.section).kind == 2) ≡ false = rw (← c.header.ensures) (grind (arith, nat_tests)) in
    least_below-more _ _ _ refl c.loop-section.invariant here

pub returns-clause-first : goal.returns-clause-first
unfolding symbol_table
returns-clause-first c =
    let e : c.loop-section.section ≡ section_count c.args.file.now.bytes.now = omega arith in
    rw (← e) (sym c.loop-section.invariant)
