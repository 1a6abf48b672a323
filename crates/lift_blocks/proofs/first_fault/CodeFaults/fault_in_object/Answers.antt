use Rattle.std.proofs.Common.{◌≡◌, rules, arith, length}
use Rattle.faults.proofs.Firsts.{found_first}
use Rattle.symbols.specs.Parts.{object_at}
use Rattle.relocs.specs.Places.{code_at}
use Rattle.relocs.specs.CodeFaults.{fault_in_section}
use Rattle.lift_blocks.proofs.first_fault.CodeFaults.fault_in_object.Goals as goal

pub returns-in-Some : goal.returns-in-Some
returns-in-Some g c =
    let o = c.args.object in
    let count : c.sections-section-end.result ≡ length (object_at g.given.objects o).sections = search rules in
    found_first (λ s. fault_in_section g.given o s (code_at g.given o s)) (length (object_at g.given.objects o).sections) c.loop-section.section _ (omega (arith, c.loop-section-test.true, count)) c.loop-section.invariant
    c.in-Some.ensures
