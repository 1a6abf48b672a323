use Rattle.std.proofs.Common.{◌+◌, arith, length, ap, sym, ◌∙◌}
use Rattle.faults.proofs.Firsts.{found_first}
use Rattle.relocs.specs.CodeFaults.{fault_at_offset, fault_in_section}
use Rattle.lift_blocks.proofs.first_fault.CodeFaults.fault_in_offsets.Goals as goal

pub returns-in-Some : goal.returns-in-Some
returns-in-Some g c =
    let o = c.args.object in
    let s = c.args.section in
    found_first (fault_at_offset g.given o s) (length c.args.content.now + 1) c.loop-offset.offset _ (omega (arith, c.loop-offset-test.true)) c.loop-offset.invariant c.in-Some.ensures
    ∙ sym (ap (fault_in_section g.given o s) c.requires.1.1.0)
