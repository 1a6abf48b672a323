use Rattle.std.proofs.Common.{arith, length, ap, sym, ◌∙◌}
use Rattle.faults.proofs.Firsts.{found_first}
use Rattle.relocs.proofs.CodeLimit.{first_code_fault_is}
use Rattle.relocs.specs.CodeFaults.{fault_in_object}
use Rattle.lift_blocks.proofs.first_fault.CodeFaults.first_fault.Goals as goal

pub returns-in-Some : goal.returns-in-Some
returns-in-Some g c =
    found_first (fault_in_object g.given) (length g.given.objects) c.loop-object.object _ (omega (arith, c.loop-object-test.true, c.len-object-end.ensures, ap length c.requires.tables_are.objects_are)) c.loop-object.invariant
    c.in-Some.ensures
    ∙ sym (first_code_fault_is g.given)
