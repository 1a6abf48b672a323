use Rattle.std.proofs.Common.{◌≡◌, ◌*◌, None}
use Rattle.faults.specs.First.{first_below}
use Rattle.relocs.specs.CodeFaults.{fault_at_offset}
use Rattle.lift_blocks.proofs.first_fault.CodeFaults.fault_in_words.Given as goal

abbrev pub ghost-fault_at_word : goal.ghost-fault_at_word
ghost-fault_at_word g a = g.given

abbrev pub invariant-loop-word : goal.invariant-loop-word
invariant-loop-word g l = first_below (4 * l.word) (fault_at_offset g.given l.object l.section) ≡ None
