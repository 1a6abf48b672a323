use Rattle.std.proofs.Common.{◌≡◌, None}
use Rattle.faults.specs.First.{first_below}
use Rattle.faults.specs.Present.{first_in}
use Rattle.symbols.specs.Wanted.{given_of}
use Rattle.symbols.specs.Faults.{faults_of_entry}
use Rattle.symbols.proofs.link.Link.fault_of_entries.Given as goal

abbrev pub invariant-loop-entry : goal.invariant-loop-entry
invariant-loop-entry l = first_below l.entry (λ entry. first_in (faults_of_entry (given_of l.self.objects.now l.self.wanted.now) entry)) ≡ None
