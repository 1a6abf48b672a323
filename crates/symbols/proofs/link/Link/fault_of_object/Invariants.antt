use Rattle.std.proofs.Common.{◌≡◌, None}
use Rattle.faults.specs.First.{first_below}
use Rattle.faults.specs.Present.{first_in}
use Rattle.symbols.specs.Wanted.{given_of}
use Rattle.symbols.specs.Faults.{faults_of_symbol}
use Rattle.symbols.proofs.link.Link.fault_of_object.Given as goal

abbrev pub invariant-loop-number : goal.invariant-loop-number
invariant-loop-number l = first_below l.number (λ number. first_in (faults_of_symbol (given_of l.self.objects.now l.self.wanted.now) l.object number)) ≡ None
