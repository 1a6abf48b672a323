use Rattle.std.proofs.Common.{◌≡◌, None}
use Rattle.faults.specs.First.{first_below}
use Rattle.faults.specs.Present.{first_in}
use Rattle.symbols.specs.Wanted.{given_of}
use Rattle.symbols.specs.Faults.{faults_of_object}
use Rattle.symbols.proofs.link.Link.fault_of_symbols.Given as goal

abbrev pub invariant-loop-object : goal.invariant-loop-object
invariant-loop-object l = first_below l.object (λ object. first_in (faults_of_object (given_of l.self.objects.now l.self.wanted.now) object)) ≡ None
