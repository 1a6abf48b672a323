use Rattle.std.proofs.Common.{◌≡◌, length, arith}
use Rattle.symbols.specs.Wanted.{given_of}
use Rattle.symbols.specs.Faults.{faults_of_object}
use Rattle.symbols.proofs.Finding.{found_in, none_found}
use Rattle.symbols.proofs.link.Link.fault_of_symbols.Goals as goal

pub returns-in-Some : goal.returns-in-Some
returns-in-Some c =
    found_in (faults_of_object (given_of c.args.self.now.objects.now c.args.self.now.wanted.now)) (length c.args.self.now.objects.now) c.loop-object.object c.in-Some.fault
    (omega arith) c.loop-object.invariant (c.in-Some.ensures)

pub returns : goal.returns
returns c =
    let all : c.loop-object.object ≡ length c.args.self.now.objects.now = omega arith in
    none_found (faults_of_object (given_of c.args.self.now.objects.now c.args.self.now.wanted.now)) (length c.args.self.now.objects.now) (rw all at c.loop-object.invariant)
