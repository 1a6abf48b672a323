use Rattle.std.proofs.Common.{◌≡◌, arith}
use Rattle.symbols.specs.Wanted.{given_of}
use Rattle.symbols.specs.Parts.{symbol_count}
use Rattle.symbols.specs.Faults.{faults_of_symbol}
use Rattle.symbols.proofs.Finding.{found_in, none_found}
use Rattle.symbols.proofs.link.Link.fault_of_object.Goals as goal

pub returns-in-Some : goal.returns-in-Some
returns-in-Some c =
    found_in (faults_of_symbol (given_of c.args.self.now.objects.now c.args.self.now.wanted.now) c.args.object) (symbol_count c.args.self.now.objects.now c.args.object) c.loop-number.number c.in-Some.fault
    (omega arith) c.loop-number.invariant (c.in-Some.ensures)

pub returns : goal.returns
returns c =
    let all : c.loop-number.number ≡ symbol_count c.args.self.now.objects.now c.args.object = omega arith in
    none_found (faults_of_symbol (given_of c.args.self.now.objects.now c.args.self.now.wanted.now) c.args.object) (symbol_count c.args.self.now.objects.now c.args.object) (rw all at c.loop-number.invariant)
