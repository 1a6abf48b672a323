use Rattle.std.proofs.Common.{◌≡◌, sym, true, length, slice_get, arith}
use Rattle.faults.proofs.Firsts.{found_fault}
use Rattle.symbols.specs.Parts.{same}
use Rattle.symbols.specs.Wanted.{import_name_at}
use Rattle.symbols.proofs.Adding.{borrowed_name}
use Rattle.symbols.proofs.wanted.Wanted.find_import.Goals as goal

pub returns-then-eq : goal.returns-then-eq
returns-then-eq c =
    let wanted = c.args.self.now in
    let name = c.args.name.now in
    let at = c.loop-at.at in
    let borrowed : c.import_name.result.now ≡ import_name_at wanted at = borrowed_name (slice_get wanted.imports at) c.import_name.result.now c.import_name.ensures in
    let found : same name (import_name_at wanted at) ≡ true = rw (← borrowed) (sym c.if-eq.ensures) in
    found_fault (λ k. same name (import_name_at wanted k)) (λ k. k) (length wanted.imports) at (omega arith) c.loop-at.invariant found
