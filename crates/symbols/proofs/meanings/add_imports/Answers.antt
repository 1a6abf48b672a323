use Rattle.std.proofs.Common.{◌≡◌, slice_get}
use Rattle.faults.specs.First.{where_true}
use Rattle.symbols.specs.declared.names.Meaning.TheVariants.{Imported}
use Rattle.symbols.specs.Parts.{same}
use Rattle.symbols.specs.Wanted.{import_name_at}
use Rattle.symbols.specs.Names.{added}
use Rattle.symbols.proofs.Adding.{Adds-below, Adds-import, borrowed_name}
use Rattle.symbols.proofs.meanings.add_imports.Goals as goal

pub loop-at-preserved : goal.loop-at-preserved
loop-at-preserved c =
    let wanted = c.args.wanted.now in
    let at = c.loop-at.at in
    let now : c.add.new.self ≡ added c.loop-at.names (import_name_at wanted at) (Imported at) = rw (← borrowed_name (slice_get wanted.imports at) c.import_name.result.now c.import_name.ensures) c.in_ok-add.ensures in
    Adds-below Imported c.args.names.now c.loop-at.names _ (λ name k. where_true (same name (import_name_at wanted k)) k) at c.loop-at.invariant (Adds-import c.loop-at.names _ wanted at now)
