-- What a link is given without a fault in its symbols and its layout.
use Rattle.std.specs.Prelude.{◌≡◌, []}
use Rattle.symbols.specs.Wanted.{Given}
use Rattle.symbols.specs.Resolved.{Resolved, IsResolved}
use Rattle.symbols.specs.Faults.{symbol_faults}
use Rattle.layout.specs.Placed.{Placed, IsPlaced}

-- what the names stand for and where the data are loaded, where neither has a fault
pub record IsInput (given : Given) (resolved : Resolved) (placed : Placed) : Type 0 where
  pub is_resolved : IsResolved given resolved
  pub no_fault : symbol_faults given ≡ []
  pub is_placed : IsPlaced given placed
