use Rattle.std.proofs.Common.{ap}
use Rattle.relocs.proofs.tables.Tables.has_call.Goals as goal

pub returns : goal.returns
returns c = ap (λ found. found.call) c.found.ensures.found
