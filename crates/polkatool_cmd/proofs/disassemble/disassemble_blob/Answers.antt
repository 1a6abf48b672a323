use Rattle.std.proofs.Common.{rules}
use Rattle.polkatool_cmd.proofs.Blobs.{TextResultsIn-unread}
use Rattle.polkatool_cmd.proofs.disassemble.disassemble_blob.Goals as goal

pub returns-in-Err-clause-results : goal.returns-in-Err-clause-results
returns-in-Err-clause-results g c = TextResultsIn-unread _ _ _ _ _ _ c.in-Err.ensures.read (search rules)
