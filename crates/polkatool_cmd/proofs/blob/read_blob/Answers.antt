use Rattle.std.proofs.Common.{rules}
use Rattle.polkatool_cmd.proofs.Blobs.{HoldsTooLarge-read}
use Rattle.polkatool_cmd.proofs.blob.read_blob.Goals as goal

pub returns-in-Err-TooLarge-clause-read : goal.returns-in-Err-TooLarge-clause-read
returns-in-Err-TooLarge-clause-read g c =
    (c.blob_fault.ensures, HoldsTooLarge-read _ _ _ c.in-Err-TooLarge.field-0-is c.in-Err-TooLarge.ensures.answer, search rules)
