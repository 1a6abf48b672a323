use Rattle.std.proofs.Common.{rules}
use Rattle.polkatool_cmd.proofs.Answering.{long-read}
use Rattle.polkatool_cmd.proofs.link_objects.read_file.Goals as goal

pub returns-in-Err-TooLarge-clause-read : goal.returns-in-Err-TooLarge-clause-read
returns-in-Err-TooLarge-clause-read g c =
    let long = long-read _ _ _ c.in-Err-TooLarge.field-0 c.in-Err-TooLarge.field-0-is c.in-Err-TooLarge.ensures.answer in
    (record { file = long.0; held = long.1; large = rw (← c.min.ensures) long.2 }, search rules, search rules)
