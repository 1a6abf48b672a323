use Rattle.std.proofs.Common.{◌<◌, length, arith}
use Rattle.polkatool_cmd.proofs.Names.{is_name-text, is_name-other}
use Rattle.polkatool_cmd.proofs.values.name.Goals as goal

pub returns-in-Ok : goal.returns-in-Ok
returns-in-Ok c =
    let some : 0 < length c.args.word.now = grind arith in
    (is_name-text c.args.word.now some c.in-Ok.ensures.cases.1, c.in-Ok.ensures.cases.0)

pub returns-in-Err : goal.returns-in-Err
returns-in-Err c = is_name-other c.args.word.now c.in-Err.ensures.cases.0
