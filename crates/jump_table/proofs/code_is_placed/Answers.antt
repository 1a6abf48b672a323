use Rattle.jump_table.proofs.Placed.{code_is_placed, targets_are_led}
use Rattle.jump_table.proofs.Shaping.{lengths_are_one}
use Rattle.jump_table.proofs.code_is_placed.Goals as goal

pub returns-clause-placed : goal.returns-clause-placed
returns-clause-placed c = code_is_placed

pub returns-clause-one : goal.returns-clause-one
returns-clause-one c = lengths_are_one

pub returns-clause-led : goal.returns-clause-led
returns-clause-led c = targets_are_led
