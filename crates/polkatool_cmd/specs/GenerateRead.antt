-- The generation that was asked for.
use Rattle.polkatool_cmd.specs.GenerateWords.{GenerateCommand}
use Rattle.polkatool_cmd.specs.declared.commands.GenerateCommand.{GenerateCommand as Asked}

abbrev pub generate_in : Asked → GenerateCommand
generate_in command = record { seed = command.seed; count = command.count }
