-- The exec that was asked for.
use Rattle.polkatool_cmd.specs.ExecWords.{ExecCommand}
use Rattle.polkatool_cmd.specs.LinkRead.{input_in}
use Rattle.polkatool_cmd.specs.RunRead.{settings_in}
use Rattle.polkatool_cmd.specs.declared.commands.ExecCommand.{ExecCommand as Asked}

abbrev pub exec_in : Asked → ExecCommand
exec_in command = record { input = input_in command.input; settings = settings_in command.settings }
