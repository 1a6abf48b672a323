-- What the words of an exec ask for: what is linked, as for a link, and how the program is run, as for a run.
use Rattle.std.specs.Prelude.{ℕ, List, Bool, ◌&&◌, ◌||◌, if◌then◌else◌, Option, Some, None}
use Rattle.std.specs.List.{list_all}
use Rattle.polkatool_cmd.specs.Items.{Item, items}
use Rattle.polkatool_cmd.specs.LinkWords.{LinkInput, is_of_objects, name_objects, input_with, stack_of}
use Rattle.polkatool_cmd.specs.RunWords.{Settings, is_setting, are_settings, settings_of}

-- whether an item is one of these
abbrev pub is_of_exec : Item → Bool
is_of_exec item = is_of_objects item || is_setting item

-- whether items are an exec: each is of an exec, they can be what is linked, and no setting is named twice
abbrev pub is_exec : List Item → Bool
is_exec found = list_all is_of_exec found && name_objects found && are_settings found

-- An exec: what is linked, and how the program is run.
pub record ExecCommand : Type 0 where
  pub input : LinkInput
  pub settings : Settings

-- the exec that items are
abbrev pub exec_command_from : List Item → Option ExecCommand
exec_command_from found =
    if is_exec found then Some (record { input = input_with found (stack_of found); settings = settings_of found }) else None

-- The exec that the words after `exec` ask for. None is a usage error.
abbrev pub exec_command_of : List (List ℕ) → Option ExecCommand
exec_command_of words = exec_command_from (items words)
