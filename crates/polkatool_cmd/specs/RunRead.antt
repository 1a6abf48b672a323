-- What the values stand for that are read from the words of a run.
use Rattle.std.specs.Prelude.{◌≡◌, ℕ, List, length, option_map, slice_get}
use Rattle.std.specs.Option.{option_copied, unwrap_or}
use Rattle.polkatool_cmd.specs.Items.{Item}
use Rattle.polkatool_cmd.specs.RunWords.{Settings, RunCommand, default_entry, default_gas, default_argument, run_entries, gas_amounts, arguments, reply_files, blobs}
use Rattle.polkatool_cmd.specs.Values.{spelled_bytes}
use Rattle.polkatool_cmd.specs.declared.argument.Argument.{Argument}
use Rattle.polkatool_cmd.specs.declared.commands.RunCommand.{RunCommand as Asked}
use Rattle.polkatool_cmd.specs.declared.commands.Settings.{Settings as AskedSettings}
use Rattle.polkatool_cmd.specs.declared.run_words.RunCounts.{RunCounts}
use Rattle.polkatool_cmd.specs.declared.run_words.RunValues.{RunValues}

-- the argument that digits spell
abbrev pub argument_bytes : Argument → List ℕ
argument_bytes a = spelled_bytes a.digits.now

-- how many items of each kind there are
abbrev pub run_counts_of : List Item → RunCounts
run_counts_of found = record {
  entries = length (run_entries found);
  gas_amounts = length (gas_amounts found);
  arguments = length (arguments found);
  reply_files = length (reply_files found);
}

-- the values are the first of each kind
pub record AreFirst (found : List Item) (values : RunValues) : Type 0 where
  pub entry : values.entry ≡ slice_get (run_entries found) 0
  pub gas : values.gas ≡ slice_get (gas_amounts found) 0
  pub argument : option_map argument_bytes values.argument ≡ slice_get (arguments found) 0
  pub replies : option_copied values.replies ≡ slice_get (reply_files found) 0
  pub blob : option_copied values.blob ≡ slice_get (blobs found) 0

-- the settings with these values, by default the default ones
abbrev pub settings_with : RunValues → Settings
settings_with values = record {
  entry = unwrap_or values.entry default_entry;
  gas = unwrap_or values.gas default_gas;
  argument = unwrap_or (option_map argument_bytes values.argument) default_argument;
  replies = option_copied values.replies;
}

-- the settings that were asked for
abbrev pub settings_in : AskedSettings → Settings
settings_in s = record { entry = s.entry; gas = s.gas; argument = argument_bytes s.argument; replies = option_copied s.replies }

-- the run that was asked for
abbrev pub run_in : Asked → RunCommand
run_in c = record { settings = settings_in c.settings; blob = c.blob.now }
