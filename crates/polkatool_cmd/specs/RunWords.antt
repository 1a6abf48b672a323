-- What the words of a run ask for: their items are a run where they meet its conditions.
use Rattle.std.specs.Prelude.{ℕ, ◌^◌, List, [], length, Bool, ◌&&◌, ◌||◌, ◌==◌, nat_le, if◌then◌else◌, Option, None, is_some, unwrap_or, slice_get, codes, option_map, option_and_then}
use Rattle.std.specs.List.{filter_map, list_all}
use Rattle.polkatool_cmd.specs.Items.{Item, items, value_in, file_in}
use Rattle.polkatool_cmd.specs.Values.{file_value_of, number_below, argument_of}

-- the entry that an item names, below 2^32
abbrev pub run_entry_in : Item → Option ℕ
run_entry_in item = option_and_then (number_below (2 ^ 32)) (value_in (codes "--entry") item)

-- the gas that an item gives, below 2^64
abbrev pub gas_in : Item → Option ℕ
gas_in item = option_and_then (number_below (2 ^ 64)) (value_in (codes "--gas") item)

-- the argument that an item gives, in hexadecimal digits
abbrev pub argument_in : Item → Option (List ℕ)
argument_in item = option_and_then argument_of (value_in (codes "--arg") item)

-- the file of replies that an item names
abbrev pub replies_in : Item → Option (List ℕ)
replies_in item = option_and_then file_value_of (value_in (codes "--replies") item)

-- whether an item is one of these
abbrev pub is_setting : Item → Bool
is_setting item =
    is_some (run_entry_in item) || is_some (gas_in item) || is_some (argument_in item) || is_some (replies_in item)

-- whether an item is one of these, or names a file
abbrev pub is_of_run : Item → Bool
is_of_run item = is_setting item || is_some (file_in item)

-- the entries, amounts of gas, arguments, files of replies and blobs that items name, each in their order
abbrev pub run_entries : List Item → List ℕ
run_entries = filter_map run_entry_in

abbrev pub gas_amounts : List Item → List ℕ
gas_amounts = filter_map gas_in

abbrev pub arguments : List Item → List (List ℕ)
arguments = filter_map argument_in

abbrev pub reply_files : List Item → List (List ℕ)
reply_files = filter_map replies_in

abbrev pub blobs : List Item → List (List ℕ)
blobs = filter_map file_in

-- whether items name no setting of a run twice
abbrev pub are_settings : List Item → Bool
are_settings found =
    nat_le (length (run_entries found)) 1
    && nat_le (length (gas_amounts found)) 1
    && nat_le (length (arguments found)) 1
    && nat_le (length (reply_files found)) 1

-- whether items are a run: each is of a run, one names the blob, and no setting is named twice
abbrev pub is_run : List Item → Bool
is_run found = list_all is_of_run found && (length (blobs found) == 1) && are_settings found

-- the entry, the gas and the argument of a run by default
abbrev pub default_entry : ℕ
default_entry = 0

abbrev pub default_gas : ℕ
default_gas = 10000000

abbrev pub default_argument : List ℕ
default_argument = []

-- How a program is run: from an entry, with gas, an argument and a file of replies, if one is named.
pub record Settings : Type 0 where
  pub entry : ℕ
  pub gas : ℕ
  pub argument : List ℕ
  pub replies : Option (List ℕ)

-- the settings that items name
abbrev pub settings_of : List Item → Settings
settings_of found = record {
  entry = unwrap_or (slice_get (run_entries found) 0) default_entry;
  gas = unwrap_or (slice_get (gas_amounts found) 0) default_gas;
  argument = unwrap_or (slice_get (arguments found) 0) default_argument;
  replies = slice_get (reply_files found) 0;
}

-- A run: of the blob in a file, with these settings.
pub record RunCommand : Type 0 where
  pub settings : Settings
  pub blob : List ℕ

-- the run of items, with a blob
abbrev pub run_command_with : List Item → List ℕ → RunCommand
run_command_with found blob = record { settings = settings_of found; blob = blob }

-- the run that items are
abbrev pub run_command_from : List Item → Option RunCommand
run_command_from found =
    if is_run found then option_map (run_command_with found) (slice_get (blobs found) 0) else None

-- The run that the words after `run` ask for. None is a usage error.
abbrev pub run_command_of : List (List ℕ) → Option RunCommand
run_command_of words = run_command_from (items words)
