-- What the values stand for that are read from the words of a link.
use Rattle.std.specs.Prelude.{List, length}
use Rattle.symbols.specs.Wanted.{Import}
use Rattle.polkatool_cmd.specs.Items.{Item, items}
use Rattle.polkatool_cmd.specs.LinkWords.{LinkCommand, LinkInput, entries, imports, stacks, objects, input_with}
use Rattle.polkatool_cmd.specs.declared.commands.LinkCommand.{LinkCommand as Asked}
use Rattle.polkatool_cmd.specs.declared.link_input.LinkInput.{LinkInput as AskedInput}
use Rattle.polkatool_cmd.specs.declared.link_words.Counts.{Counts}
use Rattle.polkatool_cmd.specs.declared.link_words.Import.{Import as Read}

-- an import that was read
abbrev pub read_import : Read → Import
read_import import = record { name = import.name.now; kind = import.kind }

-- how many items of each kind there are
abbrev pub counts_of : List Item → Counts
counts_of found = record {
  entries = length (entries found);
  imports = length (imports found);
  stacks = length (stacks found);
  objects = length (objects found);
}

-- what was asked to be linked
abbrev pub input_in : AskedInput → LinkInput
input_in input = input_with (items input.words.now) input.stack

-- the link that was asked for
abbrev pub link_in : Asked → LinkCommand
link_in command = record { output = command.output.now; input = input_in command.input }
