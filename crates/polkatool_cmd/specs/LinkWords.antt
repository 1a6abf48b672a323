-- What the words of a link ask for: their items are a link where they meet its conditions.
use Rattle.std.specs.Prelude.{ℕ, ◌^◌, List, [], ◌∷◌, length, Bool, false, ◌&&◌, ◌||◌, not, ◌==◌, nat_le, if◌then◌else◌, Option, Some, None, is_some, unwrap_or, slice_get, codes, option_map, option_and_then}
use Rattle.std.specs.List.{filter_map, list_all, list_any, before_last, after_last}
use Rattle.std.specs.Str.{bytes_eq}
use Rattle.symbols.specs.declared.wanted.ImportKind.{ImportKind}
use Rattle.symbols.specs.declared.wanted.ImportKind.TheVariants.{Host, Sbrk}
use Rattle.symbols.specs.Wanted.{Import, Wanted}
use Rattle.polkatool_cmd.specs.Items.{Item, items, value_in, file_in}
use Rattle.polkatool_cmd.specs.Values.{file_value_of, number_below}

-- the name of an entry or an import: any bytes, and not none
abbrev pub wanted_name : List ℕ → Option (List ℕ)
wanted_name [] = None
wanted_name (b ∷ bs) = Some (b ∷ bs)

-- what an import stands for: the host call of a number below 2^31, or `sbrk`
abbrev pub kind_in_value : List ℕ → Option ImportKind
kind_in_value word = if bytes_eq word (codes "sbrk") then Some Sbrk else option_map (λ number. Host number) (number_below (2 ^ 31) word)

abbrev pub import_with : Option (List ℕ) → Option ImportKind → Option Import
import_with None kind = None
import_with (Some name) kind = option_map (λ k. record { name = name; kind = k }) kind

abbrev pub is_equals_sign : ℕ → Bool
is_equals_sign b = b == 61

-- The import that NAME=NUMBER or NAME=sbrk spells, where NAME ends at the last '='. Without a '=' there is no NAME.
abbrev pub import_in_value : List ℕ → Option Import
import_in_value value =
    import_with (wanted_name (before_last is_equals_sign value)) (kind_in_value (after_last is_equals_sign value))

-- the output that an item names
abbrev pub output_in : Item → Option (List ℕ)
output_in item = option_and_then file_value_of (value_in (codes "-o") item)

-- the entry that an item names
abbrev pub entry_in : Item → Option (List ℕ)
entry_in item = option_and_then wanted_name (value_in (codes "-e") item)

-- the import that an item names
abbrev pub import_in : Item → Option Import
import_in item = option_and_then import_in_value (value_in (codes "-i") item)

-- how many bytes an item gives the stack, below 2^24
abbrev pub stack_in : Item → Option ℕ
stack_in item = option_and_then (number_below (2 ^ 24)) (value_in (codes "--stack") item)

-- whether an item is an entry, an import, a stack or an object
abbrev pub is_of_objects : Item → Bool
is_of_objects item =
    is_some (entry_in item) || is_some (import_in item) || is_some (stack_in item) || is_some (file_in item)

-- whether an item is one of these, or an output
abbrev pub is_of_link : Item → Bool
is_of_link item = is_some (output_in item) || is_of_objects item

-- whether a name is imported
abbrev pub is_imported : List ℕ → List Import → Bool
is_imported name = list_any (λ (import : Import). bytes_eq import.name name)

-- whether a name is imported twice
abbrev pub repeats_import : List Import → Bool
repeats_import [] = false
repeats_import (import ∷ rest) = is_imported import.name rest || repeats_import rest

-- the outputs, entries, imports, stacks and objects that items name, each in their order
abbrev pub outputs : List Item → List (List ℕ)
outputs = filter_map output_in

abbrev pub entries : List Item → List (List ℕ)
entries = filter_map entry_in

abbrev pub imports : List Item → List Import
imports = filter_map import_in

abbrev pub stacks : List Item → List ℕ
stacks = filter_map stack_in

abbrev pub objects : List Item → List (List ℕ)
objects = filter_map file_in

-- Whether items can be what is linked: at most one names the stack; 1 to 1,024 name objects; at most 1,000 name entries, and
-- at most 1,000 imports, of which no two have one name.
abbrev pub name_objects : List Item → Bool
name_objects found =
    nat_le (length (stacks found)) 1
    && nat_le 1 (length (objects found))
    && nat_le (length (objects found)) 1024
    && nat_le (length (entries found)) 1000
    && nat_le (length (imports found)) 1000
    && not (repeats_import (imports found))

-- whether items are a link: each is of a link, one names the output, and they can be what is linked
abbrev pub is_link : List Item → Bool
is_link found = list_all is_of_link found && (length (outputs found) == 1) && name_objects found

-- the entries of a link: `main` alone by default
abbrev pub or_main : List (List ℕ) → List (List ℕ)
or_main [] = codes "main" ∷ []
or_main (name ∷ names) = name ∷ names

-- how many bytes the stack has where the words don't say
abbrev pub default_stack : ℕ
default_stack = 65536

-- What is linked: the names of the objects' files in order, and what is wanted of them.
pub record LinkInput : Type 0 where
  pub objects : List (List ℕ)
  pub wanted : Wanted

-- what items with a stack name
abbrev pub input_with : List Item → ℕ → LinkInput
input_with found stack = record {
  objects = objects found;
  wanted = record { entries = or_main (entries found); imports = imports found; stack = stack };
}

-- the stack of items
abbrev pub stack_of : List Item → ℕ
stack_of found = unwrap_or (slice_get (stacks found) 0) default_stack

-- A link with its values: the name of the output's file, and what is linked.
pub record LinkCommand : Type 0 where
  pub output : List ℕ
  pub input : LinkInput

-- the link of items, with an output
abbrev pub link_with : List Item → List ℕ → ℕ → LinkCommand
link_with found output stack = record { output = output; input = input_with found stack }

-- the link that items are
abbrev pub link_from : List Item → Option LinkCommand
link_from found =
    if is_link found then
    option_map (λ output. link_with found output (stack_of found))
    (slice_get (outputs found) 0)
    else None

-- The command of the arguments after `link`: in any order -o OUT, once; -e NAME and -i NAME=NUMBER or -i NAME=sbrk,
-- which repeat; --stack N, at most once; and OBJ, at least once. None for a usage error.
abbrev pub link_command_of : List (List ℕ) → Option LinkCommand
link_command_of words = link_from (items words)
