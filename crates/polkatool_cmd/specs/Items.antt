-- The items of a command's words: options with their values, and file names.
use Rattle.std.specs.Prelude.{List, ℕ, [], ◌∷◌, if◌then◌else◌, Option, Some, None}
use Rattle.std.specs.Str.{bytes_eq}
use Rattle.polkatool_cmd.specs.Values.{begins_with_dash, file_of}

-- An item: an option with its value, an option at the end without one, or a file name.
pub data Item : Type 0 where
  Setting : (option value : List ℕ) → Item
  Unvalued : (option : List ℕ) → Item
  File : (word : List ℕ) → Item

-- The items of words. A word that begins with '-' is an option, and the next word its value.
unfoldable pub items : List (List ℕ) → List Item
items [] = []
items (word ∷ []) = (if begins_with_dash word then Unvalued word else File word) ∷ []
items (word ∷ next ∷ rest) =
    if begins_with_dash word then Setting word next ∷ items rest
    else File word ∷ items (next ∷ rest)

-- the value that an item gives an option
abbrev pub value_in : List ℕ → Item → Option (List ℕ)
value_in option (Setting name value) = if bytes_eq name option then Some value else None
value_in option (Unvalued name) = None
value_in option (File word) = None

-- the file that an item names
abbrev pub file_in : Item → Option (List ℕ)
file_in (Setting option value) = None
file_in (Unvalued option) = None
file_in (File word) = file_of word
