-- What the items stand for that are cut from words.
use Rattle.polkatool_cmd.specs.Items.{Item, Setting, Unvalued, File}
use Rattle.polkatool_cmd.specs.declared.items.Item.{Item as Cut}
use Rattle.polkatool_cmd.specs.declared.items.Item.TheVariants as cut

-- an item that was cut
abbrev pub item_of : Cut → Item
item_of (cut.Setting option value) = Setting option.now value.now
item_of (cut.Unvalued option) = Unvalued option.now
item_of (cut.File word) = File word.now
