-- The address map: the places that a register can lead to, each with its number. A code address of the source machine
-- is such a number, so that it is the same number in the linked program.
use Rattle.std.specs.Prelude.{ℕ, ◌+◌, ◌*◌, List, ◌++◌, Option, Some, None, Bool, true, ℤ}
use Rattle.std.specs.List.{filter, filter_map, position}
use Rattle.std.specs.Option.{option_map, unwrap_or}
use Rattle.faults.specs.First.{where_true}
use Rattle.elf_objects.specs.declared.parts.Relocation.{Relocation}
use Rattle.rv_decode.specs.declared.ops.Reg.{Reg}
use Rattle.rv_decode.specs.declared.ops.Reg.TheVariants.{Zero, R}
use Rattle.rv_decode.specs.declared.ops.RvOp.{RvOp}
use Rattle.rv_decode.specs.declared.ops.RvOp.TheVariants.{Jal, Jalr}
use Rattle.symbols.specs.declared.place.Place.{Place}
use Rattle.symbols.specs.declared.place.Place.TheVariants as names
use Rattle.symbols.specs.Wanted.{Given}
use Rattle.symbols.specs.Resolution.{resolution}
use Rattle.layout.specs.Slots.{each_section, loaded_relocations}
use Rattle.relocs.specs.Kinds.{names_address}
use Rattle.relocs.specs.Places.{CodePlace, Code, Stub, Nowhere, same_place, has, code_place}
use Rattle.relocs.specs.Words.{raw_at}
use Rattle.relocs.specs.Pairs.{is_pair, all_places, next_place}

-- the word that decides where the machine goes after a place: the second word of a pair
abbrev pub last_word : Bool → Given → CodePlace → Option RvOp
last_word true given (Code o s offset) = raw_at given (Code o s (offset + 4))
last_word pair given p = raw_at given p

abbrev pub if_links : Reg → CodePlace → Option CodePlace
if_links Zero next = None
if_links (R n) next = Some next

-- the place after a jal or jalr that keeps that place in a register
abbrev pub link_of : CodePlace → Option RvOp → Option CodePlace
link_of next (Some (Jal rd offset)) = if_links rd next
link_of next (Some (Jalr rd rs1 imm)) = if_links rd next
link_of next op = None

-- the place that the link of a place's operation names
abbrev pub link_at : Given → CodePlace → Option CodePlace
link_at given p = link_of (next_place given p) (last_word (is_pair given p) given p)

-- the place of code that a symbol's place and an addend are: an import's is its stub
abbrev pub place_at : Place → ℤ → CodePlace
place_at (names.Code o s offset) addend = code_place o s offset addend
place_at (names.Import i) addend = Stub i 0
place_at place addend = Nowhere

-- the place that a relocation names as an address
abbrev pub address_named : Given → ℕ → Relocation → Option CodePlace
address_named given o r = where_true (names_address r) (place_at (resolution given o r.symbol) r.addend)

abbrev pub addresses_named : Given → ℕ → ℕ → List CodePlace
addresses_named given o s = filter_map (address_named given o) (loaded_relocations given o s)

-- the places that something names: links, and relocations
abbrev pub named_places : Given → List CodePlace
named_places given = filter_map (link_at given) (all_places given) ++ each_section given (addresses_named given)

-- the address map: the needed places in code order
unfoldable pub needed_places : Given → List CodePlace
needed_places given = filter (has (named_places given)) (all_places given)

-- the number of the i-th place, from 0
abbrev pub number_at : ℕ → ℕ
number_at i = 2 * (i + 1)

-- the number of a place in the map, where it has one
abbrev pub number_in : List CodePlace → CodePlace → Option ℕ
number_in needed p = option_map number_at (position (same_place p) needed)

-- the number of a place, and 0 where it has none
abbrev pub map_number : List CodePlace → CodePlace → ℕ
map_number needed p = unwrap_or (number_in needed p) 0
