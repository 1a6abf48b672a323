-- The map of a linked program as text: a line for each entry, each section of data, the slots, and each code address.
use Rattle.std.specs.Prelude.{ℕ, ◌+◌, List, [], ◌∷◌, ◌++◌, length, map, codes, Bool, ◌&&◌, nat_lt, if◌then◌else◌, Option, Some, None, slice_get}
use Rattle.std.specs.Fmt.{decimal}
use Rattle.disasm.specs.Digits.{hex_digits}
use Rattle.faults.specs.Present.{each_below}
use Rattle.elf_objects.specs.declared.parts.SectionKind.{SectionKind}
use Rattle.elf_objects.specs.Objects.{Section}
use Rattle.symbols.specs.Wanted.{Given, sections_in, kept_objects}
use Rattle.layout.specs.Sections.{is_read_only, is_writable, is_zero, extent}
use Rattle.symbols.specs.Wanted.{import_name_at}
use Rattle.layout.specs.Addresses.{address_of, got_of}
use Rattle.relocs.specs.Places.{CodePlace, Code, Stub, Nowhere}
use Rattle.relocs.specs.AddressMap.{number_at}
use Rattle.lift_blocks.specs.Listed.{Lifted}
use Rattle.jump_table.specs.Assembly.{start_of, table_of}
use Rattle.lower.specs.Lowering.{lowered_blocks}

-- an entry's number, the position of its first instruction in eight hexadecimal digits, and its name
unfoldable pub entry_line : ℕ → ℕ → List ℕ → List ℕ
entry_line number position name =
    codes "entry " ++ decimal number ++ codes " " ++ hex_digits 8 position ++ codes " " ++ name ++ codes "\n"

-- the lines of entries, from a number on
abbrev pub entry_lines : ℕ → List (List ℕ) → List ℕ → List ℕ
entry_lines number [] positions = []
entry_lines number (name ∷ names) [] = []
entry_lines number (name ∷ names) (position ∷ positions) =
    entry_line number position name ++ entry_lines (number + 1) names positions

-- a section by the numbers of its object and its own
unfoldable pub section_name : ℕ → ℕ → List ℕ
section_name o s = decimal o ++ codes ":" ++ decimal s

-- an address and a size in eight hexadecimal digits each
unfoldable pub range_text : ℕ → ℕ → List ℕ
range_text address size = hex_digits 8 address ++ codes " " ++ hex_digits 8 size

-- the address and the size of a section, and which it is
unfoldable pub data_line : ℕ → ℕ → ℕ → ℕ → List ℕ
data_line address size o s = codes "data " ++ range_text address size ++ codes " " ++ section_name o s ++ codes "\n"

abbrev pub line_at : Option ℕ → ℕ → ℕ → ℕ → List ℕ
line_at None size o s = []
line_at (Some address) size o s = data_line address size o s

-- the line of a section, if it is of a kind and has bytes
abbrev pub section_line : (SectionKind → Bool) → Given → ℕ → ℕ → Option Section → List ℕ
section_line is_of given o s None = []
section_line is_of given o s (Some section) =
    if is_of section.kind && nat_lt 0 (extent section) then line_at (address_of given o s) (extent section) o s else []

-- the lines of an object's sections of a kind, and of those of all objects
abbrev pub object_lines : (SectionKind → Bool) → Given → ℕ → List ℕ
object_lines is_of given o =
    let sections = sections_in given o in
    each_below (length sections) (λ s. section_line is_of given o s (slice_get sections s))

abbrev pub lines_of : (SectionKind → Bool) → Given → List ℕ
lines_of is_of given = each_below (length (kept_objects given)) (object_lines is_of given)

-- the lines of all data, in the order of their addresses
abbrev pub data_lines : Given → List ℕ
data_lines given = lines_of is_read_only given ++ lines_of is_writable given ++ lines_of is_zero given

-- the address and the size of the table of slots, where there is one
unfoldable pub got_line : Option (ℕ × ℕ) → List ℕ
got_line None = []
got_line (Some got) = codes "got " ++ range_text got.0 got.1 ++ codes "\n"

-- a place of code by its section and offset, or an import by its name
unfoldable pub place_text : Given → CodePlace → List ℕ
place_text given (Code o s offset) = section_name o s ++ codes "+" ++ hex_digits 8 offset
place_text given (Stub n at) = codes "import " ++ import_name_at given.wanted n
place_text given Nowhere = []

-- a code address, its position in the program, and its place
unfoldable pub code_line : Given → ℕ → ℕ → CodePlace → List ℕ
code_line given number position p = codes "code " ++ range_text number position ++ codes " " ++ place_text given p ++ codes "\n"

-- the lines of the places of the address map, from an index on
abbrev pub code_lines : Given → ℕ → List CodePlace → List ℕ → List ℕ
code_lines given at [] positions = []
code_lines given at (p ∷ ps) [] = []
code_lines given at (p ∷ ps) (position ∷ positions) = code_line given (number_at at) position p ++ code_lines given (at + 1) ps positions

-- the map: the lines of the wanted entries, those of the data, and those of the address map
abbrev pub map_text : Given → List ℕ → Lifted → List ℕ
map_text given lengths lifted =
    let list = lowered_blocks lifted in
    entry_lines 0 given.wanted.entries (map (start_of lengths list) list.entries)
    ++ data_lines given
    ++ got_line (got_of given)
    ++ code_lines given 0 lifted.map (table_of lengths list)
