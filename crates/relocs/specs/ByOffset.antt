-- The relocations of a section by their offsets, and the words of its code.
use Rattle.std.specs.Prelude.{◌≡◌, ℕ, ◌<◌, ◌≤◌, ◌+◌, ◌*◌, ◌/◌, ◌%◌, List, length, Option, Some, None, IfSome, Bool, true, Result, nat_eq, slice_get, if◌then◌else◌}
use Rattle.std.specs.List.{filter}
use Rattle.std.specs.List.Sorted.{IsNonDecreasingBy}
use Rattle.elf_objects.specs.declared.parts.Relocation.{Relocation}
use Rattle.elf_objects.specs.declared.parts.SectionKind.TheVariants as kinds
use Rattle.elf_objects.specs.Objects.{Object, relocations_of}
use Rattle.rv_decode.specs.declared.ops.RvOp.{RvOp}
use Rattle.rv_decode.specs.declared.ops.WordFault.{WordFault}
use Rattle.symbols.specs.Faults.{has_effect}
use Rattle.symbols.specs.Laws.{HasSection}
use Rattle.symbols.specs.Parts.{object_at, kind_at}
use Rattle.symbols.specs.Wanted.{Given}
use Rattle.relocs.specs.Kinds.{kind_of, is_call}
use Rattle.relocs.specs.Pairs.{relocation_is_at}
use Rattle.relocs.specs.Places.{code_if}
use Rattle.relocs.specs.Sites.{gives_high}
use Rattle.relocs.specs.Words.{word_or_trap}

abbrev pub changes_something : Relocation → Bool
changes_something r = has_effect r.kind

abbrev pub calls : Relocation → Bool
calls r = is_call (kind_of r.kind)

abbrev pub offset_of : Relocation → ℕ
offset_of r = r.offset

abbrev pub is_at : ℕ → Relocation → Bool
is_at offset r = nat_eq r.offset offset

-- those below an index have an offset below a limit, and the others don't
pub record IsBound (row : List Relocation) (limit i : ℕ) : Type 0 where
  pub within : i ≤ length row
  pub below : (k : ℕ) (r : Relocation) → k < i → slice_get row k ≡ Some r → r.offset < limit
  pub above : (k : ℕ) (r : Relocation) → i ≤ k → slice_get row k ≡ Some r → limit ≤ r.offset

-- those with an offset below a limit are from one index to another, or before
pub record IsBetween (row : List Relocation) (limit from to : ℕ) : Type 0 where
  pub order : from ≤ to
  pub within : to ≤ length row
  pub below : (k : ℕ) (r : Relocation) → k < from → slice_get row k ≡ Some r → r.offset < limit
  pub above : (k : ℕ) (r : Relocation) → to ≤ k → slice_get row k ≡ Some r → limit ≤ r.offset

-- for each word the number of relocations before it
pub record HasStarts (row : List Relocation) (starts : List ℕ) : Type 0 where
  pub each : (i n : ℕ) → slice_get starts i ≡ Some n → IsBound row (4 * i) n

-- a table by offset: at each offset those that change something, in table order
pub record IsRow (table row : List Relocation) : Type 0 where
  pub rises : IsNonDecreasingBy offset_of row
  pub each : (offset : ℕ) → filter (is_at offset) row ≡ filter (relocation_is_at offset) table

-- the symbols of relocations are those of an object
pub record AreNamed (of : Object) (relocations : List Relocation) : Type 0 where
  pub each : (i : ℕ) (r : Relocation) → slice_get relocations i ≡ Some r → r.symbol < length of.symbols

-- the relocations of a section that change something, in table order
pub record IsEffective (object : Object) (s : ℕ) (relocations : List Relocation) : Type 0 where
  pub filtered : relocations ≡ filter changes_something (relocations_of object s)
  pub named : AreNamed object (relocations_of object s)

-- what is kept of a section: its relocations by offset, those of them that are a CALL and those that give an auipc its value,
-- how many are before each word, and of a code section the words and the size in bytes
pub record Row : Type 0 where
  pub relocations : List Relocation
  pub calls : List Relocation
  pub highs : List Relocation
  pub starts : List ℕ
  pub words : List (Result RvOp WordFault)
  pub size : ℕ

-- the words of code, one at each multiple of four that is at most its size
pub record HasWords (bytes : List ℕ) (words : List (Result RvOp WordFault)) : Type 0 where
  pub count : length words ≡ length bytes / 4 + 1
  pub each : (i : ℕ) (word : Result RvOp WordFault) → slice_get words i ≡ Some word → word ≡ word_or_trap bytes (4 * i)

-- the word at an offset, as it is looked up among these
abbrev pub kept_word : List (Result RvOp WordFault) → ℕ → Option (Result RvOp WordFault)
kept_word words offset = if nat_eq (offset % 4) 0 then slice_get words (offset / 4) else None

-- the bytes of a section of an object, where it is code
abbrev pub code_of : Object → ℕ → Option (List ℕ)
code_of object s = code_if true (slice_get object.sections s)

-- the words of a section and its size, where it is code
abbrev pub IsCodeOf : Object → ℕ → List (Result RvOp WordFault) → ℕ → Type 0
IsCodeOf object s words size = IfSome (code_of object s) (λ bytes. HasWords bytes words × (size ≡ length bytes))

-- a section of these objects is code
abbrev pub IsCodeIn : List Object → ℕ → ℕ → Type 0
IsCodeIn objects o s = HasSection objects o s × (kind_at objects o s ≡ kinds.Code)

-- the relocations of a section of an object by offset
pub record IsIndexOf (object : Object) (s : ℕ) (relocations : List Relocation) : Type 0 where
  pub row_is : IsRow (relocations_of object s) relocations
  pub named : AreNamed object (relocations_of object s)

-- the CALLs among the relocations, those that give an auipc its value, and how many are before each word
pub record HasParts (row : Row) : Type 0 where
  pub rises : IsNonDecreasingBy offset_of row.relocations
  pub calls_are : row.calls ≡ filter calls row.relocations
  pub highs_are : row.highs ≡ filter gives_high row.relocations
  pub starts_are : HasStarts row.relocations row.starts

-- what is kept of a section of an object
pub record IsRowOf (object : Object) (s : ℕ) (row : Row) : Type 0 where
  pub index : IsIndexOf object s row.relocations
  pub parts : HasParts row
  pub code_is : IsCodeOf object s row.words row.size

-- the rows of an object's sections
pub record HasRows (object : Object) (rows : List Row) : Type 0 where
  pub count : length rows ≡ length object.sections
  pub each : (s : ℕ) (row : Row) → slice_get rows s ≡ Some row → IsRowOf object s row

-- and those of all objects
pub record HasTables (objects : List Object) (tables : List (List Row)) : Type 0 where
  pub count : length tables ≡ length objects
  pub each : (o : ℕ) (rows : List Row) → slice_get tables o ≡ Some rows → HasRows (object_at objects o) rows

-- they are those of the objects that a link is given
pub record AreTables (given : Given) (objects : List Object) (tables : List (List Row)) : Type 0 where
  pub objects_are : objects ≡ given.objects
  pub tables_are : HasTables objects tables
