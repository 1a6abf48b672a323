-- What the relocations of data change, and their faults (RISC-V ELF psABI, "Relocations").
use Rattle.std.specs.Prelude.{ℕ, ◌+◌, ◌-◌, ◌^◌, List, [], ◌∷◌, take, drop, length, fold, Option, Some, None, Bool, true, not, if◌then◌else◌, slice_get, slice_set, ℤ, pos, ◌+ℤ◌, ◌-ℤ◌}
use Rattle.std.specs.Option.{option_map}
use Rattle.numbers.specs.Bytes.{little, number_of}
use Rattle.faults.specs.First.{◌or_else◌, where_true, first_below}
use Rattle.faults.specs.Present.{each_below}
use Rattle.elf_objects.specs.declared.fault.Fault.{Fault}
use Rattle.elf_objects.specs.declared.parts.Relocation.{Relocation}
use Rattle.elf_objects.specs.declared.parts.SectionKind.{SectionKind}
use Rattle.elf_objects.specs.Objects.{Section, relocations_of}
use Rattle.symbols.specs.Parts.{object_at, kind_at}
use Rattle.symbols.specs.Faults.{has_effect}
use Rattle.symbols.specs.Laws.{is_data}
use Rattle.symbols.specs.Wanted.{Given, kept_objects}
use Rattle.symbols.specs.Resolution.{resolution}
use Rattle.layout.specs.Slots.{each_section}
use Rattle.relocs.specs.declared.kinds.Kind.{Kind}
use Rattle.relocs.specs.declared.kinds.Kind.TheVariants.{Set32, Add, Subtract, Distance}
use Rattle.relocs.specs.declared.fault.TheConstants.{VALUE_OUT_OF_RANGE, NOT_A_PLACE, WRONG_DATA_RELOCATION}
use Rattle.relocs.specs.Kinds.{kind_of, may_change_data, data_width}
use Rattle.relocs.specs.Values.{value_of, base_of, least_32, is_from_to, bits_of, address_fault}

-- what a relocation of data gives: its value, and of 32_PCREL how far that is from its own address
abbrev pub given_by : Kind → Given → ℕ → ℕ → Relocation → ℤ
given_by Distance given o s r = value_of given (resolution given o r.symbol) r.addend -ℤ pos (base_of given o s + r.offset)
given_by kind given o s r = value_of given (resolution given o r.symbol) r.addend

unfoldable pub data_value : Given → ℕ → ℕ → Relocation → ℤ
data_value given o s r = given_by (kind_of r.kind) given o s r

-- the values that fit
abbrev pub is_in_range : Kind → ℤ → Bool
is_in_range Set32 v = is_from_to least_32 (pos (2 ^ 32 - 1)) v
is_in_range Distance v = is_from_to least_32 (pos (2 ^ 31 - 1)) v
is_in_range kind v = true

-- any fault of an address is reported as one in data
abbrev pub reported_as : ℕ → Option ℕ → Option ℕ
reported_as code None = None
reported_as code (Some other) = Some code

-- the code of the fault of a relocation that changes something, in a section of data of a kind
unfoldable pub data_fault : Given → SectionKind → ℕ → ℕ → Relocation → Option ℕ
data_fault given section o s r =
    where_true (not (may_change_data (kind_of r.kind) section)) WRONG_DATA_RELOCATION
    or_else reported_as NOT_A_PLACE (address_fault given (resolution given o r.symbol) r.addend)
    or_else where_true (not (is_in_range (kind_of r.kind) (data_value given o s r))) VALUE_OUT_OF_RANGE

abbrev pub data_fault_at : ℕ → ℕ → Relocation → ℕ → Fault
data_fault_at o s r code = record { code = code; object = o; section = s; offset = r.offset }

-- the fault of a relocation, where it changes something, and the one of the relocation with a number
abbrev pub fault_of : Given → SectionKind → ℕ → ℕ → Relocation → Option Fault
fault_of given section o s r = if has_effect r.kind then option_map (data_fault_at o s r) (data_fault given section o s r) else None

abbrev pub fault_of_some : Given → SectionKind → ℕ → ℕ → Option Relocation → Option Fault
fault_of_some given section o s None = None
fault_of_some given section o s (Some r) = fault_of given section o s r

abbrev pub fault_in_table : Given → SectionKind → ℕ → ℕ → List Relocation → ℕ → Option Fault
fault_in_table given section o s relocations at = fault_of_some given section o s (slice_get relocations at)

abbrev pub all_of : {A : Type 0} → Option A → List A
all_of None = []
all_of (Some x) = x ∷ []

-- the faults of a section in the order of its relocations, where it is data
abbrev pub section_data_faults : Given → ℕ → ℕ → List Fault
section_data_faults given o s =
    if is_data (kind_at (kept_objects given) o s)
    then each_below (length (relocations_of (object_at (kept_objects given) o) s)) (λ at. all_of (fault_in_table given (kind_at (kept_objects given) o s) o s (relocations_of (object_at (kept_objects given) o) s) at))
    else []

-- all faults of data, by object, section and relocation
unfoldable pub data_faults : Given → List Fault
data_faults given = each_section given (section_data_faults given)

-- the same as the code finds the first of them
abbrev pub section_data_fault : Given → ℕ → ℕ → Option Fault
section_data_fault given o s =
    if is_data (kind_at (kept_objects given) o s)
    then first_below (length (relocations_of (object_at (kept_objects given) o) s)) (fault_in_table given (kind_at (kept_objects given) o s) o s (relocations_of (object_at (kept_objects given) o) s))
    else None

abbrev pub object_data_fault : Given → ℕ → Option Fault
object_data_fault given o = first_below (length (object_at (kept_objects given) o).sections) (section_data_fault given o)

unfoldable pub first_data_fault : Given → Option Fault
first_data_fault given = first_below (length (kept_objects given)) (object_data_fault given)

-- ---- the bytes of data

-- bytes with others in the place of those from an offset on; past the end nothing is put
unfoldable pub put_bytes : List ℕ → ℕ → List ℕ → List ℕ
put_bytes bytes at [] = bytes
put_bytes bytes at (b ∷ piece) = put_bytes (slice_set bytes at b) (at + 1) piece

-- the number in some bytes from an offset on
abbrev pub number_in_bytes : List ℕ → ℕ → ℕ → ℕ
number_in_bytes bytes at width = number_of (take width (drop at bytes))

-- the new number in place of an old one
abbrev pub changed : Kind → ℕ → ℤ → ℤ
changed (Add bytes) old v = pos old +ℤ v
changed (Subtract bytes) old v = pos old -ℤ v
changed kind old v = v

-- bytes after a relocation of a kind with a value: the low bytes of the new number replace the old ones
unfoldable pub patched_by : Kind → ℤ → ℕ → List ℕ → List ℕ
patched_by kind v at bytes =
    put_bytes bytes at (little (data_width kind) (bits_of (changed kind (number_in_bytes bytes at (data_width kind)) v)))

-- bytes after a relocation of a section
abbrev pub relocated_by : Given → ℕ → ℕ → List ℕ → Relocation → List ℕ
relocated_by given o s bytes r = if has_effect r.kind then patched_by (kind_of r.kind) (data_value given o s r) r.offset bytes else bytes

-- the bytes of a section of data, with its relocations in table order
unfoldable pub section_bytes : Given → ℕ → ℕ → Section → List ℕ
section_bytes given o s section = fold (relocated_by given o s) section.content section.relocations
