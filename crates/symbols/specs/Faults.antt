-- The faults of names: what the objects and the wanted names have that can't be linked, in the order of reporting.
use Rattle.std.specs.Prelude.{ℕ, ◌%◌, List, Bool, true, false, not, ◌&&◌, nat_eq, length, Option, Some, None, is_some, is_none, ◌≡◌}
use Rattle.std.specs.List.{list_any}
use Rattle.faults.specs.Present.{broken, ◌followed_by◌, each_below, first_in}
use Rattle.elf_objects.specs.declared.fault.Fault.{Fault}
use Rattle.elf_objects.specs.declared.parts.Binding.TheVariants.{Global}
use Rattle.elf_objects.specs.declared.parts.SymbolIndex.{SymbolIndex}
use Rattle.elf_objects.specs.declared.parts.SymbolIndex.TheVariants as index
use Rattle.elf_objects.specs.declared.parts.Relocation.{Relocation}
use Rattle.elf_objects.specs.Objects.{Section, Object, is_loaded_kind}
use Rattle.symbols.specs.declared.place.Place.{Place}
use Rattle.symbols.specs.declared.place.Place.TheVariants.{Code, Bytes, Unloaded, Import, Number, Absent}
use Rattle.symbols.specs.declared.fault.SymbolFault.{SymbolFault}
use Rattle.symbols.specs.declared.fault.SymbolFault.TheVariants.{Bad, Memory}
use Rattle.symbols.specs.declared.fault.TheConstants.{COMMON, DUPLICATE, UNDEFINED, ENTRY_MISSING, ENTRY_NOT_CODE}
use Rattle.symbols.specs.declared.named.TheConstants.{NONE, ALIGN, RELAX}
use Rattle.symbols.specs.Parts.{object_at, symbol_at, symbol_count}
use Rattle.symbols.specs.Wanted.{Given, kept_objects, entry_name_at, import_of}
use Rattle.symbols.specs.Resolution.{Definition, is_definition, same_binding, is_defined, definition_of, entry_place}

-- relocations of these kinds change nothing and name nothing (psABI, "Relocations")
abbrev pub has_effect : ℕ → Bool
has_effect kind = not (nat_eq kind NONE) && not (nat_eq kind ALIGN) && not (nat_eq kind RELAX)

abbrev pub names_symbol : ℕ → Relocation → Bool
names_symbol number relocation = has_effect relocation.kind && nat_eq relocation.symbol number

-- one of these relocations names the symbol with this number
abbrev pub is_named_among : List Relocation → ℕ → Bool
is_named_among relocations number = list_any (names_symbol number) relocations

-- a relocation of the section, where it is loaded, names the symbol
abbrev pub is_named_in : ℕ → Section → Bool
is_named_in number section = is_loaded_kind section.kind && is_named_among section.relocations number

-- a relocation of a loaded section of the object names its symbol with this number
abbrev pub is_named : Object → ℕ → Bool
is_named object number = list_any (is_named_in number) object.sections

abbrev pub is_common : SymbolIndex → Bool
is_common index.Undefined = false
is_common index.Absolute = false
is_common index.Common = true
is_common (index.Section section) = false

-- the definition is this symbol
abbrev pub is_at : ℕ → ℕ → Option Definition → Bool
is_at object number None = false
is_at object number (Some d) = nat_eq d.object object && nat_eq d.number number

-- A GLOBAL definition that its name doesn't stand for: an earlier symbol defines the name as GLOBAL.
abbrev pub is_duplicate : Given → ℕ → ℕ → Bool
is_duplicate given object number =
    let symbol = symbol_at given.objects object number in
    is_definition Global number symbol && not (is_at object number (definition_of given symbol.name))

-- nothing defines the name, and it isn't imported
abbrev pub is_unknown : Given → List ℕ → Bool
is_unknown given name = is_none (definition_of given name) && is_none (import_of given.wanted name)

-- A GLOBAL undefined symbol that a relocation names and whose name is unknown.
abbrev pub is_undefined : Given → ℕ → ℕ → Bool
is_undefined given object number =
    let symbol = symbol_at given.objects object number in
    not (nat_eq number 0) && same_binding Global symbol.binding && not (is_defined symbol.index) && is_named (object_at (kept_objects given) object) number && is_unknown given symbol.name

-- the fault of a symbol: it names the symbol's object, its table's section and its number there
abbrev pub symbol_fault : Given → ℕ → ℕ → ℕ → Fault
symbol_fault given code object number = record { code = code; object = object; section = (object_at given.objects object).symbol_table; offset = number }

abbrev pub faults_of_symbol : Given → ℕ → ℕ → List Fault
faults_of_symbol given object number =
    broken (is_common (symbol_at given.objects object number).index) (symbol_fault given COMMON object number)
    followed_by broken (is_duplicate given object number) (symbol_fault given DUPLICATE object number)
    followed_by broken (is_undefined given object number) (symbol_fault given UNDEFINED object number)

abbrev pub faults_of_object : Given → ℕ → List Fault
faults_of_object given object = each_below (symbol_count given.objects object) (faults_of_symbol given object)

-- an entry's name is defined, as GLOBAL or WEAK
abbrev pub has_entry : Given → ℕ → Bool
has_entry given entry = is_some (definition_of given (entry_name_at given.wanted entry))

-- An entry may be at an offset of a Code section that is a multiple of 4.
abbrev pub may_be_entry : Given → Place → Bool
may_be_entry given (Code object section offset) = nat_eq (offset % 4) 0
may_be_entry given (Bytes object section offset) = false
may_be_entry given Unloaded = false
may_be_entry given (Import at) = false
may_be_entry given (Number number) = false
may_be_entry given Absent = false

-- the fault of an entry, which names its number
abbrev pub entry_fault : ℕ → ℕ → Fault
entry_fault code entry = record { code = code; object = entry; section = 0; offset = 0 }

abbrev pub faults_of_entry : Given → ℕ → List Fault
faults_of_entry given entry =
    broken (not (has_entry given entry)) (entry_fault ENTRY_MISSING entry)
    followed_by broken (has_entry given entry && not (may_be_entry given (entry_place given entry))) (entry_fault ENTRY_NOT_CODE entry)

-- all faults of names: those of the symbols by object, symbol and number of the fault, then those of the entries
unfoldable pub symbol_faults : Given → List Fault
symbol_faults given =
    each_below (length given.objects) (faults_of_object given)
    followed_by each_below (length given.wanted.entries) (faults_of_entry given)

-- The first fault is reported; an allocation may fail at any time.
abbrev pub Refuses : SymbolFault → List Fault → Type 0
Refuses (Bad fault) faults = first_in faults ≡ Some fault
Refuses Memory faults = Unit {0}
