-- The sections and imports that a place names are there.
use Rattle.std.proofs.Common.{◌≡◌, ℕ, ◌<◌, Bool, true, false, length, List, slice_get, nat_eq, if◌then◌else◌, Option, Some, None, refl, ap, subst}
use Rattle.std.proofs.lemmas.Option.{slice_get_within}
use Rattle.faults.specs.First.{where_true}
use Rattle.elf_objects.specs.declared.parts.Binding.{Binding}
use Rattle.elf_objects.specs.declared.parts.Binding.TheVariants.{Local, Global, Weak}
use Rattle.elf_objects.specs.declared.parts.SymbolIndex.{SymbolIndex}
use Rattle.elf_objects.specs.declared.parts.SymbolIndex.TheVariants as index
use Rattle.elf_objects.specs.declared.parts.SectionKind.{SectionKind}
use Rattle.elf_objects.specs.declared.parts.SectionKind.TheVariants as kinds
use Rattle.elf_objects.specs.Objects.{Section, Symbol, Object, is_loaded_kind}
use Rattle.symbols.specs.declared.place.Place.TheVariants.{Number}
use Rattle.symbols.specs.Parts.{same, object_at, symbol_at, kind_of, kind_at}
use Rattle.symbols.specs.Wanted.{Given, Wanted, import_of, import_name_at, entry_name_at}
use Rattle.symbols.specs.Resolution.{resolution, entry_place, Definition, section_place, defined_place, definition_or_import, definition_of, name_place, symbol_place}
use Rattle.symbols.specs.Laws.{HasSection, IsWithin, PlacesAreWithin}
use Rattle.symbols.proofs.DefinitionsThere.{first_below-holds, DefinitionIsThere-definition_of}

-- a section that is loaded is there
has_section : (objects : List Object) (object section : ℕ) → object < length objects → is_loaded_kind (kind_at objects object section) ≡ true → HasSection objects object section
has_section objects object section object_in loaded = by (slice_get (object_at objects object).sections section) refl loaded
  where
    by : (o : Option Section) → slice_get (object_at objects object).sections section ≡ o → is_loaded_kind (kind_of o) ≡ true → HasSection objects object section
    by None is l = cc
    by (Some x) is l = record { object_in = object_in; section_in = slice_get_within (object_at objects object).sections section x is }

within_section : (given : Given) (object section offset : ℕ) (kind : SectionKind) → object < length given.objects → kind_at given.objects object section ≡ kind → IsWithin given (section_place kind object section offset)
within_section given object section offset kinds.Code object_in is = (has_section given.objects object section object_in (ap is_loaded_kind is), is)
within_section given object section offset kinds.ReadOnly object_in is = (has_section given.objects object section object_in (ap is_loaded_kind is), rw is refl)
within_section given object section offset kinds.Writable object_in is = (has_section given.objects object section object_in (ap is_loaded_kind is), rw is refl)
within_section given object section offset kinds.Zero object_in is = (has_section given.objects object section object_in (ap is_loaded_kind is), rw is refl)
within_section given object section offset kinds.Unloaded object_in is = tt

within_defined : (given : Given) (object : ℕ) (i : SymbolIndex) (value : ℕ) → object < length given.objects → IsWithin given (defined_place given.objects object i value)
within_defined given object index.Undefined value object_in = tt
within_defined given object index.Absolute value object_in = tt
within_defined given object index.Common value object_in = tt
within_defined given object (index.Section section) value object_in = within_section given object section value (kind_at given.objects object section) object_in refl

-- an import that is found is there
import_within : (wanted : Wanted) (name : List ℕ) (at : ℕ) → import_of wanted name ≡ Some at → at < length wanted.imports
import_within wanted name at e =
    first_below-holds (λ k. k < length wanted.imports) (length wanted.imports) (λ k. where_true (same name (import_name_at wanted k)) k) (λ k x lt found. by k x (same name (import_name_at wanted k)) lt found) at e
  where
    by : (k x : ℕ) (b : Bool) → k < length wanted.imports → where_true b k ≡ Some x → x < length wanted.imports
    by k x true lt found = (let e : k ≡ x = cc in subst (λ n. n < length wanted.imports) e lt)
    by k x false lt found = cc

within_either : (given : Given) (name : List ℕ) (import : Option ℕ) → ((at : ℕ) → import ≡ Some at → at < length given.wanted.imports) → IsWithin given (definition_or_import given.objects (definition_of given name) import)
within_either given name import imports = by (definition_of given name) refl import refl
  where
    by : (o : Option Definition) → definition_of given name ≡ o → (i : Option ℕ) → import ≡ i → IsWithin given (definition_or_import given.objects o i)
    by (Some d) is i e = within_defined given d.object d.symbol.index d.symbol.value (DefinitionIsThere-definition_of given name d is).object_in
    by None is (Some at) e = imports at e
    by None is None e = tt

within_name : (given : Given) (name : List ℕ) → IsWithin given (name_place given name)
unfolding name_place
within_name given name = within_either given name (import_of given.wanted name) (import_within given.wanted name)

within_symbol : (given : Given) (object : ℕ) (binding : Binding) (symbol : Symbol) → object < length given.objects → IsWithin given (symbol_place given object binding symbol)
within_symbol given object Local symbol object_in = within_defined given object symbol.index symbol.value object_in
within_symbol given object Global symbol object_in = within_name given symbol.name
within_symbol given object Weak symbol object_in = within_name given symbol.name

-- the place of every symbol and of every entry
pub all_within : PlacesAreWithin
unfolding resolution entry_place
all_within = record {
  of_symbols = λ given object number object_in. by given object number object_in (nat_eq number 0);
  of_entries = λ given entry. within_either given (entry_name_at given.wanted entry) None (λ at e. cc);
}
  where
    by : (given : Given) (object number : ℕ) → object < length given.objects → (b : Bool) → IsWithin given (if b then Number 0 else symbol_place given object (symbol_at given.objects object number).binding (symbol_at given.objects object number))
    by given object number object_in true = tt
    by given object number object_in false = within_symbol given object (symbol_at given.objects object number).binding (symbol_at given.objects object number) object_in
