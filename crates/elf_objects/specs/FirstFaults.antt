-- The first fault of a file b, as the code finds it: rule after rule, up to the first that is broken.
use Rattle.std.specs.Prelude.{ℕ, ◌*◌, ◌/◌, cond, ◌||◌, List, length, Option, None}
use Rattle.faults.specs.First.{◌or_else◌, first_below, where_true}
use Rattle.elf_objects.specs.Headers.{header_of, section_count}
use Rattle.elf_objects.specs.Contents.{bytes_of}
use Rattle.elf_objects.specs.Sections.{is_symbol_table}
use Rattle.elf_objects.specs.Symbols.{symbol_entry_count}
use Rattle.elf_objects.specs.Relocations.{is_rela, relocation_in}
use Rattle.elf_objects.specs.Rules.{is_not_elf, is_wrong_kind, has_wrong_flags, is_table_missing, are_names_missing, is_bad_section, is_unsupported, is_section_unnamed, is_symbol_unnamed, is_bad_symbol, is_bad_relocation}
use Rattle.elf_objects.specs.Faults.{refusal}
use Rattle.elf_objects.specs.declared.fault.Refusal.{Refusal}
use Rattle.elf_objects.specs.declared.fault.TheConstants.{NOT_ELF, WRONG_KIND, WRONG_FLAGS, BAD_TABLE, BAD_NAME, BAD_SYMBOL, BAD_RELOCATION, UNSUPPORTED_SECTION}

-- of the file header
unfoldable pub header_refusal : List ℕ → Option Refusal
header_refusal b =
    where_true (is_not_elf b) (refusal NOT_ELF 0 0)
    or_else where_true (is_wrong_kind b) (refusal WRONG_KIND 0 0)
    or_else where_true (has_wrong_flags b) (refusal WRONG_FLAGS 0 0)
    or_else where_true (is_table_missing b || are_names_missing b) (refusal BAD_TABLE 0 0)

-- of the sections, each by what is found in it
abbrev pub in_sections : List ℕ → (ℕ → Option Refusal) → Option Refusal
in_sections b at = first_below (section_count b) at

-- of a section's table
abbrev pub table_refusal : List ℕ → ℕ → Option Refusal
table_refusal b s = where_true (is_bad_section b s) (refusal BAD_TABLE s 0)

-- of a section's form
abbrev pub form_refusal : List ℕ → ℕ → Option Refusal
form_refusal b s = where_true (is_unsupported b s) (refusal UNSUPPORTED_SECTION s 0)

-- of the names of symbols
unfoldable pub symbol_name_refusal : List ℕ → ℕ → Option Refusal
symbol_name_refusal b s = first_below (symbol_entry_count b) (λ i. where_true (is_symbol_unnamed b i) (refusal BAD_NAME s i))

-- of a section's name and those of its symbols
unfoldable pub name_refusal : List ℕ → ℕ → Option Refusal
name_refusal b s =
    where_true (is_section_unnamed b s) (refusal BAD_NAME s 0)
    or_else cond (is_symbol_table b s) (symbol_name_refusal b s) None

-- of the symbols in a section
unfoldable pub symbol_refusal : List ℕ → ℕ → Option Refusal
symbol_refusal b s =
    let first = first_below (symbol_entry_count b) (λ i. where_true (is_bad_symbol b i) (refusal BAD_SYMBOL s i)) in
    cond (is_symbol_table b s) first None

-- of the entries of a RELA section
unfoldable pub entries_refusal : List ℕ → ℕ → List ℕ → ℕ → Option Refusal
entries_refusal b r entries target =
    let is_bad = λ (k : ℕ). is_bad_relocation b target (relocation_in entries (24 * k)) in
    first_below (length entries / 24) (λ k. where_true (is_bad k) (refusal BAD_RELOCATION r k))

-- of the relocations in a section
unfoldable pub relocation_refusal : List ℕ → ℕ → Option Refusal
relocation_refusal b r =
    cond (is_rela b r) (entries_refusal b r (bytes_of b (header_of b r)) (header_of b r).info) None

-- of the sections, without their relocations
unfoldable pub sections_refusal : List ℕ → Option Refusal
sections_refusal b =
    in_sections b (table_refusal b)
    or_else in_sections b (form_refusal b)
    or_else in_sections b (name_refusal b)
    or_else in_sections b (symbol_refusal b)

-- of the file, without its relocations
unfoldable pub early_refusal : List ℕ → Option Refusal
early_refusal b = header_refusal b or_else sections_refusal b
