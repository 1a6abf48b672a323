-- The faults that are present in the bytes b of a file, in the order in which they are reported: those of the
-- header, then of each section its table (4), its form (8), its name and those of its symbols (5), its symbols (6) and
-- its relocations (7).
use Rattle.std.specs.Prelude.{ℕ, Bool, cond, ◌||◌, List, []}
use Rattle.faults.specs.Present.{◌followed_by◌, broken, each_below}
use Rattle.elf_objects.specs.Headers.{section_count}
use Rattle.elf_objects.specs.Sections.{is_symbol_table}
use Rattle.elf_objects.specs.Symbols.{symbol_entry_count}
use Rattle.elf_objects.specs.Relocations.{is_rela, entry_count}
use Rattle.elf_objects.specs.Rules.{is_not_elf, is_wrong_kind, has_wrong_flags, is_table_missing, are_names_missing, is_bad_section, is_unsupported, is_section_unnamed, is_symbol_unnamed, is_bad_symbol, is_bad_entry}
use Rattle.elf_objects.specs.declared.fault.Refusal.{Refusal}
use Rattle.elf_objects.specs.declared.fault.TheConstants.{NOT_ELF, WRONG_KIND, WRONG_FLAGS, BAD_TABLE, BAD_NAME, BAD_SYMBOL, BAD_RELOCATION, UNSUPPORTED_SECTION}

-- a fault's code, its section, and what is at fault in it: the number of a symbol or relocation, or 0 for the section
abbrev pub refusal : ℕ → ℕ → ℕ → Refusal
refusal code section offset = record { code = code; section = section; offset = offset }

-- of the file header
abbrev pub header_faults : List ℕ → List Refusal
header_faults b =
    broken (is_not_elf b) (refusal NOT_ELF 0 0)
    followed_by broken (is_wrong_kind b) (refusal WRONG_KIND 0 0)
    followed_by broken (has_wrong_flags b) (refusal WRONG_FLAGS 0 0)
    followed_by broken (is_table_missing b || are_names_missing b) (refusal BAD_TABLE 0 0)

-- faults that count only where a condition holds
abbrev pub faults_where : Bool → List Refusal → List Refusal
faults_where is faults = cond is faults []

-- of a section's name and, where it is the symbol table, of the names of its symbols
abbrev pub name_faults : List ℕ → ℕ → List Refusal
name_faults b s =
    let names = each_below (symbol_entry_count b) (λ i. broken (is_symbol_unnamed b i) (refusal BAD_NAME s i)) in
    broken (is_section_unnamed b s) (refusal BAD_NAME s 0)
    followed_by faults_where (is_symbol_table b s) names

-- of the symbols of the symbol table
abbrev pub symbol_faults : List ℕ → ℕ → List Refusal
symbol_faults b s =
    let symbols = each_below (symbol_entry_count b) (λ i. broken (is_bad_symbol b i) (refusal BAD_SYMBOL s i)) in
    faults_where (is_symbol_table b s) symbols

-- of the entries of a RELA section for a loaded section
abbrev pub relocation_faults : List ℕ → ℕ → List Refusal
relocation_faults b r =
    let relocations = each_below (entry_count b r) (λ k. broken (is_bad_entry b r k) (refusal BAD_RELOCATION r k)) in
    faults_where (is_rela b r) relocations

-- of the sections
abbrev pub section_faults : List ℕ → List Refusal
section_faults b =
    let n = section_count b in
    each_below n (λ s. broken (is_bad_section b s) (refusal BAD_TABLE s 0))
    followed_by each_below n (λ s. broken (is_unsupported b s) (refusal UNSUPPORTED_SECTION s 0))
    followed_by each_below n (name_faults b)
    followed_by each_below n (symbol_faults b)
    followed_by each_below n (relocation_faults b)

-- all faults
unfoldable pub faults_of : List ℕ → List Refusal
faults_of b = header_faults b followed_by section_faults b
