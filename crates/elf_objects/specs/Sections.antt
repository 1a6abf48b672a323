-- What a section is to a link (gABI, "Sections"; the numbers of types and flags are given there).
use Rattle.std.specs.Prelude.{ℕ, ◌==◌, Bool, false, not, ◌&&◌, ◌||◌, if◌then◌else◌, List, Option, Some, None, bit_and, codes}
use Rattle.faults.specs.First.{least_below}
use Rattle.elf_objects.specs.Headers.{header_of, section_count}
use Rattle.elf_objects.specs.Contents.{name_begins, section_names}
use Rattle.elf_objects.specs.declared.section_header.SectionHeader.{SectionHeader}
use Rattle.elf_objects.specs.declared.parts.SectionKind.{SectionKind}
use Rattle.elf_objects.specs.declared.parts.SectionKind.TheVariants.{Code, ReadOnly, Writable, Zero, Unloaded}

-- a flag is set; the flags are WRITE 1, ALLOC 2, EXECINSTR 4, TLS 0x400 and COMPRESSED 0x800
abbrev pub has_flag : ℕ → ℕ → Bool
has_flag flags flag = not (bit_and flags flag == 0)

-- the section has unwind information: its name begins with .eh_frame
unfoldable pub is_unwinding : List ℕ → ℕ → Bool
is_unwinding b s = name_begins (section_names b) (header_of b s).name (codes ".eh_frame")

-- the section is loaded: it has ALLOC and the type PROGBITS or NOBITS, and no unwind information
unfoldable pub is_loaded : List ℕ → ℕ → Bool
is_loaded b s =
    let h = header_of b s in
    has_flag h.flags 2 && (h.kind == 1 || h.kind == 8) && not (is_unwinding b s)

-- what a loaded section is, by its header
abbrev pub loaded_kind : SectionHeader → SectionKind
loaded_kind h =
    if has_flag h.flags 4 then Code else
    if has_flag h.flags 1 then (if h.kind == 1 then Writable else Zero) else ReadOnly

-- what a section is
unfoldable pub section_kind : List ℕ → ℕ → SectionKind
section_kind b s = if is_loaded b s then loaded_kind (header_of b s) else Unloaded

-- the number of the symbol table: the first section of type SYMTAB
unfoldable pub symbol_table : List ℕ → Option ℕ
symbol_table b = least_below (section_count b) (λ s. (header_of b s).kind == 2)

-- a number is the one that was found
abbrev pub is_found : Option ℕ → ℕ → Bool
is_found None s = false
is_found (Some found) s = found == s

-- a section is the symbol table
abbrev pub is_symbol_table : List ℕ → ℕ → Bool
is_symbol_table b s = is_found (symbol_table b) s
