-- When a file b has each of the faults 1 to 8. The rules of sections and symbols speak of the bytes that are there, so
-- that none supposes another to be kept.
use Rattle.std.specs.Prelude.{ℕ, ◌+◌, ◌*◌, ◌/◌, ◌%◌, nat_lt, nat_le, ◌==◌, Bool, false, not, ◌&&◌, ◌||◌, List, length, nat_eq}
use Rattle.std.specs.Int.{is_power_of_two}
use Rattle.std.specs.List.{starts_with}
use Rattle.elf_objects.specs.Fields.{word_16, word_32}
use Rattle.elf_objects.specs.Headers.{identification, file_flags, table_at, section_count, name_section, header_of}
use Rattle.elf_objects.specs.Contents.{lies_past, bytes_of, has_name, section_names}
use Rattle.elf_objects.specs.Sections.{has_flag, is_unwinding, is_loaded, is_symbol_table}
use Rattle.elf_objects.specs.Symbols.{symbol_names, symbol_entry, symbol_count, index_of}
use Rattle.elf_objects.specs.Relocations.{relocation_in}
use Rattle.elf_objects.specs.Widths.{width}
use Rattle.elf_objects.specs.declared.section_header.SectionHeader.{SectionHeader}
use Rattle.elf_objects.specs.declared.symbol_entry.SymbolEntry.{SymbolEntry}
use Rattle.elf_objects.specs.declared.parts.SymbolIndex.{SymbolIndex}
use Rattle.elf_objects.specs.declared.parts.SymbolIndex.TheVariants.{Section}
use Rattle.elf_objects.specs.declared.parts.Relocation.{Relocation}

-- 1 NotElf: no ELF file of 64 bits, the lowest byte first
abbrev pub is_not_elf : List ℕ → Bool
is_not_elf b = nat_lt (length b) 64 || not (starts_with nat_eq b identification)

-- 2 WrongKind: no relocatable file (1) for RISC-V (243) of version 1
abbrev pub is_wrong_kind : List ℕ → Bool
is_wrong_kind b = not (word_16 b 16 == 1) || not (word_16 b 18 == 243) || not (word_32 b 20 == 1)

-- 3 WrongFlags: other flags than RVE, which is 8
abbrev pub has_wrong_flags : List ℕ → Bool
has_wrong_flags b = not (file_flags b == 8)

-- 4 BadTable, in the header: section headers of another size than 64, none of them, or some of them past the file
abbrev pub is_table_missing : List ℕ → Bool
is_table_missing b =
    not (word_16 b 58 == 64) || section_count b == 0 || nat_lt (length b) (table_at b + 64 * section_count b)

-- 4 BadTable, in the header: no STRTAB (type 3) has the number of the section with the names
abbrev pub are_names_missing : List ℕ → Bool
are_names_missing b = nat_le (section_count b) (name_section b) || not ((header_of b (name_section b)).kind == 3)

-- a section is there and a STRTAB
abbrev pub is_string_table : List ℕ → ℕ → Bool
is_string_table b s = nat_lt s (section_count b) && (header_of b s).kind == 3

-- a table has whole entries of 24 bytes
abbrev pub has_entries : SectionHeader → Bool
has_entries h = h.entry_size == 24 && h.size % 24 == 0

-- 4 BadTable, in a SYMTAB: it has no STRTAB, no whole entries, or comes after another SYMTAB
unfoldable pub is_bad_symbol_table : List ℕ → ℕ → SectionHeader → Bool
is_bad_symbol_table b s h = not (is_string_table b h.link) || not (has_entries h) || not (is_symbol_table b s)

-- 4 BadTable, in a RELA section: it changes a section that isn't there; or a loaded one, by other symbols than those
-- of the SYMTAB or by entries that aren't whole
unfoldable pub is_bad_rela : List ℕ → SectionHeader → Bool
is_bad_rela b h =
    nat_le (section_count b) h.info
    || (is_loaded b h.info && (not (is_symbol_table b h.link) || not (has_entries h)))

-- an alignment that no loaded section has: none of 0, 1, 2, 4 and so on to 4096
abbrev pub is_bad_align : ℕ → Bool
is_bad_align align = not (align == 0) && (not (is_power_of_two align) || nat_lt 4096 align)

-- 4 BadTable, in a section: the first has a type other than NULL 0; or one of a type with bytes in the file, which
-- NULL and NOBITS 8 are not, reaches past the file's end; or it is a SYMTAB 2 or RELA 4 with a fault; or it is loaded
-- and can't be aligned
unfoldable pub is_bad_section : List ℕ → ℕ → Bool
is_bad_section b s =
    let h = header_of b s in
    (s == 0 && not (h.kind == 0))
    || (not (h.kind == 0) && not (h.kind == 8) && lies_past b h)
    || (h.kind == 2 && is_bad_symbol_table b s h)
    || (h.kind == 4 && is_bad_rela b h)
    || (is_loaded b s && is_bad_align h.align)

-- the forms that a section with ALLOC can't have: types other than PROGBITS 1, NOTE 7 and NOBITS 8; COMPRESSED;
-- instructions that may be written, or that have no bytes in the file; zeros that may not be written
abbrev pub is_unknown_form : SectionHeader → Bool
is_unknown_form h =
    (not (h.kind == 1) && not (h.kind == 8) && not (h.kind == 7))
    || has_flag h.flags 0x800
    || (has_flag h.flags 4 && has_flag h.flags 1)
    || (has_flag h.flags 4 && h.kind == 8)
    || (h.kind == 8 && not (has_flag h.flags 1))

-- 8 UnsupportedSection: one of type REL 9, GROUP 17 or SYMTAB_SHNDX 18; or with TLS; or with ALLOC and of no form that
-- is known, unless it has unwind information
unfoldable pub is_unsupported : List ℕ → ℕ → Bool
is_unsupported b s =
    let h = header_of b s in
    h.kind == 9 || h.kind == 17 || h.kind == 18 || has_flag h.flags 0x400
    || (has_flag h.flags 2 && not (is_unwinding b s) && is_unknown_form h)

-- 5 BadName: among the names there is no 00 at or after the index of a section's name
abbrev pub is_section_unnamed : List ℕ → ℕ → Bool
is_section_unnamed b s = not (has_name (section_names b) (header_of b s).name)

-- 5 BadName: the same of a symbol's name
abbrev pub is_symbol_unnamed : List ℕ → ℕ → Bool
is_symbol_unnamed b i = not (has_name (symbol_names b) (symbol_entry b i).name)

-- a symbol's section isn't there, or is loaded and ends before the symbol
abbrev pub is_out_of_range : List ℕ → SymbolIndex → ℕ → Bool
is_out_of_range b (Section s) value =
    nat_le (section_count b) s || (is_loaded b s && nat_lt (header_of b s).size value)
is_out_of_range b _ value = false

-- a symbol's binding is above WEAK 2 or its type above FILE 4
abbrev pub has_unknown_info : ℕ → Bool
has_unknown_info info = nat_lt 2 (info / 16) || nat_lt 4 (info % 16)

-- a symbol is LOCAL and undefined
abbrev pub is_undefined_local : SymbolEntry → Bool
is_undefined_local entry = entry.info / 16 == 0 && entry.index == 0

-- 6 BadSymbol: a symbol other than the null symbol has an unknown binding or type, or is undefined though LOCAL, or is
-- out of range
unfoldable pub is_bad_symbol : List ℕ → ℕ → Bool
is_bad_symbol b i =
    let entry = symbol_entry b i in
    let is_out = is_out_of_range b (index_of entry.index) entry.value in
    not (i == 0) && (has_unknown_info entry.info || is_undefined_local entry || is_out)

-- 7 BadRelocation: a relocation names a symbol that isn't there, or changes bytes past the end of its loaded section
abbrev pub is_bad_relocation : List ℕ → ℕ → Relocation → Bool
is_bad_relocation b target relocation =
    nat_le (symbol_count b) relocation.symbol
    || nat_lt (header_of b target).size (relocation.offset + width relocation.kind)

-- 7 BadRelocation: entry k of RELA section r is one
abbrev pub is_bad_entry : List ℕ → ℕ → ℕ → Bool
is_bad_entry b r k =
    let h = header_of b r in
    is_bad_relocation b h.info (relocation_in (bytes_of b h) (24 * k))
