-- The object that the bytes b of a file spell, if they have no fault: its parts by their numbers.
use Rattle.std.specs.Prelude.{ℕ, ◌==◌, ◌||◌, if◌then◌else◌, Bool, List, [], map, Option, Some, None}
use Rattle.std.specs.List.{range_with_len}
use Rattle.elf_objects.specs.Headers.{file_flags, header_of, section_count}
use Rattle.elf_objects.specs.Contents.{bytes_of, name_at, section_names}
use Rattle.elf_objects.specs.Sections.{has_flag, section_kind, symbol_table}
use Rattle.elf_objects.specs.Symbols.{symbol_count, symbol_at}
use Rattle.elf_objects.specs.Relocations.{relocations_for}
use Rattle.elf_objects.specs.Objects.{Section, Symbol, Object}

-- a section: an alignment of 0 is that of 1, and the types NULL 0 and NOBITS 8 have no bytes in the file
unfoldable pub section_of : List ℕ → ℕ → Section
section_of b s =
    let h = header_of b s in
    record {
      name = name_at (section_names b) h.name;
      kind = section_kind b s;
      size = h.size;
      align = (if h.align == 0 then 1 else h.align);
      content = (if h.kind == 0 || h.kind == 8 then [] else bytes_of b h);
      relocations = relocations_for b s;
    }

-- the sections, from 0
unfoldable pub sections_of : List ℕ → List Section
sections_of b = map (section_of b) (range_with_len 0 (section_count b))

-- the symbols, from 0
unfoldable pub symbols_of : List ℕ → List Symbol
symbols_of b = map (symbol_at b) (range_with_len 0 (symbol_count b))

-- a number that may be missing, and then is 0
abbrev pub number_or_zero : Option ℕ → ℕ
number_or_zero None = 0
number_or_zero (Some s) = s

-- the file may have instructions of 2 bytes: its flags have RVC, which is 1
abbrev pub is_compressed : List ℕ → Bool
is_compressed b = has_flag (file_flags b) 1

-- the object
abbrev pub object_in : List ℕ → Object
object_in b =
    record {
      compressed = is_compressed b;
      sections = sections_of b;
      symbols = symbols_of b;
      symbol_table = number_or_zero (symbol_table b);
    }
