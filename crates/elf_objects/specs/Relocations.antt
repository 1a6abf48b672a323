-- The relocations of a section (gABI, "Relocation"; RISC-V ELF psABI, "Relocations").
use Rattle.std.specs.Prelude.{ℕ, zero, suc, ◌+◌, ◌*◌, ◌/◌, nat_lt, ◌==◌, Bool, cond, ◌&&◌, List, [], ◌∷◌, ◌++◌, length}
use Rattle.std.specs.Int.{w64, cast_signed}
use Rattle.elf_objects.specs.Fields.{word_32, word_64}
use Rattle.elf_objects.specs.Headers.{header_of, section_count}
use Rattle.elf_objects.specs.Contents.{bytes_of}
use Rattle.elf_objects.specs.Sections.{is_loaded}
use Rattle.elf_objects.specs.declared.parts.Relocation.{Relocation}

-- the entry at an offset, of 24 bytes: the symbol's number is the upper half of the word that has it and the type
unfoldable pub relocation_in : List ℕ → ℕ → Relocation
relocation_in entries at =
    record {
      offset = word_64 entries at;
      kind = word_32 entries (at + 8);
      symbol = word_32 entries (at + 12);
      addend = cast_signed w64 (word_64 entries (at + 16));
    }

-- the relocations in the bytes of a RELA section, the first n
unfoldable pub entries_below : List ℕ → ℕ → List Relocation
entries_below entries zero = []
entries_below entries (suc n) = entries_below entries n ++ relocation_in entries (24 * n) ∷ []

-- section r is a RELA section for a loaded section, which its info names
unfoldable pub is_rela : List ℕ → ℕ → Bool
is_rela b r = let h = header_of b r in h.kind == 4 && nat_lt h.info (section_count b) && is_loaded b h.info

-- section r is a RELA section for the loaded section s
abbrev pub is_rela_of : List ℕ → ℕ → ℕ → Bool
is_rela_of b s r = is_rela b r && (header_of b r).info == s

-- the number of relocations in a RELA section
abbrev pub entry_count : List ℕ → ℕ → ℕ
entry_count b r = length (bytes_of b (header_of b r)) / 24

-- the relocations of section s in the RELA sections below r, one section after the other
unfoldable pub relocations_below : List ℕ → ℕ → ℕ → List Relocation
relocations_below b s zero = []
relocations_below b s (suc r) =
    relocations_below b s r
    ++ cond (is_rela_of b s r) (entries_below (bytes_of b (header_of b r)) (entry_count b r)) []

-- the relocations of a section; one that isn't loaded has none
abbrev pub relocations_for : List ℕ → ℕ → List Relocation
relocations_for b s = relocations_below b s (section_count b)
