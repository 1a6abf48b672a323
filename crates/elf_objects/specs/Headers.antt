-- The file header and the section headers of a file b (gABI, "ELF Header" and "Section Header Table").
use Rattle.std.specs.Prelude.{◌≡◌, ℕ, ◌+◌, ◌*◌, ◌^◌, ◌<◌, ◌≤◌, List, [], ◌∷◌, length}
use Rattle.elf_objects.specs.Fields.{word_16, word_32, word_64}
use Rattle.elf_objects.specs.declared.section_header.SectionHeader.{SectionHeader}

-- what a file begins with: the magic number, then the class of 64 bits, the lowest byte first, and the version 1
abbrev pub identification : List ℕ
identification = 0x7f ∷ 0x45 ∷ 0x4c ∷ 0x46 ∷ 2 ∷ 1 ∷ 1 ∷ []

-- the flags of the file, which say for which instructions and registers it is (psABI, "File Header")
abbrev pub file_flags : List ℕ → ℕ
file_flags b = word_32 b 48

-- the offset of the section headers
abbrev pub table_at : List ℕ → ℕ
table_at b = word_64 b 40

-- how many sections there are
abbrev pub section_count : List ℕ → ℕ
section_count b = word_16 b 60

-- the number of the section that holds the names of sections
abbrev pub name_section : List ℕ → ℕ
name_section b = word_16 b 62

-- the section header at an offset; the address, at 16, has no meaning in an object
unfoldable pub header_in : List ℕ → ℕ → SectionHeader
header_in b at =
    record {
      name = word_32 b at;
      kind = word_32 b (at + 4);
      flags = word_64 b (at + 8);
      offset = word_64 b (at + 24);
      size = word_64 b (at + 32);
      link = word_32 b (at + 40);
      info = word_32 b (at + 44);
      align = word_64 b (at + 48);
      entry_size = word_64 b (at + 56);
    }

-- the header of a section by its number
unfoldable pub header_of : List ℕ → ℕ → SectionHeader
header_of b s = header_in b (table_at b + 64 * s)

-- the section headers lie in the file, and one of them is that of the names
pub record HasTable (b : List ℕ) (table count : ℕ) : Type 0 where
  pub begins : table ≡ table_at b
  pub counts : count ≡ section_count b
  pub named : name_section b < count
  pub small : length b ≤ 2 ^ 24
  pub lies_in : table + 64 * count ≤ length b
