-- The ELF object of a generated text: one section of code with the function `main`.
use Rattle.std.specs.Prelude.{ℕ, zero, suc, ◌+◌, ◌*◌, ◌++◌, List, codes}
use Rattle.numbers.specs.Bytes.{le_16, le_32, le_64}
use Rattle.generated.specs.Words.{next, word_of, return_word}

-- the text of the given number of words, and of the return behind them
unfoldable pub text : ℕ → ℕ → List ℕ
text seed zero = le_32 return_word
text seed (suc count) = le_32 (word_of (next seed)) ++ text (next seed) count

-- how many bytes the text of the given number of words has
abbrev pub text_len : ℕ → ℕ
text_len count = 4 * count + 4

-- what a file is: an object of 64 bits, little-endian, for RISC-V
unfoldable pub file_kind : List ℕ
file_kind = le_32 1179403647 ++ le_32 65794 ++ le_64 0 ++ le_16 1 ++ le_16 243 ++ le_32 1

-- the sizes of headers, none of which is a program's: there are five of sections, and the last has their names
unfoldable pub header_sizes : List ℕ
header_sizes = le_16 64 ++ le_16 0 ++ le_16 0 ++ le_16 64 ++ le_16 5 ++ le_16 4

-- the header of a file whose section headers are at an offset, for code of RV64E
unfoldable pub file_header : ℕ → List ℕ
file_header sections_at = file_kind ++ le_64 0 ++ le_64 0 ++ le_64 sections_at ++ le_32 8 ++ header_sizes

-- the symbol table: the null symbol, and the global function `main` with all of the text
unfoldable pub symbol_table : ℕ → List ℕ
symbol_table size = le_64 0 ++ le_64 0 ++ le_64 0 ++ le_32 1 ++ le_16 18 ++ le_16 1 ++ le_64 0 ++ le_64 size

-- the names of symbols and of sections, and a zero byte behind them
abbrev pub names : List ℕ
names = codes "\0main\0\0.text\0.symtab\0.strtab\0.shstrtab\0\0"

-- A section's header: its name and type, its flags, where its bytes are and how many it has, the section and the number that
-- it refers to, its alignment and the size of its entries. No section has an address.
pub record Section : Type 0 where
  pub name : ℕ
  pub kind : ℕ
  pub flags : ℕ
  pub at : ℕ
  pub size : ℕ
  pub link : ℕ
  pub info : ℕ
  pub align : ℕ
  pub entry_size : ℕ

unfoldable pub section_header : Section → List ℕ
section_header s =
    le_32 s.name ++ le_32 s.kind ++ le_64 s.flags ++ le_64 0 ++ le_64 s.at ++ le_64 s.size ++ le_32 s.link ++ le_32 s.info ++ le_64 s.align ++ le_64 s.entry_size

-- the headers of the null section, the text, the symbol table, and the names of symbols and of sections
unfoldable pub section_headers : ℕ → List ℕ
section_headers size =
    section_header (record { name = 0; kind = 0; flags = 0; at = 0; size = 0; link = 0; info = 0; align = 0; entry_size = 0 })
    ++ section_header (record { name = 1; kind = 1; flags = 6; at = 64; size = size; link = 0; info = 0; align = 4; entry_size = 0 })
    ++ section_header (record { name = 7; kind = 2; flags = 0; at = 64 + size; size = 48; link = 3; info = 1; align = 8; entry_size = 24 })
    ++ section_header (record { name = 15; kind = 3; flags = 0; at = 112 + size; size = 6; link = 0; info = 0; align = 1; entry_size = 0 })
    ++ section_header (record { name = 23; kind = 3; flags = 0; at = 118 + size; size = 33; link = 0; info = 0; align = 1; entry_size = 0 })

-- The object of the given number of random words: the file header, the text, the symbol table, the names and the section
-- headers.
unfoldable pub generated : ℕ → ℕ → List ℕ
generated seed count =
    file_header (152 + text_len count)
    ++ text seed count
    ++ symbol_table (text_len count)
    ++ names
    ++ section_headers (text_len count)
