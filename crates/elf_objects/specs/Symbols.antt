-- The symbols of an object (gABI, "Symbol Table").
use Rattle.std.specs.Prelude.{◌≡◌, ℕ, ◌+◌, ◌*◌, ◌/◌, ◌≤◌, nat_lt, ◌==◌, cond, if◌then◌else◌, List, [], length, Option, Some, None, slice_index}
use Rattle.elf_objects.specs.Fields.{word_16, word_32, word_64}
use Rattle.elf_objects.specs.Headers.{header_of, section_count}
use Rattle.elf_objects.specs.Contents.{bytes_of, name_at, section_names}
use Rattle.elf_objects.specs.Sections.{symbol_table}
use Rattle.elf_objects.specs.Objects.{Symbol}
use Rattle.elf_objects.specs.declared.symbol_entry.SymbolEntry.{SymbolEntry}
use Rattle.elf_objects.specs.declared.parts.Binding.{Binding}
use Rattle.elf_objects.specs.declared.parts.Binding.TheVariants.{Local, Global, Weak}
use Rattle.elf_objects.specs.declared.parts.SymbolIndex.{SymbolIndex}
use Rattle.elf_objects.specs.declared.parts.SymbolIndex.TheVariants as index_variant

-- the bytes of a section that may be missing
abbrev pub bytes_of_some : List ℕ → Option ℕ → List ℕ
bytes_of_some b None = []
bytes_of_some b (Some s) = bytes_of b (header_of b s)

-- the bytes of the section, if there is one, to which a section that may be missing links
abbrev pub bytes_of_link : List ℕ → Option ℕ → List ℕ
bytes_of_link b None = []
bytes_of_link b (Some s) =
    let link = (header_of b s).link in cond (nat_lt link (section_count b)) (bytes_of b (header_of b link)) []

-- the entries of the symbol table, of 24 bytes each
abbrev pub symbol_bytes : List ℕ → List ℕ
symbol_bytes b = bytes_of_some b (symbol_table b)

-- the names of symbols
abbrev pub symbol_names : List ℕ → List ℕ
symbol_names b = bytes_of_link b (symbol_table b)

-- how many entries the symbol table has
abbrev pub symbol_entry_count : List ℕ → ℕ
symbol_entry_count b = length (symbol_bytes b) / 24

-- the entry at an offset; the size of what the symbol names is passed over
unfoldable pub symbol_entry_in : List ℕ → ℕ → SymbolEntry
symbol_entry_in entries at =
    record {
      name = word_32 entries at;
      info = slice_index entries (at + 4);
      index = word_16 entries (at + 6);
      value = word_64 entries (at + 8);
    }

-- the entry of a symbol by its number
unfoldable pub symbol_entry : List ℕ → ℕ → SymbolEntry
symbol_entry b i = symbol_entry_in (symbol_bytes b) (24 * i)

-- the binding, which is the upper half of the byte that has it and the type: LOCAL 0, GLOBAL 1 and WEAK 2
abbrev pub binding_of : ℕ → Binding
binding_of info = if info / 16 == 1 then Global else if info / 16 == 2 then Weak else Local

-- where a symbol is defined; two numbers that could be a section's are kept for ABS and COMMON
abbrev pub index_of : ℕ → SymbolIndex
index_of n =
    if n == 0 then index_variant.Undefined else
    if n == 0xfff1 then index_variant.Absolute else
    if n == 0xfff2 then index_variant.Common else index_variant.Section n

-- how many symbols there are by the number of the symbol table: symbol 0 alone where there is none
abbrev pub count_by_table : List ℕ → Option ℕ → ℕ
count_by_table b None = 1
count_by_table b (Some s) = symbol_entry_count b

unfoldable pub symbol_count : List ℕ → ℕ
symbol_count b = count_by_table b (symbol_table b)

-- symbol 0 of an object without a symbol table
abbrev pub null_symbol : Symbol
null_symbol = record { name = []; binding = Local; index = index_variant.Undefined; value = 0 }

-- a symbol by its entry
abbrev pub symbol_from : List ℕ → SymbolEntry → Symbol
symbol_from names entry =
    record {
      name = name_at names entry.name;
      binding = binding_of entry.info;
      index = index_of entry.index;
      value = entry.value;
    }

abbrev pub symbol_by_table : List ℕ → Option ℕ → ℕ → Symbol
symbol_by_table b None i = null_symbol
symbol_by_table b (Some s) i = symbol_from (symbol_names b) (symbol_entry b i)

-- a symbol by its number
unfoldable pub symbol_at : List ℕ → ℕ → Symbol
symbol_at b i = symbol_by_table b (symbol_table b) i

-- a reader has at hand the names of sections, the number of the symbol table, its entries and their names
pub record HasTables (b names : List ℕ) (table : Option ℕ) (entries entry_names : List ℕ) : Type 0 where
  pub named : names ≡ section_names b
  pub first : table ≡ symbol_table b
  pub holds : entries ≡ symbol_bytes b
  pub within : length entries ≤ length b
  pub entries_named : entry_names ≡ symbol_names b
  pub names_within : length names ≤ length b
  pub entry_names_within : length entry_names ≤ length b
