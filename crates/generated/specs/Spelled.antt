-- The object that the bytes of a generated object spell.
use Rattle.std.specs.Prelude.{◌≡◌, ℕ, ◌≤◌, List, [], ◌∷◌, codes, false, Some}
use Rattle.elf_objects.specs.declared.parts.Binding.TheVariants.{Local, Global}
use Rattle.elf_objects.specs.declared.parts.SectionKind.TheVariants.{Code, Unloaded}
use Rattle.elf_objects.specs.declared.parts.SymbolIndex.TheVariants.{Undefined, Section as InSection}
use Rattle.elf_objects.specs.Objects.{Object, Section, Symbol}
use Rattle.elf_objects.specs.Reading.{object_of}
use Rattle.generated.specs.Objects.{generated, symbol_table, text, text_len}

-- the section of code
abbrev pub code_section : ℕ → ℕ → Section
code_section seed count = record { name = codes ".text"; kind = Code; size = text_len count; align = 4; content = text seed count; relocations = [] }

-- a section that isn't loaded, by its name, its size, its alignment and its bytes
abbrev pub other_section : List ℕ → ℕ → ℕ → List ℕ → Section
other_section name size align content = record { name = name; kind = Unloaded; size = size; align = align; content = content; relocations = [] }

-- the null symbol, and `main` at the start of the code
abbrev pub null_symbol : Symbol
null_symbol = record { name = []; binding = Local; index = Undefined; value = 0 }

abbrev pub main_symbol : Symbol
main_symbol = record { name = codes "main"; binding = Global; index = InSection 1; value = 0 }

-- The object: a section of code with the text, and the sections of symbols and of names; and one name, `main`.
abbrev pub generated_object : ℕ → ℕ → Object
generated_object seed count = record {
  compressed = false;
  sections =
      other_section [] 0 1 []
      ∷ code_section seed count
      ∷ other_section (codes ".symtab") 48 8 (symbol_table (text_len count))
      ∷ other_section (codes ".strtab") 6 1 (codes "\0main\0")
      ∷ other_section (codes ".shstrtab") 33 1 (codes "\0.text\0.symtab\0.strtab\0.shstrtab\0")
      ∷ [];
  symbols = null_symbol ∷ main_symbol ∷ [];
  symbol_table = 2;
}

-- A generated object of at most 1,000,000 words has no fault, and is read as this object.
abbrev pub ObjectsAreSpelled : Type 0
ObjectsAreSpelled = (seed count : ℕ) → count ≤ 1000000 → object_of (generated seed count) ≡ Some (generated_object seed count)
