-- The index of the relocations in a file b: for each section its RELA sections, each with the number of relocations
-- before it.
use Rattle.std.specs.Prelude.{◌≡◌, ◌≢◌, ◌≤◌, ◌<◌, ◌+◌, ◌-◌, ◌*◌, Some, ℕ, zero, suc, true, cond, List, [], ◌∷◌, ◌++◌, length, slice_index_or, slice_get}
use Rattle.elf_objects.specs.Headers.{header_of, section_count}
use Rattle.elf_objects.specs.Contents.{bytes_of, section_names}
use Rattle.elf_objects.specs.Symbols.{symbol_names}
use Rattle.elf_objects.specs.Faults.{faults_of}
use Rattle.elf_objects.specs.Relocations.{is_rela_of, relocations_below, relocations_for, relocation_in, entry_count}
use Rattle.elf_objects.specs.declared.relocation_index.Part.{Part}
use Rattle.elf_objects.specs.declared.relocation_index.Row.{Row}

abbrev pub no_part : Part
no_part = record { section = 0; before = 0 }

-- the RELA sections below r of section s, in order
unfoldable pub parts_below : List ℕ → ℕ → ℕ → List Part
parts_below b s zero = []
parts_below b s (suc r) =
    parts_below b s r
    ++ cond (is_rela_of b s r) (record { section = r; before = length (relocations_below b s r) } ∷ []) []

pub record HoldsRow (row : Row) (parts : List Part) (total : ℕ) : Type 0 where
  pub holds : row.parts.items ≡ parts
  pub counts : row.total ≡ total

-- n rows with nothing in them
pub record IsEmptyAt (rows : List Row) (n : ℕ) : Type 0 where
  pub long : length rows ≡ n
  pub empty : (s : ℕ) (d : Row) → s < n → HoldsRow (slice_index_or rows s d) [] 0

-- a part more at the end of the row of a target, and the other rows unchanged
pub record AddsPart (before after : List Row) (target section entries : ℕ) : Type 0 where
  pub long : length after ≡ length before
  pub others : (s : ℕ) (d : Row) → s ≢ target → slice_index_or after s d ≡ slice_index_or before s d
  pub here :
      (d : Row) →
      HoldsRow (slice_index_or after target d)
      ((slice_index_or before target d).parts.items
      ++ record { section = section; before = (slice_index_or before target d).total } ∷ [])
      ((slice_index_or before target d).total + entries)

-- each row holds its RELA sections below r
pub record IsIndexed (b : List ℕ) (rows : List Row) (r : ℕ) : Type 0 where
  pub long : length rows ≡ section_count b
  pub rows_hold :
      (s : ℕ) (d : Row) →
      s < section_count b →
      HoldsRow (slice_index_or rows s d) (parts_below b s r) (length (relocations_below b s r))

-- part i begins at or before an index, and the next part, if there is one, after it
pub record HoldsPart (parts : List Part) (at i : ℕ) : Type 0 where
  pub within : i < length parts
  pub begins : (slice_index_or parts i no_part).before ≤ at
  pub ends : i + 1 < length parts → at < (slice_index_or parts (i + 1) no_part).before

-- a file has no fault; the names of its sections and of its symbols are at hand, and the index of its relocations
pub record IsRead (b names entry_names : List ℕ) (rows : List Row) : Type 0 where
  pub valid : faults_of b ≡ []
  pub named : names ≡ section_names b
  pub entries_named : entry_names ≡ symbol_names b
  pub indexed : IsIndexed b rows (section_count b)

-- a part of section s holds the relocation with a number
pub record LeadsTo (b : List ℕ) (s at : ℕ) (part : Part) : Type 0 where
  pub rela : is_rela_of b s part.section ≡ true
  pub section : part.section < section_count b
  pub begins : part.before ≤ at
  pub within : at - part.before < entry_count b part.section
  pub gives :
      slice_get (relocations_for b s) at
      ≡ Some (relocation_in (bytes_of b (header_of b part.section)) (24 * (at - part.before)))
