-- The parts of the object that a file spells, by their numbers.
use Rattle.std.proofs.Common.{◌≡◌, ◌<◌, ℕ, List, [], length, map, Some, None, refl, ap, ◌∙◌, arith}
use Rattle.std.specs.List.{slice_get, range_with_len}
use Rattle.std.proofs.lemmas.List.FromFn.{length-map-range_with_len, get_or-map-range_with_len}
use Rattle.std.proofs.lemmas.Option.{slice_get-get_or}
use Rattle.elf_objects.specs.Objects.{relocations_of}
use Rattle.elf_objects.specs.Headers.{section_count}
use Rattle.elf_objects.specs.Symbols.{symbol_count, symbol_at}
use Rattle.elf_objects.specs.Relocations.{relocations_for}
use Rattle.faults.specs.Present.{first_in}
use Rattle.elf_objects.specs.Faults.{faults_of}
use Rattle.elf_objects.specs.Reading.{object_of}
use Rattle.elf_objects.specs.declared.fault.Refusal.{Refusal}
use Rattle.elf_objects.specs.FileObject.{section_of, sections_of, symbols_of, object_in}

-- a list of what a function gives at each number below n
slice_get-map : {X : Type 0} (f : ℕ → X) (n i : ℕ) → i < n → slice_get (map f (range_with_len 0 n)) i ≡ Some (f i)
slice_get-map f n i lt =
    let long : length (map f (range_with_len 0 n)) ≡ n = length-map-range_with_len f 0 n in
    slice_get-get_or (map f (range_with_len 0 n)) i (f i) (rw long lt)
    ∙ ap Some (get_or-map-range_with_len f 0 n i i (f i) lt (omega arith))

pub length-sections_of : (b : List ℕ) → length (sections_of b) ≡ section_count b
unfolding sections_of
length-sections_of b = length-map-range_with_len (section_of b) 0 (section_count b)

pub length-symbols_of : (b : List ℕ) → length (symbols_of b) ≡ symbol_count b
unfolding symbols_of
length-symbols_of b = length-map-range_with_len (symbol_at b) 0 (symbol_count b)

pub slice_get-sections_of : (b : List ℕ) (s : ℕ) → s < section_count b → slice_get (sections_of b) s ≡ Some (section_of b s)
unfolding sections_of
slice_get-sections_of b s lt = slice_get-map (section_of b) (section_count b) s lt

pub slice_get-symbols_of : (b : List ℕ) (i : ℕ) → i < symbol_count b → slice_get (symbols_of b) i ≡ Some (symbol_at b i)
unfolding symbols_of
slice_get-symbols_of b i lt = slice_get-map (symbol_at b) (symbol_count b) i lt

pub relocations_of-object_in : (b : List ℕ) (s : ℕ) → s < section_count b → relocations_of (object_in b) s ≡ relocations_for b s
unfolding section_of
relocations_of-object_in b s lt = rw (slice_get-sections_of b s lt) refl

-- a file without a fault is the object that it spells
pub object_of-valid : (b file : List ℕ) → file ≡ b → faults_of b ≡ [] → object_of b ≡ Some (object_in file)
unfolding object_of
object_of-valid b file same valid = rw (same, valid) refl

-- a file with a fault is none
pub object_of-faulty : (b : List ℕ) (fault : Refusal) → first_in (faults_of b) ≡ Some fault → object_of b ≡ None
unfolding object_of
object_of-faulty b fault first = rw first refl
