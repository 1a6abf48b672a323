-- A generated object has no fault of the link, but for the size of its program.
use Rattle.std.proofs.Common.{◌≡◌, ◌⊎◌, ℕ, zero, suc, ◌+◌, ◌*◌, ◌/◌, ◌%◌, ◌<◌, ◌≤◌, List, [], ◌∷◌, ◌++◌, length, false, Option, Some, None, refl, ap, ◌∙◌, arith, inl, inr}
use Rattle.std.specs.Prelude.{Result, Ok, is_none, if◌then◌else◌, slice_get, get_or, nat_lt}
use Rattle.std.proofs.lemmas.Bool.{le-ltb, cases_eq, cases_lt}
use Rattle.std.proofs.lemmas.Option.{slice_get-get_or}
use Rattle.faults.specs.Present.{each_below, first_in}
use Rattle.elf_objects.specs.declared.fault.Fault.{Fault}
use Rattle.elf_objects.specs.declared.fault.Refusal.{Refusal}
use Rattle.elf_objects.specs.Objects.{Object}
use Rattle.elf_objects.specs.Faults.{faults_of}
use Rattle.elf_objects.specs.Reading.{object_of}
use Rattle.rv_decode.specs.declared.ops.RvOp.{RvOp}
use Rattle.rv_decode.specs.declared.ops.RvOp.TheVariants.{Trap}
use Rattle.rv_decode.specs.declared.ops.WordFault.{WordFault}
use Rattle.symbols.specs.Wanted.{Given}
use Rattle.symbols.specs.Faults.{symbol_faults}
use Rattle.symbols.specs.Resolution.{name_place, entry_place}
use Rattle.layout.specs.Faults.{code_size_of, code_size_in, code_size, layout_faults}
use Rattle.layout.specs.Addresses.{end_of_sections, end_of_objects}
use Rattle.layout.specs.Slots.{slot_places}
use Rattle.relocs.specs.Places.{Code}
use Rattle.relocs.specs.Words.{word_of_place, decoded}
use Rattle.relocs.specs.Pairs.{is_second}
use Rattle.relocs.specs.CodeFaults.{word_fault, operation_codes, codes_at, is_entry_at, entry_codes, faults_with, faults_at, section_faults, code_faults}
use Rattle.relocs.specs.Data.{data_faults}
use Rattle.lift_blocks.proofs.FirstFault.{each_empty}
use Rattle.link_core.specs.Faults.{object_faults, given_faults}
use Rattle.generated.specs.Objects.{generated, text}
use Rattle.generated.specs.Spelled.{generated_object, ObjectsAreSpelled}
use Rattle.generated.proofs.Lengths.{text_length}
use Rattle.generated_runs.specs.Inputs.{files_of, given_of}
use Rattle.generated_runs.specs.Operations.{operations}
use Rattle.generated_runs.specs.Laws.{TextsAreOperations, GeneratedIsGiven, NothingIsListed}
use Rattle.generated_runs.proofs.CodeWords.{operations-length, no-second, word-there, word-at_end, no-word}
use Rattle.generated_runs.proofs.Forms.{each-operation}

-- a file that is an object has no fault
object-sound : (file : List ℕ) (object : Object) → object_of file ≡ Some object → faults_of file ≡ []
unfolding object_of
object-sound file object is = by_faults (faults_of file) _ is
  where
    by_faults : (faults : List Refusal) (read : Object) → (if is_none (first_in faults) then Some read else None) ≡ Some object → faults ≡ []
    by_faults [] read e = refl
    by_faults (fault ∷ faults) read e = absurd cc

each-none : {F : Type 0} (n : ℕ) (at : ℕ → List F) → ((i : ℕ) → i < n → at i ≡ []) → each_below n at ≡ []
unfolding each_below
each-none zero at none = refl
each-none (suc n) at none = rw (each-none n at (λ i lt. none i (omega (arith, lt))), none n (omega arith)) refl

no-faults_with : (o s offset : ℕ) → faults_with [] o s offset ≡ []
unfolding each_below
no-faults_with o s offset = refl

module _ (seed count stack : ℕ) (few : count ≤ 1000000) where
  no-symbol_faults : symbol_faults (given_of seed count stack) ≡ []
  unfolding symbol_faults each_below entry_place name_place
  no-symbol_faults = refl

  code-size : code_size (given_of seed count stack) ≡ length (text seed count)
  unfolding code_size_in code_size_of
  code-size = omega arith

  no-layout_faults : layout_faults (given_of seed count stack) ≡ []
  unfolding end_of_sections end_of_objects slot_places each_below
  no-layout_faults =
      let small : nat_lt 16777216 (code_size (given_of seed count stack)) ≡ false = le-ltb 16777216 (code_size (given_of seed count stack)) (omega (arith, few, code-size, text_length seed count)) in
      rw small refl

  no-data_faults : data_faults (given_of seed count stack) ≡ []
  unfolding data_faults each_below
  no-data_faults = refl

  -- where there is no word, or one whose operation has no fault, an offset has no fault
  no-codes :
      (offset : ℕ) (word : Option (Result RvOp WordFault)) → word_of_place (given_of seed count stack) (Code 0 1 offset) ≡ word
      → word_fault word ≡ None → operation_codes (given_of seed count stack) 0 1 offset (decoded word) [] ≡ [] → codes_at (given_of seed count stack) 0 1 offset ≡ []
  no-codes offset word is faultless none = rw (is, faultless, no-second seed count stack offset, none) refl

  no-faults_at : (offset : ℕ) → codes_at (given_of seed count stack) 0 1 offset ≡ [] → faults_at (given_of seed count stack) 0 1 offset ≡ []
  no-faults_at offset none =
      let entries : entry_codes (given_of seed count stack) 0 1 offset ≡ [] =
      each_empty 1 (λ e. is_entry_at 0 1 offset (entry_place (given_of seed count stack) e)) (is_second (given_of seed count stack) (Code 0 1 offset)) (no-second seed count stack offset) in
      rw (none, entries) (no-faults_with 0 1 offset)

  module _ (words : TextsAreOperations) where
    no-operation_codes : (offset at : ℕ) (op : RvOp) → slice_get (operations seed count) at ≡ Some op → operation_codes (given_of seed count stack) 0 1 offset (Some op) [] ≡ []
    no-operation_codes offset =
        each-operation (λ op. operation_codes (given_of seed count stack) 0 1 offset (Some op) [] ≡ [])
        (record { of_addi = λ d s immediate d_fits s_fits fits. refl; of_srliw = λ d s immediate d_fits s_fits fits. refl; of_registers = λ op d s t d_fits s_fits t_fits. refl })
        refl seed count

    no-word_codes : (offset : ℕ) → offset ≤ length (text seed count) → codes_at (given_of seed count stack) 0 1 offset ≡ []
    no-word_codes offset within =
        elim (cases_eq (offset % 4) 0) [
          | inl multiple ↦ by_place (offset / 4) (omega (arith, multiple)) (cases_lt (offset / 4) (suc count))
          | inr other ↦ no-codes offset None (no-word seed count stack offset other) refl refl
        ]
      where
        by_place : (at : ℕ) → offset ≡ 4 * at → (at < suc count) ⊎ (suc count ≤ at) → codes_at (given_of seed count stack) 0 1 offset ≡ []
        by_place at is (inl before) =
            let there : slice_get (operations seed count) at ≡ Some (get_or (operations seed count) at Trap) = slice_get-get_or (operations seed count) at Trap (omega (arith, before, operations-length seed count)) in
            no-codes offset (Some (Ok (get_or (operations seed count) at Trap))) (rw is (word-there seed count stack words at (get_or (operations seed count) at Trap) there)) refl
            (no-operation_codes offset at (get_or (operations seed count) at Trap) there)
        by_place at is (inr end) =
            no-codes offset (Some (Ok Trap)) (word-at_end seed count stack offset (omega (arith, is, end, within, text_length seed count))) refl refl

    no-section_faults : section_faults (given_of seed count stack) 0 1 (Some (text seed count)) ≡ []
    no-section_faults =
        each-none (length (text seed count) + 1) (faults_at (given_of seed count stack) 0 1) (λ offset lt. no-faults_at offset (no-word_codes offset (omega (arith, lt))))

    no-code_faults : code_faults (given_of seed count stack) ≡ []
    unfolding code_faults each_below
    no-code_faults = rw no-section_faults refl

    no-given_faults : given_faults (given_of seed count stack) ≡ []
    no-given_faults = rw (no-symbol_faults, no-layout_faults, no-code_faults, no-data_faults) refl

  module _ (spelled : object_of (generated seed count) ≡ Some (generated_object seed count)) where
    no-object_faults : object_faults (files_of seed count) ≡ []
    unfolding each_below
    no-object_faults = rw (object-sound (generated seed count) (generated_object seed count) spelled) refl

pub generated-is_given : ObjectsAreSpelled → GeneratedIsGiven
generated-is_given spelled seed count stack few = rw (spelled seed count few) refl

pub nothing-is_listed : ObjectsAreSpelled → TextsAreOperations → NothingIsListed
nothing-is_listed spelled words seed count stack few =
    ap (λ (given : Given). object_faults (files_of seed count) ++ given_faults given) (generated-is_given spelled seed count stack few)
    ∙ ap (λ (faults : List Fault). faults ++ given_faults (given_of seed count stack)) (no-object_faults seed count stack few (spelled seed count few))
    ∙ no-given_faults seed count stack few words
