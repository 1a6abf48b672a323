-- A generated object has no fault.
use Rattle.std.proofs.Common.{◌≡◌, ℕ, ◌+◌, ◌*◌, ◌≤◌, List, [], ◌∷◌, ◌++◌, length, take, drop, Bool, true, false, not, ◌&&◌, ◌==◌, refl, sym, ap, ◌∙◌, append_assoc, arith}
use Rattle.std.specs.Prelude.{codes, nat_lt, nat_eq, Some}
use Rattle.std.specs.List.{starts_with}
use Rattle.std.proofs.lemmas.Bool.{le-ltb}
use Rattle.std.proofs.lemmas.List.{length-append}
use Rattle.std.proofs.Math.Seq.{drop-append_seam, take-append_seam}
use Rattle.numbers.specs.Bytes.{le_16, le_32, le_64}
use Rattle.faults.specs.Present.{each_below, broken}
use Rattle.faults.specs.First.{least_below}
use Rattle.elf_objects.specs.Fields.{word_16, word_32, word_64}
use Rattle.elf_objects.specs.Headers.{identification, file_flags}
use Rattle.elf_objects.specs.Sections as sections
use Rattle.elf_objects.specs.Contents.{bytes_of, lies_past, section_names}
use Rattle.elf_objects.specs.Contents.{has_name, name_at}
use Rattle.elf_objects.specs.Faults.{header_faults, section_faults, name_faults, symbol_faults, relocation_faults, faults_of, refusal}
use Rattle.elf_objects.specs.declared.fault.TheConstants.{BAD_TABLE, BAD_NAME, BAD_SYMBOL, UNSUPPORTED_SECTION}
use Rattle.elf_objects.specs.FileObject.{object_in, section_of, sections_of, symbols_of}
use Rattle.elf_objects.specs.Reading.{object_of}
use Rattle.elf_objects.specs.Relocations.{is_rela, relocations_below, relocations_for}
use Rattle.elf_objects.specs.Rules.{is_bad_section, is_bad_symbol_table, is_unsupported, is_section_unnamed, is_symbol_unnamed, is_bad_symbol}
use Rattle.elf_objects.specs.Symbols.{symbol_bytes, symbol_names, symbol_entry_count, symbol_entry, symbol_entry_in, symbol_at, symbol_count, count_by_table}
use Rattle.elf_objects.specs.declared.section_header.SectionHeader.{SectionHeader}
use Rattle.generated.specs.Objects.{text, text_len, file_kind, header_sizes, file_header, symbol_table, names, section_headers, generated}
use Rattle.generated.specs.Spelled.{code_section, other_section, null_symbol, main_symbol, generated_object, ObjectsAreSpelled}
use Rattle.generated.proofs.Lengths.{header_length, text_length, symbols_length, generated_length}
use Rattle.generated.proofs.Fields.{header_from}
use Rattle.generated.proofs.Read.{text_section, symbol_section, string_section, name_section_of, from_text, from_symbols, from_names, whole, table-is, entry_size-is, count-is, name_section-is, header-0, header-1, header-2, header-3, header-4}

and-false : (x : Bool) → (x && false) ≡ false
and-false true = refl
and-false false = refl

-- the bytes of a section that are where its header says
bytes-at : (b pre mid post : List ℕ) (h : SectionHeader) → b ≡ pre ++ (mid ++ post) → length pre ≡ h.offset → length mid ≡ h.size → bytes_of b h ≡ mid
unfolding bytes_of
bytes-at b pre mid post h is at len =
    let long : h.offset + h.size ≤ length b = rw is (simp length-append (omega (arith, at, len))) in
    let past : lies_past b h ≡ false = rw (le-ltb (length b) (h.offset + h.size) long) (and-false (not (h.size == 0))) in
    let dropped : drop h.offset (pre ++ (mid ++ post)) ≡ mid ++ post = rw (sym at) (drop-append_seam pre (mid ++ post)) in
    rw past (ap (λ l. take h.size (drop h.offset l)) is ∙ ap (take h.size) dropped ∙ rw (sym len) (take-append_seam mid post))

-- the names of sections
abbrev pub section_name_bytes : List ℕ
section_name_bytes = codes "\0.text\0.symtab\0.strtab\0.shstrtab\0"

names-cut : names ≡ codes "\0main\0" ++ (section_name_bytes ++ (0 ∷ []))
names-cut = refl

module _ (seed count : ℕ) (few : count ≤ 1000000) where
  pub text-bytes : bytes_of (generated seed count) (header_from (text_section (text_len count))) ≡ text seed count
  text-bytes = bytes-at (generated seed count) (file_header (152 + text_len count)) (text seed count) (from_symbols count) (header_from (text_section (text_len count))) (whole seed count) (header_length (152 + text_len count)) (text_length seed count)

  pub symbol-bytes : bytes_of (generated seed count) (header_from (symbol_section (text_len count))) ≡ symbol_table (text_len count)
  symbol-bytes =
      bytes-at (generated seed count) (file_header (152 + text_len count) ++ text seed count) (symbol_table (text_len count)) (from_names count) (header_from (symbol_section (text_len count)))
      (whole seed count ∙ simp append_assoc)
      (simp length-append (omega (arith, header_length (152 + text_len count), text_length seed count))) (symbols_length (text_len count))

  pub string-bytes : bytes_of (generated seed count) (header_from (string_section (text_len count))) ≡ codes "\0main\0"
  string-bytes =
      bytes-at (generated seed count) (file_header (152 + text_len count) ++ text seed count ++ symbol_table (text_len count)) (codes "\0main\0") (section_name_bytes ++ (0 ∷ []) ++ section_headers (text_len count)) (header_from (string_section (text_len count)))
      (whole seed count ∙ simp append_assoc)
      (simp length-append (omega (arith, header_length (152 + text_len count), text_length seed count, symbols_length (text_len count)))) refl

  pub name-bytes : bytes_of (generated seed count) (header_from (name_section_of (text_len count))) ≡ section_name_bytes
  name-bytes =
      bytes-at (generated seed count) (file_header (152 + text_len count) ++ text seed count ++ symbol_table (text_len count) ++ codes "\0main\0") section_name_bytes ((0 ∷ []) ++ section_headers (text_len count)) (header_from (name_section_of (text_len count)))
      (whole seed count ∙ simp append_assoc)
      (simp length-append (omega (arith, header_length (152 + text_len count), text_length seed count, symbols_length (text_len count)))) refl

  pub section_names-are : section_names (generated seed count) ≡ section_name_bytes
  section_names-are = rw (name_section-is seed count few, header-4 seed count few) name-bytes

-- the first fields of the file header
first-fields : (at : ℕ) (rest : List ℕ)
    → (starts_with nat_eq (file_header at ++ rest) identification ≡ true) × (word_16 (file_header at ++ rest) 16 ≡ 1) × (word_16 (file_header at ++ rest) 18 ≡ 243) × (word_32 (file_header at ++ rest) 20 ≡ 1) × (word_32 (file_header at ++ rest) 48 ≡ 8)
unfolding file_header file_kind header_sizes le_16 le_32 le_64 word_16 word_32
first-fields at rest = (refl, refl, refl, refl, refl)

below-5 : {F : Type 0} (at : ℕ → List F) → at 0 ≡ [] → at 1 ≡ [] → at 2 ≡ [] → at 3 ≡ [] → at 4 ≡ [] → each_below 5 at ≡ []
unfolding each_below
below-5 at e0 e1 e2 e3 e4 = rw (e0, e1, e2, e3, e4) refl

below-2 : {F : Type 0} (at : ℕ → List F) → at 0 ≡ [] → at 1 ≡ [] → each_below 2 at ≡ []
unfolding each_below
below-2 at e0 e1 = rw (e0, e1) refl

module _ (seed count : ℕ) (few : count ≤ 1000000) where
  header-faults : header_faults (generated seed count) ≡ []
  header-faults =
      let b : List ℕ = generated seed count in
      let fields = first-fields (152 + text_len count) (from_text seed count) in
      let starts : starts_with nat_eq (generated seed count) identification ≡ true = rw (whole seed count) fields.0 in
      let kind : word_16 (generated seed count) 16 ≡ 1 = rw (whole seed count) fields.1 in
      let machine : word_16 (generated seed count) 18 ≡ 243 = rw (whole seed count) fields.2 in
      let version : word_32 (generated seed count) 20 ≡ 1 = rw (whole seed count) fields.3 in
      let flags : word_32 (generated seed count) 48 ≡ 8 = rw (whole seed count) fields.4 in
      let long : nat_lt (length (generated seed count)) 64 ≡ false = le-ltb _ _ (omega (arith, generated_length seed count)) in
      let table : nat_lt (length (generated seed count)) (152 + text_len count + 320) ≡ false = le-ltb _ _ (omega (arith, generated_length seed count)) in
      rw (long, starts, kind, machine, version, flags, entry_size-is seed count few, count-is seed count few, table-is seed count few, table, name_section-is seed count few, header-4 seed count few) refl

  -- the symbol table is section 2
  symbol_table-is : sections.symbol_table (generated seed count) ≡ Some 2
  unfolding sections.symbol_table least_below
  symbol_table-is = rw (count-is seed count few, header-0 seed count few, header-1 seed count few, header-2 seed count few) refl

  -- the section's bytes lie in the file
  within : (h : SectionHeader) → h.offset + h.size ≤ 472 + 4 * count → lies_past (generated seed count) h ≡ false
  within h fits =
      let long : nat_lt (length (generated seed count)) (h.offset + h.size) ≡ false = le-ltb _ _ (omega (arith, generated_length seed count, fits)) in
      rw long (and-false (not (h.size == 0)))

  loaded-0 : sections.is_loaded (generated seed count) 0 ≡ false
  unfolding sections.is_loaded
  loaded-0 = rw (header-0 seed count few) refl

  loaded-1 : sections.is_loaded (generated seed count) 1 ≡ true
  unfolding sections.is_loaded sections.is_unwinding has_name
  loaded-1 = rw (header-1 seed count few, section_names-are seed count few) refl

  loaded-2 : sections.is_loaded (generated seed count) 2 ≡ false
  unfolding sections.is_loaded
  loaded-2 = rw (header-2 seed count few) refl

  loaded-3 : sections.is_loaded (generated seed count) 3 ≡ false
  unfolding sections.is_loaded
  loaded-3 = rw (header-3 seed count few) refl

  loaded-4 : sections.is_loaded (generated seed count) 4 ≡ false
  unfolding sections.is_loaded
  loaded-4 = rw (header-4 seed count few) refl

  bad-0 : is_bad_section (generated seed count) 0 ≡ false
  unfolding is_bad_section
  bad-0 = rw (loaded-0, header-0 seed count few) refl

  bad-1 : is_bad_section (generated seed count) 1 ≡ false
  unfolding is_bad_section lib.Count.ones
  bad-1 = rw (loaded-1, header-1 seed count few, within (header_from (text_section (text_len count))) (omega arith)) refl

  bad-2 : is_bad_section (generated seed count) 2 ≡ false
  unfolding is_bad_section is_bad_symbol_table
  bad-2 = rw (loaded-2, header-2 seed count few, within (header_from (symbol_section (text_len count))) (omega arith), count-is seed count few, header-3 seed count few, symbol_table-is) refl

  bad-3 : is_bad_section (generated seed count) 3 ≡ false
  unfolding is_bad_section
  bad-3 = rw (loaded-3, header-3 seed count few, within (header_from (string_section (text_len count))) (omega arith)) refl

  bad-4 : is_bad_section (generated seed count) 4 ≡ false
  unfolding is_bad_section
  bad-4 = rw (loaded-4, header-4 seed count few, within (header_from (name_section_of (text_len count))) (omega arith)) refl

  known-0 : is_unsupported (generated seed count) 0 ≡ false
  unfolding is_unsupported
  known-0 = rw (header-0 seed count few) refl

  known-1 : is_unsupported (generated seed count) 1 ≡ false
  unfolding is_unsupported sections.is_unwinding has_name
  known-1 = rw (header-1 seed count few, section_names-are seed count few) refl

  known-2 : is_unsupported (generated seed count) 2 ≡ false
  unfolding is_unsupported
  known-2 = rw (header-2 seed count few) refl

  known-3 : is_unsupported (generated seed count) 3 ≡ false
  unfolding is_unsupported
  known-3 = rw (header-3 seed count few) refl

  known-4 : is_unsupported (generated seed count) 4 ≡ false
  unfolding is_unsupported
  known-4 = rw (header-4 seed count few) refl

  -- the symbols and their names
  symbol_bytes-are : symbol_bytes (generated seed count) ≡ symbol_table (text_len count)
  symbol_bytes-are = rw (symbol_table-is, header-2 seed count few) (symbol-bytes seed count few)

  symbol_names-are : symbol_names (generated seed count) ≡ codes "\0main\0"
  symbol_names-are = rw (symbol_table-is, header-2 seed count few, count-is seed count few, header-3 seed count few) (string-bytes seed count few)

  two-symbols : symbol_entry_count (generated seed count) ≡ 2
  two-symbols = rw (symbol_bytes-are, symbols_length (text_len count)) refl

  entry-0 : symbol_entry (generated seed count) 0 ≡ record { name = 0; info = 0; index = 0; value = 0 }
  unfolding symbol_entry symbol_entry_in symbol_table word_16 word_32 word_64 le_16 le_32 le_64
  entry-0 = rw symbol_bytes-are refl

  entry-1 : symbol_entry (generated seed count) 1 ≡ record { name = 1; info = 18; index = 1; value = 0 }
  unfolding symbol_entry symbol_entry_in symbol_table word_16 word_32 word_64 le_16 le_32 le_64
  entry-1 = rw symbol_bytes-are refl

  named-0 : is_section_unnamed (generated seed count) 0 ≡ false
  unfolding has_name
  named-0 = rw (header-0 seed count few, section_names-are seed count few) refl

  rela-0 : is_rela (generated seed count) 0 ≡ false
  unfolding is_rela
  rela-0 = rw (header-0 seed count few) refl

  named-1 : is_section_unnamed (generated seed count) 1 ≡ false
  unfolding has_name
  named-1 = rw (header-1 seed count few, section_names-are seed count few) refl

  rela-1 : is_rela (generated seed count) 1 ≡ false
  unfolding is_rela
  rela-1 = rw (header-1 seed count few) refl

  named-2 : is_section_unnamed (generated seed count) 2 ≡ false
  unfolding has_name
  named-2 = rw (header-2 seed count few, section_names-are seed count few) refl

  rela-2 : is_rela (generated seed count) 2 ≡ false
  unfolding is_rela
  rela-2 = rw (header-2 seed count few) refl

  named-3 : is_section_unnamed (generated seed count) 3 ≡ false
  unfolding has_name
  named-3 = rw (header-3 seed count few, section_names-are seed count few) refl

  rela-3 : is_rela (generated seed count) 3 ≡ false
  unfolding is_rela
  rela-3 = rw (header-3 seed count few) refl

  named-4 : is_section_unnamed (generated seed count) 4 ≡ false
  unfolding has_name
  named-4 = rw (header-4 seed count few, section_names-are seed count few) refl

  rela-4 : is_rela (generated seed count) 4 ≡ false
  unfolding is_rela
  rela-4 = rw (header-4 seed count few) refl

  symbol_named-0 : is_symbol_unnamed (generated seed count) 0 ≡ false
  unfolding has_name
  symbol_named-0 = rw (symbol_names-are, entry-0) refl

  symbol_named-1 : is_symbol_unnamed (generated seed count) 1 ≡ false
  unfolding has_name
  symbol_named-1 = rw (symbol_names-are, entry-1) refl

  symbol-0 : is_bad_symbol (generated seed count) 0 ≡ false
  unfolding is_bad_symbol
  symbol-0 = refl

  symbol-1 : is_bad_symbol (generated seed count) 1 ≡ false
  unfolding is_bad_symbol
  symbol-1 =
      let inside : nat_lt (text_len count) 0 ≡ false = le-ltb (text_len count) 0 (omega arith) in
      rw (entry-1, count-is seed count few, loaded-1, header-1 seed count few, inside) refl

  section-faults : section_faults (generated seed count) ≡ []
  section-faults =
      let b : List ℕ = generated seed count in
      let bad : each_below 5 (λ s. broken (is_bad_section (generated seed count) s) (refusal BAD_TABLE s 0)) ≡ [] =
      below-5 _ (rw bad-0 refl) (rw bad-1 refl) (rw bad-2 refl) (rw bad-3 refl) (rw bad-4 refl) in
      let unknown : each_below 5 (λ s. broken (is_unsupported (generated seed count) s) (refusal UNSUPPORTED_SECTION s 0)) ≡ [] =
      below-5 _ (rw known-0 refl) (rw known-1 refl) (rw known-2 refl) (rw known-3 refl) (rw known-4 refl) in
      let symbol_names : each_below 2 (λ i. broken (is_symbol_unnamed (generated seed count) i) (refusal BAD_NAME 2 i)) ≡ [] =
      below-2 _ (rw symbol_named-0 refl) (rw symbol_named-1 refl) in
      let named : each_below 5 (name_faults (generated seed count)) ≡ [] =
      below-5 _ (rw (named-0, symbol_table-is) refl) (rw (named-1, symbol_table-is) refl) (rw (two-symbols, named-2, symbol_names, symbol_table-is) refl) (rw (named-3, symbol_table-is) refl) (rw (named-4, symbol_table-is) refl) in
      let symbols : each_below 2 (λ i. broken (is_bad_symbol (generated seed count) i) (refusal BAD_SYMBOL 2 i)) ≡ [] =
      below-2 _ (rw symbol-0 refl) (rw symbol-1 refl) in
      let symbol : each_below 5 (symbol_faults (generated seed count)) ≡ [] =
      below-5 _ (rw symbol_table-is refl) (rw symbol_table-is refl) (rw (two-symbols, symbols, symbol_table-is) refl) (rw symbol_table-is refl) (rw symbol_table-is refl) in
      let relocation : each_below 5 (relocation_faults (generated seed count)) ≡ [] =
      below-5 _ (rw rela-0 refl) (rw rela-1 refl) (rw rela-2 refl) (rw rela-3 refl) (rw rela-4 refl) in
      rw (count-is seed count few, bad, unknown, named, symbol, relocation) refl

  pub no-faults : faults_of (generated seed count) ≡ []
  unfolding faults_of
  no-faults = rw (header-faults, section-faults) refl

  no-relocations : (s : ℕ) → relocations_for (generated seed count) s ≡ []
  unfolding relocations_below
  no-relocations s = rw (count-is seed count few, rela-0, rela-1, rela-2, rela-3, rela-4) refl

  section-0 : section_of (generated seed count) 0 ≡ other_section [] 0 1 []
  unfolding section_of name_at sections.section_kind
  section-0 = rw (no-relocations 0, loaded-0, header-0 seed count few, section_names-are seed count few) refl

  section-1 : section_of (generated seed count) 1 ≡ code_section seed count
  unfolding section_of name_at sections.section_kind
  section-1 = rw (no-relocations 1, loaded-1, header-1 seed count few, text-bytes seed count few, section_names-are seed count few) refl

  section-2 : section_of (generated seed count) 2 ≡ other_section (codes ".symtab") 48 8 (symbol_table (text_len count))
  unfolding section_of name_at sections.section_kind
  section-2 = rw (no-relocations 2, loaded-2, header-2 seed count few, symbol-bytes seed count few, section_names-are seed count few) refl

  section-3 : section_of (generated seed count) 3 ≡ other_section (codes ".strtab") 6 1 (codes "\0main\0")
  unfolding section_of name_at sections.section_kind
  section-3 = rw (no-relocations 3, loaded-3, header-3 seed count few, string-bytes seed count few, section_names-are seed count few) refl

  section-4 : section_of (generated seed count) 4 ≡ other_section (codes ".shstrtab") 33 1 (codes "\0.text\0.symtab\0.strtab\0.shstrtab\0")
  unfolding section_of name_at sections.section_kind
  section-4 = rw (no-relocations 4, loaded-4, header-4 seed count few, name-bytes seed count few, section_names-are seed count few) refl

  sections-are : sections_of (generated seed count) ≡ (generated_object seed count).sections
  unfolding sections_of
  sections-are = rw (count-is seed count few, section-0, section-1, section-2, section-3, section-4) refl

  first-symbol : symbol_at (generated seed count) 0 ≡ null_symbol
  unfolding symbol_at name_at
  first-symbol = rw (symbol_table-is, symbol_names-are, entry-0) refl

  second-symbol : symbol_at (generated seed count) 1 ≡ main_symbol
  unfolding symbol_at name_at
  second-symbol = rw (symbol_table-is, symbol_names-are, entry-1) refl

  symbol_count-is : symbol_count (generated seed count) ≡ 2
  unfolding symbol_count
  symbol_count-is = ap (count_by_table (generated seed count)) symbol_table-is ∙ two-symbols

  symbols-are : symbols_of (generated seed count) ≡ null_symbol ∷ main_symbol ∷ []
  unfolding symbols_of
  symbols-are = rw (symbol_count-is, first-symbol, second-symbol) refl

  flags-are : file_flags (generated seed count) ≡ 8
  flags-are = rw (whole seed count) (first-fields (152 + text_len count) (from_text seed count)).4

  pub object-is : object_in (generated seed count) ≡ generated_object seed count
  object-is = rw (flags-are, sections-are, symbols-are, symbol_table-is) refl

pub objects-are-spelled : ObjectsAreSpelled
unfolding object_of
objects-are-spelled seed count few = rw (no-faults seed count few, object-is seed count few) refl
