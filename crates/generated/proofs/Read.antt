-- What is read in a generated object.
use Rattle.std.proofs.Common.{◌≡◌, ℕ, ◌+◌, ◌*◌, ◌<◌, ◌≤◌, List, [], ◌++◌, length, refl, ap, ◌∙◌, append_assoc, arith}
use Rattle.std.proofs.lemmas.List.{length-append, append-nil}
use Rattle.numbers.specs.Bytes.{le_16, le_32, le_64}
use Rattle.elf_objects.specs.Fields.{word_16, word_32, word_64}
use Rattle.elf_objects.specs.Headers.{header_in, header_of, table_at, section_count, name_section}
use Rattle.elf_objects.specs.declared.section_header.SectionHeader.{SectionHeader}
use Rattle.generated.specs.Objects.{Section, text, text_len, file_kind, header_sizes, file_header, symbol_table, names, section_header, section_headers, generated}
use Rattle.generated.proofs.Lengths.{len_16, len_32, len_64, kind_length, header_length, text_length, symbols_length, section_length}
use Rattle.generated.proofs.Fields.{after-16, after-32, after-64, first-16, first-64, header_from, header-read}

-- a header after other bytes
after-header : (pre post : List ℕ) (p q at : ℕ) → length pre ≡ p → at ≡ p + q → header_in (pre ++ post) at ≡ header_in post q
unfolding header_in
after-header pre post p q at len is =
    let name : word_32 (pre ++ post) at ≡ word_32 post q = after-32 pre post p q at len is in
    let kind : word_32 (pre ++ post) (at + 4) ≡ word_32 post (q + 4) = after-32 pre post p (q + 4) (at + 4) len (omega (arith, is)) in
    let flags : word_64 (pre ++ post) (at + 8) ≡ word_64 post (q + 8) = after-64 pre post p (q + 8) (at + 8) len (omega (arith, is)) in
    let offset : word_64 (pre ++ post) (at + 24) ≡ word_64 post (q + 24) = after-64 pre post p (q + 24) (at + 24) len (omega (arith, is)) in
    let size : word_64 (pre ++ post) (at + 32) ≡ word_64 post (q + 32) = after-64 pre post p (q + 32) (at + 32) len (omega (arith, is)) in
    let link : word_32 (pre ++ post) (at + 40) ≡ word_32 post (q + 40) = after-32 pre post p (q + 40) (at + 40) len (omega (arith, is)) in
    let info : word_32 (pre ++ post) (at + 44) ≡ word_32 post (q + 44) = after-32 pre post p (q + 44) (at + 44) len (omega (arith, is)) in
    let align : word_64 (pre ++ post) (at + 48) ≡ word_64 post (q + 48) = after-64 pre post p (q + 48) (at + 48) len (omega (arith, is)) in
    let entry_size : word_64 (pre ++ post) (at + 56) ≡ word_64 post (q + 56) = after-64 pre post p (q + 56) (at + 56) len (omega (arith, is)) in
    rw (name, kind, flags, offset, size, link, info, align, entry_size) refl

-- the sections of a text of this size
abbrev pub null_section : Section
null_section = record { name = 0; kind = 0; flags = 0; at = 0; size = 0; link = 0; info = 0; align = 0; entry_size = 0 }

abbrev pub text_section : ℕ → Section
text_section size = record { name = 1; kind = 1; flags = 6; at = 64; size = size; link = 0; info = 0; align = 4; entry_size = 0 }

abbrev pub symbol_section : ℕ → Section
symbol_section size = record { name = 7; kind = 2; flags = 0; at = 64 + size; size = 48; link = 3; info = 1; align = 8; entry_size = 24 }

abbrev pub string_section : ℕ → Section
string_section size = record { name = 15; kind = 3; flags = 0; at = 112 + size; size = 6; link = 0; info = 0; align = 1; entry_size = 0 }

abbrev pub name_section_of : ℕ → Section
name_section_of size = record { name = 23; kind = 3; flags = 0; at = 118 + size; size = 33; link = 0; info = 0; align = 1; entry_size = 0 }

abbrev pub from_4 : ℕ → List ℕ
from_4 size = section_header (name_section_of size) ++ []

abbrev pub from_3 : ℕ → List ℕ
from_3 size = section_header (string_section size) ++ from_4 size

abbrev pub from_2 : ℕ → List ℕ
from_2 size = section_header (symbol_section size) ++ from_3 size

abbrev pub from_1 : ℕ → List ℕ
from_1 size = section_header (text_section size) ++ from_2 size

abbrev pub from_0 : ℕ → List ℕ
from_0 size = section_header null_section ++ from_1 size

headers-spelled : (size : ℕ) → section_headers size ≡ from_0 size
unfolding section_headers
headers-spelled size = simp (append_assoc, append-nil)

module _ (size : ℕ) (few : size ≤ 4000004) where
  read-0 : header_in (section_headers size) 0 ≡ header_from null_section
  read-0 = rw (headers-spelled size) (header-read null_section (from_1 size) (record { name = omega arith; kind = omega arith; flags = omega arith; at = omega arith; size = omega arith; link = omega arith; info = omega arith; align = omega arith; entry_size = omega arith }))

  read-1 : header_in (section_headers size) 64 ≡ header_from (text_section size)
  read-1 = rw (headers-spelled size) (after-header (section_header null_section) (from_1 size) 64 0 64 (section_length null_section) refl
      ∙ header-read (text_section size) (from_2 size) (record { name = omega arith; kind = omega arith; flags = omega arith; at = omega arith; size = omega arith; link = omega arith; info = omega arith; align = omega arith; entry_size = omega arith }))

  read-2 : header_in (section_headers size) 128 ≡ header_from (symbol_section size)
  read-2 = rw (headers-spelled size) (after-header (section_header null_section) (from_1 size) 64 64 128 (section_length null_section) refl
      ∙ after-header (section_header (text_section size)) (from_2 size) 64 0 64 (section_length (text_section size)) refl
      ∙ header-read (symbol_section size) (from_3 size) (record { name = omega arith; kind = omega arith; flags = omega arith; at = omega arith; size = omega arith; link = omega arith; info = omega arith; align = omega arith; entry_size = omega arith }))

  read-3 : header_in (section_headers size) 192 ≡ header_from (string_section size)
  read-3 = rw (headers-spelled size) (after-header (section_header null_section) (from_1 size) 64 128 192 (section_length null_section) refl
      ∙ after-header (section_header (text_section size)) (from_2 size) 64 64 128 (section_length (text_section size)) refl
      ∙ after-header (section_header (symbol_section size)) (from_3 size) 64 0 64 (section_length (symbol_section size)) refl
      ∙ header-read (string_section size) (from_4 size) (record { name = omega arith; kind = omega arith; flags = omega arith; at = omega arith; size = omega arith; link = omega arith; info = omega arith; align = omega arith; entry_size = omega arith }))

  read-4 : header_in (section_headers size) 256 ≡ header_from (name_section_of size)
  read-4 = rw (headers-spelled size) (after-header (section_header null_section) (from_1 size) 64 192 256 (section_length null_section) refl
      ∙ after-header (section_header (text_section size)) (from_2 size) 64 128 192 (section_length (text_section size)) refl
      ∙ after-header (section_header (symbol_section size)) (from_3 size) 64 64 128 (section_length (symbol_section size)) refl
      ∙ after-header (section_header (string_section size)) (from_4 size) 64 0 64 (section_length (string_section size)) refl
      ∙ header-read (name_section_of size) [] (record { name = omega arith; kind = omega arith; flags = omega arith; at = omega arith; size = omega arith; link = omega arith; info = omega arith; align = omega arith; entry_size = omega arith }))

-- the file header
file-spelled : (at : ℕ) (rest : List ℕ) → file_header at ++ rest ≡ file_kind ++ (le_64 0 ++ (le_64 0 ++ (le_64 at ++ (le_32 8 ++ (header_sizes ++ rest)))))
unfolding file_header
file-spelled at rest = simp append_assoc

table-read : (at : ℕ) (rest : List ℕ) → at < 18446744073709551616 → table_at (file_header at ++ rest) ≡ at
table-read at rest fits =
    let r4 : List ℕ = header_sizes ++ rest in
    let r3 : List ℕ = le_32 8 ++ r4 in
    let r2 : List ℕ = le_64 at ++ r3 in
    rw (file-spelled at rest)
    (after-64 file_kind (le_64 0 ++ (le_64 0 ++ r2)) 24 16 40 kind_length refl ∙ after-64 (le_64 0) (le_64 0 ++ r2) 8 8 16 (len_64 0) refl ∙ after-64 (le_64 0) r2 8 0 8 (len_64 0) refl ∙ first-64 at r3 fits)

size-16 : (at : ℕ) (rest : List ℕ) (q p : ℕ) → p ≡ 52 + q → word_16 (file_header at ++ rest) p ≡ word_16 (header_sizes ++ rest) q
size-16 at rest q p is =
    let r4 : List ℕ = header_sizes ++ rest in
    let r3 : List ℕ = le_32 8 ++ r4 in
    let r2 : List ℕ = le_64 at ++ r3 in
    rw (file-spelled at rest)
    (after-16 file_kind (le_64 0 ++ (le_64 0 ++ r2)) 24 (28 + q) p kind_length (omega (arith, is))
    ∙ after-16 (le_64 0) (le_64 0 ++ r2) 8 (20 + q) (28 + q) (len_64 0) (omega arith)
    ∙ after-16 (le_64 0) r2 8 (12 + q) (20 + q) (len_64 0) (omega arith)
    ∙ after-16 (le_64 at) r3 8 (4 + q) (12 + q) (len_64 at) (omega arith)
    ∙ after-16 (le_32 8) r4 4 q (4 + q) (len_32 8) (omega arith))

sizes-spelled : (rest : List ℕ) → header_sizes ++ rest ≡ le_16 64 ++ (le_16 0 ++ (le_16 0 ++ (le_16 64 ++ (le_16 5 ++ (le_16 4 ++ rest)))))
unfolding header_sizes
sizes-spelled rest = simp append_assoc

sizes-read : (rest : List ℕ) → (word_16 (header_sizes ++ rest) 6 ≡ 64) × (word_16 (header_sizes ++ rest) 8 ≡ 5) × (word_16 (header_sizes ++ rest) 10 ≡ 4)
sizes-read rest =
    let s5 : List ℕ = le_16 4 ++ rest in
    let s4 : List ℕ = le_16 5 ++ s5 in
    let s3 : List ℕ = le_16 64 ++ s4 in
    let s2 : List ℕ = le_16 0 ++ s3 in
    let s1 : List ℕ = le_16 0 ++ s2 in
    let to_3 : (q p : ℕ) → p ≡ 6 + q → word_16 (le_16 64 ++ s1) p ≡ word_16 s3 q =
    λ q p is. after-16 (le_16 64) s1 2 (4 + q) p (len_16 64) (omega (arith, is))
    ∙ after-16 (le_16 0) s2 2 (2 + q) (4 + q) (len_16 0) (omega arith)
    ∙ after-16 (le_16 0) s3 2 q (2 + q) (len_16 0) (omega arith) in
    let entry : word_16 (header_sizes ++ rest) 6 ≡ 64 = rw (sizes-spelled rest) (to_3 0 6 refl ∙ first-16 64 s4 (omega arith)) in
    let count : word_16 (header_sizes ++ rest) 8 ≡ 5 = rw (sizes-spelled rest) (to_3 2 8 refl ∙ after-16 (le_16 64) s4 2 0 2 (len_16 64) refl ∙ first-16 5 s5 (omega arith)) in
    let name : word_16 (header_sizes ++ rest) 10 ≡ 4 =
    rw (sizes-spelled rest) (to_3 4 10 refl ∙ after-16 (le_16 64) s4 2 2 4 (len_16 64) refl ∙ after-16 (le_16 5) s5 2 0 2 (len_16 5) refl ∙ first-16 4 rest (omega arith)) in
    (entry, count, name)

-- the parts of an object after its file header, its text, its symbols and its names
abbrev pub from_names : ℕ → List ℕ
from_names count = names ++ section_headers (text_len count)

abbrev pub from_symbols : ℕ → List ℕ
from_symbols count = symbol_table (text_len count) ++ from_names count

abbrev pub from_text : ℕ → ℕ → List ℕ
from_text seed count = text seed count ++ from_symbols count

pub whole : (seed count : ℕ) → generated seed count ≡ file_header (152 + text_len count) ++ from_text seed count
unfolding generated
whole seed count = simp append_assoc

module _ (seed count : ℕ) (few : count ≤ 1000000) where
  pub table-is : table_at (generated seed count) ≡ 152 + text_len count
  table-is = ap table_at (whole seed count) ∙ table-read (152 + text_len count) (from_text seed count) (omega arith)

  pub entry_size-is : word_16 (generated seed count) 58 ≡ 64
  entry_size-is = ap (λ b. word_16 b 58) (whole seed count) ∙ size-16 (152 + text_len count) (from_text seed count) 6 58 refl ∙ (sizes-read (from_text seed count)).0

  pub count-is : section_count (generated seed count) ≡ 5
  count-is = ap (λ b. word_16 b 60) (whole seed count) ∙ size-16 (152 + text_len count) (from_text seed count) 8 60 refl ∙ (sizes-read (from_text seed count)).1

  pub name_section-is : name_section (generated seed count) ≡ 4
  name_section-is = ap (λ b. word_16 b 62) (whole seed count) ∙ size-16 (152 + text_len count) (from_text seed count) 10 62 refl ∙ (sizes-read (from_text seed count)).2

  at-header : (s q : ℕ) (h : SectionHeader) → q ≡ 64 * s → header_in (section_headers (text_len count)) q ≡ h → header_of (generated seed count) s ≡ h
  unfolding header_of generated
  at-header s q h is read =
      let len : length (file_header (152 + text_len count) ++ text seed count ++ symbol_table (text_len count) ++ names) ≡ 152 + text_len count =
      simp length-append (omega (arith, header_length (152 + text_len count), text_length seed count, symbols_length (text_len count))) in
      rw table-is (after-header (file_header (152 + text_len count) ++ text seed count ++ symbol_table (text_len count) ++ names) (section_headers (text_len count)) (152 + text_len count) q (152 + text_len count + 64 * s) len (omega (arith, is)) ∙ read)

  pub header-0 : header_of (generated seed count) 0 ≡ header_from null_section
  header-0 = at-header 0 0 _ refl (read-0 (text_len count) (omega arith))

  pub header-1 : header_of (generated seed count) 1 ≡ header_from (text_section (text_len count))
  header-1 = at-header 1 64 _ refl (read-1 (text_len count) (omega arith))

  pub header-2 : header_of (generated seed count) 2 ≡ header_from (symbol_section (text_len count))
  header-2 = at-header 2 128 _ refl (read-2 (text_len count) (omega arith))

  pub header-3 : header_of (generated seed count) 3 ≡ header_from (string_section (text_len count))
  header-3 = at-header 3 192 _ refl (read-3 (text_len count) (omega arith))

  pub header-4 : header_of (generated seed count) 4 ≡ header_from (name_section_of (text_len count))
  header-4 = at-header 4 256 _ refl (read-4 (text_len count) (omega arith))
