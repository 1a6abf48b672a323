-- Numbers that are read where they were written.
use Rattle.std.proofs.Common.{◌≡◌, ℕ, ◌+◌, ◌*◌, ◌^◌, ◌<◌, List, ◌++◌, length, take, drop, refl, sym, ap, ◌∙◌, append_assoc, arith}
use Rattle.std.proofs.Math.Seq.{drop-append-add, take-append_seam}
use Rattle.std.proofs.Math.Nat.{mod-eq_of_lt}
use Rattle.numbers.specs.Bytes.{number_of, little, le_16, le_32, le_64}
use Rattle.numbers.proofs.BytesLaws.{number_of-little, length-little}
use Rattle.elf_objects.specs.Fields.{word_16, word_32, word_64}
use Rattle.elf_objects.specs.Headers.{header_in}
use Rattle.elf_objects.specs.declared.section_header.SectionHeader.{SectionHeader}
use Rattle.generated.specs.Objects.{Section, section_header}
use Rattle.generated.proofs.Lengths.{len_32, len_64}

dropped : (pre post : List ℕ) (p q at : ℕ) → length pre ≡ p → at ≡ p + q → drop at (pre ++ post) ≡ drop q post
dropped pre post p q at len is = rw (is, sym len) (drop-append-add pre post q)

-- a field after other bytes
pub after-16 : (pre post : List ℕ) (p q at : ℕ) → length pre ≡ p → at ≡ p + q → word_16 (pre ++ post) at ≡ word_16 post q
unfolding word_16
after-16 pre post p q at len is = ap (λ l. number_of (take 2 l)) (dropped pre post p q at len is)

pub after-32 : (pre post : List ℕ) (p q at : ℕ) → length pre ≡ p → at ≡ p + q → word_32 (pre ++ post) at ≡ word_32 post q
unfolding word_32
after-32 pre post p q at len is = ap (λ l. number_of (take 4 l)) (dropped pre post p q at len is)

pub after-64 : (pre post : List ℕ) (p q at : ℕ) → length pre ≡ p → at ≡ p + q → word_64 (pre ++ post) at ≡ word_64 post q
unfolding word_64
after-64 pre post p q at len is = ap (λ l. number_of (take 8 l)) (dropped pre post p q at len is)

-- a number, and the bytes after it
spelled : (k n : ℕ) (rest : List ℕ) → n < 2 ^ (8 * k) → number_of (take k (drop 0 (little k n ++ rest))) ≡ n
spelled k n rest fits =
    let front : take k (little k n ++ rest) ≡ little k n = rw (length-little k n) at (take-append_seam (little k n) rest) in
    ap number_of front ∙ number_of-little k n ∙ mod-eq_of_lt fits

pub first-16 : (n : ℕ) (rest : List ℕ) → n < 65536 → word_16 (le_16 n ++ rest) 0 ≡ n
unfolding word_16 le_16
first-16 n rest fits = spelled 2 n rest fits

pub first-32 : (n : ℕ) (rest : List ℕ) → n < 4294967296 → word_32 (le_32 n ++ rest) 0 ≡ n
unfolding word_32 le_32
first-32 n rest fits = spelled 4 n rest fits

pub first-64 : (n : ℕ) (rest : List ℕ) → n < 18446744073709551616 → word_64 (le_64 n ++ rest) 0 ≡ n
unfolding word_64 le_64
first-64 n rest fits = spelled 8 n rest fits

-- the fields of a section's header are in its range
pub record Fits (s : Section) : Type 0 where
  pub name : s.name < 4294967296
  pub kind : s.kind < 4294967296
  pub flags : s.flags < 18446744073709551616
  pub at : s.at < 18446744073709551616
  pub size : s.size < 18446744073709551616
  pub link : s.link < 4294967296
  pub info : s.info < 4294967296
  pub align : s.align < 18446744073709551616
  pub entry_size : s.entry_size < 18446744073709551616

abbrev pub header_from : Section → SectionHeader
header_from s = record { name = s.name; kind = s.kind; flags = s.flags; offset = s.at; size = s.size; link = s.link; info = s.info; align = s.align; entry_size = s.entry_size }

header-spelled : (s : Section) (rest : List ℕ)
    → section_header s ++ rest
    ≡ le_32 s.name ++ (le_32 s.kind ++ (le_64 s.flags ++ (le_64 0 ++ (le_64 s.at ++ (le_64 s.size ++ (le_32 s.link ++ (le_32 s.info ++ (le_64 s.align ++ (le_64 s.entry_size ++ rest)))))))))
unfolding section_header
header-spelled s rest = simp append_assoc

-- the header that is read where one was written
pub header-read : (s : Section) (rest : List ℕ) → Fits s → header_in (section_header s ++ rest) 0 ≡ header_from s
unfolding header_in
header-read s rest fits =
    let r9 : List ℕ = le_64 s.entry_size ++ rest in
    let r8 : List ℕ = le_64 s.align ++ r9 in
    let r7 : List ℕ = le_32 s.info ++ r8 in
    let r6 : List ℕ = le_32 s.link ++ r7 in
    let r5 : List ℕ = le_64 s.size ++ r6 in
    let r4 : List ℕ = le_64 s.at ++ r5 in
    let r3 : List ℕ = le_64 0 ++ r4 in
    let r2 : List ℕ = le_64 s.flags ++ r3 in
    let r1 : List ℕ = le_32 s.kind ++ r2 in
    let b : List ℕ = le_32 s.name ++ r1 in
    let name : word_32 b 0 ≡ s.name = first-32 s.name r1 fits.name in
    let kind : word_32 b 4 ≡ s.kind = after-32 (le_32 s.name) r1 4 0 4 (len_32 s.name) refl ∙ first-32 s.kind r2 fits.kind in
    let flags : word_64 b 8 ≡ s.flags = after-64 (le_32 s.name) r1 4 4 8 (len_32 s.name) refl ∙ after-64 (le_32 s.kind) r2 4 0 4 (len_32 s.kind) refl ∙ first-64 s.flags r3 fits.flags in
    let to_r4_64 : (q : ℕ) → word_64 b (24 + q) ≡ word_64 r4 q =
    λ q. after-64 (le_32 s.name) r1 4 (20 + q) (24 + q) (len_32 s.name) (omega arith)
    ∙ after-64 (le_32 s.kind) r2 4 (16 + q) (20 + q) (len_32 s.kind) (omega arith)
    ∙ after-64 (le_64 s.flags) r3 8 (8 + q) (16 + q) (len_64 s.flags) (omega arith)
    ∙ after-64 (le_64 0) r4 8 q (8 + q) (len_64 0) (omega arith) in
    let to_r4_32 : (q : ℕ) → word_32 b (24 + q) ≡ word_32 r4 q =
    λ q. after-32 (le_32 s.name) r1 4 (20 + q) (24 + q) (len_32 s.name) (omega arith)
    ∙ after-32 (le_32 s.kind) r2 4 (16 + q) (20 + q) (len_32 s.kind) (omega arith)
    ∙ after-32 (le_64 s.flags) r3 8 (8 + q) (16 + q) (len_64 s.flags) (omega arith)
    ∙ after-32 (le_64 0) r4 8 q (8 + q) (len_64 0) (omega arith) in
    let at : word_64 b 24 ≡ s.at = to_r4_64 0 ∙ first-64 s.at r5 fits.at in
    let size : word_64 b 32 ≡ s.size = to_r4_64 8 ∙ after-64 (le_64 s.at) r5 8 0 8 (len_64 s.at) refl ∙ first-64 s.size r6 fits.size in
    let link : word_32 b 40 ≡ s.link = to_r4_32 16 ∙ after-32 (le_64 s.at) r5 8 8 16 (len_64 s.at) refl ∙ after-32 (le_64 s.size) r6 8 0 8 (len_64 s.size) refl ∙ first-32 s.link r7 fits.link in
    let info : word_32 b 44 ≡ s.info =
    to_r4_32 20 ∙ after-32 (le_64 s.at) r5 8 12 20 (len_64 s.at) refl ∙ after-32 (le_64 s.size) r6 8 4 12 (len_64 s.size) refl
    ∙ after-32 (le_32 s.link) r7 4 0 4 (len_32 s.link) refl ∙ first-32 s.info r8 fits.info in
    let align : word_64 b 48 ≡ s.align =
    to_r4_64 24 ∙ after-64 (le_64 s.at) r5 8 16 24 (len_64 s.at) refl ∙ after-64 (le_64 s.size) r6 8 8 16 (len_64 s.size) refl
    ∙ after-64 (le_32 s.link) r7 4 4 8 (len_32 s.link) refl ∙ after-64 (le_32 s.info) r8 4 0 4 (len_32 s.info) refl ∙ first-64 s.align r9 fits.align in
    let entry_size : word_64 b 56 ≡ s.entry_size =
    to_r4_64 32 ∙ after-64 (le_64 s.at) r5 8 24 32 (len_64 s.at) refl ∙ after-64 (le_64 s.size) r6 8 16 24 (len_64 s.size) refl
    ∙ after-64 (le_32 s.link) r7 4 12 16 (len_32 s.link) refl ∙ after-64 (le_32 s.info) r8 4 8 12 (len_32 s.info) refl
    ∙ after-64 (le_64 s.align) r9 8 0 8 (len_64 s.align) refl ∙ first-64 s.entry_size rest fits.entry_size in
    rw (header-spelled s rest, name, kind, flags, at, size, link, info, align, entry_size) refl
