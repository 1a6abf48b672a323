-- The lengths of the parts of an object, and its numbers as bytes.
use Rattle.std.proofs.Common.{◌≡◌, ℕ, zero, suc, ◌+◌, ◌*◌, ◌≤◌, ◌^◌, List, ◌++◌, length, refl, ◌∙◌, arith}
use Rattle.std.specs.Int.{w16, w32, w64, to_le_bytes}
use Rattle.std.proofs.lemmas.List.{length-append}
use Rattle.numbers.specs.Bytes.{le_16, le_32, le_64}
use Rattle.numbers.proofs.BytesLaws.{le_bytes_little, take_le_bytes, length-little}
use Rattle.generated.specs.Objects.{text, file_kind, header_sizes, file_header, symbol_table, names, Section, section_header, section_headers, generated}
use Rattle.generated.specs.Words.{next, word_of, return_word}

pub bytes_16 : (n : ℕ) → to_le_bytes w16 n ≡ le_16 n
unfolding le_16
bytes_16 n = take_le_bytes 2 n (omega arith)

pub bytes_32 : (n : ℕ) → to_le_bytes w32 n ≡ le_32 n
unfolding le_32
bytes_32 n = take_le_bytes 4 n (omega arith)

pub bytes_64 : (n : ℕ) → to_le_bytes w64 n ≡ le_64 n
unfolding le_64
bytes_64 n = le_bytes_little n

pub len_16 : (n : ℕ) → length (le_16 n) ≡ 2
unfolding le_16
len_16 n = length-little 2 n

pub len_32 : (n : ℕ) → length (le_32 n) ≡ 4
unfolding le_32
len_32 n = length-little 4 n

pub len_64 : (n : ℕ) → length (le_64 n) ≡ 8
unfolding le_64
len_64 n = length-little 8 n

both : (a b : List ℕ) (m n : ℕ) → length a ≡ m → length b ≡ n → length (a ++ b) ≡ m + n
both a b m n e f = rw (length-append a b, e, f) refl

after_16 : (a : List ℕ) (m n : ℕ) → length a ≡ m → length (a ++ le_16 n) ≡ m + 2
after_16 a m n e = both a (le_16 n) m 2 e (len_16 n)

after_32 : (a : List ℕ) (m n : ℕ) → length a ≡ m → length (a ++ le_32 n) ≡ m + 4
after_32 a m n e = both a (le_32 n) m 4 e (len_32 n)

after_64 : (a : List ℕ) (m n : ℕ) → length a ≡ m → length (a ++ le_64 n) ≡ m + 8
after_64 a m n e = both a (le_64 n) m 8 e (len_64 n)

pub text_length : (seed count : ℕ) → length (text seed count) ≡ 4 * count + 4
unfolding text
text_length seed zero = len_32 return_word
text_length seed (suc count) = both (le_32 (word_of (next seed))) (text (next seed) count) 4 (4 * count + 4) (len_32 (word_of (next seed))) (text_length (next seed) count) ∙ omega arith

pub kind_length : length file_kind ≡ 24
unfolding file_kind
kind_length = after_32 _ _ _ (after_16 _ _ _ (after_16 _ _ _ (after_64 _ _ _ (after_32 _ _ _ (len_32 _)))))

sizes_length : length header_sizes ≡ 12
unfolding header_sizes
sizes_length = after_16 _ _ _ (after_16 _ _ _ (after_16 _ _ _ (after_16 _ _ _ (after_16 _ _ _ (len_16 _)))))

pub header_length : (at : ℕ) → length (file_header at) ≡ 64
unfolding file_header
header_length at = both _ header_sizes 52 12 (after_32 _ _ _ (after_64 _ _ _ (after_64 _ _ _ (after_64 _ _ _ kind_length)))) sizes_length

pub symbols_length : (size : ℕ) → length (symbol_table size) ≡ 48
unfolding symbol_table
symbols_length size = after_64 _ _ _ (after_64 _ _ _ (after_16 _ _ _ (after_16 _ _ _ (after_32 _ _ _ (after_64 _ _ _ (after_64 _ _ _ (len_64 _)))))))

pub section_length : (s : Section) → length (section_header s) ≡ 64
unfolding section_header
section_length s = after_64 _ _ _ (after_64 _ _ _ (after_32 _ _ _ (after_32 _ _ _ (after_64 _ _ _ (after_64 _ _ _ (after_64 _ _ _ (after_64 _ _ _ (after_32 _ _ _ (len_32 _)))))))))

one_more : (a : List ℕ) (m : ℕ) (s : Section) → length a ≡ m → length (a ++ section_header s) ≡ m + 64
one_more a m s e = both a (section_header s) m 64 e (section_length s)

pub sections_length : (size : ℕ) → length (section_headers size) ≡ 320
unfolding section_headers
sections_length size = one_more _ _ _ (one_more _ _ _ (one_more _ _ _ (one_more _ _ _ (section_length _))))

pub generated_length : (seed count : ℕ) → length (generated seed count) ≡ 64 + (4 * count + 4) + 48 + 40 + 320
unfolding generated
generated_length seed count =
    both _ _ _ 320 (both _ names _ 40 (both _ _ _ 48 (both _ _ 64 _ (header_length _) (text_length seed count)) (symbols_length _)) refl) (sections_length _)

-- an object of at most 1,000,000 words has at most 2^24 bytes
pub generated_fits : (seed count : ℕ) → count ≤ 1000000 → length (generated seed count) ≤ 2 ^ 24
generated_fits seed count few = omega (arith, generated_length seed count)
