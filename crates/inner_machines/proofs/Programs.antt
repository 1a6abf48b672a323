-- The code of a program is no longer than the bytes that spell it.
use Rattle.std.proofs.Common.{◌≡◌, ℕ, ◌*◌, ◌≤◌, Bool, true, false, List, [], ◌∷◌, length, take, drop, Result, Ok, Err, subst, arith}
use Rattle.std.specs.Prelude.{nat_lt, ◌==◌, ◌||◌, ◌&&◌, if◌then◌else◌}
use Rattle.std.proofs.lemmas.List.{length-drop, length-take}
use Rattle.numbers.specs.Bytes.{number_of}
use Rattle.blob_codec.specs.declared.fault.BlobFault.{BlobFault}
use Rattle.blob_codec.specs.declared.fault.BlobFault.TheVariants.{Truncated}
use Rattle.blob_codec.specs.Grammar.{Program, natural_len}
use Rattle.blob_codec.specs.Reading.{◌>>=◌, read_byte, read_bytes, read_number, following, led_number, read_natural, read_width, read_counts, read_mask, program_of}

-- what is left after reading is no longer
abbrev Shortens : {A : Type 0} → ℕ → Result (A × List ℕ) BlobFault → Type 0
Shortens n (Ok r) = length r.1 ≤ n
Shortens n (Err fault) = Unit {0}

-- the code that is read is no longer
abbrev IsShort : ℕ → Result Program BlobFault → Type 0
IsShort n (Ok p) = length p.code.bytes ≤ n
IsShort n (Err fault) = Unit {0}

then_shortens : {A B : Type 0} (n : ℕ) (r : Result (A × List ℕ) BlobFault) (next : A × List ℕ → Result (B × List ℕ) BlobFault) → Shortens n r → ((x : A × List ℕ) → length x.1 ≤ n → Shortens n (next x)) → Shortens n (r >>= next)
then_shortens n (Ok x) next h k = k x h
then_shortens n (Err fault) next h k = tt

then_short : {A : Type 0} (n : ℕ) (r : Result (A × List ℕ) BlobFault) (next : A × List ℕ → Result Program BlobFault) → Shortens n r → ((x : A × List ℕ) → length x.1 ≤ n → IsShort n (next x)) → IsShort n (r >>= next)
then_short n (Ok x) next h k = k x h
then_short n (Err fault) next h k = tt

less : (k n : ℕ) (bytes : List ℕ) → length bytes ≤ n → length (drop k bytes) ≤ n
less k n bytes h = omega (arith, length-drop k bytes, h)

byte_shortens : (n : ℕ) (bytes : List ℕ) → length bytes ≤ n → Shortens n (read_byte bytes)
byte_shortens n [] h = tt
byte_shortens n (byte ∷ rest) h = omega (arith, h)

number_shortens : (n k : ℕ) (bytes : List ℕ) → length bytes ≤ n → Shortens n (read_number k bytes)
number_shortens n k bytes h = by_test (nat_lt (length bytes) k)
  where
    by_test : (b : Bool) → Shortens n (if b then Err Truncated else Ok (number_of (take k bytes), drop k bytes))
    by_test true = tt
    by_test false = less k n bytes h

bytes_shorten : (n k : ℕ) (bytes : List ℕ) → length bytes ≤ n → Shortens n (read_bytes k bytes)
bytes_shorten n k bytes h = by_test (nat_lt (length bytes) k)
  where
    by_test : (b : Bool) → Shortens n (if b then Err Truncated else Ok (take k bytes, drop k bytes))
    by_test true = tt
    by_test false = less k n bytes h

-- a test of what was read
tested : {A : Type 0} (n : ℕ) (b : Bool) (x : A × List ℕ) (fault : BlobFault) → length x.1 ≤ n → Shortens n (if b then Ok x else Err fault)
tested n true x fault h = h
tested n false x fault h = tt

tested_not : {A : Type 0} (n : ℕ) (b : Bool) (x : A × List ℕ) (fault : BlobFault) → length x.1 ≤ n → Shortens n (if b then Err fault else Ok x)
tested_not n true x fault h = tt
tested_not n false x fault h = h

natural_shortens : (n : ℕ) (bytes : List ℕ) → length bytes ≤ n → Shortens n (read_natural bytes)
unfolding read_natural
natural_shortens n bytes h =
    then_shortens n (read_byte bytes) _ (byte_shortens n bytes h)
    (λ first k. then_shortens n (read_number (following first.0) first.1) _ (number_shortens n (following first.0) first.1 k)
    (λ low l. tested n (natural_len (led_number first.0 (following first.0) low.0) == following first.0) (led_number first.0 (following first.0) low.0, low.1) _ l))

width_shortens : (n table_len : ℕ) (bytes : List ℕ) → length bytes ≤ n → Shortens n (read_width table_len bytes)
unfolding read_width
width_shortens n table_len bytes h =
    then_shortens n (read_byte bytes) _ (byte_shortens n bytes h)
    (λ width k. tested_not n (nat_lt 8 width.0 || (width.0 == 0 && nat_lt 0 table_len)) width _ k)

counts_shorten : (n : ℕ) (bytes : List ℕ) → length bytes ≤ n → Shortens n (read_counts bytes)
unfolding read_counts
counts_shorten n bytes h =
    then_shortens n (read_natural bytes) _ (natural_shortens n bytes h)
    (λ table_len k. then_shortens n (read_width table_len.0 table_len.1) _ (width_shortens n table_len.0 table_len.1 k)
    (λ width l. then_shortens n (read_natural width.1) _ (natural_shortens n width.1 l) (λ code_len m. m)))

-- as many bytes as there are at most
code_short : (n k : ℕ) (bytes : List ℕ) (next : List ℕ × List ℕ → Result Program BlobFault) → length bytes ≤ n → ((x : List ℕ × List ℕ) → length x.0 ≤ n → IsShort n (next x)) → IsShort n (read_bytes k bytes >>= next)
code_short n k bytes next h rest = by_test (nat_lt (length bytes) k)
  where
    by_test : (b : Bool) → IsShort n ((if b then Err Truncated else Ok (take k bytes, drop k bytes)) >>= next)
    by_test true = tt
    by_test false = rest (take k bytes, drop k bytes) (omega (arith, length-take k bytes, h))

last_short : (n : ℕ) (b : Bool) (p : Program) (fault : BlobFault) → length p.code.bytes ≤ n → IsShort n (if b then Ok p else Err fault)
last_short n true p fault h = h
last_short n false p fault h = tt

then_any : {A : Type 0} (n : ℕ) (r : Result A BlobFault) (next : A → Result Program BlobFault) → ((x : A) → IsShort n (next x)) → IsShort n (r >>= next)
then_any n (Ok x) next k = k x
then_any n (Err fault) next k = tt

program_short : (bytes : List ℕ) → IsShort (length bytes) (program_of bytes)
unfolding program_of
program_short bytes =
    let n = length bytes in
    then_short n (read_counts bytes) _ (counts_shorten n bytes (omega arith))
    (λ counts k. then_short n (read_bytes (counts.0.table_len * counts.0.width) counts.1) _ (bytes_shorten n (counts.0.table_len * counts.0.width) counts.1 k)
    (λ entries l. code_short n counts.0.code_len entries.1 _ l
    (λ code m. then_any n (read_mask counts.0.code_len code.1) _
    (λ mask. last_short n (length mask.1 == 0) _ _ m))))

-- the code of a program that bytes spell
pub code_within : (bytes : List ℕ) (p : Program) → program_of bytes ≡ Ok p → length p.code.bytes ≤ length bytes
code_within bytes p is =
    let IsFew : Result Program BlobFault → Type 0 = λ r. IsShort (length bytes) r in
    subst IsFew is (program_short bytes)
