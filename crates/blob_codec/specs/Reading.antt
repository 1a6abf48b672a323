-- Fields, programs and containers taken off the front of bytes, from left to right, with the first fault that is met.
use Rattle.std.specs.Prelude.{◌≡◌, ℕ, zero, suc, ◌+◌, ◌-◌, ◌*◌, ◌/◌, ◌%◌, ◌^◌, ◌<◌, List, [], ◌∷◌, length, take, drop, slice_index, Result, Ok, Err, nat_lt, ◌==◌, ◌&&◌, ◌||◌, if◌then◌else◌}
use Rattle.numbers.specs.Bytes.{number_of}
use Rattle.blob_codec.specs.declared.fault.BlobFault.{BlobFault}
use Rattle.blob_codec.specs.declared.fault.BlobFault.TheVariants.{Truncated, Overlong, BadWidth, BadPadding, LeftOver}
use Rattle.blob_codec.specs.declared.program.Counts.{Counts}
use Rattle.blob_codec.specs.declared.container.Sizes.{Sizes}
use Rattle.blob_codec.specs.Grammar.{natural_len, Program, Container}

-- every number is that of a byte
abbrev pub AreBytes : List ℕ → Type 0
AreBytes bytes = (at : ℕ) → slice_index bytes at < 256

-- what is read, and then what is read on with it; a fault ends the reading
infixl 10 ◌>>=◌
abbrev pub ◌>>=◌ : {A B : Type 0} → Result A BlobFault → (A → Result B BlobFault) → Result B BlobFault
(Ok x) >>= next = next x
(Err fault) >>= next = Err fault

-- what was answered, seen by a view, is what is read
abbrev pub Gives : {X Y : Type 0} → (X → Y) → Result X BlobFault → Result Y BlobFault → Type 0
Gives view (Ok x) reading = reading ≡ Ok (view x)
Gives view (Err fault) reading = reading ≡ Err fault

-- A field is read as its value and the bytes after it.

-- one byte
abbrev pub read_byte : List ℕ → Result (ℕ × List ℕ) BlobFault
read_byte [] = Err Truncated
read_byte (byte ∷ rest) = Ok (byte, rest)

-- n bytes
abbrev pub read_bytes : ℕ → List ℕ → Result (List ℕ × List ℕ) BlobFault
read_bytes n bytes = if nat_lt (length bytes) n then Err Truncated else Ok (take n bytes, drop n bytes)

-- a number of n bytes, the lowest first
abbrev pub read_number : ℕ → List ℕ → Result (ℕ × List ℕ) BlobFault
read_number n bytes = if nat_lt (length bytes) n then Err Truncated else Ok (number_of (take n bytes), drop n bytes)

-- how many bytes follow the first of a natural: as many as it has leading ones (appendix C)
unfoldable pub following : ℕ → ℕ
following first =
    if nat_lt first 0x80 then 0
    else (if nat_lt first 0xc0 then 1
    else (if nat_lt first 0xe0 then 2
    else (if nat_lt first 0xf0 then 3
    else (if nat_lt first 0xf8 then 4
    else (if nat_lt first 0xfc then 5
    else (if nat_lt first 0xfe then 6
    else (if nat_lt first 0xff then 7
    else 8)))))))

-- the number whose highest bits are in the first byte after `len` leading ones, and whose low bytes follow
unfoldable pub led_number : ℕ → ℕ → ℕ → ℕ
led_number first len low = (first - (2 ^ 8 - 2 ^ (8 - len))) * 2 ^ (8 * len) + low

-- a natural, which is overlong where its number has a shorter spelling
unfoldable pub read_natural : List ℕ → Result (ℕ × List ℕ) BlobFault
read_natural bytes = do
  first ← read_byte bytes
  low ← read_number (following first.0) first.1
  if natural_len (led_number first.0 (following first.0) low.0) == following first.0
      then Ok (led_number first.0 (following first.0) low.0, low.1)
      else Err Overlong

-- how many bytes each entry of the table takes: at most eight, and none only if there is no entry
unfoldable pub read_width : ℕ → List ℕ → Result (ℕ × List ℕ) BlobFault
read_width table_len bytes = do
  width ← read_byte bytes
  if nat_lt 8 width.0 || (width.0 == 0 && nat_lt 0 table_len) then Err BadWidth else Ok width

-- the counts and the width that a program begins with
unfoldable pub read_counts : List ℕ → Result (Counts × List ℕ) BlobFault
read_counts bytes = do
  table_len ← read_natural bytes
  width ← read_width table_len.0 table_len.1
  code_len ← read_natural width.1
  Ok (record { table_len = table_len.0; width = width.0; code_len = code_len.0 }, code_len.1)

-- the mask of `code_len` bytes of code: a bit for each, and zero bits to the end of the last byte
unfoldable pub read_mask : ℕ → List ℕ → Result (List ℕ × List ℕ) BlobFault
read_mask code_len bytes = do
  mask ← read_bytes ((code_len + 7) / 8) bytes
  if slice_index mask.0 (code_len / 8) / 2 ^ (code_len % 8) == 0 then Ok mask else Err BadPadding

-- n numbers of `width` bytes each, the lowest byte first
unfoldable pub entries_of : ℕ → ℕ → List ℕ → List ℕ
entries_of zero width bytes = []
entries_of (suc n) width bytes = number_of (take width bytes) ∷ entries_of n width (drop width bytes)

-- the program that all of the bytes spell, or the first fault
unfoldable pub program_of : List ℕ → Result Program BlobFault
program_of bytes = do
  counts ← read_counts bytes
  entries ← read_bytes (counts.0.table_len * counts.0.width) counts.1
  code ← read_bytes counts.0.code_len entries.1
  mask ← read_mask counts.0.code_len code.1
  if length mask.1 == 0
      then Ok (record {
        table = entries_of counts.0.table_len counts.0.width entries.0;
        width = counts.0.width;
        code = record { bytes = code.0; mask = mask.0 };
      })
      else Err LeftOver

-- the four numbers that a container begins with
unfoldable pub read_sizes : List ℕ → Result (Sizes × List ℕ) BlobFault
read_sizes bytes = do
  read_only ← read_number 3 bytes
  writable ← read_number 3 read_only.1
  zero_pages ← read_number 2 writable.1
  stack ← read_number 3 zero_pages.1
  Ok (record { read_only = read_only.0; writable = writable.0; zero_pages = zero_pages.0; stack = stack.0 }, stack.1)

-- the program after its length in four bytes, if nothing is left after it
unfoldable pub last_program : List ℕ → Result Program BlobFault
last_program bytes = do
  len ← read_number 4 bytes
  program ← read_bytes len.0 len.1
  if length program.1 == 0 then program_of program.0 else Err LeftOver

-- the container that all of the bytes spell, or the first fault: those of its program come after its own
unfoldable pub container_of : List ℕ → Result Container BlobFault
container_of bytes = do
  sizes ← read_sizes bytes
  read_only ← read_bytes sizes.0.read_only sizes.1
  writable ← read_bytes sizes.0.writable read_only.1
  program ← last_program writable.1
  Ok (record {
    read_only = read_only.0;
    writable = writable.0;
    zero_pages = sizes.0.zero_pages;
    stack = sizes.0.stack;
    program = program;
  })
