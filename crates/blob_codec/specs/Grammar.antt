-- Natural numbers, programs and containers, with the one spelling of each (JAM Gray Paper 0.7.0).
use Rattle.std.specs.Prelude.{◌≡◌, ℕ, ◌+◌, ◌-◌, ◌*◌, ◌/◌, ◌%◌, ◌^◌, ◌<◌, ◌≤◌, List, [], ◌∷◌, ◌++◌, length, slice_index, nat_lt, if◌then◌else◌}
use Rattle.std.specs.List.{flat_map, All}
use Rattle.numbers.specs.Bytes.{little}
use Rattle.pvm_ops.specs.Listing.{Listing}

-- how many bytes follow the first of a natural below 2^64: each one takes seven bits more (appendix C)
unfoldable pub natural_len : ℕ → ℕ
natural_len x =
    if nat_lt x (2 ^ 7) then 0
    else (if nat_lt x (2 ^ 14) then 1
    else (if nat_lt x (2 ^ 21) then 2
    else (if nat_lt x (2 ^ 28) then 3
    else (if nat_lt x (2 ^ 35) then 4
    else (if nat_lt x (2 ^ 42) then 5
    else (if nat_lt x (2 ^ 49) then 6
    else (if nat_lt x (2 ^ 56) then 7
    else 8)))))))

-- a natural with `len` bytes after the first, which has as many leading ones and then the highest bits
abbrev pub natural_of : ℕ → ℕ → List ℕ
natural_of len x = (2 ^ 8 - 2 ^ (8 - len) + x / 2 ^ (8 * len)) ∷ little len x

-- the spelling of a natural below 2^64
unfoldable pub natural : ℕ → List ℕ
natural x = natural_of (natural_len x) x

-- what a program holds: a jump table, the bytes that an entry of it takes, and the code with its mask (appendix A.2)
pub record Program : Type 0 where
  pub table : List ℕ
  pub width : ℕ
  pub code : Listing

abbrev pub program_with : List ℕ → ℕ → List ℕ → List ℕ → Program
program_with table width code mask = record { table = table; width = width; code = record { bytes = code; mask = mask } }

-- the spelling of a program
abbrev pub program_bytes : Program → List ℕ
program_bytes p =
    natural (length p.table)
    ++ (p.width ∷ [])
    ++ natural (length p.code.bytes)
    ++ flat_map (little p.width) p.table
    ++ p.code.bytes
    ++ p.code.mask

-- what has a spelling as a program
pub record IsProgram (p : Program) : Type 0 where
  -- each count is a natural
  pub table_len : length p.table < 2 ^ 64
  pub code_len : length p.code.bytes < 2 ^ 64
  -- an entry fits its width, and takes a byte at least
  pub width : p.width ≤ 8
  pub some_width : p.width ≡ 0 → p.table ≡ []
  pub entries : All (λ entry. entry < 2 ^ (8 * p.width)) p.table
  -- a bit for each byte, and zero bits to the end of the last byte
  pub mask_len : length p.code.mask ≡ (length p.code.bytes + 7) / 8
  pub padding : slice_index p.code.mask (length p.code.bytes / 8) / 2 ^ (length p.code.bytes % 8) ≡ 0

-- the bytes are the spelling of a program
pub record HoldsProgram (bytes : List ℕ) : Type 0 where
  pub content : Program
  pub is_program : IsProgram content
  pub spelled : bytes ≡ program_bytes content

-- what a container holds: data, how many zero pages follow the writable one, the stack's size, and a program (appendix A.7)
pub record Container : Type 0 where
  pub read_only : List ℕ
  pub writable : List ℕ
  pub zero_pages : ℕ
  pub stack : ℕ
  pub program : Program

-- the spelling of a container, with its program as bytes
abbrev pub spelled_container : List ℕ → List ℕ → ℕ → ℕ → List ℕ → List ℕ
spelled_container read_only writable zero_pages stack program =
    little 3 (length read_only)
    ++ little 3 (length writable)
    ++ little 2 zero_pages
    ++ little 3 stack
    ++ read_only
    ++ writable
    ++ little 4 (length program)
    ++ program

-- the spelling of a container
abbrev pub container_bytes : Container → List ℕ
container_bytes c = spelled_container c.read_only c.writable c.zero_pages c.stack (program_bytes c.program)

-- what has a spelling as a container
pub record IsContainer (c : Container) : Type 0 where
  pub read_only : length c.read_only < 2 ^ 24
  pub writable : length c.writable < 2 ^ 24
  pub zero_pages : c.zero_pages < 2 ^ 16
  pub stack : c.stack < 2 ^ 24
  pub program_len : length (program_bytes c.program) < 2 ^ 32
  pub program : IsProgram c.program
