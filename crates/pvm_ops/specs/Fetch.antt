-- The instruction at a position (JAM Gray Paper 0.7.0, appendix A.5).
use Rattle.std.specs.Prelude.{◌≡◌, ◌<◌, ◌≤◌, true, length, ℕ, zero, suc, ◌+◌, ◌-◌, ◌*◌, ◌/◌, ◌%◌, List, [], ◌∷◌, ◌&&◌, min, if◌then◌else◌, slice_index}
use Rattle.numbers.specs.Bytes.{number_of}
use Rattle.numbers.specs.Words.{sign_extend}
use Rattle.pvm_ops.specs.Listing.{Listing, is_marked, skip}
use Rattle.pvm_ops.specs.Opcodes.{is_known, form_of}
use Rattle.pvm_ops.specs.declared.forms.Form.{Form}
use Rattle.pvm_ops.specs.declared.forms.Form.TheVariants.{N, X, RE, XY, O, RX, RXY, RXO, RR, RRX, RRO, RRXY, RRR}
use Rattle.pvm_ops.specs.declared.instr.Instr.{Instr}
use Rattle.pvm_ops.specs.declared.instr.Fetched.{Fetched}
use Rattle.pvm_ops.specs.declared.instr.Head.{Head}

-- `len` bytes from a position on, where zeros follow the code
abbrev pub bytes_from : List ℕ → ℕ → ℕ → List ℕ
bytes_from bytes at zero = []
bytes_from bytes at (suc len) = slice_index bytes at ∷ bytes_from bytes (at + 1) len

-- the register that the low half of a byte names
abbrev pub low_register : ℕ → ℕ
low_register byte = min 12 (byte % 16)

-- the register that the high half of a byte names
abbrev pub high_register : ℕ → ℕ
high_register byte = min 12 (byte / 16)

-- the immediate of `len` bytes at a position
abbrev pub immediate : List ℕ → ℕ → ℕ → ℕ
immediate bytes at len = sign_extend (8 * len) (number_of (bytes_from bytes at len))

-- the instruction wherever there is no other
abbrev pub trap : Instr
trap = record { op = 0; a = 0; b = 0; d = 0; x = 0; y = 0 }

-- the instruction of an opcode at a position by its form, where e bytes of operands follow it
abbrev pub operands : List ℕ → ℕ → ℕ → ℕ → Form → Instr
operands bytes at op e N = record trap { op = op }
operands bytes at op e X = record trap { op = op; x = immediate bytes (at + 1) (min 4 e) }
operands bytes at op e RE =
    record trap { op = op; a = low_register (slice_index bytes (at + 1)); x = immediate bytes (at + 2) 8 }
operands bytes at op e XY =
    let lx = min 4 (slice_index bytes (at + 1) % 8) in
    record trap { op = op; x = immediate bytes (at + 2) lx; y = immediate bytes (at + 2 + lx) (min 4 (e - lx - 1)) }
operands bytes at op e O = record trap { op = op; x = immediate bytes (at + 1) (min 4 e) }
operands bytes at op e RX =
    record trap { op = op; a = low_register (slice_index bytes (at + 1)); x = immediate bytes (at + 2) (min 4 (e - 1)) }
operands bytes at op e RXY =
    let lx = min 4 (slice_index bytes (at + 1) / 16 % 8) in
    record trap { op = op; a = low_register (slice_index bytes (at + 1)); x = immediate bytes (at + 2) lx; y = immediate bytes (at + 2 + lx) (min 4 (e - lx - 1)) }
operands bytes at op e RXO =
    let lx = min 4 (slice_index bytes (at + 1) / 16 % 8) in
    record trap { op = op; a = low_register (slice_index bytes (at + 1)); x = immediate bytes (at + 2) lx; y = immediate bytes (at + 2 + lx) (min 4 (e - lx - 1)) }
operands bytes at op e RR =
    record trap { op = op; d = low_register (slice_index bytes (at + 1)); a = high_register (slice_index bytes (at + 1)) }
operands bytes at op e RRX =
    record trap { op = op; a = low_register (slice_index bytes (at + 1)); b = high_register (slice_index bytes (at + 1)); x = immediate bytes (at + 2) (min 4 (e - 1)) }
operands bytes at op e RRO =
    record trap { op = op; a = low_register (slice_index bytes (at + 1)); b = high_register (slice_index bytes (at + 1)); x = immediate bytes (at + 2) (min 4 (e - 1)) }
operands bytes at op e RRXY =
    let lx = min 4 (slice_index bytes (at + 2) % 8) in
    record trap { op = op; a = low_register (slice_index bytes (at + 1)); b = high_register (slice_index bytes (at + 1)); x = immediate bytes (at + 3) lx; y = immediate bytes (at + 3 + lx) (min 4 (e - lx - 2)) }
operands bytes at op e RRR =
    record trap { op = op; a = low_register (slice_index bytes (at + 1)); b = high_register (slice_index bytes (at + 1)); d = min 12 (slice_index bytes (at + 2)) }

-- the instruction at a position and the position after it; a trap where none is marked or its opcode is unknown
unfoldable pub fetch_of : Listing → ℕ → Fetched
fetch_of code at =
    let op = slice_index code.bytes at in
    if is_marked code at && is_known op
    then record { instr = operands code.bytes at op (skip code at) (form_of op); next = at + 1 + skip code at }
    else record { instr = trap; next = at }

-- the head of the instruction at a position, which is marked
pub record IsHead (code : Listing) (at : ℕ) (head : Head) : Type 0 where
  pub marked : is_marked code at ≡ true
  pub inside : at < length code.bytes
  pub op : head.op ≡ slice_index code.bytes at
  pub skip : head.skip ≡ skip code at
  pub few : head.skip ≤ 24
  pub word : head.word ≡ number_of (bytes_from code.bytes at 8)
