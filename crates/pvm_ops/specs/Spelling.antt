-- The bytes of one instruction, as the encoder writes them.
use Rattle.std.specs.Prelude.{ℕ, ◌+◌, ◌*◌, ◌^◌, ◌≤◌, ◌<◌, ◌≡◌, List, [], ◌∷◌, ◌++◌, true, false, length, nat_eq, if◌then◌else◌, slice_index}
use Rattle.numbers.specs.Bytes.{little}
use Rattle.numbers.specs.Words.{sign_extend}
use Rattle.pvm_ops.specs.Listing.{Listing, is_marked, is_stop}
use Rattle.pvm_ops.specs.Opcodes.{form_of}
use Rattle.pvm_ops.specs.Fetch.{trap}
use Rattle.pvm_ops.specs.declared.forms.Form.{Form}
use Rattle.pvm_ops.specs.declared.forms.Form.TheVariants.{N, X, RE, XY, O, RX, RXY, RXO, RR, RRX, RRO, RRXY, RRR}
use Rattle.pvm_ops.specs.declared.instr.Instr.{Instr}

-- the least number of bytes whose sign extension is the number, which has one of at most four
unfoldable pub least_len : ℕ → ℕ
least_len v =
    if nat_eq v 0 then 0 else
    if nat_eq (sign_extend 8 v) v then 1 else
    if nat_eq (sign_extend 16 v) v then 2 else
    if nat_eq (sign_extend 24 v) v then 3 else 4

-- these bytes
abbrev pub least_bytes : ℕ → List ℕ
least_bytes v = little (least_len v) v

-- the bytes after the opcode by the form of an instruction, if its offset takes `offset_len` of them
abbrev pub fields : Form → Instr → ℕ → List ℕ
fields N i offset_len = []
fields X i offset_len = least_bytes i.x
fields RE i offset_len = i.a ∷ little 8 i.x
fields XY i offset_len = least_len i.x ∷ (least_bytes i.x ++ least_bytes i.y)
fields O i offset_len = little offset_len i.x
fields RX i offset_len = i.a ∷ least_bytes i.x
fields RXY i offset_len = (i.a + 16 * least_len i.x) ∷ (least_bytes i.x ++ least_bytes i.y)
fields RXO i offset_len = (i.a + 16 * least_len i.x) ∷ (least_bytes i.x ++ little offset_len i.y)
fields RR i offset_len = (i.d + 16 * i.a) ∷ []
fields RRX i offset_len = (i.a + 16 * i.b) ∷ least_bytes i.x
fields RRO i offset_len = (i.a + 16 * i.b) ∷ little offset_len i.x
fields RRXY i offset_len = (i.a + 16 * i.b) ∷ least_len i.x ∷ (least_bytes i.x ++ least_bytes i.y)
fields RRR i offset_len = (i.a + 16 * i.b) ∷ i.d ∷ []

-- the bytes of an instruction, if its offset takes `offset_len` bytes
unfoldable pub spelling : Instr → ℕ → List ℕ
spelling i offset_len = i.op ∷ fields (form_of i.op) i offset_len

-- the number is the sign extension of its low 32 bits
abbrev pub IsShort : ℕ → Type 0
IsShort v = sign_extend 32 v ≡ v

-- the number is the sign extension of its low `len` bytes
abbrev pub FitsBytes : ℕ → ℕ → Type 0
FitsBytes len v = sign_extend (8 * len) v ≡ v

-- the instruction with 0 in each field that its form does not use
abbrev pub used : Form → Instr → Instr
used N i = record trap { op = i.op }
used X i = record trap { op = i.op; x = i.x }
used RE i = record trap { op = i.op; a = i.a; x = i.x }
used XY i = record trap { op = i.op; x = i.x; y = i.y }
used O i = record trap { op = i.op; x = i.x }
used RX i = record trap { op = i.op; a = i.a; x = i.x }
used RXY i = record trap { op = i.op; a = i.a; x = i.x; y = i.y }
used RXO i = record trap { op = i.op; a = i.a; x = i.x; y = i.y }
used RR i = record trap { op = i.op; d = i.d; a = i.a }
used RRX i = record trap { op = i.op; a = i.a; b = i.b; x = i.x }
used RRO i = record trap { op = i.op; a = i.a; b = i.b; x = i.x }
used RRXY i = record trap { op = i.op; a = i.a; b = i.b; x = i.x; y = i.y }
used RRR i = record trap { op = i.op; a = i.a; b = i.b; d = i.d }

-- the immediates and the offset of a form can be spelled
abbrev pub Fit : Form → Instr → ℕ → Type 0
Fit N i offset_len = Unit {0}
Fit X i offset_len = IsShort i.x
Fit RE i offset_len = i.x < 2 ^ 64
Fit XY i offset_len = IsShort i.x × IsShort i.y
Fit O i offset_len = FitsBytes offset_len i.x
Fit RX i offset_len = IsShort i.x
Fit RXY i offset_len = IsShort i.x × IsShort i.y
Fit RXO i offset_len = IsShort i.x × FitsBytes offset_len i.y
Fit RR i offset_len = Unit {0}
Fit RRX i offset_len = IsShort i.x
Fit RRO i offset_len = FitsBytes offset_len i.x
Fit RRXY i offset_len = IsShort i.x × IsShort i.y
Fit RRR i offset_len = Unit {0}

-- the instruction of a known opcode has a spelling with `offset_len` bytes for its offset
pub record IsEncodable (i : Instr) (offset_len : ℕ) : Type 0 where
  pub a : i.a ≤ 12
  pub b : i.b ≤ 12
  pub d : i.d ≤ 12
  pub offset : offset_len ≤ 4
  pub unused : i ≡ used (form_of i.op) i
  pub fit : Fit (form_of i.op) i offset_len

-- the list has these bytes from a position on
abbrev pub Reads : List ℕ → ℕ → List ℕ → Type 0
Reads bytes at [] = Unit {0}
Reads bytes at (x ∷ xs) = (slice_index bytes at ≡ x) × Reads bytes (at + 1) xs

-- the instruction stands alone at a position: it is marked, nothing in it is, and a mark or the end of the code follows
pub record IsAloneAt (code : Listing) (i : Instr) (at offset_len : ℕ) : Type 0 where
  pub bytes : Reads code.bytes at (spelling i offset_len)
  pub marked : is_marked code at ≡ true
  pub alone : (p : ℕ) → at + 1 ≤ p → p < at + length (spelling i offset_len) → is_stop code p ≡ false
  pub stop : is_stop code (at + length (spelling i offset_len)) ≡ true
