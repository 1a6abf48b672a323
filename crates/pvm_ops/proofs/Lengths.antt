-- The length of a spelling.
use Rattle.std.proofs.Common.{◌≡◌, ℕ, ◌+◌, ◌≤◌, List, length, arith, length-append, append_assoc, refl, slice_index, suc, ◌∷◌, ◌++◌}
use Rattle.std.proofs.lemmas.List.{append-nil}
use Rattle.numbers.specs.Bytes.{little}
use Rattle.numbers.proofs.BytesLaws.{length-little}
use Rattle.pvm_ops.specs.Opcodes.{form_of}
use Rattle.pvm_ops.specs.Spelling.{fields, spelling, least_bytes, least_len}
use Rattle.pvm_ops.specs.declared.forms.Form.{Form}
use Rattle.pvm_ops.specs.declared.forms.Form.TheVariants.{N, X, RE, XY, O, RX, RXY, RXO, RR, RRX, RRO, RRXY, RRR}
use Rattle.pvm_ops.specs.declared.instr.Instr.{Instr}

pub least_len-le : (v : ℕ) → least_len v ≤ 4
unfolding least_len
least_len-le v = grind arith

-- an immediate takes at most four bytes
length-least_bytes : (v : ℕ) → length (least_bytes v) ≤ 4
length-least_bytes v = let le = least_len-le v in omega (arith, length-little (least_len v) v)

pub length-fields : (f : Form) (l : ℕ) (i : Instr) → l ≤ 4 → length (fields f i l) ≤ 24
length-fields N l i h = omega arith
length-fields X l i h = omega (arith, length-least_bytes i.x)
length-fields RE l i h = omega (arith, length-little 8 i.x)
length-fields XY l i h = omega (arith, length-append (least_bytes i.x) (least_bytes i.y), length-least_bytes i.x, length-least_bytes i.y)
length-fields O l i h = omega (arith, length-little l i.x)
length-fields RX l i h = omega (arith, length-least_bytes i.x)
length-fields RXY l i h = omega (arith, length-append (least_bytes i.x) (least_bytes i.y), length-least_bytes i.x, length-least_bytes i.y)
length-fields RXO l i h = omega (arith, length-append (least_bytes i.x) (little l i.y), length-least_bytes i.x, length-little l i.y)
length-fields RR l i h = omega arith
length-fields RRX l i h = omega (arith, length-least_bytes i.x)
length-fields RRO l i h = omega (arith, length-little l i.x)
length-fields RRXY l i h = omega (arith, length-append (least_bytes i.x) (least_bytes i.y), length-least_bytes i.x, length-least_bytes i.y)
length-fields RRR l i h = omega arith

-- a spelling has its opcode, and no more bytes than can be skipped after it
pub length-spelling : (i : Instr) (l : ℕ) → l ≤ 4 → (1 ≤ length (spelling i l)) × (length (spelling i l) ≤ 25)
unfolding spelling
length-spelling i l h = let few : length (fields (form_of i.op) i l) ≤ 24 = length-fields (form_of i.op) l i h in (omega arith, omega arith)

-- the first byte of a spelling is the opcode
pub slice_index-spelling : (i : Instr) (l : ℕ) → slice_index (spelling i l) 0 ≡ i.op
unfolding spelling
slice_index-spelling i l = refl

pub ruleset lengths = (length-little, length-append)

pub ruleset spellings = (append_assoc, append-nil)
