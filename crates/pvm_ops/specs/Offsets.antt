-- The offset of an instruction: how far from its own position it leads.
use Rattle.std.specs.Prelude.{ℕ, Bool, true, false}
use Rattle.pvm_ops.specs.declared.forms.Form.{Form}
use Rattle.pvm_ops.specs.declared.forms.Form.TheVariants.{N, X, RE, XY, O, RX, RXY, RXO, RR, RRX, RRO, RRXY, RRR}
use Rattle.pvm_ops.specs.declared.instr.Instr.{Instr}

-- the offset, which is x in a form that has no other immediate, else y; 0 if the form has none
abbrev pub offset_of : Form → Instr → ℕ
offset_of N i = 0
offset_of X i = 0
offset_of RE i = 0
offset_of XY i = 0
offset_of O i = i.x
offset_of RX i = 0
offset_of RXY i = 0
offset_of RXO i = i.y
offset_of RR i = 0
offset_of RRX i = 0
offset_of RRO i = i.x
offset_of RRXY i = 0
offset_of RRR i = 0

-- the instruction with another offset
abbrev pub with_offset : Form → ℕ → Instr → Instr
with_offset N offset i = i
with_offset X offset i = i
with_offset RE offset i = i
with_offset XY offset i = i
with_offset O offset i = record i { x = offset }
with_offset RX offset i = i
with_offset RXY offset i = i
with_offset RXO offset i = record i { y = offset }
with_offset RR offset i = i
with_offset RRX offset i = i
with_offset RRO offset i = record i { x = offset }
with_offset RRXY offset i = i
with_offset RRR offset i = i

-- whether a form has an offset
abbrev pub has_offset : Form → Bool
has_offset N = false
has_offset X = false
has_offset RE = false
has_offset XY = false
has_offset O = true
has_offset RX = false
has_offset RXY = false
has_offset RXO = true
has_offset RR = false
has_offset RRX = false
has_offset RRO = true
has_offset RRXY = false
has_offset RRR = false
