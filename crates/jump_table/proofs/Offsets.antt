-- An instruction with another offset: it differs in one field, is as long, and can be spelled where the offset fits.
use Rattle.std.proofs.Common.{◌≡◌, ℕ, ◌≤◌, true, false, length, refl, ap, ◌∙◌, sym, arith, suc, length-append}
use Rattle.numbers.specs.Bytes.{little}
use Rattle.numbers.proofs.BytesLaws.{length-little}
use Rattle.pvm_ops.specs.declared.forms.Form.{Form}
use Rattle.pvm_ops.specs.declared.forms.Form.TheVariants.{N, X, RE, XY, O, RX, RXY, RXO, RR, RRX, RRO, RRXY, RRR}
use Rattle.pvm_ops.specs.declared.instr.Instr.{Instr}
use Rattle.pvm_ops.specs.Opcodes.{form_of}
use Rattle.pvm_ops.specs.Offsets.{offset_of, with_offset, has_offset}
use Rattle.pvm_ops.specs.Spelling.{least_bytes, fields, spelling, FitsBytes, used, Fit, IsEncodable}

-- what another offset leaves
pub record Rest (i j : Instr) : Type 0 where
  pub op : j.op ≡ i.op
  pub a : j.a ≡ i.a
  pub b : j.b ≡ i.b
  pub d : j.d ≡ i.d

pub with_rest : (f : Form) (offset : ℕ) (i : Instr) → Rest i (with_offset f offset i)
with_rest N offset i = record { op = refl; a = refl; b = refl; d = refl }
with_rest X offset i = record { op = refl; a = refl; b = refl; d = refl }
with_rest RE offset i = record { op = refl; a = refl; b = refl; d = refl }
with_rest XY offset i = record { op = refl; a = refl; b = refl; d = refl }
with_rest O offset i = record { op = refl; a = refl; b = refl; d = refl }
with_rest RX offset i = record { op = refl; a = refl; b = refl; d = refl }
with_rest RXY offset i = record { op = refl; a = refl; b = refl; d = refl }
with_rest RXO offset i = record { op = refl; a = refl; b = refl; d = refl }
with_rest RR offset i = record { op = refl; a = refl; b = refl; d = refl }
with_rest RRX offset i = record { op = refl; a = refl; b = refl; d = refl }
with_rest RRO offset i = record { op = refl; a = refl; b = refl; d = refl }
with_rest RRXY offset i = record { op = refl; a = refl; b = refl; d = refl }
with_rest RRR offset i = record { op = refl; a = refl; b = refl; d = refl }

-- it has this offset
pub has_this : (f : Form) (offset : ℕ) (i : Instr) → has_offset f ≡ true → offset_of f (with_offset f offset i) ≡ offset
has_this N offset i h = absurd cc
has_this X offset i h = absurd cc
has_this RE offset i h = absurd cc
has_this XY offset i h = absurd cc
has_this O offset i h = refl
has_this RX offset i h = absurd cc
has_this RXY offset i h = absurd cc
has_this RXO offset i h = refl
has_this RR offset i h = absurd cc
has_this RRX offset i h = absurd cc
has_this RRO offset i h = refl
has_this RRXY offset i h = absurd cc
has_this RRR offset i h = absurd cc

-- without one it stays as it is
pub with_none : (f : Form) (offset : ℕ) (i : Instr) → has_offset f ≡ false → with_offset f offset i ≡ i
with_none N offset i h = refl
with_none X offset i h = refl
with_none RE offset i h = refl
with_none XY offset i h = refl
with_none O offset i h = absurd cc
with_none RX offset i h = refl
with_none RXY offset i h = refl
with_none RXO offset i h = absurd cc
with_none RR offset i h = refl
with_none RRX offset i h = refl
with_none RRO offset i h = absurd cc
with_none RRXY offset i h = refl
with_none RRR offset i h = refl

-- the fields take as many bytes
fields_length : (f : Form) (offset : ℕ) (i : Instr) (len : ℕ) → length (fields f (with_offset f offset i) len) ≡ length (fields f i len)
fields_length N offset i len = refl
fields_length X offset i len = refl
fields_length RE offset i len = refl
fields_length XY offset i len = refl
fields_length O offset i len = length-little len offset ∙ sym (length-little len i.x)
fields_length RX offset i len = refl
fields_length RXY offset i len = refl
fields_length RXO offset i len = omega (arith, length-append (least_bytes i.x) (little len offset), length-append (least_bytes i.x) (little len i.y), length-little len offset, length-little len i.y)
fields_length RR offset i len = refl
fields_length RRX offset i len = refl
fields_length RRO offset i len = ap suc (length-little len offset ∙ sym (length-little len i.x))
fields_length RRXY offset i len = refl
fields_length RRR offset i len = refl

-- and so does the instruction
pub length-with : (offset : ℕ) (i : Instr) (len : ℕ) → length (spelling (with_offset (form_of i.op) offset i) len) ≡ length (spelling i len)
unfolding spelling
length-with offset i len = rw (with_rest (form_of i.op) offset i).op (ap suc (fields_length (form_of i.op) offset i len))

-- unused fields stay so
used_with : (f : Form) (offset : ℕ) (i : Instr) → i ≡ used f i → with_offset f offset i ≡ used f (with_offset f offset i)
used_with N offset i h = h
used_with X offset i h = h
used_with RE offset i h = h
used_with XY offset i h = h
used_with O offset i h = ap (with_offset O offset) h
used_with RX offset i h = h
used_with RXY offset i h = h
used_with RXO offset i h = ap (with_offset RXO offset) h
used_with RR offset i h = h
used_with RRX offset i h = h
used_with RRO offset i h = ap (with_offset RRO offset) h
used_with RRXY offset i h = h
used_with RRR offset i h = h

-- what fits beside the offset fits with one that fits
fit_with : (f : Form) (offset : ℕ) (i : Instr) (len before : ℕ) → (has_offset f ≡ true → FitsBytes len offset) → Fit f i before → Fit f (with_offset f offset i) len
fit_with N offset i len before fits h = h
fit_with X offset i len before fits h = h
fit_with RE offset i len before fits h = h
fit_with XY offset i len before fits h = h
fit_with O offset i len before fits h = fits refl
fit_with RX offset i len before fits h = h
fit_with RXY offset i len before fits h = h
fit_with RXO offset i len before fits h = (h.0, fits refl)
fit_with RR offset i len before fits h = h
fit_with RRX offset i len before fits h = h
fit_with RRO offset i len before fits h = fits refl
fit_with RRXY offset i len before fits h = h
fit_with RRR offset i len before fits h = h

-- so it can be spelled
pub encodable_with : (offset : ℕ) (i : Instr) (len before : ℕ) → len ≤ 4 → (has_offset (form_of i.op) ≡ true → FitsBytes len offset) → IsEncodable i before → IsEncodable (with_offset (form_of i.op) offset i) len
encodable_with offset i len before few fits h =
    let rest = with_rest (form_of i.op) offset i in
    record {
      a = rw rest.a h.a;
      b = rw rest.b h.b;
      d = rw rest.d h.d;
      offset = few;
      unused = rw rest.op (used_with (form_of i.op) offset i h.unused);
      fit = rw rest.op (fit_with (form_of i.op) offset i len before fits h.fit);
    }

-- without an offset every length will do
pub encodable_any : (i : Instr) (len before : ℕ) → len ≤ 4 → has_offset (form_of i.op) ≡ false → IsEncodable i before → IsEncodable i len
encodable_any i len before few none h = rw (with_none (form_of i.op) 0 i none) at (encodable_with 0 i len before few (λ has. absurd cc) h)
