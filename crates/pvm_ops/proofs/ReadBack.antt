-- What is spelled is read back.
use Rattle.std.proofs.Common.{◌≡◌, ℕ, suc, ◌+◌, ◌-◌, ◌*◌, ◌^◌, ◌<◌, ◌≤◌, ◌/◌, ◌%◌, List, [], ◌∷◌, ◌++◌, length, arith, refl, sym, ◌∙◌, true, false, slice_index, length-append, add-zero, min, nat_eq, eqb-true}
use Rattle.std.specs.Prelude.{if◌then◌else◌}
use Rattle.numbers.specs.Bytes.{little}
use Rattle.numbers.specs.Words.{sign_extend}
use Rattle.numbers.proofs.BytesLaws.{length-little, number_of-little}
use Rattle.numbers.proofs.WordsLaws.{sign_extend-mod}
use Rattle.pvm_ops.specs.Listing.{is_stop, run_before}
use Rattle.pvm_ops.specs.Opcodes.{form_of}
use Rattle.pvm_ops.specs.Fetch.{bytes_from, fetch_of, immediate, operands, low_register, high_register}
use Rattle.pvm_ops.specs.Spelling.{fields, spelling, Reads, IsShort, FitsBytes, Fit, used, least_bytes, least_len}
use Rattle.pvm_ops.specs.Laws.{ReadsBack}
use Rattle.pvm_ops.specs.declared.forms.Form.{Form}
use Rattle.pvm_ops.specs.declared.forms.Form.TheVariants.{N, X, RE, XY, O, RX, RXY, RXO, RR, RRX, RRO, RRXY, RRR}
use Rattle.pvm_ops.specs.declared.instr.Instr.{Instr}
use Rattle.pvm_ops.proofs.Lengths.{least_len-le, length-fields}
use Rattle.pvm_ops.proofs.Skipping.{run_before-is}

bytes_from-reads : (bytes : List ℕ) (at : ℕ) (xs : List ℕ) → Reads bytes at xs → bytes_from bytes at (length xs) ≡ xs
bytes_from-reads bytes at [] h = refl
bytes_from-reads bytes at (x ∷ xs) h = rw (h.0, bytes_from-reads bytes (at + 1) xs h.1) refl

Reads-front : (bytes : List ℕ) (at : ℕ) (xs ys : List ℕ) → Reads bytes at (xs ++ ys) → Reads bytes at xs
Reads-front bytes at [] ys h = tt
Reads-front bytes at (x ∷ xs) ys h = (h.0, Reads-front bytes (at + 1) xs ys h.1)

Reads-back : (bytes : List ℕ) (at : ℕ) (xs ys : List ℕ) → Reads bytes at (xs ++ ys) → Reads bytes (at + length xs) ys
Reads-back bytes at [] ys h = rw add-zero h
Reads-back bytes at (x ∷ xs) ys h =
    let e : at + suc (length xs) ≡ at + 1 + length xs = omega arith in rw e (Reads-back bytes (at + 1) xs ys h.1)

-- an immediate of enough bytes is read back
immediate-back : (bytes : List ℕ) (at l k v : ℕ) → k ≡ l → Reads bytes at (little l v) → FitsBytes l v → immediate bytes at k ≡ v
immediate-back bytes at l k v e h f =
    let read : bytes_from bytes at l ≡ little l v = rw (length-little l v) at (bytes_from-reads bytes at (little l v) h) in
    rw (e, read, number_of-little l v, sign_extend-mod (8 * l) v) f

-- the least bytes are enough
short-fits : (v : ℕ) → IsShort v → FitsBytes (least_len v) v
unfolding least_len
short-fits v h =
    elim (nat_eq v 0) as (λ b. nat_eq v 0 ≡ b → FitsBytes (if b then 0 else if nat_eq (sign_extend 8 v) v then 1 else if nat_eq (sign_extend 16 v) v then 2 else if nat_eq (sign_extend 24 v) v then 3 else 4) v) [
      | true ↦ λ e. let z : v ≡ 0 = eqb-true _ _ e in rw z refl
      | false ↦ λ _. elim (nat_eq (sign_extend 8 v) v) as (λ b. nat_eq (sign_extend 8 v) v ≡ b → FitsBytes (if b then 1 else if nat_eq (sign_extend 16 v) v then 2 else if nat_eq (sign_extend 24 v) v then 3 else 4) v) [
        | true ↦ λ e. eqb-true _ _ e
        | false ↦ λ _. elim (nat_eq (sign_extend 16 v) v) as (λ b. nat_eq (sign_extend 16 v) v ≡ b → FitsBytes (if b then 2 else if nat_eq (sign_extend 24 v) v then 3 else 4) v) [
          | true ↦ λ e. eqb-true _ _ e
          | false ↦ λ _. elim (nat_eq (sign_extend 24 v) v) as (λ b. nat_eq (sign_extend 24 v) v ≡ b → FitsBytes (if b then 3 else 4) v) [
            | true ↦ λ e. eqb-true _ _ e
            | false ↦ λ _. h
          ] refl
        ] refl
      ] refl
    ] refl

low-back : (byte a b : ℕ) → byte ≡ a + 16 * b → a ≤ 12 → low_register byte ≡ a
low-back byte a b e h = omega arith

high-back : (byte a b : ℕ) → byte ≡ a + 16 * b → a ≤ 12 → b ≤ 12 → high_register byte ≡ b
high-back byte a b e h k = omega arith

-- an immediate that comes last
last-back : (bytes : List ℕ) (at k v : ℕ) → k ≡ length (least_bytes v) → Reads bytes at (least_bytes v) → IsShort v → immediate bytes at (min 4 k) ≡ v
last-back bytes at k v e h s =
    let bound : least_len v ≤ 4 = least_len-le v in
    let len : k ≡ least_len v = e ∙ length-little (least_len v) v in
    immediate-back bytes at (least_len v) (min 4 k) v (omega arith) h (short-fits v s)

-- an offset of l bytes that comes last
offset-back : (bytes : List ℕ) (at k l v : ℕ) → k ≡ length (little l v) → l ≤ 4 → Reads bytes at (little l v) → FitsBytes l v → immediate bytes at (min 4 k) ≡ v
offset-back bytes at k l v e o h f =
    let len : k ≡ l = e ∙ length-little l v in
    immediate-back bytes at l (min 4 k) v (omega arith) h f

-- a word is its own sign extension
word-fits : (v : ℕ) → v < 2 ^ 64 → FitsBytes 8 v
word-fits v h = let e : v % 2 ^ 64 ≡ v = omega arith in rw e (grind arith)

-- the operands that are read are those that were spelled
operands-back : (f : Form) (bytes : List ℕ) (at l : ℕ) (i : Instr) → i.a ≤ 12 → i.b ≤ 12 → i.d ≤ 12 → l ≤ 4 → i ≡ used f i → Fit f i l → Reads bytes (at + 1) (fields f i l) → operands bytes at i.op (length (fields f i l)) f ≡ i
operands-back N bytes at l i a b d o u f h = sym u
operands-back X bytes at l i a b d o u f h =
    let x = last-back bytes (at + 1) (length (fields X i l)) i.x (omega arith) h f in
    rw x (sym u)
operands-back RE bytes at l i a b d o u f h =
    let e : at + 2 ≡ at + 1 + 1 = omega arith in
    let rest : Reads bytes (at + 2) (little 8 i.x) = rw e h.1 in
    let x = immediate-back bytes (at + 2) 8 8 i.x refl rest (word-fits i.x f) in
    let reg : low_register (slice_index bytes (at + 1)) ≡ i.a = low-back _ i.a 0 (let first = h.0 in omega arith) a in
    rw (reg, x) (sym u)
operands-back XY bytes at l i a b d o u f h =
    let e : at + 2 ≡ at + 1 + 1 = omega arith in
    let rest : Reads bytes (at + 2) (least_bytes i.x ++ least_bytes i.y) = rw e h.1 in
    let bound : least_len i.x ≤ 4 = least_len-le i.x in
    let lx : min 4 (slice_index bytes (at + 1) % 8) ≡ least_len i.x = (let first = h.0 in omega arith) in
    let len : length (least_bytes i.x) ≡ least_len i.x = length-little _ i.x in
    let k : length (fields XY i l) - least_len i.x - 1 ≡ length (least_bytes i.y) = omega (arith, length-append (least_bytes i.x) (least_bytes i.y)) in
    let second : Reads bytes (at + 2 + least_len i.x) (least_bytes i.y) = rw len at (Reads-back bytes (at + 2) (least_bytes i.x) (least_bytes i.y) rest) in
    let x = immediate-back bytes (at + 2) (least_len i.x) (least_len i.x) i.x refl (Reads-front bytes (at + 2) (least_bytes i.x) (least_bytes i.y) rest) (short-fits i.x f.0) in
    let y = last-back bytes (at + 2 + least_len i.x) _ i.y k second f.1 in
    rw (lx, x, y) (sym u)
operands-back O bytes at l i a b d o u f h =
    let x = offset-back bytes (at + 1) (length (fields O i l)) l i.x (omega arith) o h f in
    rw x (sym u)
operands-back RX bytes at l i a b d o u f h =
    let rest : Reads bytes (at + 2) (least_bytes i.x) = (let e : at + 2 ≡ at + 1 + 1 = omega arith in rw e h.1) in
    let x = last-back bytes (at + 2) (length (fields RX i l) - 1) i.x (omega arith) rest f in
    let reg : low_register (slice_index bytes (at + 1)) ≡ i.a = low-back _ i.a 0 (let first = h.0 in omega arith) a in
    rw (reg, x) (sym u)
operands-back RXY bytes at l i a b d o u f h =
    let e : at + 2 ≡ at + 1 + 1 = omega arith in
    let rest : Reads bytes (at + 2) (least_bytes i.x ++ least_bytes i.y) = rw e h.1 in
    let bound : least_len i.x ≤ 4 = least_len-le i.x in
    let lx : min 4 (slice_index bytes (at + 1) / 16 % 8) ≡ least_len i.x = (let first = h.0 in omega arith) in
    let len : length (least_bytes i.x) ≡ least_len i.x = length-little _ i.x in
    let k : length (fields RXY i l) - least_len i.x - 1 ≡ length (least_bytes i.y) = omega (arith, length-append (least_bytes i.x) (least_bytes i.y)) in
    let second : Reads bytes (at + 2 + least_len i.x) (least_bytes i.y) = rw len at (Reads-back bytes (at + 2) (least_bytes i.x) (least_bytes i.y) rest) in
    let x = immediate-back bytes (at + 2) (least_len i.x) (least_len i.x) i.x refl (Reads-front bytes (at + 2) (least_bytes i.x) (least_bytes i.y) rest) (short-fits i.x f.0) in
    let y = last-back bytes (at + 2 + least_len i.x) _ i.y k second f.1 in
    rw (low-back _ _ _ h.0 a, lx, x, y) (sym u)
operands-back RXO bytes at l i a b d o u f h =
    let e : at + 2 ≡ at + 1 + 1 = omega arith in
    let rest : Reads bytes (at + 2) (least_bytes i.x ++ little l i.y) = rw e h.1 in
    let bound : least_len i.x ≤ 4 = least_len-le i.x in
    let lx : min 4 (slice_index bytes (at + 1) / 16 % 8) ≡ least_len i.x = (let first = h.0 in omega arith) in
    let len : length (least_bytes i.x) ≡ least_len i.x = length-little _ i.x in
    let k : length (fields RXO i l) - least_len i.x - 1 ≡ length (little l i.y) = omega (arith, length-append (least_bytes i.x) (little l i.y)) in
    let second : Reads bytes (at + 2 + least_len i.x) (little l i.y) = rw len at (Reads-back bytes (at + 2) (least_bytes i.x) (little l i.y) rest) in
    let x = immediate-back bytes (at + 2) (least_len i.x) (least_len i.x) i.x refl (Reads-front bytes (at + 2) (least_bytes i.x) (little l i.y) rest) (short-fits i.x f.0) in
    let y = offset-back bytes (at + 2 + least_len i.x) _ l i.y k o second f.1 in
    rw (low-back _ _ _ h.0 a, lx, x, y) (sym u)
operands-back RR bytes at l i a b d o u f h = rw (low-back _ _ _ h.0 d, high-back _ _ _ h.0 d a) (sym u)
operands-back RRX bytes at l i a b d o u f h =
    let rest : Reads bytes (at + 2) (least_bytes i.x) = (let e : at + 2 ≡ at + 1 + 1 = omega arith in rw e h.1) in
    let x = last-back bytes (at + 2) (length (fields RRX i l) - 1) i.x (omega arith) rest f in
    rw (low-back _ _ _ h.0 a, high-back _ _ _ h.0 a b, x) (sym u)
operands-back RRO bytes at l i a b d o u f h =
    let rest : Reads bytes (at + 2) (little l i.x) = (let e : at + 2 ≡ at + 1 + 1 = omega arith in rw e h.1) in
    let x = offset-back bytes (at + 2) (length (fields RRO i l) - 1) l i.x (omega arith) o rest f in
    rw (low-back _ _ _ h.0 a, high-back _ _ _ h.0 a b, x) (sym u)
operands-back RRXY bytes at l i a b d o u f h =
    let e₂ : at + 2 ≡ at + 1 + 1 = omega arith in
    let e₃ : at + 3 ≡ at + 1 + 1 + 1 = omega arith in
    let rest : Reads bytes (at + 3) (least_bytes i.x ++ least_bytes i.y) = rw e₃ h.1.1 in
    let bound : least_len i.x ≤ 4 = least_len-le i.x in
    let third : slice_index bytes (at + 2) ≡ least_len i.x = rw e₂ h.1.0 in
    let lx : min 4 (slice_index bytes (at + 2) % 8) ≡ least_len i.x = omega arith in
    let len : length (least_bytes i.x) ≡ least_len i.x = length-little _ i.x in
    let k : length (fields RRXY i l) - least_len i.x - 2 ≡ length (least_bytes i.y) = omega (arith, length-append (least_bytes i.x) (least_bytes i.y)) in
    let second : Reads bytes (at + 3 + least_len i.x) (least_bytes i.y) = rw len at (Reads-back bytes (at + 3) (least_bytes i.x) (least_bytes i.y) rest) in
    let x = immediate-back bytes (at + 3) (least_len i.x) (least_len i.x) i.x refl (Reads-front bytes (at + 3) (least_bytes i.x) (least_bytes i.y) rest) (short-fits i.x f.0) in
    let y = last-back bytes (at + 3 + least_len i.x) _ i.y k second f.1 in
    rw (low-back _ _ _ h.0 a, high-back _ _ _ h.0 a b, lx, x, y) (sym u)
operands-back RRR bytes at l i a b d o u f h =
    let e : at + 2 ≡ at + 1 + 1 = omega arith in
    let third : slice_index bytes (at + 2) ≡ i.d = rw e h.1.0 in
    let reg : min 12 (slice_index bytes (at + 2)) ≡ i.d = omega arith in
    rw (low-back _ _ _ h.0 a, high-back _ _ _ h.0 a b, reg) (sym u)

pub reads-back : ReadsBack
unfolding fetch_of spelling
reads-back code i at l known ok alone_at =
    let f : Form = form_of i.op in
    let n : ℕ = length (fields f i l) in
    let few : n ≤ 24 = length-fields f l i ok.offset in
    let op : slice_index code.bytes at ≡ i.op = alone_at.bytes.0 in
    let skipped : run_before (is_stop code) (at + 1) 24 ≡ n =
    run_before-is (is_stop code) 24 (at + 1) n few (λ p a b. alone_at.alone p a (omega arith)) (λ p e _. let e' : p ≡ at + suc n = omega arith in rw e' alone_at.stop) in
    let last : at + 1 + n ≡ at + suc n = omega arith in
    rw (alone_at.marked, op, known, skipped, operands-back f code.bytes at l i ok.a ok.b ok.d ok.offset ok.unused ok.fit alone_at.bytes.1, last) refl
