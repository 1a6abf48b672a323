-- How many bytes instructions and blocks take with offsets of some lengths.
use Rattle.std.proofs.Common.{◌≡◌, ℕ, ◌+◌, ◌-◌, ◌<◌, ◌≤◌, List, [], ◌∷◌, ◌++◌, length, map, take, drop, get_or, Bool, true, false, Option, Some, None, refl, ap, ◌∙◌, arith, length-append}
use Rattle.std.specs.List.{AllByRecursion}
use Rattle.std.proofs.lemmas.List.{at_drop_more, at_drop_all}
use Rattle.std.proofs.Math.Seq.{get_or-append_seam}
use Rattle.numbers.specs.Bytes.{little}
use Rattle.numbers.proofs.BytesLaws.{length-little}
use Rattle.runs.specs.Joined.{joined}
use Rattle.pvm_ops.specs.declared.forms.Form.{Form}
use Rattle.pvm_ops.specs.declared.forms.Form.TheVariants.{N, X, RE, XY, O, RX, RXY, RXO, RR, RRX, RRO, RRXY, RRR}
use Rattle.pvm_ops.specs.declared.instr.Instr.{Instr}
use Rattle.pvm_ops.specs.Opcodes.{form_of}
use Rattle.pvm_ops.specs.Offsets.{has_offset}
use Rattle.pvm_ops.specs.Fetch.{trap}
use Rattle.pvm_ops.specs.Spelling.{least_bytes, fields, spelling}
use Rattle.pvm_ops.specs.BlockList.{Block}
use Rattle.jump_table.specs.Assembly.{offset_len, members, words}
use Rattle.jump_table.specs.Laws.{is_some, HasNoOffset, IsBlock}
use Rattle.jump_table.specs.Assembling.{spelled}
use Rattle.jump_table.specs.Shapes.{offset_bytes, size_with, shape_of}

-- the bytes of instructions that are left: those of the next, and those after it
pub size_more : (len : ℕ) (is : List Instr) (k : ℕ) (d : Instr) → k < length is → length (joined (spelled len (drop k is))) ≡ length (spelling (get_or is k d) len) + length (joined (spelled len (drop (k + 1) is)))
size_more len is k d lt = at_drop_more (λ is. length (joined (spelled len is))) is k d lt ∙ length-append (spelling (get_or is k d) len) (joined (spelled len (drop (k + 1) is)))

pub size_none : (len : ℕ) (is : List Instr) (k : ℕ) → length is ≤ k → length (joined (spelled len (drop k is))) ≡ 0
size_none len is k le = at_drop_all (λ is. length (joined (spelled len is))) is k le

-- the bytes of an offset
abbrev bytes_of : Bool → ℕ → ℕ
bytes_of true len = len
bytes_of false len = 0

-- the fields take as many bytes more as the offset does
fields_grow : (f : Form) (i : Instr) (len : ℕ) → length (fields f i len) ≡ length (fields f i 0) + bytes_of (has_offset f) len
fields_grow N i len = omega arith
fields_grow X i len = omega arith
fields_grow RE i len = omega arith
fields_grow XY i len = omega arith
fields_grow O i len = omega (arith, length-little len i.x, length-little 0 i.x)
fields_grow RX i len = omega arith
fields_grow RXY i len = omega arith
fields_grow RXO i len = omega (arith, length-append (least_bytes i.x) (little len i.y), length-append (least_bytes i.x) (little 0 i.y), length-little len i.y, length-little 0 i.y)
fields_grow RR i len = omega arith
fields_grow RRX i len = omega arith
fields_grow RRO i len = omega (arith, length-little len i.x, length-little 0 i.x)
fields_grow RRXY i len = omega arith
fields_grow RRR i len = omega arith

-- and so does the instruction
spelling_grows : (i : Instr) (len : ℕ) → length (spelling i len) ≡ length (spelling i 0) + bytes_of (has_offset (form_of i.op)) len
unfolding spelling
spelling_grows i len = omega (arith, fields_grow (form_of i.op) i len)

-- instructions without an offset take as many bytes whatever its length
pub front_size : (is : List Instr) (len other : ℕ) → AllByRecursion HasNoOffset is → length (joined (spelled len is)) ≡ length (joined (spelled other is))
front_size [] len other h = refl
front_size (i ∷ is) len other h =
    let rest = front_size is len other h.1 in
    let a : length (spelling i len) ≡ length (spelling i 0) + 0 = spelling_grows i len ∙ ap (λ b. length (spelling i 0) + bytes_of b len) h.0 in
    let b : length (spelling i other) ≡ length (spelling i 0) + 0 = spelling_grows i other ∙ ap (λ b. length (spelling i 0) + bytes_of b other) h.0 in
    omega (arith, rest, a, b, length-append (spelling i len) (joined (spelled len is)), length-append (spelling i other) (joined (spelled other is)))

by_target : (o : Option ℕ) (len : ℕ) → bytes_of (is_some o) len ≡ offset_bytes o len
by_target None len = refl
by_target (Some target) len = refl

-- the last instruction of a block, with its offset
pub last_grows : (b : Block) (e : IsBlock b) (len : ℕ) → length (spelling e.last len) ≡ length (spelling e.last 0) + offset_bytes b.target len
last_grows b e len = spelling_grows e.last len ∙ ap (λ h. length (spelling e.last 0) + bytes_of h len) e.targeted ∙ ap (λ n. length (spelling e.last 0) + n) (by_target b.target len)

-- those in front of the last, and the last
count_front : (b : Block) (e : IsBlock b) → length b.instrs - 1 ≡ length e.front
count_front b e = omega (arith, ap length e.is, length-append e.front (e.last ∷ []))

take_front : (xs ys : List Instr) → take (length xs) (xs ++ ys) ≡ xs
take_front [] ys = refl
take_front (x ∷ xs) ys = ap (λ l. x ∷ l) (take_front xs ys)

-- the shape of a block
pub shape_front : (b : Block) (e : IsBlock b) → (shape_of b).front ≡ length (joined (spelled offset_len e.front))
shape_front b e =
    let n = count_front b e in
    let all = e.is in
    ap (λ k. length (joined (spelled offset_len (take k b.instrs)))) n
    ∙ ap (λ (is : List Instr). length (joined (spelled offset_len (take (length e.front) is)))) all
    ∙ ap (λ (is : List Instr). length (joined (spelled offset_len is))) (take_front e.front (e.last ∷ []))

pub at_last : (b : Block) (e : IsBlock b) (d : Instr) → get_or b.instrs (length b.instrs - 1) d ≡ e.last
at_last b e d = ap (λ k. get_or b.instrs k d) (count_front b e) ∙ ap (λ (is : List Instr). get_or is (length e.front) d) e.is ∙ get_or-append_seam e.front e.last [] d

pub shape_last : (b : Block) (e : IsBlock b) → (shape_of b).last ≡ length (spelling e.last 0)
shape_last b e =
    let last = ap (λ (i : Instr). length (spelling i offset_len) - offset_bytes b.target offset_len) (at_last b e trap) in
    let grows = last_grows b e offset_len in
    last ∙ omega (arith, grows)

-- the bytes of a block
pub block_bytes : (b : Block) → IsBlock b → (len : ℕ) → length (joined (words (members len b))) ≡ size_with (shape_of b) len
block_bytes b e len =
    let all : words (members len b) ≡ spelled len b.instrs = members_words len b.target b.instrs in
    let split : length (joined (spelled len b.instrs)) ≡ length (joined (spelled len e.front)) + length (spelling e.last len) = ap (λ (is : List Instr). length (joined (spelled len is))) e.is ∙ seam e.front e.last in
    ap (λ (ws : List (List ℕ)). length (joined ws)) all ∙ split ∙ omega (arith, front_size e.front len offset_len e.plain, shape_front b e, shape_last b e, last_grows b e len)
  where
    members_words : (len : ℕ) (target : Option ℕ) (is : List Instr) → words (map (λ i. record { instr = i; len = len; target = target }) is) ≡ spelled len is
    members_words len target [] = refl
    members_words len target (i ∷ is) = ap (λ l. spelling i len ∷ l) (members_words len target is)

    seam : (front : List Instr) (last : Instr) → length (joined (spelled len (front ++ last ∷ []))) ≡ length (joined (spelled len front)) + length (spelling last len)
    seam [] last = omega (arith, length-append (spelling last len) [])
    seam (i ∷ front) last = omega (arith, seam front last, length-append (spelling i len) (joined (spelled len (front ++ last ∷ []))), length-append (spelling i len) (joined (spelled len front)))
