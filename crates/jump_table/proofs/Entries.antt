-- The jumps of the entries: each takes as many bytes as any other, and its offset can be spelled.
use Rattle.std.proofs.Common.{◌≡◌, ℕ, zero, suc, ◌+◌, ◌-◌, ◌*◌, ◌%◌, ◌^◌, ◌<◌, ◌≤◌, true, false, List, [], ◌∷◌, ◌++◌, length, Some, refl, arith, length-append, nat_lt, inl, inr}
use Rattle.std.specs.Prelude.{IsTrue, slice_get}
use Rattle.std.proofs.lemmas.Bool.{cases_lt}
use Rattle.std.proofs.lemmas.Bool.Decides.{nat_tests}
use Rattle.runs.specs.Joined.{joined, position}
use Rattle.runs.proofs.HasAt.{position_first}
use Rattle.pvm_ops.specs.Opcodes.{is_known, form_of}
use Rattle.pvm_ops.specs.Spelling.{spelling, IsEncodable, FitsBytes}
use Rattle.pvm_ops.specs.BlockList.{BlockList}
use Rattle.jump_table.specs.Lengths.{FitsIn}
use Rattle.jump_table.specs.Assembly.{Member, offset_len, entry_len, jump, words, start_of, offset, entry_jumps}

-- numbers near 0, from above and from below, are the sign extensions of their low four bytes
low_fits : (v : ℕ) → v < 2 ^ 31 → FitsBytes offset_len v
low_fits v h =
    let low : v % 2 ^ 32 ≡ v = omega arith in
    let small : nat_lt v (2 ^ 31) ≡ true = grind (arith, nat_tests) in
    rw (low, small) refl

high_fits : (v : ℕ) → 2 ^ 64 - 2 ^ 31 ≤ v → v < 2 ^ 64 → FitsBytes offset_len v
high_fits v h k =
    let large : nat_lt (v % 2 ^ 32) (2 ^ 31) ≡ false = (let half : 2 ^ 31 ≤ v % 2 ^ 32 = omega arith in grind (arith, nat_tests)) in
    rw large (omega arith)

-- and so is the offset between two positions below 2^31
pub offset_fits : (from to : ℕ) → from < 2 ^ 31 → to < 2 ^ 31 → FitsBytes offset_len (offset from to)
offset_fits from to h k =
    elim (cases_lt to from) [
      | inl back ↦ high_fits (offset from to) (omega arith) (omega arith)
      | inr on ↦ low_fits (offset from to) (omega arith)
    ]

-- what is near 0, from above or from below, is the sign extension of its low bytes
fits_none : (v : ℕ) → v ≡ 0 → FitsBytes 0 v
fits_none v e = rw e refl

fits_low_one : (v : ℕ) → v < 2 ^ 7 → FitsBytes 1 v
fits_low_one v h =
    let low : v % 2 ^ 8 ≡ v = omega arith in
    let small : nat_lt v (2 ^ 7) ≡ true = grind (arith, nat_tests) in
    rw (low, small) refl

fits_high_one : (v : ℕ) → 2 ^ 64 - 2 ^ 7 ≤ v → v < 2 ^ 64 → FitsBytes 1 v
fits_high_one v h k =
    let large : nat_lt (v % 2 ^ 8) (2 ^ 7) ≡ false = (let half : 2 ^ 7 ≤ v % 2 ^ 8 = omega arith in grind (arith, nat_tests)) in
    rw large (omega arith)

fits_low_two : (v : ℕ) → v < 2 ^ 15 → FitsBytes 2 v
fits_low_two v h =
    let low : v % 2 ^ 16 ≡ v = omega arith in
    let small : nat_lt v (2 ^ 15) ≡ true = grind (arith, nat_tests) in
    rw (low, small) refl

fits_high_two : (v : ℕ) → 2 ^ 64 - 2 ^ 15 ≤ v → v < 2 ^ 64 → FitsBytes 2 v
fits_high_two v h k =
    let large : nat_lt (v % 2 ^ 16) (2 ^ 15) ≡ false = (let half : 2 ^ 15 ≤ v % 2 ^ 16 = omega arith in grind (arith, nat_tests)) in
    rw large (omega arith)

fits_low_three : (v : ℕ) → v < 2 ^ 23 → FitsBytes 3 v
fits_low_three v h =
    let low : v % 2 ^ 24 ≡ v = omega arith in
    let small : nat_lt v (2 ^ 23) ≡ true = grind (arith, nat_tests) in
    rw (low, small) refl

fits_high_three : (v : ℕ) → 2 ^ 64 - 2 ^ 23 ≤ v → v < 2 ^ 64 → FitsBytes 3 v
fits_high_three v h k =
    let large : nat_lt (v % 2 ^ 24) (2 ^ 23) ≡ false = (let half : 2 ^ 23 ≤ v % 2 ^ 24 = omega arith in grind (arith, nat_tests)) in
    rw large (omega arith)

-- an offset whose distance fits a length is the sign extension of its low bytes of that number
pub fits_bytes : (len from to : ℕ) → len ≤ 4 → from < 2 ^ 31 → to < 2 ^ 31 → FitsIn len from to → FitsBytes len (offset from to)
fits_bytes zero from to few h k f = fits_none (offset from to) (omega (arith, f))
fits_bytes (suc zero) from to few h k f =
    elim (cases_lt to from) [
      | inl back ↦ (let near = f.0 in fits_high_one (offset from to) (omega arith) (omega arith))
      | inr on ↦ (let near = f.1 in fits_low_one (offset from to) (omega arith))
    ]
fits_bytes (suc (suc zero)) from to few h k f =
    elim (cases_lt to from) [
      | inl back ↦ (let near = f.0 in fits_high_two (offset from to) (omega arith) (omega arith))
      | inr on ↦ (let near = f.1 in fits_low_two (offset from to) (omega arith))
    ]
fits_bytes (suc (suc (suc zero))) from to few h k f =
    elim (cases_lt to from) [
      | inl back ↦ (let near = f.0 in fits_high_three (offset from to) (omega arith) (omega arith))
      | inr on ↦ (let near = f.1 in fits_low_three (offset from to) (omega arith))
    ]
fits_bytes (suc (suc (suc (suc zero)))) from to few h k f = offset_fits from to h k
fits_bytes (suc (suc (suc (suc (suc l))))) from to few h k f = absurd (omega arith)

-- a jump whose offset fits can be spelled
pub jump_encodable : (x : ℕ) → FitsBytes offset_len x → IsEncodable (jump x) offset_len
unfolding form_of
jump_encodable x fits = record { a = omega arith; b = omega arith; d = omega arith; offset = omega arith; unused = refl; fit = fits }

-- its opcode is known
pub jump_known : IsTrue (is_known 40)
unfolding is_known
jump_known = refl

-- the bytes of a jump
pub length-jump : (x : ℕ) → length (spelling (jump x) offset_len) ≡ entry_len
unfolding spelling form_of
length-jump x = refl

-- a jump for each entry, with the offset to its block
abbrev pub entry_member : List ℕ → BlockList → ℕ → ℕ → Member
entry_member lengths list at block = record { instr = jump (offset at (start_of lengths list block)); len = offset_len; target = Some block }

pub entry_jump : (lengths : List ℕ) (list : BlockList) (at : ℕ) (entries : List ℕ) (rest : List Member) (entry block : ℕ) → slice_get entries entry ≡ Some block → slice_get (entry_jumps lengths list at entries ++ rest) entry ≡ Some (entry_member lengths list (at + entry_len * entry) block)
entry_jump lengths list at [] rest entry block e = absurd cc
entry_jump lengths list at (b ∷ bs) rest zero block e =
    let same : b ≡ block = cc in
    let here : at + entry_len * 0 ≡ at = omega arith in
    rw (same, here) refl
entry_jump lengths list at (b ∷ bs) rest (suc entry) block e =
    let there : at + entry_len * suc entry ≡ at + entry_len + entry_len * entry = omega arith in
    rw there (entry_jump lengths list (at + entry_len) bs rest entry block e)

-- the position of an entry's jump
pub entry_position : (lengths : List ℕ) (list : BlockList) (at : ℕ) (entries : List ℕ) (rest : List Member) (entry : ℕ) → entry ≤ length entries → position (words (entry_jumps lengths list at entries ++ rest)) entry ≡ entry_len * entry
entry_position lengths list at entries rest zero le = position_first (words (entry_jumps lengths list at entries ++ rest))
entry_position lengths list at [] rest (suc entry) le = absurd (omega arith)
entry_position lengths list at (b ∷ bs) rest (suc entry) le =
    let r = entry_position lengths list (at + entry_len) bs rest entry (omega arith) in
    omega (arith, length-jump (offset at (start_of lengths list b)))

-- the instructions after the jumps
pub after_get : (lengths : List ℕ) (list : BlockList) (at : ℕ) (entries : List ℕ) (rest : List Member) (q : ℕ) → slice_get (entry_jumps lengths list at entries ++ rest) (length entries + q) ≡ slice_get rest q
after_get lengths list at [] rest q = let n : 0 + q ≡ q = omega arith in rw n refl
after_get lengths list at (b ∷ bs) rest q =
    let n : suc (length bs) + q ≡ suc (length bs + q) = omega arith in
    rw n (after_get lengths list (at + entry_len) bs rest q)

-- and where
pub after_position : (lengths : List ℕ) (list : BlockList) (at : ℕ) (entries : List ℕ) (rest : List Member) (q : ℕ) → position (words (entry_jumps lengths list at entries ++ rest)) (length entries + q) ≡ entry_len * length entries + position (words rest) q
after_position lengths list at [] rest q = let n : 0 + q ≡ q = omega arith in rw n (omega arith)
after_position lengths list at (b ∷ bs) rest q =
    let n : suc (length bs) + q ≡ suc (length bs + q) = omega arith in
    let r = after_position lengths list (at + entry_len) bs rest q in
    rw n (omega (arith, length-jump (offset at (start_of lengths list b))))

-- the length of it all
pub length-after : (lengths : List ℕ) (list : BlockList) (at : ℕ) (entries : List ℕ) (rest : List Member) → length (joined (words (entry_jumps lengths list at entries ++ rest))) ≡ entry_len * length entries + length (joined (words rest))
length-after lengths list at [] rest = omega arith
length-after lengths list at (b ∷ bs) rest =
    let r = length-after lengths list (at + entry_len) bs rest in
    let x = offset at (start_of lengths list b) in
    omega (arith, length-jump x, length-append (spelling (jump x) offset_len) (joined (words (entry_jumps lengths list (at + entry_len) bs ++ rest))))
