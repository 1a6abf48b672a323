-- Words as code: what is read and marked at the position of each, and where operands end.
use Rattle.std.proofs.Common.{◌≡◌, ℕ, zero, suc, ◌+◌, ◌<◌, ◌≤◌, Bool, true, false, List, [], ◌∷◌, length, map, Some, None, refl, ◌∙◌, arith, length-append, get_or, inl, inr}
use Rattle.std.specs.Prelude.{slice_get, nat_le}
use Rattle.std.proofs.Math.Bool.{or-true}
use Rattle.std.proofs.lemmas.Option.{get_or_from_slice_get}
use Rattle.std.proofs.lemmas.List.{get_or_past}
use Rattle.std.proofs.lemmas.Bool.{cases_lt}
use Rattle.std.proofs.lemmas.Bool.Decides.{nat_tests}
use Rattle.runs.specs.Joined.{joined, position}
use Rattle.runs.specs.Marks.{others, marks}
use Rattle.runs.proofs.HasAt.{HasAt, has_list_at, position_next, position_past}
use Rattle.runs.proofs.Words.{marks_length, marked_at}
use Rattle.pvm_ops.specs.Listing.{Listing, is_marked, is_stop, packed}
use Rattle.pvm_ops.specs.Spelling.{Reads}
use Rattle.pvm_ops.proofs.Masks.{is_marked-packed, is_stop-packed}

-- words as code, one after another, where the first byte of each is marked
abbrev pub written : List (List ℕ) → Listing
written ws = record { bytes = joined ws; mask = packed (joined (map marks ws)) }

-- bytes at a position are read there
has_reads : (bytes : List ℕ) (at : ℕ) (w : List ℕ) → HasAt bytes at w → Reads bytes at w
has_reads bytes at [] h = tt
has_reads bytes at (x ∷ xs) h = (get_or_from_slice_get bytes at x 0 h.0, has_reads bytes (at + 1) xs h.1)

-- a word is read at its position
pub word_reads : (ws : List (List ℕ)) (k : ℕ) (w : List ℕ) → slice_get ws k ≡ Some w → Reads (joined ws) (position ws k) w
word_reads ws k w e = has_reads (joined ws) (position ws k) w (has_list_at ws k w e)

-- as many marks as bytes
marks_joined : (ws : List (List ℕ)) → length (joined (map marks ws)) ≡ length (joined ws)
marks_joined [] = refl
marks_joined (w ∷ ws) =
    let rest = marks_joined ws in
    let same = marks_length w in
    omega (arith, length-append (marks w) (joined (map marks ws)), length-append w (joined ws))

-- no position is after the end
pub position_le : (ws : List (List ℕ)) (k : ℕ) → position ws k ≤ length (joined ws)
position_le [] k = omega arith
position_le (w ∷ ws) zero = omega arith
position_le (w ∷ ws) (suc k) = let rest = position_le ws k in omega (arith, length-append w (joined ws))

-- the first mark of a word
first_mark : (ms : List Bool) (at : ℕ) (w : List ℕ) → 1 ≤ length w → HasAt ms at (marks w) → get_or ms at false ≡ true
first_mark ms at [] some h = absurd (omega arith)
first_mark ms at (x ∷ xs) some h = get_or_from_slice_get ms at true false h.0

-- the marks of bytes that begin no word
other_marks : (ms : List Bool) (at : ℕ) (xs : List ℕ) (p : ℕ) → HasAt ms at (others xs) → at ≤ p → p < at + length xs → get_or ms p false ≡ false
other_marks ms at [] p h le lt = absurd (omega arith)
other_marks ms at (x ∷ xs) p h le lt =
    elim (cases_lt at p) [
      | inl before ↦ other_marks ms (at + 1) xs p h.1 (omega arith) (omega arith)
      | inr here ↦ let e : p ≡ at = omega arith in rw e (get_or_from_slice_get ms at false false h.0)
    ]

-- the marks of a word after its first
later_marks : (ms : List Bool) (at : ℕ) (w : List ℕ) (p : ℕ) → HasAt ms at (marks w) → at + 1 ≤ p → p < at + length w → get_or ms p false ≡ false
later_marks ms at [] p h le lt = absurd (omega arith)
later_marks ms at (x ∷ xs) p h le lt = other_marks ms (at + 1) xs p h.1 le (omega arith)

-- a word is marked where it begins
pub word_marked : (ws : List (List ℕ)) (k : ℕ) (w : List ℕ) → slice_get ws k ≡ Some w → 1 ≤ length w → is_marked (written ws) (position ws k) ≡ true
word_marked ws k w e some =
    is_marked-packed (joined ws) (joined (map marks ws)) (marks_joined ws) (position ws k)
    ∙ first_mark _ _ w some (marked_at ws k w e)

-- nothing is marked after the last
pub past_unmarked : (ws : List (List ℕ)) (k : ℕ) → slice_get ws k ≡ None → is_marked (written ws) (position ws k) ≡ false
past_unmarked ws k e =
    let end = position_past ws k e in
    let same = marks_joined ws in
    is_marked-packed (joined ws) (joined (map marks ws)) (marks_joined ws) (position ws k)
    ∙ get_or_past (joined (map marks ws)) (position ws k) false (omega arith)

-- operands stop where a word begins
pub word_stops : (ws : List (List ℕ)) (k : ℕ) (w : List ℕ) → slice_get ws k ≡ Some w → 1 ≤ length w → is_stop (written ws) (position ws k) ≡ true
word_stops ws k w e some =
    let mark = first_mark _ _ w some (marked_at ws k w e) in
    is_stop-packed (joined ws) (joined (map marks ws)) (marks_joined ws) (position ws k)
    ∙ rw mark (or-true (nat_le (length (joined ws)) (position ws k)))

-- and after the last
pub past_stops : (ws : List (List ℕ)) (k : ℕ) → slice_get ws k ≡ None → is_stop (written ws) (position ws k) ≡ true
past_stops ws k e =
    let end = position_past ws k e in
    let past : nat_le (length (joined ws)) (position ws k) ≡ true = grind (arith, nat_tests) in
    rw past refl

-- and nowhere inside a word
pub inside_goes_on : (ws : List (List ℕ)) (k : ℕ) (w : List ℕ) (p : ℕ) → slice_get ws k ≡ Some w → position ws k + 1 ≤ p → p < position ws k + length w → is_stop (written ws) p ≡ false
inside_goes_on ws k w p e le lt =
    let next = position_next ws k w e in
    let within = position_le ws (k + 1) in
    let before : nat_le (length (joined ws)) p ≡ false = grind (arith, nat_tests) in
    is_stop-packed (joined ws) (joined (map marks ws)) (marks_joined ws) p
    ∙ rw before (later_marks _ _ w p (marked_at ws k w e) le lt)
