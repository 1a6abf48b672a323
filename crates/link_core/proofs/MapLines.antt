-- The lines of a map, one after another, and the digits of their positions.
use Rattle.std.proofs.Common.{◌≡◌, ℕ, zero, suc, ◌+◌, ◌/◌, ◌%◌, List, [], ◌∷◌, ◌++◌, take, length, Some, sym, ap, ◌∙◌, arith, append_assoc}
use Rattle.std.specs.Prelude.{slice_get}
use Rattle.std.specs.Char.{digit_char}
use Rattle.std.proofs.lemmas.List.{append-nil}
use Rattle.disasm.specs.Digits.{hex_digits}
use Rattle.std.proofs.Math.Seq.{take-length}
use Rattle.symbols.specs.Wanted.{Given}
use Rattle.relocs.specs.Places.{CodePlace}
use Rattle.relocs.specs.AddressMap.{number_at}
use Rattle.link_core.specs.MapText.{entry_line, entry_lines, code_line, code_lines}

-- the digits above the last, and then the last
pub digits-more : (more count number digit : ℕ) (old front new : List ℕ) → more ≡ count + 1 → front ≡ old ++ hex_digits count (number / 16) → digit ≡ digit_char (number % 16) → new ≡ front ++ digit ∷ [] → new ≡ old ++ hex_digits more number
digits-more more count number digit old front new one first is last =
    let next : suc count ≡ more = omega (arith, one) in
    last
    ∙ ap (λ t. t ++ digit ∷ []) first
    ∙ ap (λ d. (old ++ hex_digits count (number / 16)) ++ d ∷ []) is
    ∙ append_assoc old (hex_digits count (number / 16)) (digit_char (number % 16) ∷ [])
    ∙ ap (λ n. old ++ hex_digits n number) next

-- the line of one more entry comes after those of the entries before
pub lines-more : (from : ℕ) (names : List (List ℕ)) (positions : List ℕ) (at : ℕ) (name : List ℕ) (position : ℕ) → slice_get names at ≡ Some name → slice_get positions at ≡ Some position → entry_lines from (take (suc at) names) (take (suc at) positions) ≡ entry_lines from (take at names) (take at positions) ++ entry_line (from + at) position name
lines-more from [] positions at name position e f = absurd cc
lines-more from (n ∷ names) [] at name position e f = absurd cc
lines-more from (n ∷ names) (p ∷ positions) zero name position e f =
    let same_name : n ≡ name = cc in
    let same : p ≡ position = cc in
    let here : from + 0 ≡ from = omega arith in
    rw (same_name, same, here) (append-nil (entry_line from position name))
lines-more from (n ∷ names) (p ∷ positions) (suc at) name position e f =
    let there : from + suc at ≡ (from + 1) + at = omega arith in
    rw there (ap (λ l. entry_line from p n ++ l) (lines-more (from + 1) names positions at name position e f)
    ∙ sym (append_assoc (entry_line from p n) (entry_lines (from + 1) (take at names) (take at positions)) (entry_line ((from + 1) + at) position name)))

-- an entry more
pub lines-step : (names : List (List ℕ)) (positions : List ℕ) (at more : ℕ) (name : List ℕ) (position : ℕ) (text new : List ℕ) → more ≡ at + 1 → slice_get names at ≡ Some name → slice_get positions at ≡ Some position → text ≡ entry_lines 0 (take at names) (take at positions) → new ≡ text ++ entry_line at position name → new ≡ entry_lines 0 (take more names) (take more positions)
lines-step names positions at more name position text new one e f before here =
    let next : suc at ≡ more = omega (arith, one) in
    let zero_at : 0 + at ≡ at = omega arith in
    here ∙ ap (λ t. t ++ entry_line at position name) before
    ∙ ap (λ n. entry_lines 0 (take at names) (take at positions) ++ entry_line n position name) (sym zero_at)
    ∙ sym (lines-more 0 names positions at name position e f)
    ∙ ap (λ n. entry_lines 0 (take n names) (take n positions)) next

-- the line of one more place follows those of the places before
code_lines-more : (given : Given) (from : ℕ) (ps : List CodePlace) (positions : List ℕ) (at : ℕ) (p : CodePlace) (position : ℕ) → slice_get ps at ≡ Some p → slice_get positions at ≡ Some position
    → code_lines given from (take (suc at) ps) (take (suc at) positions) ≡ code_lines given from (take at ps) (take at positions) ++ code_line given (number_at (from + at)) position p
code_lines-more given from [] positions at p position e f = absurd cc
code_lines-more given from (q ∷ ps) [] at p position e f = absurd cc
code_lines-more given from (q ∷ ps) (n ∷ positions) zero p position e f =
    let same_place : q ≡ p = cc in
    let same : n ≡ position = cc in
    let here : from + 0 ≡ from = omega arith in
    rw (same_place, same, here) (append-nil (code_line given (number_at from) position p))
code_lines-more given from (q ∷ ps) (n ∷ positions) (suc at) p position e f =
    let there : from + suc at ≡ (from + 1) + at = omega arith in
    rw there (ap (λ l. code_line given (number_at from) n q ++ l) (code_lines-more given (from + 1) ps positions at p position e f)
    ∙ sym (append_assoc (code_line given (number_at from) n q) (code_lines given (from + 1) (take at ps) (take at positions)) (code_line given (number_at ((from + 1) + at)) position p)))

-- no line, and a line more
pub code_lines-none : (given : Given) (old : List ℕ) (ps : List CodePlace) (positions : List ℕ) → old ≡ old ++ code_lines given 0 (take 0 ps) (take 0 positions)
code_lines-none given old ps positions = sym (append-nil old)

pub code_lines-step : (given : Given) (ps : List CodePlace) (positions : List ℕ) (at : ℕ) (p : CodePlace) (position : ℕ) (old text new : List ℕ) → slice_get ps at ≡ Some p → slice_get positions at ≡ Some position
    → text ≡ old ++ code_lines given 0 (take at ps) (take at positions) → new ≡ text ++ code_line given (number_at at) position p → new ≡ old ++ code_lines given 0 (take (at + 1) ps) (take (at + 1) positions)
code_lines-step given ps positions at p position old text new e f before here =
    let next : suc at ≡ at + 1 = omega arith in
    let zero_at : 0 + at ≡ at = omega arith in
    here ∙ ap (λ t. t ++ code_line given (number_at at) position p) before
    ∙ append_assoc old (code_lines given 0 (take at ps) (take at positions)) (code_line given (number_at at) position p)
    ∙ ap (λ n. old ++ (code_lines given 0 (take at ps) (take at positions) ++ code_line given (number_at n) position p)) (sym zero_at)
    ∙ ap (λ l. old ++ l) (sym (code_lines-more given 0 ps positions at p position e f))
    ∙ ap (λ n. old ++ code_lines given 0 (take n ps) (take n positions)) next

-- the lines of all, where there are as many places as positions
pub code_lines-all : (given : Given) (ps : List CodePlace) (positions : List ℕ) (n : ℕ) (old new : List ℕ) → n ≡ length ps → length positions ≡ length ps → new ≡ old ++ code_lines given 0 (take n ps) (take n positions) → new ≡ old ++ code_lines given 0 ps positions
code_lines-all given ps positions n old new count same e =
    e ∙ ap (λ l. old ++ code_lines given 0 l (take n positions)) (ap (λ k. take k ps) count ∙ take-length ps)
    ∙ ap (λ l. old ++ code_lines given 0 ps l) (ap (λ k. take k positions) (count ∙ sym same) ∙ take-length positions)
