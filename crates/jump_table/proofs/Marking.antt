-- Marks that are set one by one in a mask, and the code that words make one after the other.
use Rattle.std.proofs.Common.{◌≡◌, ℕ, zero, suc, ◌+◌, ◌-◌, ◌*◌, ◌/◌, ◌%◌, ◌^◌, ◌<◌, ◌≤◌, min, List, [], ◌∷◌, ◌++◌, length, take, drop, replicate, map, Bool, true, false, refl, sym, ap, ◌∙◌, append_assoc, arith, length-append}
use Rattle.std.specs.Prelude.{if◌then◌else◌, bit_or, bit_and}
use Rattle.std.specs.Int.{bit_at}
use Rattle.std.specs.List.{AllByRecursion}
use Rattle.std.proofs.lemmas.List.{append-nil, replicate-append-replicate}
use Rattle.std.proofs.lemmas.Nat.{or_disjoint}
use Rattle.std.proofs.lemmas.Nat.Bits.{and_pow, bit_at_lowest, bit_at-suc}
use Rattle.runs.specs.Joined.{joined}
use Rattle.runs.specs.Marks.{others, marks}
use Rattle.runs.proofs.Words.{marks_length}
use Rattle.pvm_ops.specs.Listing.{Listing, packed, number_of_bits}
use Rattle.jump_table.specs.Assembling.{with_mark, with_word, with_words}
use Rattle.jump_table.proofs.Written.{written}

-- one for a mark, zero for none
abbrev bit_number : Bool → ℕ
bit_number b = if b then 1 else 0

bit_number-lt : (b : Bool) → bit_number b < 2
bit_number-lt true = omega arith
bit_number-lt false = omega arith

-- the bit of a mark that is not set
unset_bit : (xs ys : List Bool) → bit_at (number_of_bits (xs ++ false ∷ ys)) (length xs) ≡ 0
unset_bit [] ys = bit_at_lowest (number_of_bits (false ∷ ys)) ∙ omega arith
unset_bit (x ∷ xs) ys =
    let low = bit_number-lt x in
    let half : number_of_bits (x ∷ (xs ++ false ∷ ys)) / 2 ≡ number_of_bits (xs ++ false ∷ ys) = omega arith in
    bit_at-suc (number_of_bits (x ∷ (xs ++ false ∷ ys))) (length xs) ∙ ap (λ (n : ℕ). bit_at n (length xs)) half ∙ unset_bit xs ys

-- a mark more adds its power of two
number_more : (xs ys : List Bool) → number_of_bits (xs ++ true ∷ ys) ≡ number_of_bits (xs ++ false ∷ ys) + 2 ^ length xs
number_more [] ys = omega arith
number_more (x ∷ xs) ys =
    let rest = number_more xs ys in
    let power : 2 ^ suc (length xs) ≡ 2 * 2 ^ length xs = omega arith in
    omega arith

-- so it is set by a bitwise or
number_or : (xs ys : List Bool) → bit_or (number_of_bits (xs ++ false ∷ ys)) (2 ^ length xs) ≡ number_of_bits (xs ++ true ∷ ys)
number_or xs ys =
    let n = number_of_bits (xs ++ false ∷ ys) in
    let apart : bit_and n (2 ^ length xs) ≡ 0 = and_pow n (length xs) ∙ ap (λ (b : ℕ). b * 2 ^ length xs) (unset_bit xs ys) ∙ omega arith in
    or_disjoint n (2 ^ length xs) apart ∙ sym (number_more xs ys)

-- a list that is cut after an element
take_at : (xs ys : List Bool) (b : Bool) (j : ℕ) → take (length xs + suc j) (xs ++ b ∷ ys) ≡ xs ++ b ∷ take j ys
take_at [] ys b j = let n : 0 + suc j ≡ suc j = omega arith in rw n refl
take_at (x ∷ xs) ys b j =
    let n : suc (length xs) + suc j ≡ suc (length xs + suc j) = omega arith in
    rw n (ap (λ l. x ∷ l) (take_at xs ys b j))

drop_at : (xs ys : List Bool) (b : Bool) (j : ℕ) → drop (length xs + suc j) (xs ++ b ∷ ys) ≡ drop j ys
drop_at [] ys b j = let n : 0 + suc j ≡ suc j = omega arith in rw n refl
drop_at (x ∷ xs) ys b j =
    let n : suc (length xs) + suc j ≡ suc (length xs + suc j) = omega arith in
    rw n (drop_at xs ys b j)

-- the first byte of a mask is that of the first eight marks
packed_step : (xs : List Bool) → 0 < length xs → packed xs ≡ number_of_bits (take (min (length xs) 8) xs) ∷ packed (drop (min (length xs) 8) xs)
unfolding packed
packed_step [] h = absurd (omega arith)
packed_step (a ∷ []) h = refl
packed_step (a ∷ b ∷ []) h = refl
packed_step (a ∷ b ∷ c ∷ []) h = refl
packed_step (a ∷ b ∷ c ∷ d ∷ []) h = refl
packed_step (a ∷ b ∷ c ∷ d ∷ e ∷ []) h = refl
packed_step (a ∷ b ∷ c ∷ d ∷ e ∷ f ∷ []) h = refl
packed_step (a ∷ b ∷ c ∷ d ∷ e ∷ f ∷ g ∷ []) h = refl
packed_step (a ∷ b ∷ c ∷ d ∷ e ∷ f ∷ g ∷ i ∷ rest) h =
    let n : min (length (a ∷ b ∷ c ∷ d ∷ e ∷ f ∷ g ∷ i ∷ rest)) 8 ≡ 8 = omega arith in rw n refl

-- a mask whose first byte has a given mark
first_byte : (xs ys : List Bool) (b : Bool) → length xs < 8 → packed (xs ++ b ∷ ys) ≡ number_of_bits (xs ++ b ∷ take (min (length ys) (7 - length xs)) ys) ∷ packed (drop (min (length ys) (7 - length xs)) ys)
first_byte xs ys b lt =
    let j = min (length ys) (7 - length xs) in
    let n : min (length (xs ++ b ∷ ys)) 8 ≡ length xs + suc j = omega (arith, length-append xs (b ∷ ys)) in
    let some : 0 < length (xs ++ b ∷ ys) = omega (arith, length-append xs (b ∷ ys)) in
    packed_step (xs ++ b ∷ ys) some ∙ rw (n, take_at xs ys b j, drop_at xs ys b j) refl

-- a mark is set in the first byte
mark_first : (xs ys : List Bool) → length xs < 8 → with_mark (length xs) (packed (xs ++ false ∷ ys)) ≡ packed (xs ++ true ∷ ys)
mark_first xs ys lt =
    let q : length xs / 8 ≡ 0 = omega arith in
    let r : length xs % 8 ≡ length xs = omega arith in
    let zs = take (min (length ys) (7 - length xs)) ys in
    let rest = packed (drop (min (length ys) (7 - length xs)) ys) in
    ap (with_mark (length xs)) (first_byte xs ys false lt)
    ∙ rw (q, r) (ap (λ (n : ℕ). n ∷ rest) (number_or xs zs))
    ∙ sym (first_byte xs ys true lt)

-- a mark is set in a later byte
mark_later : (byte : ℕ) (mask : List ℕ) (at : ℕ) → with_mark (suc (suc (suc (suc (suc (suc (suc (suc at)))))))) (byte ∷ mask) ≡ byte ∷ with_mark at mask
mark_later byte mask at =
    let q : suc (suc (suc (suc (suc (suc (suc (suc at))))))) / 8 ≡ suc (at / 8) = omega arith in
    let r : suc (suc (suc (suc (suc (suc (suc (suc at))))))) % 8 ≡ at % 8 = omega arith in
    rw (q, r) refl

-- a mark is set
mark_set : (xs ys : List Bool) → with_mark (length xs) (packed (xs ++ false ∷ ys)) ≡ packed (xs ++ true ∷ ys)
unfolding packed
mark_set [] ys = mark_first [] ys (omega arith)
mark_set (a ∷ []) ys = mark_first (a ∷ []) ys (omega arith)
mark_set (a ∷ b ∷ []) ys = mark_first (a ∷ b ∷ []) ys (omega arith)
mark_set (a ∷ b ∷ c ∷ []) ys = mark_first (a ∷ b ∷ c ∷ []) ys (omega arith)
mark_set (a ∷ b ∷ c ∷ d ∷ []) ys = mark_first (a ∷ b ∷ c ∷ d ∷ []) ys (omega arith)
mark_set (a ∷ b ∷ c ∷ d ∷ e ∷ []) ys = mark_first (a ∷ b ∷ c ∷ d ∷ e ∷ []) ys (omega arith)
mark_set (a ∷ b ∷ c ∷ d ∷ e ∷ f ∷ []) ys = mark_first (a ∷ b ∷ c ∷ d ∷ e ∷ f ∷ []) ys (omega arith)
mark_set (a ∷ b ∷ c ∷ d ∷ e ∷ f ∷ g ∷ []) ys = mark_first (a ∷ b ∷ c ∷ d ∷ e ∷ f ∷ g ∷ []) ys (omega arith)
mark_set (a ∷ b ∷ c ∷ d ∷ e ∷ f ∷ g ∷ i ∷ rest) ys =
    mark_later (number_of_bits (a ∷ b ∷ c ∷ d ∷ e ∷ f ∷ g ∷ i ∷ [])) (packed (rest ++ false ∷ ys)) (length rest)
    ∙ ap (λ m. number_of_bits (a ∷ b ∷ c ∷ d ∷ e ∷ f ∷ g ∷ i ∷ []) ∷ m) (mark_set rest ys)

-- a mask without marks has zeros
packed_zeros : (n : ℕ) → packed (replicate n false) ≡ replicate ((n + 7) / 8) 0
unfolding packed
packed_zeros zero = refl
packed_zeros (suc zero) = refl
packed_zeros (suc (suc zero)) = refl
packed_zeros (suc (suc (suc zero))) = refl
packed_zeros (suc (suc (suc (suc zero)))) = refl
packed_zeros (suc (suc (suc (suc (suc zero))))) = refl
packed_zeros (suc (suc (suc (suc (suc (suc zero)))))) = refl
packed_zeros (suc (suc (suc (suc (suc (suc (suc zero))))))) = refl
packed_zeros (suc (suc (suc (suc (suc (suc (suc (suc n)))))))) =
    let more : (suc (suc (suc (suc (suc (suc (suc (suc n))))))) + 7) / 8 ≡ suc ((n + 7) / 8) = omega arith in
    rw more (ap (λ m. 0 ∷ m) (packed_zeros n))

pub zeros_are : (n m : ℕ) → m ≡ n / 8 + min 1 (n % 8) → packed (replicate n false) ≡ replicate m 0
zeros_are n m is = let up : (n + 7) / 8 ≡ m = omega arith in packed_zeros n ∙ ap (λ (k : ℕ). replicate k 0) up

-- the marks after a word's first are not set
others_unset : (w : List ℕ) → others w ≡ replicate (length w) false
others_unset [] = refl
others_unset (x ∷ xs) = ap (λ l. false ∷ l) (others_unset xs)

-- words one after the other, with the marks that are set by then
words_after : (code : Listing) (done : List Bool) (ws : List (List ℕ)) → AllByRecursion (λ (w : List ℕ). 1 ≤ length w) ws → length done ≡ length code.bytes → code.mask ≡ packed (done ++ replicate (length (joined ws)) false) → with_words code ws ≡ record { bytes = code.bytes ++ joined ws; mask = packed (done ++ joined (map marks ws)) }
words_after code done [] some count mask = rw (append-nil code.bytes) (ap (λ (m : List ℕ). record { bytes = code.bytes; mask = m }) mask)
words_after code done ([] ∷ ws) some count mask = absurd (omega (arith, some.0))
words_after code done ((x ∷ xs) ∷ ws) some count mask =
    let w = x ∷ xs in
    let left = length (joined ws) in
    let unset : replicate (length (xs ++ joined ws)) false ≡ others xs ++ replicate left false =
    rw (length-append xs (joined ws), others_unset xs) (sym (replicate-append-replicate (length xs) left false)) in
    let after : with_mark (length code.bytes) code.mask ≡ packed ((done ++ marks w) ++ replicate left false) =
    ap (λ (m : List ℕ). with_mark (length code.bytes) m) mask
    ∙ ap (λ (at : ℕ). with_mark at (packed (done ++ false ∷ replicate (length (xs ++ joined ws)) false))) (sym count)
    ∙ mark_set done (replicate (length (xs ++ joined ws)) false)
    ∙ ap (λ (l : List Bool). packed (done ++ true ∷ l)) unset
    ∙ ap packed (sym (append_assoc done (marks w) (replicate left false))) in
    words_after (with_word code w) (done ++ marks w) ws some.1 (omega (arith, length-append done (marks w), length-append code.bytes w, marks_length w)) after
    ∙ rw (append_assoc code.bytes w (joined ws), append_assoc done (marks w) (joined (map marks ws))) refl

-- words in a mask of the right length
pub words_written : (ws : List (List ℕ)) (n : ℕ) → AllByRecursion (λ (w : List ℕ). 1 ≤ length w) ws → n ≡ length (joined ws) → with_words (record { bytes = []; mask = packed (replicate n false) }) ws ≡ written ws
words_written ws n some is = words_after (record { bytes = []; mask = packed (replicate n false) }) [] ws some refl (ap (λ (n : ℕ). packed (replicate n false)) is)
