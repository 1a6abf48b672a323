-- Parts, words and lines as they are read.
use Rattle.std.proofs.Common.{◌≡◌, ℕ, zero, suc, ◌+◌, ◌-◌, ◌<◌, ◌≤◌, List, [], ◌∷◌, ◌++◌, length, take, drop, get_or, add-one, drop-cons, ◌^◌, ◌*◌, Bool, true, false, refl, ap, sym, ◌∙◌, arith, append_assoc}
use Rattle.std.specs.Prelude.{◌==◌, nat_lt, nat_le, if◌then◌else◌, Result, Ok, Err, Option, Some, None}
use Rattle.std.proofs.lemmas.Bool.{eqb-true, eq-eqb}
use Rattle.std.proofs.lemmas.List.{append-nil, take_rest, drop_all}
use Rattle.std.proofs.lemmas.Bool.Decides.{nat_tests}
use Rattle.std.proofs.Math.Nat.{pow-le-pow_right, pow-succ'}
use Rattle.hex.specs.Hex.{hex_digit_value}
use Rattle.transcript.specs.Hosts.{Reply}
use Rattle.transcript.specs.Grammar.{with_first, parts_of, without_empty_last, lines, reply_of, reply_more, replies_from, one_more, piece_by, piece_of, digit_after, digits_after, hex_number}

-- no byte is the separator
pub parts_whole : (bs : List ℕ) (separator : ℕ) → ((k : ℕ) → k < length bs → get_or bs k 0 ≡ separator → ⊥) → parts_of separator bs ≡ bs ∷ []
unfolding parts_of
parts_whole [] separator none = refl
parts_whole (b ∷ bs) separator none = by_test (parts_whole bs separator (λ k less is. none (suc k) (omega (arith, less)) is)) (b == separator) refl
  where
    by_test : parts_of separator bs ≡ bs ∷ [] → (t : Bool) → (b == separator) ≡ t → (if t then [] ∷ parts_of separator bs else with_first b (parts_of separator bs)) ≡ (b ∷ bs) ∷ []
    by_test rest true e = absurd (none 0 (omega arith) (eqb-true b separator e))
    by_test rest false e = ap (with_first b) rest

-- the first byte that is the separator is at a place
pub parts_cut : (bs : List ℕ) (separator at : ℕ) → at < length bs → get_or bs at 0 ≡ separator → ((k : ℕ) → k < at → get_or bs k 0 ≡ separator → ⊥)
    → parts_of separator bs ≡ take at bs ∷ parts_of separator (drop (suc at) bs)
unfolding parts_of
parts_cut [] separator at less is none = absurd (omega (arith, less))
parts_cut (b ∷ bs) separator zero less is none = let test : (b == separator) ≡ true = eq-eqb b separator is in rw test refl
parts_cut (b ∷ bs) separator (suc at) less is none = by_test (parts_cut bs separator at (omega (arith, less)) is (λ k below same. none (suc k) (omega (arith, below)) same)) (b == separator) refl
  where
    by_test : parts_of separator bs ≡ take at bs ∷ parts_of separator (drop (suc at) bs) → (t : Bool) → (b == separator) ≡ t
        → (if t then [] ∷ parts_of separator bs else with_first b (parts_of separator bs)) ≡ (b ∷ take at bs) ∷ parts_of separator (drop (suc at) bs)
    by_test rest true e = absurd (none 0 (omega arith) (eqb-true b separator e))
    by_test rest false e = ap (with_first b) rest

-- the same as a slice is cut
pub parts_at : (bs : List ℕ) (separator at : ℕ) → at < length bs → get_or bs at 0 ≡ separator → ((k : ℕ) → k < at → get_or bs k 0 ≡ separator → ⊥)
    → parts_of separator bs ≡ take at bs ∷ parts_of separator (take (length bs - (at + 1)) (drop (at + 1) bs))
parts_at bs separator at less is none = rw (take_rest, add-one) (parts_cut bs separator at less is none)

-- a digit at a place of a word
digits_after-digit : (b : ℕ) (bs : List ℕ) (n : ℕ) → digits_after (b ∷ bs) n ≡ digit_after (digits_after bs) n (hex_digit_value b)
unfolding digits_after
digits_after-digit b bs n = refl

digits_after-nil : (n : ℕ) → digits_after [] n ≡ Some n
unfolding digits_after
digits_after-nil n = refl

pub digits_after-at : (word : List ℕ) (i n : ℕ) → i < length word → digits_after (drop i word) n ≡ digit_after (digits_after (drop (i + 1) word)) n (hex_digit_value (get_or word i 0))
digits_after-at word i n within = rw (add-one, drop-cons word i 0) (digits_after-digit (get_or word i 0) (drop (suc i) word) n)

pub digits_after-end : (word : List ℕ) (i n : ℕ) → length word ≤ i → digits_after (drop i word) n ≡ Some n
digits_after-end word i n all = rw (drop_all i word all) (digits_after-nil n)

-- a number of few digits fits
pub number_fits : (i n d : ℕ) → i < 16 → n < 16 ^ i → d < 16 → (16 * n < 2 ^ 64) × (16 * n + d < 2 ^ 64) × (16 * n + d < 16 ^ (i + 1))
number_fits i n d few small digit =
    let more : 16 ^ (i + 1) ≡ 16 * 16 ^ i = rw add-one (pow-succ' 16 i) in
    let most : 16 ^ (i + 1) ≤ 16 ^ 16 = pow-le-pow_right {n = 16} (omega arith) {i = i + 1} {j = 16} (omega (arith, few)) in
    let top : 16 ^ 16 ≡ 2 ^ 64 = refl in
    let next : 16 * n + d < 16 ^ (i + 1) = omega (arith, more, small, digit) in
    (omega (arith, next, most, top), omega (arith, next, most, top), next)

-- digits that are few enough
pub hex_number-of : (most : ℕ) (digits : List ℕ) → 0 < length digits → length digits ≤ most → hex_number most digits ≡ digits_after digits 0
hex_number-of most digits some few =
    let first : nat_lt 0 (length digits) ≡ true = grind (arith, nat_tests) in
    let last : nat_le (length digits) most ≡ true = grind (arith, nat_tests) in
    rw (first, last) refl

-- pieces before those of other words
abbrev pub pieces_before : List (ℕ × List ℕ) → Option (List (ℕ × List ℕ)) → Option (List (ℕ × List ℕ))
pieces_before ps None = None
pieces_before ps (Some qs) = Some (ps ++ qs)

pub pieces_before-none : (o : Option (List (ℕ × List ℕ))) → pieces_before [] o ≡ o
pieces_before-none None = refl
pieces_before-none (Some qs) = refl

-- one piece more
pub pieces_before-more : (ps : List (ℕ × List ℕ)) (p : ℕ × List ℕ) (o : Option (List (ℕ × List ℕ))) → pieces_before (ps ++ p ∷ []) o ≡ pieces_before ps (one_more (Some p) o)
pieces_before-more ps p None = refl
pieces_before-more ps p (Some qs) = ap (λ l. Some l) (append_assoc ps (p ∷ []) qs)

-- replies before those of other lines
abbrev pub replies_before : List Reply → Result (List Reply) ℕ → Result (List Reply) ℕ
replies_before rs (Ok more) = Ok (rs ++ more)
replies_before rs (Err bad) = Err bad

pub replies_before-none : (r : Result (List Reply) ℕ) → replies_before [] r ≡ r
replies_before-none (Ok more) = refl
replies_before-none (Err bad) = refl

-- one reply more
pub replies_before-more : (rs : List Reply) (r : Reply) (number : ℕ) (more : Result (List Reply) ℕ) → replies_before (rs ++ r ∷ []) more ≡ replies_before rs (reply_more (Some r) number more)
replies_before-more rs r number (Ok more) = ap (λ l. Ok l) (append_assoc rs (r ∷ []) more)
replies_before-more rs r number (Err bad) = refl

-- bytes have a part
some_part : (bs : List ℕ) (separator : ℕ) → (part : List ℕ) × (parts : List (List ℕ)) × (parts_of separator bs ≡ part ∷ parts)
unfolding parts_of
some_part [] separator = ([], [], refl)
some_part (b ∷ bs) separator = by_test (some_part bs separator) (b == separator)
  where
    by_test : (part : List ℕ) × (parts : List (List ℕ)) × (parts_of separator bs ≡ part ∷ parts) → (t : Bool)
        → (part : List ℕ) × (parts : List (List ℕ)) × ((if t then [] ∷ parts_of separator bs else with_first b (parts_of separator bs)) ≡ part ∷ parts)
    by_test rest true = ([], parts_of separator bs, refl)
    by_test rest false = (b ∷ rest.0, rest.1, ap (with_first b) rest.2)

-- a word with two colons
pub piece_of-more : (word address digits rest more : List ℕ) → parts_of 58 word ≡ address ∷ parts_of 58 rest → parts_of 58 rest ≡ digits ∷ parts_of 58 more → piece_of word ≡ None
piece_of-more word address digits rest more first second =
    let some = some_part more 58 in
    ap piece_by (first ∙ ap (λ l. address ∷ l) (second ∙ ap (λ l. digits ∷ l) some.2))

-- a line with a line feed
pub lines-more : (bs line rest : List ℕ) → parts_of 10 bs ≡ line ∷ parts_of 10 rest → lines bs ≡ line ∷ lines rest
lines-more bs line rest is =
    let some = some_part rest 10 in
    ap without_empty_last is ∙ by_line line (some.0) (some.1) (some.2)
  where
    by_line : (line part : List ℕ) (parts : List (List ℕ)) → parts_of 10 rest ≡ part ∷ parts → without_empty_last (line ∷ parts_of 10 rest) ≡ line ∷ without_empty_last (parts_of 10 rest)
    by_line [] part parts e = rw e refl
    by_line (b ∷ line) part parts e = refl

-- the last line
pub lines-last : (bs : List ℕ) → 0 < length bs → parts_of 10 bs ≡ bs ∷ [] → lines bs ≡ bs ∷ []
lines-last [] some is = absurd (omega (arith, some))
lines-last (b ∷ bs) some is = ap without_empty_last is

pub lines-none : lines [] ≡ []
unfolding parts_of
lines-none = refl

-- how much is left to be read
abbrev pub bytes_in : Option (List ℕ) → ℕ
bytes_in None = 0
bytes_in (Some bytes) = suc (length bytes)

-- the lines of a file that were read, and those that are left
module _ (rs : List Reply) (number : ℕ) (bs : List ℕ) (whole : Result (List Reply) ℕ) (so : replies_before rs (replies_from number (lines bs)) ≡ whole) where
  -- one more line is a reply
  pub file_on : (line rest : List ℕ) (r : Reply) → lines bs ≡ line ∷ lines rest → Some r ≡ reply_of line → replies_before (rs ++ r ∷ []) (replies_from (number + 1) (lines rest)) ≡ whole
  file_on line rest r cut is =
      replies_before-more rs r number (replies_from (number + 1) (lines rest))
      ∙ ap (λ o. replies_before rs (reply_more o number (replies_from (number + 1) (lines rest)))) is
      ∙ sym (ap (λ l. replies_before rs (replies_from number l)) cut)
      ∙ so

  -- the next line is no reply
  pub file_bad : (line rest : List ℕ) → lines bs ≡ line ∷ lines rest → None ≡ reply_of line → whole ≡ Err number
  file_bad line rest cut is =
      sym so
      ∙ ap (λ l. replies_before rs (replies_from number l)) cut
      ∙ sym (ap (λ o. replies_before rs (reply_more o number (replies_from (number + 1) (lines rest)))) is)

-- no line is left
pub file_end : (rs : List Reply) (number : ℕ) (bs : List ℕ) (whole : Result (List Reply) ℕ) → replies_before rs (replies_from number (lines bs)) ≡ whole → length bs ≡ 0 → whole ≡ Ok rs
file_end rs number [] whole so none = sym so ∙ ap (λ l. replies_before rs (replies_from number l)) lines-none ∙ ap (λ l. Ok l) (append-nil rs)
file_end rs number (b ∷ bs) whole so none = absurd (omega (arith, none))
