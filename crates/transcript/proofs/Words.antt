-- The registers of replies that are read are words: they have sixteen digits at most.
use Rattle.std.proofs.Common.{◌≡◌, ℕ, ◌+◌, ◌-◌, ◌*◌, ◌<◌, ◌≤◌, ◌^◌, Bool, true, false, List, [], ◌∷◌, length, Option, Some, None, refl, sym, ap, ◌∙◌, arith}
use Rattle.std.specs.Prelude.{◌&&◌, nat_le, nat_lt, if◌then◌else◌, Result, Ok, Err, codes}
use Rattle.std.specs.List.{AllByRecursion}
use Rattle.std.specs.Option.{option_and_then}
use Rattle.std.proofs.lemmas.Bool.{and_parts}
use Rattle.std.proofs.lemmas.Bool.Decides.{nat_tests}
use Rattle.hex.specs.Hex.{hex_digit_value}
use Rattle.transcript.specs.Hosts.{Reply, IsReply}
use Rattle.transcript.specs.Grammar.{parts_of, digit_after, digits_after, hex_number, after, value_of, pieces_of, reply_in, reply_by, reply_of, reply_more, replies_from}
use Rattle.transcript.proofs.Reading.{number_fits}

-- a digit in a range
in_range : (low high less c d : ℕ) (rest : Option ℕ) (b : Bool) → (nat_le low c && nat_le c high) ≡ b → high ≤ less + 15 → (rest ≡ Some d → d < 16) → (if b then Some (c - less) else rest) ≡ Some d → d < 16
in_range low high less c d rest true e few others is =
    let parts = and_parts (nat_le low c) (nat_le c high) e in
    let below : c ≤ high = grind (arith, nat_tests, parts.1) in
    let same : c - less ≡ d = cc in
    omega (arith, below, few, same)
in_range low high less c d rest false e few others is = others is

digit_is_small : (c d : ℕ) → hex_digit_value c ≡ Some d → d < 16
digit_is_small c d is =
    in_range 65 70 55 c d _ (nat_le 65 c && nat_le c 70) refl (omega arith)
    (in_range 97 102 87 c d _ (nat_le 97 c && nat_le c 102) refl (omega arith)
    (in_range 48 57 48 c d None (nat_le 48 c && nat_le c 57) refl (omega arith) (λ none. absurd cc))) is

-- digits after a number of `i` digits, sixteen in all
digits_fit : (bs : List ℕ) (i n m : ℕ) → length bs + i ≤ 16 → n < 16 ^ i → n < 2 ^ 64 → digits_after bs n ≡ Some m → m < 2 ^ 64
unfolding digits_after
digits_fit [] i n m few small word e = (let same : n ≡ m = cc in omega (arith, word, same))
digits_fit (b ∷ bs) i n m few small word e = by_digit (λ k. digits_fit bs (i + 1) k m (omega (arith, few))) (hex_digit_value b) refl e
  where
    by_digit : ((k : ℕ) → k < 16 ^ (i + 1) → k < 2 ^ 64 → digits_after bs k ≡ Some m → m < 2 ^ 64) → (o : Option ℕ) → hex_digit_value b ≡ o → digit_after (digits_after bs) n o ≡ Some m → m < 2 ^ 64
    by_digit others None d f = absurd cc
    by_digit others (Some d) is f = (let next = number_fits i n d (omega (arith, few)) small (digit_is_small b d is) in others (16 * n + d) next.2 next.1 f)

number_fits_word : (digits : List ℕ) (v : ℕ) → hex_number 16 digits ≡ Some v → v < 2 ^ 64
number_fits_word digits v e = by_test (nat_lt 0 (length digits) && nat_le (length digits) 16) refl e
  where
    by_test : (b : Bool) → (nat_lt 0 (length digits) && nat_le (length digits) 16) ≡ b → (if b then digits_after digits 0 else None) ≡ Some v → v < 2 ^ 64
    by_test true few f =
        let parts = and_parts (nat_lt 0 (length digits)) (nat_le (length digits) 16) few in
        let most : length digits ≤ 16 = grind (arith, nat_tests, parts.1) in
        digits_fit digits 0 0 v (omega (arith, most)) (omega arith) (omega arith) f
    by_test false few f = absurd cc

value_fits : (label word : List ℕ) (v : ℕ) → value_of label word ≡ Some v → v < 2 ^ 64
value_fits label word v e = by_rest (after label word) e
  where
    by_rest : (o : Option (List ℕ)) → option_and_then (hex_number 16) o ≡ Some v → v < 2 ^ 64
    by_rest None f = absurd cc
    by_rest (Some digits) f = number_fits_word digits v f

made_of_words : (first second : Option ℕ) (pieces : Option (List (ℕ × List ℕ))) (r : Reply) → ((v : ℕ) → first ≡ Some v → v < 2 ^ 64) → ((v : ℕ) → second ≡ Some v → v < 2 ^ 64) → reply_in first second pieces ≡ Some r → IsReply r
made_of_words (Some x) (Some y) (Some pieces) r f g e =
    let made : Reply = record { first = x; second = y; pieces = pieces } in
    let same : made ≡ r = cc in
    (omega (arith, f x refl, ap (λ r. r.first) same), omega (arith, g y refl, ap (λ r. r.second) same))
made_of_words (Some x) (Some y) None r f g e = absurd cc
made_of_words (Some x) None pieces r f g e = absurd cc
made_of_words None second pieces r f g e = absurd cc

reply_has_words : (parts : List (List ℕ)) (r : Reply) → reply_by parts ≡ Some r → IsReply r
reply_has_words [] r e = absurd cc
reply_has_words (seven ∷ []) r e = absurd cc
reply_has_words (seven ∷ eight ∷ words) r e = made_of_words (value_of (codes "r7=") seven) (value_of (codes "r8=") eight) (pieces_of words) r (value_fits (codes "r7=") seven) (value_fits (codes "r8=") eight) e

pub replies_have_words : (lines : List (List ℕ)) (number : ℕ) (rs : List Reply) → replies_from number lines ≡ Ok rs → AllByRecursion IsReply rs
replies_have_words [] number rs e = (let same : [] ≡ rs = cc in rw (sym same) tt)
replies_have_words (line ∷ rest) number rs e = by_reply (λ more. replies_have_words rest (number + 1) more) (reply_of line) refl (replies_from (number + 1) rest) refl e
  where
    by_reply : ((more : List Reply) → replies_from (number + 1) rest ≡ Ok more → AllByRecursion IsReply more) → (o : Option Reply) → reply_of line ≡ o → (r : Result (List Reply) ℕ) → replies_from (number + 1) rest ≡ r → reply_more o number r ≡ Ok rs → AllByRecursion IsReply rs
    by_reply others None f r g h = absurd cc
    by_reply others (Some x) f (Ok more) g h = (let same : x ∷ more ≡ rs = cc in rw (sym same) (reply_has_words (parts_of 32 line) x f, others more g))
    by_reply others (Some x) f (Err bad) g h = absurd cc
