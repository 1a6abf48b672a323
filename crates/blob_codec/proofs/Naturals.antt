-- A natural that is read is the one that was written, and what was written is read again.
use Rattle.std.proofs.Common.{◌≡◌, ℕ, ◌+◌, ◌-◌, ◌*◌, ◌/◌, ◌%◌, ◌^◌, ◌<◌, ◌≤◌, cond, eqb, ltb, List, [], ◌∷◌, ◌++◌, Ok, Err, refl, subst, arith}
use Rattle.std.proofs.lemmas.Bool.{cond_both, ltb-true, ltb-false, lt-ltb, le-ltb, eqb-true, eq-eqb}
use Rattle.std.proofs.lemmas.Nat.{div-add-mod', div-mul-add}
use Rattle.numbers.specs.Bytes.{little}
use Rattle.blob_codec.specs.declared.fault.BlobFault.TheVariants.{Overlong}
use Rattle.blob_codec.specs.Grammar.{natural_len, natural}
use Rattle.blob_codec.specs.Reading.{AreBytes, ◌>>=◌, read_byte, read_number, following, led_number, read_natural}
use Rattle.blob_codec.proofs.FieldLaws.{bind_ok, kept_ok, Takes, Takes-then, byte_takes, number_takes, low_again, little-above}

-- what holds of the bytes that follow, at each range of the first
pub following_is : (P : ℕ → Type 0) (first : ℕ) → (first < 0x80 → P 0) → (0x80 ≤ first → first < 0xc0 → P 1) → (0xc0 ≤ first → first < 0xe0 → P 2)
    → (0xe0 ≤ first → first < 0xf0 → P 3) → (0xf0 ≤ first → first < 0xf8 → P 4) → (0xf8 ≤ first → first < 0xfc → P 5)
    → (0xfc ≤ first → first < 0xfe → P 6) → (0xfe ≤ first → first < 0xff → P 7) → (0xff ≤ first → P 8) → P (following first)
unfolding following
following_is P first a b c d e f g h i =
    cond_both (ltb first 0x80) _ _ P (λ t. a (ltb-true _ _ t)) (λ x0.
    cond_both (ltb first 0xc0) _ _ P (λ t. b (ltb-false _ _ x0) (ltb-true _ _ t)) (λ x1.
    cond_both (ltb first 0xe0) _ _ P (λ t. c (ltb-false _ _ x1) (ltb-true _ _ t)) (λ x2.
    cond_both (ltb first 0xf0) _ _ P (λ t. d (ltb-false _ _ x2) (ltb-true _ _ t)) (λ x3.
    cond_both (ltb first 0xf8) _ _ P (λ t. e (ltb-false _ _ x3) (ltb-true _ _ t)) (λ x4.
    cond_both (ltb first 0xfc) _ _ P (λ t. f (ltb-false _ _ x4) (ltb-true _ _ t)) (λ x5.
    cond_both (ltb first 0xfe) _ _ P (λ t. g (ltb-false _ _ x5) (ltb-true _ _ t)) (λ x6.
    cond_both (ltb first 0xff) _ _ P (λ t. h (ltb-false _ _ x6) (ltb-true _ _ t)) (λ x7. i (ltb-false _ _ x7)))))))))

-- the same of the length of a natural, at each range of its number
natural_len_is : (P : ℕ → Type 0) (x : ℕ) → (x < 2 ^ 7 → P 0) → (2 ^ 7 ≤ x → x < 2 ^ 14 → P 1) → (2 ^ 14 ≤ x → x < 2 ^ 21 → P 2)
    → (2 ^ 21 ≤ x → x < 2 ^ 28 → P 3) → (2 ^ 28 ≤ x → x < 2 ^ 35 → P 4) → (2 ^ 35 ≤ x → x < 2 ^ 42 → P 5)
    → (2 ^ 42 ≤ x → x < 2 ^ 49 → P 6) → (2 ^ 49 ≤ x → x < 2 ^ 56 → P 7) → (2 ^ 56 ≤ x → P 8) → P (natural_len x)
unfolding natural_len
natural_len_is P x a b c d e f g h i =
    cond_both (ltb x (2 ^ 7)) _ _ P (λ t. a (ltb-true _ _ t)) (λ x0.
    cond_both (ltb x (2 ^ 14)) _ _ P (λ t. b (ltb-false _ _ x0) (ltb-true _ _ t)) (λ x1.
    cond_both (ltb x (2 ^ 21)) _ _ P (λ t. c (ltb-false _ _ x1) (ltb-true _ _ t)) (λ x2.
    cond_both (ltb x (2 ^ 28)) _ _ P (λ t. d (ltb-false _ _ x2) (ltb-true _ _ t)) (λ x3.
    cond_both (ltb x (2 ^ 35)) _ _ P (λ t. e (ltb-false _ _ x3) (ltb-true _ _ t)) (λ x4.
    cond_both (ltb x (2 ^ 42)) _ _ P (λ t. f (ltb-false _ _ x4) (ltb-true _ _ t)) (λ x5.
    cond_both (ltb x (2 ^ 49)) _ _ P (λ t. g (ltb-false _ _ x5) (ltb-true _ _ t)) (λ x6.
    cond_both (ltb x (2 ^ 56)) _ _ P (λ t. h (ltb-false _ _ x6) (ltb-true _ _ t)) (λ x7. i (ltb-false _ _ x7)))))))))

-- a first byte has the leading ones of `len` bytes after it, and a number with high bits as there fits
record Leads (first len : ℕ) : Type 0 where
  few : len ≤ 8
  ones : 2 ^ 8 - 2 ^ (8 - len) ≤ first
  fits : (low : ℕ) → low < 2 ^ (8 * len) → (first - (2 ^ 8 - 2 ^ (8 - len))) * 2 ^ (8 * len) + low < 2 ^ 64

leads : (first : ℕ) → first < 256 → Leads first (following first)
leads first lt =
    following_is (Leads first) first
    (λ b. record { few = omega arith; ones = omega arith; fits = λ low h. omega arith })
    (λ a b. record { few = omega arith; ones = omega arith; fits = λ low h. omega arith })
    (λ a b. record { few = omega arith; ones = omega arith; fits = λ low h. omega arith })
    (λ a b. record { few = omega arith; ones = omega arith; fits = λ low h. omega arith })
    (λ a b. record { few = omega arith; ones = omega arith; fits = λ low h. omega arith })
    (λ a b. record { few = omega arith; ones = omega arith; fits = λ low h. omega arith })
    (λ a b. record { few = omega arith; ones = omega arith; fits = λ low h. omega arith })
    (λ a b. record { few = omega arith; ones = omega arith; fits = λ low h. omega arith })
    (λ a. record { few = omega arith; ones = omega arith; fits = λ low h. omega arith })

-- the bytes that follow, at each range of the first
following_0 : (first : ℕ) → first < 0x80 → following first ≡ 0
unfolding following
following_0 first b = rw (lt-ltb first 0x80 b) refl

following_1 : (first : ℕ) → 0x80 ≤ first → first < 0xc0 → following first ≡ 1
unfolding following
following_1 first a b = rw (le-ltb first 0x80 (omega arith), lt-ltb first 0xc0 b) refl

following_2 : (first : ℕ) → 0xc0 ≤ first → first < 0xe0 → following first ≡ 2
unfolding following
following_2 first a b = rw (le-ltb first 0x80 (omega arith), le-ltb first 0xc0 (omega arith), lt-ltb first 0xe0 b) refl

following_3 : (first : ℕ) → 0xe0 ≤ first → first < 0xf0 → following first ≡ 3
unfolding following
following_3 first a b = rw (le-ltb first 0x80 (omega arith), le-ltb first 0xc0 (omega arith), le-ltb first 0xe0 (omega arith), lt-ltb first 0xf0 b) refl

following_4 : (first : ℕ) → 0xf0 ≤ first → first < 0xf8 → following first ≡ 4
unfolding following
following_4 first a b = rw (le-ltb first 0x80 (omega arith), le-ltb first 0xc0 (omega arith), le-ltb first 0xe0 (omega arith), le-ltb first 0xf0 (omega arith), lt-ltb first 0xf8 b) refl

following_5 : (first : ℕ) → 0xf8 ≤ first → first < 0xfc → following first ≡ 5
unfolding following
following_5 first a b = rw (le-ltb first 0x80 (omega arith), le-ltb first 0xc0 (omega arith), le-ltb first 0xe0 (omega arith), le-ltb first 0xf0 (omega arith), le-ltb first 0xf8 (omega arith), lt-ltb first 0xfc b) refl

following_6 : (first : ℕ) → 0xfc ≤ first → first < 0xfe → following first ≡ 6
unfolding following
following_6 first a b = rw (le-ltb first 0x80 (omega arith), le-ltb first 0xc0 (omega arith), le-ltb first 0xe0 (omega arith), le-ltb first 0xf0 (omega arith), le-ltb first 0xf8 (omega arith), le-ltb first 0xfc (omega arith), lt-ltb first 0xfe b) refl

following_7 : (first : ℕ) → 0xfe ≤ first → first < 0xff → following first ≡ 7
unfolding following
following_7 first a b = rw (le-ltb first 0x80 (omega arith), le-ltb first 0xc0 (omega arith), le-ltb first 0xe0 (omega arith), le-ltb first 0xf0 (omega arith), le-ltb first 0xf8 (omega arith), le-ltb first 0xfc (omega arith), le-ltb first 0xfe (omega arith), lt-ltb first 0xff b) refl

following_8 : (first : ℕ) → 0xff ≤ first → following first ≡ 8
unfolding following
following_8 first a = rw (le-ltb first 0x80 (omega arith), le-ltb first 0xc0 (omega arith), le-ltb first 0xe0 (omega arith), le-ltb first 0xf0 (omega arith), le-ltb first 0xf8 (omega arith), le-ltb first 0xfc (omega arith), le-ltb first 0xfe (omega arith), le-ltb first 0xff (omega arith)) refl

-- the first byte of a natural has as many leading ones as bytes follow it
following_first : (x : ℕ) → x < 2 ^ 64 → following (2 ^ 8 - 2 ^ (8 - natural_len x) + x / 2 ^ (8 * natural_len x)) ≡ natural_len x
following_first x lt =
    natural_len_is (λ len. following (2 ^ 8 - 2 ^ (8 - len) + x / 2 ^ (8 * len)) ≡ len) x
    (λ b. following_0 (2 ^ 8 - 2 ^ (8 - 0) + x / 2 ^ (8 * 0)) (omega arith))
    (λ a b. following_1 (2 ^ 8 - 2 ^ (8 - 1) + x / 2 ^ (8 * 1)) (omega arith) (omega arith))
    (λ a b. following_2 (2 ^ 8 - 2 ^ (8 - 2) + x / 2 ^ (8 * 2)) (omega arith) (omega arith))
    (λ a b. following_3 (2 ^ 8 - 2 ^ (8 - 3) + x / 2 ^ (8 * 3)) (omega arith) (omega arith))
    (λ a b. following_4 (2 ^ 8 - 2 ^ (8 - 4) + x / 2 ^ (8 * 4)) (omega arith) (omega arith))
    (λ a b. following_5 (2 ^ 8 - 2 ^ (8 - 5) + x / 2 ^ (8 * 5)) (omega arith) (omega arith))
    (λ a b. following_6 (2 ^ 8 - 2 ^ (8 - 6) + x / 2 ^ (8 * 6)) (omega arith) (omega arith))
    (λ a b. following_7 (2 ^ 8 - 2 ^ (8 - 7) + x / 2 ^ (8 * 7)) (omega arith) (omega arith))
    (λ a. following_8 (2 ^ 8 - 2 ^ (8 - 8) + x / 2 ^ (8 * 8)) (omega arith))

-- a first byte and low bytes are the natural of their number, if that takes `len` bytes
natural_is : (first len low : ℕ) → 2 ^ 8 - 2 ^ (8 - len) ≤ first → low < 2 ^ (8 * len) → natural_len (led_number first len low) ≡ len → natural (led_number first len low) ≡ first ∷ little len low
unfolding natural led_number
natural_is first len low ones lt len_is =
    let bits = first - (2 ^ 8 - 2 ^ (8 - len)) in
    let x = bits * 2 ^ (8 * len) + low in
    let high : x / 2 ^ (8 * len) ≡ bits = div-mul-add bits (2 ^ (8 * len)) low lt in
    let head : 2 ^ 8 - 2 ^ (8 - len) + x / 2 ^ (8 * len) ≡ first = omega arith in
    let order : x ≡ low + 2 ^ (8 * len) * bits = omega arith in
    let tail : little len x ≡ little len low = rw order (little-above len low bits) in
    rw (len_is, head, tail) refl

-- a first byte and low bytes, if their number takes `len` bytes
number_of_parts : (first len low : ℕ) → first < 256 → len ≡ following first → low < 2 ^ (8 * len) → natural_len (led_number first len low) ≡ len
    → (natural (led_number first len low) ≡ first ∷ little len low) × (led_number first len low < 2 ^ 64)
unfolding led_number
number_of_parts first len low lt e low_lt len_is =
    let ranges : Leads first len = rw e (leads first lt) in
    (natural_is first len low ranges.ones low_lt len_is, ranges.fits low low_lt)

pub natural_takes : (bytes : List ℕ) (x : ℕ × List ℕ) → AreBytes bytes → read_natural bytes ≡ Ok x → Takes bytes (natural x.0) x.1 × (x.0 < 2 ^ 64)
unfolding read_natural
natural_takes bytes x h e =
    let a = bind_ok (read_byte bytes) (λ first. read_number (following first.0) first.1 >>= λ low.
    cond (eqb (natural_len (led_number first.0 (following first.0) low.0)) (following first.0)) (Ok (led_number first.0 (following first.0) low.0, low.1)) (Err Overlong)) x e in
    let first = a.0.0 in
    let len = following first in
    let b = bind_ok (read_number len a.0.1) (λ low. cond (eqb (natural_len (led_number first len low.0)) len) (Ok (led_number first len low.0, low.1)) (Err Overlong)) x a.2 in
    let number = led_number first len b.0.0 in
    let read : ℕ × List ℕ = (number, b.0.1) in
    let g = kept_ok (eqb (natural_len number) len) Overlong read x b.2 in
    let front = byte_takes bytes a.0 h a.1 in
    let low = number_takes len a.0.1 b.0 front.0.rest_bytes b.1 in
    let parts = number_of_parts first len b.0.0 front.1 (refl {a = len}) low.1 (eqb-true (natural_len number) len g.0) in
    let both = Takes-then bytes (first ∷ []) a.0.1 (little len b.0.0) b.0.1 front.0 low.0 in
    subst (λ (y : ℕ × List ℕ). Takes bytes (natural y.0) y.1 × (y.0 < 2 ^ 64)) {x = read} {y = x} g.1 (rw (parts.0) both, parts.1)

pub natural_again : (x : ℕ) (rest : List ℕ) → x < 2 ^ 64 → read_natural (natural x ++ rest) ≡ Ok (x, rest)
unfolding read_natural led_number natural
natural_again x rest lt =
    let len = natural_len x in
    let high = x / 2 ^ (8 * len) in
    let whole : ((2 ^ 8 - 2 ^ (8 - len) + high) - (2 ^ 8 - 2 ^ (8 - len))) * 2 ^ (8 * len) + x % 2 ^ (8 * len) ≡ x =
    (let back : (2 ^ 8 - 2 ^ (8 - len) + high) - (2 ^ 8 - 2 ^ (8 - len)) ≡ high = omega arith in rw back (div-add-mod' x (2 ^ (8 * len)))) in
    rw (following_first x lt, low_again len x rest, whole, eq-eqb len len refl) refl
