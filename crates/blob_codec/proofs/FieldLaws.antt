-- A field that is read is the field that was written, and what was written is read again.
use Rattle.std.proofs.Common.{◌≡◌, ℕ, zero, suc, ◌+◌, ◌*◌, ◌/◌, ◌%◌, ◌^◌, ◌<◌, ◌≤◌, Bool, true, false, cond, ltb, List, [], ◌∷◌, ◌++◌, length, take, drop, Result, Ok, Err, refl, sym, ap, subst, ◌∙◌, append_assoc, arith, inl, inr}
use Rattle.std.specs.Prelude.{IsErr, ◌↔◌}
use Rattle.std.proofs.lemmas.Bool.{cases_lt, ltb-false, le-ltb}
use Rattle.std.proofs.lemmas.List.{append-nil, take_at, drop_at, take-append-drop, length-append, length-take, get_or-drop, get_or-take, get_or_past}
use Rattle.std.proofs.Math.Nat.{mod-eq_of_lt}
use Rattle.numbers.specs.Bytes.{little, number_of}
use Rattle.numbers.proofs.BytesLaws.{length-little, number_of-little}
use Rattle.blob_codec.proofs.Numbers.{pow_more}
use Rattle.blob_codec.specs.declared.fault.BlobFault.{BlobFault}
use Rattle.blob_codec.specs.declared.fault.BlobFault.TheVariants.{Truncated}
use Rattle.blob_codec.specs.Reading.{AreBytes, ◌>>=◌, read_byte, read_bytes, read_number}

pub AreBytes-drop : (n : ℕ) (bytes : List ℕ) → AreBytes bytes → AreBytes (drop n bytes)
AreBytes-drop n bytes h at = rw get_or-drop (h (n + at))

pub AreBytes-take : (n : ℕ) (bytes : List ℕ) → AreBytes bytes → AreBytes (take n bytes)
AreBytes-take n bytes h at =
    elim (cases_lt at n) [
      | inl lt ↦ rw (get_or-take n bytes at 0 lt) (h at)
      | inr le ↦ rw (get_or_past (take n bytes) at 0 (omega (arith, length-take n bytes))) (omega arith)
    ]

AreBytes-rest : (byte : ℕ) (bytes : List ℕ) → AreBytes (byte ∷ bytes) → AreBytes bytes
AreBytes-rest byte bytes h at = h (suc at)

-- the value of a reading that goes on
pub bind_ok : {A B : Type 0} (r : Result A BlobFault) (next : A → Result B BlobFault) (y : B) → (r >>= next) ≡ Ok y → (x : A) × (r ≡ Ok x) × (next x ≡ Ok y)
bind_ok (Ok x) next y e = (x, refl, e)
bind_ok (Err fault) next y e = absurd cc

-- a test whose yes is a fault
pub guard_ok : {A : Type 0} (b : Bool) (fault : BlobFault) (x y : A) → cond b (Err fault) (Ok x) ≡ Ok y → (b ≡ false) × (x ≡ y)
guard_ok true fault x y e = absurd cc
guard_ok false fault x y e = (refl, cc)

-- a test whose no is a fault
pub kept_ok : {A : Type 0} (b : Bool) (fault : BlobFault) (x y : A) → cond b (Ok x) (Err fault) ≡ Ok y → (b ≡ true) × (x ≡ y)
kept_ok true fault x y e = (refl, cc)
kept_ok false fault x y e = absurd cc

-- a test whose no is a fault, before a reading that goes on
pub goes_on : {A : Type 0} (b : Bool) (fault : BlobFault) (r : Result A BlobFault) (y : A) → cond b r (Err fault) ≡ Ok y → (b ≡ true) × (r ≡ Ok y)
goes_on true fault r y e = (refl, e)
goes_on false fault r y e = absurd cc

abbrev read : {A : Type 0} → A → Result A BlobFault
read x = Ok x

pub ok_is : {A : Type 0} (x y : A) → read x ≡ read y → x ≡ y
ok_is x y e = cc

-- the bytes are the text and then the rest
pub record Takes (bytes text rest : List ℕ) : Type 0 where
  pub parts : bytes ≡ text ++ rest
  pub rest_bytes : AreBytes rest

pub Takes-then : (a x b y c : List ℕ) → Takes a x b → Takes b y c → Takes a (x ++ y) c
Takes-then a x b y c p q = record { parts = p.parts ∙ ap (λ (t : List ℕ). x ++ t) q.parts ∙ sym (append_assoc x y c); rest_bytes = q.rest_bytes }

-- where nothing is left, the text is all of the bytes
pub Takes-all : (bytes text rest : List ℕ) → Takes bytes text rest → rest ≡ [] → bytes ≡ text
Takes-all bytes text rest t nothing = t.parts ∙ ap (λ (r : List ℕ). text ++ r) nothing ∙ append-nil text

-- a text followed by a rest that is two texts
pub Takes-two : (bytes text rest x y : List ℕ) → Takes bytes text rest → rest ≡ x ++ y → bytes ≡ text ++ x ++ y
Takes-two bytes text rest x y t e = t.parts ∙ ap (λ (r : List ℕ). text ++ r) e ∙ sym (append_assoc text x y)

pub byte_takes : (bytes : List ℕ) (x : ℕ × List ℕ) → AreBytes bytes → read_byte bytes ≡ Ok x → Takes bytes (x.0 ∷ []) x.1 × (x.0 < 256)
byte_takes [] x h e = absurd cc
byte_takes (byte ∷ rest) x h e =
    subst (λ (y : ℕ × List ℕ). Takes (byte ∷ rest) (y.0 ∷ []) y.1 × (y.0 < 256)) (ok_is (byte, rest) x e)
    (record { parts = refl; rest_bytes = AreBytes-rest byte rest h }, h 0)

pub bytes_take : (n : ℕ) (bytes : List ℕ) (x : List ℕ × List ℕ) → AreBytes bytes → read_bytes n bytes ≡ Ok x → Takes bytes x.0 x.1 × (length x.0 ≡ n) × AreBytes x.0
bytes_take n bytes x h e =
    let g = guard_ok (ltb (length bytes) n) Truncated (take n bytes, drop n bytes) x e in
    let long : n ≤ length bytes = ltb-false (length bytes) n g.0 in
    subst (λ (y : List ℕ × List ℕ). Takes bytes y.0 y.1 × (length y.0 ≡ n) × AreBytes y.0) g.1
    (record { parts = sym (take-append-drop n bytes); rest_bytes = AreBytes-drop n bytes h }, omega (arith, length-take n bytes), AreBytes-take n bytes h)

pub bytes_again : (text rest : List ℕ) (n : ℕ) → length text ≡ n → read_bytes n (text ++ rest) ≡ Ok (text, rest)
bytes_again text rest n e =
    let long : ltb (length (text ++ rest)) n ≡ false = le-ltb _ _ (omega (arith, length-append text rest)) in
    rw (long, take_at text rest n e, drop_at text rest n e) refl

-- adding a multiple of 256 keeps the low byte, and adds to the rest
low_bytes : (low high x : ℕ) → x ≡ low + 256 * high → (x % 256 ≡ low % 256) × (x / 256 ≡ low / 256 + high)
low_bytes low high x e = (omega arith, omega arith)

-- low bytes are the same, whatever is above them
pub little-above : (n low high : ℕ) → little n (low + 2 ^ (8 * n) * high) ≡ little n low
little-above zero low high = refl
little-above (suc n) low high =
    let more : 2 ^ (8 * suc n) ≡ 256 * 2 ^ (8 * n) = pow_more n (suc n) (omega arith) in
    let split = low_bytes low (2 ^ (8 * n) * high) (low + 2 ^ (8 * suc n) * high) (rw more (omega arith)) in
    rw (split.0, split.1) (ap (λ (bs : List ℕ). (low % 256) ∷ bs) (little-above n (low / 256) high))

-- bytes are those of their number
pub little-number_of : (bytes : List ℕ) (n : ℕ) → length bytes ≡ n → AreBytes bytes → little n (number_of bytes) ≡ bytes
little-number_of [] n e h = rw (← e) refl
little-number_of (b ∷ bs) n e h =
    let low : (b + 256 * number_of bs) % 256 ≡ b = omega (arith, h 0) in
    let high : (b + 256 * number_of bs) / 256 ≡ number_of bs = omega (arith, h 0) in
    rw (← e, low, high) (ap (λ (t : List ℕ). b ∷ t) (little-number_of bs (length bs) refl (AreBytes-rest b bs h)))

pub number_of-lt : (bytes : List ℕ) (n : ℕ) → length bytes ≡ n → AreBytes bytes → number_of bytes < 2 ^ (8 * n)
number_of-lt [] n e h = rw (← e) (omega arith)
number_of-lt (b ∷ bs) n e h =
    let more : 2 ^ (8 * suc (length bs)) ≡ 256 * 2 ^ (8 * length bs) = pow_more (length bs) (suc (length bs)) (omega arith) in
    rw (← e, more) (omega (arith, h 0, number_of-lt bs (length bs) refl (AreBytes-rest b bs h)))

pub number_takes : (n : ℕ) (bytes : List ℕ) (x : ℕ × List ℕ) → AreBytes bytes → read_number n bytes ≡ Ok x → Takes bytes (little n x.0) x.1 × (x.0 < 2 ^ (8 * n))
number_takes n bytes x h e =
    let g = guard_ok (ltb (length bytes) n) Truncated (number_of (take n bytes), drop n bytes) x e in
    let long : n ≤ length bytes = ltb-false (length bytes) n g.0 in
    let len : length (take n bytes) ≡ n = omega (arith, length-take n bytes) in
    let front : little n (number_of (take n bytes)) ≡ take n bytes = little-number_of (take n bytes) n len (AreBytes-take n bytes h) in
    subst (λ (y : ℕ × List ℕ). Takes bytes (little n y.0) y.1 × (y.0 < 2 ^ (8 * n))) g.1
    (record { parts = rw front (sym (take-append-drop n bytes)); rest_bytes = AreBytes-drop n bytes h }, number_of-lt (take n bytes) n len (AreBytes-take n bytes h))

-- of a number that has more bytes, the low ones are read
pub low_again : (n x : ℕ) (rest : List ℕ) → read_number n (little n x ++ rest) ≡ Ok (x % 2 ^ (8 * n), rest)
low_again n x rest =
    let len = length-little n x in
    let long : ltb (length (little n x ++ rest)) n ≡ false = le-ltb _ _ (omega (arith, length-append (little n x) rest)) in
    rw (long, take_at (little n x) rest n len, drop_at (little n x) rest n len, number_of-little n x) refl

pub number_again : (n x : ℕ) (rest : List ℕ) → x < 2 ^ (8 * n) → read_number n (little n x ++ rest) ≡ Ok (x, rest)
number_again n x rest lt = low_again n x rest ∙ ap (λ (y : ℕ). Ok (y, rest)) (mod-eq_of_lt lt)

-- a fault comes exactly where there is no value that is read
pub or_fault : {A : Type 0} (r : Result A BlobFault) (P Q : A → Type 0) → ((x : A) → r ≡ Ok x → P x × Q x) → ((x : A) → P x → Q x → r ≡ Ok x) → IsErr r ↔ ((x : A) → P x → Q x → ⊥)
or_fault (Ok x) P Q takes again = (λ err. λ y p q. cc, λ none. absurd (none x (takes x refl).0 (takes x refl).1))
or_fault (Err fault) P Q takes again = (λ _. λ x p q. (let e = again x p q in cc), λ _. refl)
