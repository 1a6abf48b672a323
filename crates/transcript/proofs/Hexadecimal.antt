-- Bytes in hexadecimal, as the crate `hex` writes them.
use Rattle.std.proofs.Common.{◌≡◌, ℕ, suc, ◌/◌, ◌%◌, ◌<◌, List, [], ◌∷◌, ◌++◌, slice_index, true, refl, ap, ◌∙◌, arith}
use Rattle.std.specs.Prelude.{Result, Ok, Err, OnOk}
use Rattle.std.specs.Result.{is_ok}
use Rattle.std.specs.Char.{digit_char}
use Rattle.std.specs.Int.{to_be_bytes, w32}
use Rattle.hex.specs.Hex.{IsBytes, lower_digits, encode_with, encode_lower}
use Rattle.disasm.specs.Digits.{byte_digits, hex, hex_digits}
use Rattle.disasm.proofs.Hex.{digit_is}

-- what the crate writes are the digits of the bytes
pub encode_lower-hex : (bytes : List ℕ) → IsBytes bytes → encode_lower bytes ≡ hex bytes
unfolding encode_with
encode_lower-hex [] are = refl
encode_lower-hex (byte ∷ bytes) are =
    let fits : byte < 256 = are 0 in
    ap (λ d. d ∷ slice_index lower_digits (byte % 16) ∷ encode_lower bytes) (digit_is (byte / 16) (omega arith))
    ∙ ap (λ d. digit_char (byte / 16) ∷ d ∷ encode_lower bytes) (digit_is (byte % 16) (omega arith))
    ∙ ap (λ rest. byte_digits byte ++ rest) (encode_lower-hex bytes (λ k. are (suc k)))

-- the digits of a number are those of its bytes, the highest first
pub hex-to_be_bytes : (n : ℕ) → hex (to_be_bytes w32 n) ≡ hex_digits 8 n
hex-to_be_bytes n =
    let e0 : n % 256 % 16 ≡ n % 16 = omega arith in
    let e1 : n % 256 / 16 ≡ n / 16 % 16 = omega arith in
    let e2 : n / 256 % 256 % 16 ≡ n / 16 / 16 % 16 = omega arith in
    let e3 : n / 256 % 256 / 16 ≡ n / 16 / 16 / 16 % 16 = omega arith in
    let e4 : n / 65536 % 256 % 16 ≡ n / 16 / 16 / 16 / 16 % 16 = omega arith in
    let e5 : n / 65536 % 256 / 16 ≡ n / 16 / 16 / 16 / 16 / 16 % 16 = omega arith in
    let e6 : n / 16777216 % 256 % 16 ≡ n / 16 / 16 / 16 / 16 / 16 / 16 % 16 = omega arith in
    let e7 : n / 16777216 % 256 / 16 ≡ n / 16 / 16 / 16 / 16 / 16 / 16 / 16 % 16 = omega arith in
    λ i. digit_char (e7 i) ∷ digit_char (e6 i) ∷ digit_char (e5 i) ∷ digit_char (e4 i) ∷ digit_char (e3 i) ∷ digit_char (e2 i) ∷ digit_char (e1 i) ∷ digit_char (e0 i) ∷ []

-- what holds of an answer without an error holds where there is none
pub holds_if_ok : {T E P : Type 0} (r : Result T E) → is_ok r ≡ true → OnOk r P → P
holds_if_ok (Ok x) is holds = holds
holds_if_ok (Err e) is holds = cc
