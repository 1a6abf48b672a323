-- Words that spell an argument.
use Rattle.std.proofs.Common.{◌≡◌, ℕ, ◌%◌, List, [], length, true, None, refl}
use Rattle.std.specs.Prelude.{Result, Ok, Err}
use Rattle.std.specs.List.{list_all}
use Rattle.std.specs.Result.{result_ok}
use Rattle.std.proofs.lemmas.List.Sums.{AllPass-from_list_all, list_all-from_AllPass}
use Rattle.hex.specs.Hex.{is_hex_digit, decode_of, decode_pairs}
use Rattle.hex.specs.declared.error.FromHexError.{FromHexError}
use Rattle.hex.proofs.HexLemmas.{decode_of-ok, decode_of-digits}
use Rattle.polkatool_cmd.specs.Values.{argument_of, spelled_bytes, IsSpelled}

-- a word without digits
pub argument_of-nil : IsSpelled []
unfolding decode_pairs
argument_of-nil = refl

pub spelled-nil : spelled_bytes [] ≡ []
unfolding decode_pairs
spelled-nil = refl

-- an even number of digits
pub argument_of-digits : (word : List ℕ) → length word % 2 ≡ 0 → list_all is_hex_digit word ≡ true → IsSpelled word
argument_of-digits word even digits =
    let read = decode_of-digits word even (AllPass-from_list_all is_hex_digit word digits) in
    rw read.1 refl

none_unless : (word : List ℕ) (r : Result (List ℕ) FromHexError) → ((bytes : List ℕ) → r ≡ Ok bytes → ⊥) → result_ok r ≡ None
none_unless word (Ok bytes) h = absurd (h bytes refl)
none_unless word (Err e) h = refl

-- any other word
pub argument_of-other : (word : List ℕ) → (length word % 2 ≡ 0 → list_all is_hex_digit word ≡ true → ⊥) → argument_of word ≡ None
argument_of-other word other =
    none_unless word (decode_of word) (λ bytes read.
    let found = decode_of-ok word bytes read in
    other found.0 (list_all-from_AllPass is_hex_digit word found.1))
