-- Words that name files.
use Rattle.std.proofs.Common.{◌≡◌, ℕ, ◌<◌, List, [], ◌∷◌, length, Bool, true, false, refl, arith}
use Rattle.std.specs.Str.{is_utf8, IsUtf8}
use Rattle.std.proofs.lemmas.Str.{IsUtf8-from_is_utf8, is_utf8-from_IsUtf8}
use Rattle.polkatool_cmd.specs.Values.{is_name}

-- a word with bytes that are UTF-8 is a name
pub is_name-text : (word : List ℕ) → 0 < length word → IsUtf8 word → is_name word ≡ true
is_name-text [] some utf8 = absurd (omega arith)
is_name-text (b ∷ bs) some utf8 = is_utf8-from_IsUtf8 (b ∷ bs) utf8

false_unless : (test : Bool) → (test ≡ true → ⊥) → test ≡ false
false_unless true h = absurd (h refl)
false_unless false h = refl

-- a word that is no UTF-8 is no name
pub is_name-other : (word : List ℕ) → (IsUtf8 word → ⊥) → is_name word ≡ false
is_name-other [] h = refl
is_name-other (b ∷ bs) h = false_unless (is_utf8 (b ∷ bs)) (λ e. h (IsUtf8-from_is_utf8 (b ∷ bs) e))
