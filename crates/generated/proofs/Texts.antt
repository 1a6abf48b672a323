-- A text word by word.
use Rattle.std.proofs.Common.{◌≡◌, ℕ, suc, ◌+◌, ◌-◌, ◌<◌, ◌≤◌, List, ◌++◌, refl, sym, ap, ◌∙◌, arith}
use Rattle.std.proofs.lemmas.List.{append_assoc}
use Rattle.numbers.specs.Bytes.{le_32}
use Rattle.generated.specs.Objects.{text}
use Rattle.generated.specs.Words.{next, word_of, return_word}

text_suc : (x n : ℕ) → text x (suc n) ≡ le_32 (word_of (next x)) ++ text (next x) n
unfolding text
text_suc x n = refl

text_zero : (x : ℕ) → text x 0 ≡ le_32 return_word
unfolding text
text_zero x = refl

-- one word more
pub word_more :
    (x y word at count : ℕ) (out new all : List ℕ) → at < count → all ≡ out ++ text x (count - at)
    → y ≡ next x → word ≡ word_of y → new ≡ out ++ le_32 word → all ≡ new ++ text y (count - (at + 1))
word_more x y word at count out new all within so_far y_is word_is more =
    let n : ℕ = count - (at + 1) in
    let left : count - at ≡ suc n = omega (arith, within) in
    let last : new ≡ out ++ le_32 (word_of (next x)) = more ∙ ap (λ w. out ++ le_32 w) (word_is ∙ ap word_of y_is) in
    so_far
    ∙ ap (λ k. out ++ text x k) left
    ∙ ap (λ bytes. out ++ bytes) (text_suc x n)
    ∙ sym (append_assoc out (le_32 (word_of (next x))) (text (next x) n))
    ∙ ap (λ bytes. bytes ++ text (next x) n) (sym last)
    ∙ ap (λ z. new ++ text z n) (sym y_is)

-- the return behind the last word
pub text_end : (x at count : ℕ) (out new all : List ℕ) → count ≤ at → all ≡ out ++ text x (count - at) → new ≡ out ++ le_32 return_word → new ≡ all
text_end x at count out new all none_left so_far more =
    let left : count - at ≡ 0 = omega (arith, none_left) in
    more ∙ ap (λ bytes. out ++ bytes) (sym (text_zero x)) ∙ ap (λ k. out ++ text x k) (sym left) ∙ sym so_far
