-- The lines of data, one after another.
use Rattle.std.proofs.Common.{◌≡◌, ℕ, ◌+◌, List, ◌++◌, sym, ap, ◌∙◌, add-one, append_assoc}
use Rattle.std.proofs.lemmas.List.{append-nil}
use Rattle.faults.specs.Present.{each_below}

-- no lines, and a line more
pub none_below : (text : List ℕ) (at : ℕ → List ℕ) → text ≡ text ++ each_below 0 at
unfolding each_below
none_below text at = sym (append-nil text)

pub more_below : (old text new : List ℕ) (n : ℕ) (at : ℕ → List ℕ) → text ≡ old ++ each_below n at → new ≡ text ++ at n → new ≡ old ++ each_below (n + 1) at
unfolding each_below
more_below old text new n at before here =
    here ∙ ap (λ t. t ++ at n) before ∙ append_assoc old (each_below n at) (at n) ∙ ap (λ m. old ++ each_below m at) (sym (add-one n))
