-- Fronts of pieces that are put one after another.
use Rattle.std.proofs.Common.{ℕ, ◌+◌, List, ◌++◌, length, take, Option, sym, ◌∙◌, subst, take_all, inl, inr, arith}
use Rattle.std.proofs.lemmas.Bool.{cases_lt}
use Rattle.std.proofs.lemmas.List.{take-append-le}
use Rattle.std.proofs.Math.Seq.{take-append-add, take-append_seam}
use Rattle.std.proofs.KnownBytes.{Appends-trans}
use Rattle.std.specs.Io.KnownBytes.{Appends}
use Rattle.outside.specs.Outside.{AppendsPrefix}

-- a prefix of the second piece after the first
pub AppendsPrefix-after : (a b c : Option (List ℕ)) (p q : List ℕ) → Appends a b p → AppendsPrefix b c q → AppendsPrefix a c (p ++ q)
AppendsPrefix-after a b c p q put front =
    (length p + front.0, subst (Appends a c) (sym (take-append-add p q front.0)) (Appends-trans a b c p (take front.0 q) put front.1))

-- a prefix of the first piece
pub AppendsPrefix-longer : (a c : Option (List ℕ)) (p q : List ℕ) → AppendsPrefix a c p → AppendsPrefix a c (p ++ q)
AppendsPrefix-longer a c p q front = elim (cases_lt front.0 (length p)) [
  | inl within ↦ (front.0, subst (Appends a c) (sym (take-append-le front.0 p q (omega arith))) front.1)
  | inr past ↦ (length p, subst (Appends a c) (take_all front.0 p (omega arith) ∙ sym (take-append_seam p q)) front.1)
]
