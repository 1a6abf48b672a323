-- Texts that are added one after another, and the fronts of them that are put.
use Rattle.std.proofs.Common.{◌≡◌, ℕ, List, [], ◌++◌, Option, sym, ap, ◌∙◌, subst, append_assoc, append-nil}
use Rattle.std.proofs.KnownBytes.{Appends-nil, Appends-trans}
use Rattle.std.specs.Io.KnownBytes.{Appends}
use Rattle.outside.specs.Outside.{AppendsPrefix}
use Rattle.outside.proofs.Prefixes.{AppendsPrefix-after, AppendsPrefix-longer}
use Rattle.disasm.specs.Putting.{Adds}

-- nothing was added
pub Adds-nil : (a : Option (List ℕ)) (kept : List ℕ) → Adds a a kept kept []
Adds-nil a kept = ([], Appends-nil a, append-nil kept)

-- the first text is kept
pub Adds-first : (a : Option (List ℕ)) (kept text : List ℕ) → kept ≡ text → Adds a a [] kept text
Adds-first a kept text is = ([], Appends-nil a, sym is)

-- one text after another
pub Adds-trans : (a b c : Option (List ℕ)) (k l m x y : List ℕ) → Adds a b k l x → Adds b c l m y → Adds a c k m (x ++ y)
Adds-trans a b c k l m x y first second = (
  first.0 ++ second.0,
  Appends-trans a b c first.0 second.0 first.1 second.1,
  sym (append_assoc k x y) ∙ ap (λ t. t ++ y) first.2 ∙ append_assoc first.0 l y ∙ ap (λ t. first.0 ++ t) second.2 ∙ sym (append_assoc first.0 second.0 m),
)

-- a text that is kept after another
pub Adds-kept : (a b : Option (List ℕ)) (k l m x y : List ℕ) → Adds a b k l x → m ≡ l ++ y → Adds a b k m (x ++ y)
Adds-kept a b k l m x y first is = (
  first.0,
  first.1,
  sym (append_assoc k x y) ∙ ap (λ t. t ++ y) first.2 ∙ append_assoc first.0 l y ∙ ap (λ t. first.0 ++ t) (sym is),
)

-- a text for which room was made
pub Adds-more : (a b c : Option (List ℕ)) (k l m n x y z : List ℕ) → Adds a b k l x → Adds b c l m [] → n ≡ m ++ y → z ≡ x ++ y → Adds a c k n z
Adds-more a b c k l m n x y z first room is whole =
    subst (Adds a c k n) (ap (λ t. t ++ y) (append-nil x) ∙ sym whole) (Adds-kept a c k m n (x ++ []) y (Adds-trans a b c k l m x [] first room) is)

-- a text of which a prefix was put after another
pub Adds-front : (a b c : Option (List ℕ)) (k l x y : List ℕ) → Adds a b k l x → AppendsPrefix b c (l ++ y) → AppendsPrefix a c (k ++ (x ++ y))
Adds-front a b c k l x y first front =
    let whole : first.0 ++ (l ++ y) ≡ k ++ (x ++ y) =
    sym (append_assoc first.0 l y) ∙ ap (λ t. t ++ y) (sym first.2) ∙ append_assoc k x y in
    subst (AppendsPrefix a c) whole (AppendsPrefix-after a b c first.0 (l ++ y) first.1 front)

-- no text more, of which a front was put
pub Adds-stopped : (a b c : Option (List ℕ)) (k l x y z : List ℕ) → Adds a b k l x → AppendsPrefix b c l → z ≡ x ++ y → AppendsPrefix a c (k ++ z)
Adds-stopped a b c k l x y z first front whole =
    subst (λ t. AppendsPrefix a c (k ++ t)) (sym whole) (Adds-front a b c k l x y first (AppendsPrefix-longer b c l y front))

-- a text more, of which a front was put
pub Adds-failed : (a b c : Option (List ℕ)) (k l x y rest z : List ℕ) → Adds a b k l x → AppendsPrefix b c (l ++ y) → z ≡ (x ++ y) ++ rest → AppendsPrefix a c (k ++ z)
Adds-failed a b c k l x y rest z first front whole =
    subst (λ t. AppendsPrefix a c (k ++ t)) (sym whole)
    (subst (AppendsPrefix a c) (append_assoc k (x ++ y) rest) (AppendsPrefix-longer a c (k ++ (x ++ y)) rest (Adds-front a b c k l x y first front)))

-- what is kept is put at the end
pub Adds-all : (a b c : Option (List ℕ)) (l x : List ℕ) → Adds a b [] l x → Appends b c l → Appends a c x
Adds-all a b c l x first last = subst (Appends a c) (sym first.2) (Appends-trans a b c first.0 l first.1 last)

-- or a prefix of it
pub Adds-last : (a b c : Option (List ℕ)) (l x : List ℕ) → Adds a b [] l x → AppendsPrefix b c l → AppendsPrefix a c x
Adds-last a b c l x first front = subst (AppendsPrefix a c) (sym first.2) (AppendsPrefix-after a b c first.0 l first.1 front)
