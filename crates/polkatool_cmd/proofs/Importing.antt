-- The imports of a link: none has the name of an earlier one.
use Rattle.std.proofs.Common.{◌≡◌, ℕ, ◌<◌, ◌≤◌, List, [], ◌∷◌, ◌++◌, length, Bool, true, false, ◌&&◌, ◌||◌, not, IsTrue, None, zero, suc, refl, sym, ap, ◌∙◌, arith}
use Rattle.std.specs.Prelude.{slice_get}
use Rattle.std.specs.List.{list_any}
use Rattle.std.specs.Str.{bytes_eq}
use Rattle.faults.specs.First.{where_true, first_below}
use Rattle.faults.proofs.Firsts.{first_below-more}
use Rattle.symbols.specs.Parts.{same}
use Rattle.symbols.specs.Wanted.{Import, Wanted, name_of, import_name_at, import_of}
use Rattle.polkatool_cmd.specs.Items.{Item}
use Rattle.polkatool_cmd.specs.LinkWords.{name_objects, imports, repeats_import}

and_right : (a b : Bool) → (a && b) ≡ true → b ≡ true
and_right true b e = e
and_right false b e = cc

or_left : (a b : Bool) → (a || b) ≡ false → a ≡ false
or_left true b e = e
or_left false b e = refl

or_right : (a b : Bool) → (a || b) ≡ false → b ≡ false
or_right true b e = cc
or_right false b e = e

not_true : (b : Bool) → not b ≡ true → b ≡ false
not_true true e = sym e
not_true false e = refl

-- no name is imported twice
pub repeats_import-named : (found : List Item) → IsTrue (name_objects found) → repeats_import (imports found) ≡ false
repeats_import-named found named = not_true _ (and_right _ _ named)

test_none : (test : Import → Bool) (earlier : List Import) (import : Import) (rest : List Import) → list_any test (earlier ++ import ∷ rest) ≡ false → test import ≡ false
test_none test [] import rest none = or_left (test import) _ none
test_none test (first ∷ earlier) import rest none = test_none test earlier import rest (or_right (test first) _ none)

-- no earlier import has the name of a later one
earlier_names : (earlier : List Import) (import : Import) (rest : List Import) → repeats_import (earlier ++ import ∷ rest) ≡ false → list_any (λ (first : Import). bytes_eq import.name first.name) earlier ≡ false
earlier_names [] import rest once = refl
earlier_names (first ∷ earlier) import rest once =
    let here = test_none (λ (later : Import). bytes_eq later.name first.name) earlier import rest (or_left _ _ once) in
    rw here (earlier_names earlier import rest (or_right _ _ once))

name_at : (name : List ℕ) (earlier : List Import) (n : ℕ) → list_any (λ (first : Import). bytes_eq name first.name) earlier ≡ false → n < length earlier → same name (name_of (slice_get earlier n)) ≡ false
name_at name [] n none less = absurd (omega arith)
name_at name (first ∷ earlier) zero none less = or_left _ _ none
name_at name (first ∷ earlier) (suc n) none less = name_at name earlier n (or_right _ _ none) (omega arith)

none_below : (wanted : Wanted) (name : List ℕ) (n : ℕ) → list_any (λ (first : Import). bytes_eq name first.name) wanted.imports ≡ false → n ≤ length wanted.imports → first_below n (λ at. where_true (same name (import_name_at wanted at)) at) ≡ None
none_below wanted name zero none less = refl
none_below wanted name (suc n) none less =
    first_below-more _ n (suc n) (omega arith) (none_below wanted name n none (omega arith))
    (ap (λ b. where_true b n) (name_at name wanted.imports n none (omega arith)))

-- the next import has a name that none before it has
pub import_of-next : (wanted : Wanted) (import : Import) (rest all : List Import) → wanted.imports ++ import ∷ rest ≡ all → repeats_import all ≡ false → import_of wanted import.name ≡ None
import_of-next wanted import rest all next once =
    none_below wanted import.name (length wanted.imports)
    (earlier_names wanted.imports import rest (ap repeats_import next ∙ once)) (omega arith)
