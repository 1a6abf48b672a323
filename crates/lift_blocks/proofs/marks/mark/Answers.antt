use Rattle.std.proofs.Common.{◌≡◌, ℕ, Option, Some, None, refl, sym, ◌∙◌, map}
use Rattle.std.proofs.lemmas.List.{length-map}
use Rattle.lift_blocks.specs.Kept.{site_of}
use Rattle.lift_blocks.proofs.Marking.{marked_found, marked_none}
use Rattle.lift_blocks.proofs.marks.mark.Goals as goal

none_is : (o : Option ℕ) → ((x : ℕ) → o ≡ Some x → ⊥) → o ≡ None
none_is None h = refl
none_is (Some x) h = absurd (h x refl)

pub returns-in_default : goal.returns-in_default
returns-in_default c =
    sym (marked_none (map site_of c.args.places.now) c.args.marks.now (site_of c.args.place) c.requires.ascends (c.requires.count ∙ sym (length-map c.args.places.now site_of)) (sym c.find.ensures ∙ none_is c.find.result c.in_default.not-Some))

pub returns : goal.returns
returns c =
    sym (marked_found (map site_of c.args.places.now) c.args.marks.now (site_of c.args.place) c.in-Some.at c.requires.ascends (c.requires.count ∙ sym (length-map c.args.places.now site_of)) (sym c.in-Some.ensures))
