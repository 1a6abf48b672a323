-- The place after an operation to which the machine goes on is the next in code order.
use Rattle.std.proofs.Common.{◌≡◌, ℕ, ◌+◌, ◌<◌, Bool, true, false, List, [], length, Option, Some, None, sym, ap, ◌∙◌, add-one}
use Rattle.std.specs.Prelude.{slice_get}
use Rattle.std.proofs.Math.ListN.{set}
use Rattle.std.proofs.lemmas.Option.{slice_get-get_or, slice_get_within}
use Rattle.std.specs.List.{cons_option}
use Rattle.std.specs.Option.{option_map}
use Rattle.faults.specs.First.{where_true}
use Rattle.symbols.specs.Wanted.{Given}
use Rattle.relocs.specs.Pairs.{all_places, next_place}
use Rattle.relocs.specs.Places.{CodePlace, Nowhere}
use Rattle.lift_blocks.specs.Listed.{can_go_on, next_of, or_nowhere, place, successor_of}
use Rattle.lift_blocks.specs.Marks.{with_mark, with_marks}
use Rattle.lift_blocks.specs.Rank.{Ascends}
use Rattle.lift_blocks.specs.Operations.{Operation, operation_at}
use Rattle.lift_blocks.proofs.Marking.{marked_number}
use Rattle.lift_blocks.proofs.Order.{next_of_all}

pub successor_by : (given : Given) (p : CodePlace) (b : Bool) (o : Option (Operation CodePlace)) → option_map (λ (op : Operation CodePlace). can_go_on op) o ≡ Some b → next_of given p o ≡ where_true b (next_place given p)
successor_by given p b None e = absurd cc
successor_by given p b (Some op) e = (let goes : can_go_on op ≡ b = cc in ap (λ t. where_true t (next_place given p)) goes)

pub place_is_there : (places : List CodePlace) (n : ℕ) → n < length places → slice_get places n ≡ Some (place places n)
place_is_there places n lt = (let there = slice_get-get_or places n Nowhere lt in there ∙ ap Some (sym (ap or_nowhere there)))

-- where the machine goes on after the operation at an index, the next place is there
pub next_there :
    (given : Given) (at : ℕ) (b : Bool) → at < length (all_places given) → option_map (λ (op : Operation CodePlace). can_go_on op) (operation_at given (place (all_places given) at)) ≡ Some b → b ≡ true
    → slice_get (all_places given) (at + 1) ≡ successor_of given (place (all_places given) at)
next_there given at true within goes e =
    let p = place (all_places given) at in
    let successor : successor_of given p ≡ Some (next_place given p) = successor_by given p true (operation_at given p) goes in
    ap (slice_get (all_places given)) (add-one at) ∙ next_of_all given at p (next_place given p) (place_is_there (all_places given) at within) successor ∙ sym successor
next_there given at false within goes e = absurd cc

-- so a mark at the next index is the one there
pub next_marked :
    (given : Given) (marks : List Bool) (at : ℕ) (n : CodePlace) → Ascends (all_places given) → length marks ≡ length (all_places given) → slice_get (all_places given) (at + 1) ≡ Some n
    → set marks (at + 1) true ≡ with_mark (all_places given) marks n
next_marked given marks at n ascend count there =
    marked_number (all_places given) marks (at + 1) ascend count (slice_get_within (all_places given) (at + 1) n there) ∙ ap (with_mark (all_places given) marks) (ap or_nowhere there)

pub next_within :
    (given : Given) (at : ℕ) (b : Bool) → at < length (all_places given) → option_map (λ (op : Operation CodePlace). can_go_on op) (operation_at given (place (all_places given) at)) ≡ Some b → b ≡ true → at + 1 < length (all_places given)
next_within given at b within goes e =
    let p = place (all_places given) at in
    let successor : successor_of given p ≡ Some (next_place given p) = successor_by given p b (operation_at given p) goes ∙ ap (λ t. where_true t (next_place given p)) e in
    slice_get_within (all_places given) (at + 1) (next_place given p) (next_there given at b within goes e ∙ successor)

pub next_is_marked :
    (given : Given) (marks : List Bool) (at : ℕ) (b : Bool) → Ascends (all_places given) → length marks ≡ length (all_places given) → at < length (all_places given)
    → option_map (λ (op : Operation CodePlace). can_go_on op) (operation_at given (place (all_places given) at)) ≡ Some b → b ≡ true
    → set marks (at + 1) true ≡ with_marks (all_places given) marks (cons_option (successor_of given (place (all_places given) at)) [])
next_is_marked given marks at b ascend count within goes e =
    let p = place (all_places given) at in
    let successor : successor_of given p ≡ Some (next_place given p) = successor_by given p b (operation_at given p) goes ∙ ap (λ t. where_true t (next_place given p)) e in
    next_marked given marks at (next_place given p) ascend count (next_there given at b within goes e ∙ successor) ∙ ap (λ o. with_marks (all_places given) marks (cons_option o [])) (sym successor)

pub none_is_marked :
    (given : Given) (marks : List Bool) (at : ℕ) (b : Bool) → option_map (λ (op : Operation CodePlace). can_go_on op) (operation_at given (place (all_places given) at)) ≡ Some b → b ≡ false
    → marks ≡ with_marks (all_places given) marks (cons_option (successor_of given (place (all_places given) at)) [])
none_is_marked given marks at b goes e =
    let p = place (all_places given) at in
    let successor : successor_of given p ≡ None = successor_by given p b (operation_at given p) goes ∙ ap (λ t. where_true t (next_place given p)) e in
    ap (λ o. with_marks (all_places given) marks (cons_option o [])) (sym successor)
