use Rattle.std.proofs.Common.{◌≡◌, sym, ap, ◌∙◌, subst, length, arith}
use Rattle.std.proofs.lemmas.List.{length-map}
use Rattle.relocs.specs.Pairs.{all_places}
use Rattle.lift_blocks.specs.Kept.{site_of, operation_of}
use Rattle.lift_blocks.specs.Listed.{can_go_on}
use Rattle.lift_blocks.specs.Rank.{Ascends}
use Rattle.lift_blocks.proofs.Successor.{next_within, next_is_marked, none_is_marked}
use Rattle.lift_blocks.proofs.listing.mark_next.Goals as goal

pub bounds-marks-at : goal.bounds-marks-at
bounds-marks-at g c =
    let within = next_within g.given c.args.at (can_go_on (operation_of c.args.op)) c.requires.1.1.0 c.requires.1.1.1 (sym c.can_go_on.ensures ∙ c.if-can_go_on.true) in
    omega (arith, within, c.requires.1.0, ap length c.requires.0.are, length-map c.args._places.now site_of)

pub returns-then-can_go_on : goal.returns-then-can_go_on
returns-then-can_go_on g c =
    let ascend = subst Ascends c.requires.0.are c.requires.0.ascend in
    let count : length c.args.marks.now ≡ length (all_places g.given) = c.requires.1.0 ∙ sym (length-map c.args._places.now site_of) ∙ ap length c.requires.0.are in
    next_is_marked g.given c.args.marks.now c.args.at (can_go_on (operation_of c.args.op)) ascend count c.requires.1.1.0 c.requires.1.1.1 (sym c.can_go_on.ensures ∙ c.if-can_go_on.true)

pub returns-else-can_go_on : goal.returns-else-can_go_on
returns-else-can_go_on g c = none_is_marked g.given c.args.marks.now c.args.at (can_go_on (operation_of c.args.op)) c.requires.1.1.1 (sym c.can_go_on.ensures ∙ c.if-can_go_on.false)
