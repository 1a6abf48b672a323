use Rattle.std.proofs.Common.{◌≡◌, ◌∙◌, ◌++◌, ◌∷◌, [], map, ap, false}
use Rattle.std.specs.Prelude.{if◌then◌else◌}
use Rattle.symbols.specs.declared.place.Place.TheVariants as names
use Rattle.layout.specs.Slots.{is_among}
use Rattle.relocs.specs.Places.{Stub}
use Rattle.relocs.specs.Pairs.{named_by, import_stub, is_import}
use Rattle.std.specs.List.{list_any}
use Rattle.lift_blocks.specs.Kept.{site_of}
use Rattle.lift_blocks.specs.CodeList.{test_of}
use Rattle.lift_blocks.proofs.Walks.{list_more, none_yet}
use Rattle.lift_blocks.proofs.Naming.{import_named}
use Rattle.lift_blocks.proofs.stubs.add_imports.Goals as goal

pub loop-number-init : goal.loop-number-init
loop-number-init g c = none_yet (import_stub g.given) (map site_of c.args.places.now.items)

pub loop-number-preserved : goal.loop-number-preserved
loop-number-preserved g c =
    let i = c.loop-number.number in
    let is : c.has.result ≡ list_any (is_import i) (named_by (test_of false) g.given) = c.has.ensures ∙ ap (λ l. is_among l (names.Import i)) c.requires ∙ import_named i (named_by (test_of false) g.given) in
    list_more (import_stub g.given) (map site_of c.args.places.now.items) (map site_of c.loop-number.places.items) (map site_of c.push_stub.new.places.items) i c.loop-number.invariant
    (c.in_ok-push_stub.ensures ∙ ap (λ b. map site_of c.loop-number.places.items ++ (if b then Stub i 0 ∷ Stub i 1 ∷ [] else [])) is)
