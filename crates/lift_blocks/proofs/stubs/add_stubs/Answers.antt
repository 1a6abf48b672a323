use Rattle.std.proofs.Common.{◌≡◌, ◌∙◌, ◌++◌, ◌∷◌, [], ℕ, List, Bool, map, ap, true}
use Rattle.std.specs.Prelude.{if◌then◌else◌}
use Rattle.std.specs.List.{list_any}
use Rattle.faults.specs.Present.{each_below}
use Rattle.symbols.specs.declared.place.Place.TheVariants as names
use Rattle.symbols.specs.Wanted.{given_of}
use Rattle.layout.specs.Slots.{is_among}
use Rattle.relocs.specs.Places.{CodePlace, Stub}
use Rattle.relocs.specs.Pairs.{named_by, import_stub, is_absent}
use Rattle.lift_blocks.specs.Kept.{site_of}
use Rattle.lift_blocks.specs.CodeList.{test_of}
use Rattle.lift_blocks.proofs.Walks.{places_assoc}
use Rattle.lift_blocks.proofs.Naming.{absent_named}
use Rattle.lift_blocks.proofs.stubs.add_stubs.Goals as goal

-- the trap stub, where there is one, by its number
abbrev trap_if : Bool → ℕ → List CodePlace
trap_if b n = if b then Stub n 0 ∷ [] else []

pub returns : goal.returns
returns g c =
    let absent : Bool = list_any is_absent (named_by (test_of true) (given_of c.args.objects.now g.wanted)) in
    let old : List CodePlace = map site_of c.args.places.now.items in
    let stubs : List CodePlace = each_below c.args.imports (import_stub (given_of c.args.objects.now g.wanted)) in
    let is : c.has.result ≡ absent = c.has.ensures ∙ ap (λ l. is_among l names.Absent) c.requires.1.0 ∙ absent_named (named_by (test_of true) (given_of c.args.objects.now g.wanted)) in
    c.in_ok-push_trap.ensures ∙ ap (λ b. map site_of c.add_imports.new.places.items ++ trap_if b c.args.imports) is ∙ ap (λ l. l ++ trap_if absent c.args.imports) c.in_ok-add_imports.ensures
    ∙ places_assoc old stubs (trap_if absent c.args.imports) ∙ ap (λ k. old ++ (each_below k (import_stub (given_of c.args.objects.now g.wanted)) ++ trap_if absent k)) c.requires.1.1
