use Rattle.std.proofs.Common.{◌≡◌, ◌∙◌, length, map, sym, ap, arith}
use Rattle.std.proofs.lemmas.List.{length-map}
use Rattle.std.proofs.lemmas.List.FromFn.{length-map-range_with_len}
use Rattle.symbols.specs.Resolution.{entry_place}
use Rattle.symbols.specs.Wanted.{Wanted}
use Rattle.relocs.specs.AddressMap.{named_places}
use Rattle.relocs.specs.CodeMap.{place_of}
use Rattle.relocs.specs.Places.{has}
use Rattle.lift_blocks.specs.Kept.{site_of}
use Rattle.lift_blocks.proofs.lifting.Link.lift_places.Goals as goal

pub list-requires : goal.list-requires
list-requires g c =
    let places = c.requires.1.1 in
    let wanted = c.requires.0.wanted_is in
    let entries = c.in_ok-entries.entries.items in
    let entries_count : length entries ≡ length g.given.wanted.entries =
    sym (length-map entries site_of) ∙ ap length c.in_ok-entries.ensures ∙ length-map-range_with_len (λ at. place_of (entry_place g.given at)) 0 (length g.given.wanted.entries) in
    let count : c.entries.result ≡ length g.given.wanted.entries = c.entries.ensures.count ∙ ap (λ (w : Wanted). length w.entries) wanted in (
      c.requires.1.0,
      (
        places.all_are,
        (
          c.in_ok-ops.ensures.0,
          (
            places.named_are ∙ ap (map (has (named_places g.given))) places.all_are.are,
            (
              c.in_ok-entries.ensures,
              (
                places.few,
                (omega (arith, entries_count, count, c.entries.ensures.few), (c.in_ok-map.ensures, c.imports.ensures ∙ ap (λ (w : Wanted). length w.imports) wanted)),
              ),
            ),
          ),
        ),
      ),
    )
