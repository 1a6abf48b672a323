-- The numbers of links are small.
use Rattle.std.proofs.Common.{◌≡◌, ℕ, ◌<◌, ◌≤◌, ◌^◌, List, length, Option, Some, None, refl, arith}
use Rattle.std.specs.List.{position}
use Rattle.std.specs.Option.{option_map, unwrap_or}
use Rattle.std.proofs.lemmas.List.Quantifiers.{position-Some}
use Rattle.relocs.specs.Places.{CodePlace, Nowhere, same_place}
use Rattle.relocs.specs.AddressMap.{number_at, map_number}

-- so they have 31 bits
pub number_small : (needed : List CodePlace) (p : CodePlace) → length needed ≤ 2 ^ 28 → map_number needed p < 2 ^ 31
number_small needed p few = by_position (position (same_place p) needed) refl
  where
    by_position : (at : Option ℕ) → position (same_place p) needed ≡ at → unwrap_or (option_map number_at at) 0 < 2 ^ 31
    by_position None e = omega arith
    by_position (Some i) e =
        let within = (position-Some (same_place p) needed i Nowhere e).0 in
        omega (arith, within, few)

pub ruleset link_rules = (number_small)
