-- Where names have no fault, each entry is code.
use Rattle.std.proofs.Common.{◌≡◌, ℕ, ◌+◌, ◌<◌, Bool, true, false, List, [], ◌∷◌, ◌++◌, length, map, refl, sym, ap, ◌∙◌, arith}
use Rattle.std.specs.Prelude.{not, ◌&&◌}
use Rattle.std.specs.List.{range_with_len}
use Rattle.std.proofs.lemmas.List.{map-append}
use Rattle.std.proofs.lemmas.List.FromFn.{map-range_with_len_more}
use Rattle.faults.specs.Present.{broken, each_below}
use Rattle.faults.proofs.Absent.{none-left, none-right, none-broken, none-each}
use Rattle.symbols.specs.declared.place.Place.{Place}
use Rattle.symbols.specs.declared.place.Place.TheVariants as names
use Rattle.symbols.specs.declared.fault.TheConstants.{ENTRY_MISSING, ENTRY_NOT_CODE}
use Rattle.symbols.specs.Faults.{has_entry, may_be_entry, entry_fault, faults_of_object, faults_of_entry, symbol_faults}
use Rattle.symbols.specs.Resolution.{entry_place}
use Rattle.symbols.specs.Wanted.{Given}
use Rattle.relocs.specs.CodeMap.{place_of}
use Rattle.lift_blocks.specs.declared.site.Site.{Site}
use Rattle.lift_blocks.specs.Kept.{site_of}
use Rattle.lift_blocks.specs.Known.{IsCodePlace}

both_hold : (a b : Bool) → not a ≡ false → (a && not b) ≡ false → b ≡ true
both_hold true true e f = refl
both_hold true false e f = absurd cc
both_hold false b e f = absurd cc

code_place : (given : Given) (place : Place) → may_be_entry given place ≡ true → IsCodePlace place
code_place given (names.Code o s offset) e = tt
code_place given (names.Bytes o s offset) e = absurd cc
code_place given names.Unloaded e = absurd cc
code_place given (names.Import i) e = absurd cc
code_place given (names.Number n) e = absurd cc
code_place given names.Absent e = absurd cc

pub entry_is_code : (given : Given) (at : ℕ) → symbol_faults given ≡ [] → at < length given.wanted.entries → IsCodePlace (entry_place given at)
unfolding symbol_faults
entry_is_code given at none lt =
    let entries = none-right (each_below (length given.objects) (faults_of_object given)) (each_below (length given.wanted.entries) (faults_of_entry given)) none in
    let here = none-each (length given.wanted.entries) at (faults_of_entry given) entries lt in
    let first = broken (not (has_entry given at)) (entry_fault ENTRY_MISSING at) in
    let second = broken (has_entry given at && not (may_be_entry given (entry_place given at))) (entry_fault ENTRY_NOT_CODE at) in
    let a = none-broken (not (has_entry given at)) _ (none-left first second here) in
    let b = none-broken (has_entry given at && not (may_be_entry given (entry_place given at))) _ (none-right first second here) in
    code_place given (entry_place given at) (both_hold (has_entry given at) (may_be_entry given (entry_place given at)) a b)

-- one entry more
pub sites_next :
    (given : Given) (n : ℕ) (now new : List Site) (site : Site) → map site_of now ≡ map (λ at. place_of (entry_place given at)) (range_with_len 0 n) → new ≡ now ++ site ∷ [] → site_of site ≡ place_of (entry_place given n)
    → map site_of new ≡ map (λ at. place_of (entry_place given at)) (range_with_len 0 (n + 1))
sites_next given n now new site was is there =
    ap (map site_of) is ∙ map-append site_of now (site ∷ []) ∙ ap (λ l. l ++ site_of site ∷ []) was ∙ ap (λ p. map (λ at. place_of (entry_place given at)) (range_with_len 0 n) ++ p ∷ []) there
    ∙ sym (map-range_with_len_more (λ at. place_of (entry_place given at)) 0 n n (omega arith))
