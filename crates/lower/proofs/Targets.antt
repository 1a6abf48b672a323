-- The target of an operation of a lifted list begins a block.
use Rattle.std.proofs.Common.{◌≡◌, ℕ, ◌++◌, Some, sym, ap, ◌∙◌, arith}
use Rattle.std.specs.Prelude.{slice_get}
use Rattle.std.specs.Option.{option_map}
use Rattle.std.specs.List.{filter_map}
use Rattle.std.proofs.lemmas.Option.{slice_get_within}
use Rattle.runs.specs.Blocks.{block_of}
use Rattle.runs.specs.Segments.{op_place}
use Rattle.symbols.specs.Wanted.{Given}
use Rattle.relocs.specs.Pairs.{all_places}
use Rattle.relocs.specs.AddressMap.{needed_places}
use Rattle.lift_blocks.specs.Operations.{Operation}
use Rattle.lift_blocks.specs.Listed.{Lifted, IsLifted, entry_places, target_of, target_in, target_at, is_emitted, code_places, place}
use Rattle.lift_blocks.proofs.Named.{target_renamed}
use Rattle.lift_blocks.proofs.Order.{has_given, filter_member}
use Rattle.lower.proofs.Lists.{is_listed}
use Rattle.lower.specs.Cutting.{segments, first_segment}
use Rattle.lower.proofs.Begin.{has_prefix, has_back, number_begins}

pub target_begins : (given : Given) (lifted : Lifted) → IsLifted given lifted → (q t : ℕ) (op : Operation ℕ) → slice_get lifted.ops q ≡ Some op → target_of op ≡ Some t → op_place (segments lifted) (first_segment lifted (block_of lifted.begins t)) ≡ t
unfolding code_places
target_begins given lifted h q t op e f =
    let p = place lifted.places q in
    let c = h.count in
    let within = slice_get_within lifted.ops q op e in
    let there : slice_get lifted.places q ≡ Some p = is_listed lifted.places q (omega arith) in
    let among = filter_member (is_emitted given) (all_places given) q p (ap (λ ps. slice_get ps q) (sym h.places_are) ∙ there) in
    let target : target_at given p ≡ Some (place lifted.places t) = ap target_in (h.ops_are q op e) ∙ target_renamed (place lifted.places) op ∙ ap (option_map (place lifted.places)) f in
    let targets = filter_map (target_at given) (all_places given) in
    let has_it = has_given (target_at given) (all_places given) among.0 p (place lifted.places t) among.1 target in
    number_begins given lifted h t (h.targets_exist q t op e f)
    (has_prefix (entry_places given ++ targets) (needed_places given) (place lifted.places t)
    (has_back (entry_places given) targets (place lifted.places t) has_it))
