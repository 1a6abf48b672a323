-- The blocks are all operations, and each entry and each place of the address map begins one.
use Rattle.std.proofs.Common.{◌≡◌, ℕ, zero, suc, ◌<◌, Bool, true, false, List, [], ◌∷◌, ◌++◌, length, map, get_or, Some, refl, sym, ap, ◌∙◌, arith}
use Rattle.std.specs.Prelude.{slice_get, ◌||◌, option_map}
use Rattle.std.specs.List.{filter_map}
use Rattle.std.proofs.lemmas.List.Folds.{list_any-append}
use Rattle.std.proofs.lemmas.Option.{slice_get-map, slice_get-get_or}
use Rattle.runs.specs.Joined.{joined, position}
use Rattle.runs.specs.Blocks.{blocks, block_of}
use Rattle.runs.specs.Segments.{op_place, all_ops}
use Rattle.runs.specs.Groups.{parts}
use Rattle.runs.proofs.Groups.{joined_parts, segments_ops, group_ops, group_op_place}
use Rattle.runs.proofs.Blocks.{blocks_joined, block_begins, block_is_there}
use Rattle.symbols.specs.Wanted.{Given}
use Rattle.relocs.specs.Places.{CodePlace, same_place, has}
use Rattle.relocs.specs.Pairs.{all_places}
use Rattle.relocs.specs.AddressMap.{needed_places}
use Rattle.lift_blocks.specs.Operations.{Operation, operation_at}
use Rattle.lift_blocks.specs.Listed.{Lifted, IsLifted, entry_places, target_at, targeted_places, ends_at, starts, place}
use Rattle.lift_blocks.proofs.Order.{place_self}
use Rattle.lower.proofs.Lists.{is_listed}
use Rattle.lower.specs.Cutting.{block_segments, groups, segments, first_segment}
use Rattle.lower.specs.Lowering.{is_call, lower_block}
use Rattle.lower.specs.Laws.{BlocksAreAll, EntriesBegin, BlocksAreThere}

-- the pieces of blocks have their operations
pub groups_ops : (needed : List ℕ) (ws : List (List (Operation ℕ))) → map all_ops (map (block_segments needed) ws) ≡ ws
groups_ops needed [] = refl
groups_ops needed (w ∷ ws) = ap (λ l. l ∷ map all_ops (map (block_segments needed) ws)) (segments_ops _ _ (parts is_call w) ∙ joined_parts is_call w) ∙ ap (λ l. w ∷ l) (groups_ops needed ws)

-- a mark for each place
length-starts : (given : Given) (ended : Bool) (ps : List CodePlace) → length (starts given ended ps) ≡ length ps
length-starts given ended [] = refl
length-starts given ended (p ∷ ps) = ap suc (length-starts given (ends_at (operation_at given p)) ps)

-- a mark for each operation
pub marks_count : (given : Given) (lifted : Lifted) → IsLifted given lifted → length lifted.begins ≡ length lifted.ops
marks_count given lifted h = ap length h.begins_are ∙ length-starts given true lifted.places ∙ sym h.count

-- the blocks together are the operations
pub blocks_are_all : BlocksAreAll
blocks_are_all given lifted h = group_ops (groups lifted) ∙ ap joined (groups_ops lifted.needed (blocks lifted.begins lifted.ops)) ∙ blocks_joined lifted.begins lifted.ops (marks_count given lifted h)

-- a test or true
or_true : (b : Bool) → (b || true) ≡ true
or_true true = refl
or_true false = refl

-- an element at an index of a list is in the list
has_there : (ps : List CodePlace) (k : ℕ) (p : CodePlace) → slice_get ps k ≡ Some p → has ps p ≡ true
has_there [] k p e = absurd cc
has_there (q ∷ ps) zero p e =
    let same : q ≡ p = cc in
    rw (same, place_self p) refl
has_there (q ∷ ps) (suc k) p e = rw (has_there ps k p e) (or_true (same_place p q))

-- an element of a list is in its concatenation with another
pub has_prefix : (ps qs : List CodePlace) (p : CodePlace) → has ps p ≡ true → has (ps ++ qs) p ≡ true
has_prefix ps qs p h = rw (list_any-append (same_place p) ps qs, h) refl

-- or before
pub has_back : (ps qs : List CodePlace) (p : CodePlace) → has qs p ≡ true → has (ps ++ qs) p ≡ true
has_back ps qs p h = rw (list_any-append (same_place p) ps qs, h) (or_true (has ps p))

-- an aimed place begins a block
starts_at : (given : Given) (ended : Bool) (ps : List CodePlace) (t : ℕ) (p : CodePlace) → slice_get ps t ≡ Some p → has (targeted_places given) p ≡ true → get_or (starts given ended ps) t false ≡ true
starts_at given ended [] t p e h = absurd cc
starts_at given ended (q ∷ ps) zero p e h =
    let same : q ≡ p = cc in
    rw (same, h) (or_true ended)
starts_at given ended (q ∷ ps) (suc t) p e h = starts_at given (ends_at (operation_at given q)) ps t p e h

-- so the block of an aimed place begins with its operation
begins_at : (given : Given) (lifted : Lifted) → IsLifted given lifted → (t : ℕ) (p : CodePlace) → slice_get lifted.places t ≡ Some p → has (targeted_places given) p ≡ true → op_place (segments lifted) (first_segment lifted (block_of lifted.begins t)) ≡ t
begins_at given lifted h t p e targeted =
    let mark : get_or lifted.begins t false ≡ true = ap (λ bs. get_or bs t false) h.begins_are ∙ starts_at given true lifted.places t p e targeted in
    group_op_place (groups lifted) (block_of lifted.begins t) ∙ ap (λ ws. position ws (block_of lifted.begins t)) (groups_ops lifted.needed (blocks lifted.begins lifted.ops)) ∙ block_begins lifted.begins lifted.ops t (marks_count given lifted h) mark

-- the places of numbers, where their list is known
place_there : (places these : List CodePlace) (numbers : List ℕ) (k t : ℕ) → map (place places) numbers ≡ these → slice_get numbers k ≡ Some t → slice_get these k ≡ Some (place places t)
place_there places these numbers k t e at = ap (λ l. slice_get l k) (sym e) ∙ slice_get-map (place places) numbers k ∙ ap (option_map (place places)) at

-- a number whose place is aimed at begins a block
pub number_begins : (given : Given) (lifted : Lifted) → IsLifted given lifted → (t : ℕ) → t < length lifted.places → has (targeted_places given) (place lifted.places t) ≡ true → op_place (segments lifted) (first_segment lifted (block_of lifted.begins t)) ≡ t
number_begins given lifted h t is_below targeted =
    begins_at given lifted h t (place lifted.places t) (is_listed lifted.places t is_below) targeted

-- the places that jumps and branches lead to
abbrev targets : Given → List CodePlace
targets given = filter_map (target_at given) (all_places given)

-- an entry begins a block
pub entries_begin : EntriesBegin
entries_begin given lifted h entry t e =
    let p = place lifted.places t in
    let named = has_there (entry_places given) entry p (place_there lifted.places (entry_places given) lifted.entries entry t h.entries_are e) in
    number_begins given lifted h t (h.entries_exist entry t e) (has_prefix (entry_places given ++ targets given) (needed_places given) p (has_prefix (entry_places given) (targets given) p named))

-- a place of the address map begins a block
pub needed_begin : (given : Given) (lifted : Lifted) → IsLifted given lifted → (i t : ℕ) → slice_get lifted.needed i ≡ Some t → op_place (segments lifted) (first_segment lifted (block_of lifted.begins t)) ≡ t
needed_begin given lifted h i t e =
    let p = place lifted.places t in
    let named = has_there (needed_places given) i p (place_there lifted.places (needed_places given) lifted.needed i t (h.needed_are ∙ h.map_is) e) in
    number_begins given lifted h t (h.needed_exist i t e) (has_back (entry_places given ++ targets given) (needed_places given) p named)

-- each operation is in a block of the list
pub blocks_are_there : BlocksAreThere
blocks_are_there given lifted h t lt =
    let all = blocks lifted.begins lifted.ops in
    let k = block_of lifted.begins t in
    let c = h.count in
    let is_below : k < length all = block_is_there lifted.begins lifted.ops t (marks_count given lifted h) (omega arith) in
    let b = get_or all k [] in
    (lower_block lifted.needed lifted.begins b, slice_get-map (lower_block lifted.needed lifted.begins) all k ∙ ap (option_map (lower_block lifted.needed lifted.begins)) (slice_get-get_or all k [] is_below))
