-- The operations in code order, and where blocks begin.
use Rattle.std.specs.Prelude.{◌≡◌, ℕ, ◌<◌, List, [], ◌∷◌, ◌++◌, length, Option, Some, None, Bool, true, false, not, ◌||◌, nat_eq, nat_lt, map, slice_get, if◌then◌else◌}
use Rattle.std.specs.List.{filter, filter_map, range_with_len}
use Rattle.faults.specs.First.{where_true}
use Rattle.rv_decode.specs.declared.ops.RvOp.{RvOp}
use Rattle.rv_decode.specs.declared.ops.RvOp.TheVariants as rv
use Rattle.symbols.specs.declared.place.Place.{Place}
use Rattle.symbols.specs.declared.place.Place.TheVariants as names
use Rattle.symbols.specs.Wanted.{Given}
use Rattle.symbols.specs.Resolution.{entry_place}
use Rattle.relocs.specs.Places.{CodePlace, Code, Stub, Nowhere, code_at, has}
use Rattle.relocs.specs.Pairs.{all_places, next_place}
use Rattle.relocs.specs.CodeMap.{place_of}
use Rattle.relocs.specs.AddressMap.{needed_places}
use Rattle.relocs.specs.CodeFaults.{code_faults}
use Rattle.lift_blocks.specs.Operations.{Operation, Plain, Branch, Jal, Jalr, Pair, HostCall, Sbrk, rename, operation_at}
use Rattle.lift_blocks.specs.Fits.{FitsInstructions}

-- the places of the entries
abbrev pub entry_places : Given → List CodePlace
entry_places given = map (λ at. place_of (entry_place given at)) (range_with_len 0 (length given.wanted.entries))

-- whether the machine can go on to the place after an operation: not after a jump or a trap
abbrev pub plain_goes_on : RvOp → Bool
plain_goes_on rv.Trap = false
plain_goes_on op = true

abbrev pub can_go_on : {Target : Type 0} → Operation Target → Bool
can_go_on (Plain op) = plain_goes_on op
can_go_on (Branch cond rs1 rs2 target) = true
can_go_on (Jal rd link target) = false
can_go_on (Jalr rd rs1 imm link) = false
can_go_on (Pair temp rd link target) = false
can_go_on (HostCall number) = true
can_go_on Sbrk = true

-- whether a block ends with an operation: with a branch, a jump or a trap
abbrev pub ends_block : {Target : Type 0} → Operation Target → Bool
ends_block (Plain op) = not (plain_goes_on op)
ends_block (Branch cond rs1 rs2 target) = true
ends_block (Jal rd link target) = true
ends_block (Jalr rd rs1 imm link) = true
ends_block (Pair temp rd link target) = true
ends_block (HostCall number) = false
ends_block Sbrk = false

-- the target of an operation, where it names one
abbrev pub target_of : {Target : Type 0} → Operation Target → Option Target
target_of (Plain op) = None
target_of (Branch cond rs1 rs2 target) = Some target
target_of (Jal rd link target) = Some target
target_of (Jalr rd rs1 imm link) = None
target_of (Pair temp rd link target) = Some target
target_of (HostCall number) = None
target_of Sbrk = None

-- the place after an operation, where the machine can go on to it
abbrev pub next_of : Given → CodePlace → Option (Operation CodePlace) → Option CodePlace
next_of given p None = None
next_of given p (Some op) = where_true (can_go_on op) (next_place given p)

abbrev pub successor_of : Given → CodePlace → Option CodePlace
successor_of given p = next_of given p (operation_at given p)

-- the places that the operation before can go on to
abbrev pub successor_places : Given → List CodePlace
successor_places given = filter_map (successor_of given) (all_places given)

-- the target of the operation at a place
abbrev pub target_in : Option (Operation CodePlace) → Option CodePlace
target_in None = None
target_in (Some op) = target_of op

abbrev pub target_at : Given → CodePlace → Option CodePlace
target_at given p = target_in (operation_at given p)

-- the places that always begin a block: entries, targets and needed places
abbrev pub targeted_places : Given → List CodePlace
targeted_places given = entry_places given ++ filter_map (target_at given) (all_places given) ++ needed_places given

abbrev pub is_size : ℕ → Option (List ℕ) → Bool
is_size offset None = false
is_size offset (Some bytes) = nat_eq offset (length bytes)

-- the place is the end of a section
abbrev pub is_end : Given → CodePlace → Bool
is_end given (Code o s offset) = is_size offset (code_at given o s)
is_end given (Stub n at) = false
is_end given Nowhere = false

-- The end of a section has an operation, a trap, only where something leads to it.
abbrev pub is_emitted : Given → CodePlace → Bool
is_emitted given p = not (is_end given p) || has (successor_places given ++ targeted_places given) p

-- the places of the operations in code order
unfoldable pub code_places : Given → List CodePlace
code_places given = filter (is_emitted given) (all_places given)

-- whether a block ends at a place
abbrev pub ends_at : Option (Operation CodePlace) → Bool
ends_at None = true
ends_at (Some op) = ends_block op

-- which of these begin a block, where one ends before the first or doesn't
abbrev pub starts : Given → Bool → List CodePlace → List Bool
starts given ended [] = []
starts given ended (p ∷ ps) = (ended || has (targeted_places given) p) ∷ starts given (ends_at (operation_at given p)) ps

abbrev pub or_nowhere : Option CodePlace → CodePlace
or_nowhere None = Nowhere
or_nowhere (Some p) = p

-- the place of the operation with a number
abbrev pub place : List CodePlace → ℕ → CodePlace
place places q = or_nowhere (slice_get places q)

-- a place as callers see it: a stub is its import, and the trap stub is what is absent
abbrev pub shown : ℕ → CodePlace → Place
shown imports (Code o s offset) = names.Code o s offset
shown imports (Stub n at) = if nat_lt n imports then names.Import n else names.Absent
shown imports Nowhere = names.Absent

-- The operations in code order: their places, they themselves with numbers of operations as targets, which of them
-- begin a block, the operations of the entries and of the address map, that map, and the number of imports.
pub record Lifted : Type 0 where
  pub places : List CodePlace
  pub ops : List (Operation ℕ)
  pub begins : List Bool
  pub entries : List ℕ
  pub needed : List ℕ
  pub map : List CodePlace
  pub imports : ℕ

-- what they are for what a link is given
pub record IsLifted (given : Given) (lifted : Lifted) : Type 0 where
  pub places_are : lifted.places ≡ code_places given
  pub count : length lifted.ops ≡ length lifted.places
  pub ops_are : (q : ℕ) (op : Operation ℕ) → slice_get lifted.ops q ≡ Some op → operation_at given (place lifted.places q) ≡ Some (rename (place lifted.places) op)
  -- instructions can hold the registers, the immediates and the links
  pub ops_fit : (q : ℕ) (op : Operation ℕ) → slice_get lifted.ops q ≡ Some op → FitsInstructions op
  pub targets_exist : (q t : ℕ) (op : Operation ℕ) → slice_get lifted.ops q ≡ Some op → target_of op ≡ Some t → t < length lifted.places
  pub begins_are : lifted.begins ≡ starts given true lifted.places
  pub map_is : lifted.map ≡ needed_places given
  pub imports_are : lifted.imports ≡ length given.wanted.imports
  pub entries_are : map (place lifted.places) lifted.entries ≡ entry_places given
  pub entries_exist : (entry t : ℕ) → slice_get lifted.entries entry ≡ Some t → t < length lifted.places
  pub needed_are : map (place lifted.places) lifted.needed ≡ lifted.map
  pub needed_exist : (i t : ℕ) → slice_get lifted.needed i ≡ Some t → t < length lifted.places

-- they are those of code without a fault
pub record Lifts (given : Given) (lifted : Lifted) : Type 0 where
  pub is : IsLifted given lifted
  pub no_fault : code_faults given ≡ []
