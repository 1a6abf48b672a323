-- The operations at all places, and those that are listed in code order.
use Rattle.std.specs.Prelude.{◌≡◌, ℕ, ◌<◌, ◌≤◌, ◌^◌, List, [], ◌∷◌, length, map, Some, Bool, true, false, ◌||◌}
use Rattle.std.specs.List.{AllByRecursion}
use Rattle.symbols.specs.Wanted.{Given}
use Rattle.relocs.specs.Places.{CodePlace}
use Rattle.lift_blocks.specs.declared.source_op.SourceOp.{SourceOp}
use Rattle.lift_blocks.specs.Operations.{Operation, Branch, Jal, Pair, rename, operation_at}
use Rattle.lift_blocks.specs.Fits.{FitsInstructions}
use Rattle.lift_blocks.specs.Kept.{operation_of}
use Rattle.lift_blocks.specs.Listed.{ends_block, target_of, place}
use Rattle.lift_blocks.specs.Rank.{Ascends}

-- a number names a place of the list
pub record IsNumberOf (places : List CodePlace) (p : CodePlace) (number : ℕ) : Type 0 where
  pub is : place places number ≡ p
  pub exists : number < length places

-- it names a target
abbrev pub has_target : {Target : Type 0} → Operation Target → Bool
has_target (Branch cond rs1 rs2 target) = true
has_target (Jal rd link target) = true
has_target (Pair temp rd link target) = true
has_target op = false

-- its target, if it has one, is below a count
abbrev pub HasTargetIn : ℕ → Operation ℕ → Type 0
HasTargetIn count op = (t : ℕ) → target_of op ≡ Some t → t < count

-- an operation with numbers of places of the list as targets
pub record IsNumbered (places : List CodePlace) (op : Operation CodePlace) (numbered : Operation ℕ) : Type 0 where
  pub is : rename (place places) numbered ≡ op
  pub fits : FitsInstructions numbered
  pub target : HasTargetIn (length places) numbered

-- operations, with the places that the numbers of their targets name
abbrev pub at_places : List CodePlace → List SourceOp → List (Operation CodePlace)
at_places places ops = map (rename (place places)) (map operation_of ops)

-- their targets, if they have some, are below a count
abbrev pub HaveTargetsIn : ℕ → List SourceOp → Type 0
HaveTargetsIn count ops = AllByRecursion (HasTargetIn count) (map operation_of ops)

-- they are the operations at these places, with numbers of places of a list as targets, and instructions can hold them
pub record AreOperations (given : Given) (places these : List CodePlace) (ops : List SourceOp) : Type 0 where
  pub are : map (operation_at given) these ≡ map (λ (op : Operation CodePlace). Some op) (at_places places ops)
  pub fit : AllByRecursion FitsInstructions (map operation_of ops)
  pub targets : HaveTargetsIn (length places) ops

-- which operations begin a block: those that something leads to, and those after the end of one
abbrev pub begins_from : {Target : Type 0} → Bool → List Bool → List (Operation Target) → List Bool
begins_from ended [] ops = []
begins_from ended (b ∷ bs) [] = []
begins_from ended (b ∷ bs) (op ∷ ops) = (ended || b) ∷ begins_from (ends_block op) bs ops

-- few places in code order, whose indices are the numbers of operations
pub record AreListed (places : List CodePlace) : Type 0 where
  pub ascend : Ascends places
  pub few : length places ≤ 2 ^ 28

-- numbers name these places of the list
pub record AreNumbersOf (places these : List CodePlace) (numbers : List ℕ) : Type 0 where
  pub are : map (place places) numbers ≡ these
  pub exist : AllByRecursion (λ number. number < length places) numbers

-- operations with numbers of places of the list as targets
pub record AreNumbered (places : List CodePlace) (ops : List (Operation CodePlace)) (numbered : List (Operation ℕ)) : Type 0 where
  pub are : map (rename (place places)) numbered ≡ ops
  pub fit : AllByRecursion FitsInstructions numbered
  pub targets : AllByRecursion (HasTargetIn (length places)) numbered
