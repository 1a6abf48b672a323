-- The list of blocks can be placed.
use Rattle.std.proofs.Common.{◌≡◌, ℕ, ◌<◌, true, List, [], ◌∷◌, ◌++◌, length, map, Option, Some, None, refl, sym, ap, ◌∙◌, subst}
use Rattle.std.specs.Prelude.{slice_get}
use Rattle.std.specs.List.{AllByRecursion}
use Rattle.std.specs.Option.{option_map}
use Rattle.std.proofs.lemmas.Option.{slice_get_within}
use Rattle.runs.specs.Joined.{joined}
use Rattle.runs.specs.Blocks.{blocks, block_of}
use Rattle.lift_blocks.specs.Operations.{Operation}
use Rattle.lift_blocks.specs.Listed.{Lifted}
use Rattle.pvm_ops.specs.declared.instr.Instr.{Instr}
use Rattle.pvm_ops.specs.BlockList.{Block}
use Rattle.jump_table.specs.Assembly.{instrs_of}
use Rattle.blob_check.specs.Starts.{is_terminator}
use Rattle.jump_table.specs.Laws.{IsPlaceable, IsBlock}
use Rattle.lower.specs.Lowering.{last_offset_target, block_instrs, lower_block, lowered_blocks}
use Rattle.lower.specs.Laws.{IsPlacedBlock, LoweredIsPlaceable}
use Rattle.lower.proofs.Lists.{all_at, all_append, from_map}
use Rattle.lower.proofs.Well.{IsWellBlock, blocks_are_well, all_fit, last_is_below}
use Rattle.lower.proofs.Blocks.{blocks_are_placeable}
use Rattle.lower.proofs.Begin.{blocks_are_there}

-- each instruction of the blocks can be placed
all_placeable : (lifted : Lifted) (ws : List (List (Operation ℕ))) → AllByRecursion (IsWellBlock lifted) ws → AllByRecursion IsPlaceable (joined (map (λ b. b.instrs) (map (lower_block lifted.needed lifted.begins) ws)))
all_placeable lifted [] h = tt
all_placeable lifted (w ∷ ws) h = all_append IsPlaceable (block_instrs lifted.needed w) (joined (map (λ b. b.instrs) (map (lower_block lifted.needed lifted.begins) ws))) (blocks_are_placeable lifted.needed lifted.begins w (all_fit lifted w h.0.each) h.0.front h.0.some).placeable (all_placeable lifted ws h.1)

-- the last of a list is one
last_same : (f g : List Instr) (a b : Instr) → f ++ a ∷ [] ≡ g ++ b ∷ [] → a ≡ b
last_same [] [] a b e = cc
last_same [] (x ∷ []) a b e = absurd cc
last_same [] (x ∷ y ∷ g) a b e = absurd cc
last_same (x ∷ []) [] a b e = absurd cc
last_same (x ∷ y ∷ f) [] a b e = absurd cc
last_same (x ∷ f) (y ∷ g) a b e = last_same f g a b cc

-- the list can be placed, and each block is ended
pub lowered_is_placeable : LoweredIsPlaceable
lowered_is_placeable given lifted h = (record { instrs = instrs; blocks = each; targets = targets; entries = entries; needed = needed }, ended)
  where
    all : List (List (Operation ℕ))
    all = blocks lifted.begins lifted.ops

    bs : List Block
    bs = map (lower_block lifted.needed lifted.begins) (blocks lifted.begins lifted.ops)

    instrs : (number : ℕ) (i : Instr) → slice_get (instrs_of (lowered_blocks lifted)) number ≡ Some i → IsPlaceable i
    instrs number i e = all_at IsPlaceable (instrs_of (lowered_blocks lifted)) number i (all_placeable lifted (blocks lifted.begins lifted.ops) (blocks_are_well given lifted h)) e

    well : (block : ℕ) (b : Block) → slice_get bs block ≡ Some b → (ops : List (Operation ℕ)) × (lower_block lifted.needed lifted.begins ops ≡ b) × IsWellBlock lifted ops
    well block b e =
        let from = from_map (lower_block lifted.needed lifted.begins) all block b e in
        (from.x, from.is, all_at (IsWellBlock lifted) all block from.x (blocks_are_well given lifted h) from.there)

    own : (ops : List (Operation ℕ)) → IsWellBlock lifted ops → IsPlacedBlock (block_instrs lifted.needed ops) (option_map (block_of lifted.begins) (last_offset_target lifted.needed ops))
    own ops w = blocks_are_placeable lifted.needed lifted.begins ops (all_fit lifted ops w.each) w.front w.some

    each : (block : ℕ) (b : Block) → slice_get bs block ≡ Some b → IsBlock b
    each block b e = let there = well block b e in subst (λ b. IsBlock b) there.1 (own there.0 there.2).block

    ended : (block : ℕ) (b : Block) (front : List Instr) (last : Instr) → slice_get bs block ≡ Some b → b.instrs ≡ front ++ last ∷ [] → is_terminator last.op ≡ true
    ended block b front last e f =
        let there = well block b e in
        let placed = own there.0 there.2 in
        let same : placed.block.last ≡ last = last_same placed.block.front front placed.block.last last (sym placed.block.is ∙ ap (λ b. b.instrs) there.1 ∙ f) in
        rw (← same) placed.terminator

    -- the block of an operation is one of them
    is_below : (t : ℕ) → t < length lifted.places → block_of lifted.begins t < length bs
    is_below t lt = let b = blocks_are_there given lifted h t lt in slice_get_within bs (block_of lifted.begins t) b.0 b.1

    of_some : (o : Option ℕ) (target : ℕ) → ((t : ℕ) → o ≡ Some t → t < length lifted.places) → option_map (block_of lifted.begins) o ≡ Some target → target < length bs
    of_some None target each e = absurd cc
    of_some (Some t) target each e = let same : block_of lifted.begins t ≡ target = cc in rw (← same) (is_below t (each t refl))

    targets : (block target : ℕ) (b : Block) → slice_get bs block ≡ Some b → b.target ≡ Some target → target < length bs
    targets block target b e f =
        let there = well block b e in
        of_some (last_offset_target lifted.needed there.0) target (λ t g. last_is_below lifted there.0 t there.2.each g) (ap (λ b. b.target) there.1 ∙ f)

    entries : (entry block : ℕ) → slice_get (map (block_of lifted.begins) lifted.entries) entry ≡ Some block → block < length bs
    entries entry block e =
        let from = from_map (block_of lifted.begins) lifted.entries entry block e in
        rw (← from.is) (is_below from.x (h.entries_exist entry from.x from.there))

    needed : (place block : ℕ) → slice_get (map (block_of lifted.begins) lifted.needed) place ≡ Some block → block < length bs
    needed place block e =
        let from = from_map (block_of lifted.begins) lifted.needed place block e in
        rw (← from.is) (is_below from.x (h.needed_exist place from.x from.there))
