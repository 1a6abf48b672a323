-- The pieces and the list of blocks have the same instructions, with the same targets, in the same places.
use Rattle.std.proofs.Common.{◌≡◌, ℕ, zero, suc, ◌+◌, Bool, List, [], ◌∷◌, ◌++◌, length, map, Option, refl, sym, ap, ◌∙◌, append_assoc}
use Rattle.std.specs.Option.{option_map}
use Rattle.std.proofs.lemmas.List.{map-append, length-map}
use Rattle.runs.specs.Joined.{joined, position}
use Rattle.runs.specs.Blocks.{blocks, block_of}
use Rattle.runs.specs.Segments.{lowered, all_instrs}
use Rattle.runs.specs.Groups.{parts}
use Rattle.runs.proofs.Groups.{segments_instrs, group_instrs, group_instr_place}
use Rattle.lift_blocks.specs.Operations.{Operation}
use Rattle.pvm_ops.specs.declared.instr.Instr.{Instr}
use Rattle.jump_table.specs.Assembly.{Member, members, groups as member_groups}
use Rattle.lower.specs.Constants.{runs}
use Rattle.lower.specs.Lowering.{tail_of, last_offset_target, is_call, run_instrs, part_instrs, block_instrs, lower_block}
use Rattle.lower.specs.Cutting.{Targeted, targeted, block_segments, groups}
use Rattle.lower.specs.Laws.{InBlock, SameInstrs, SamePlaces}
use Rattle.lower.proofs.Cuts.{runs_by_parts}

-- the instructions of parts, one after another
pub lowered_append : {Part Instr : Type 0} (lower : Part → List Instr) (a b : List Part) → lowered lower (a ++ b) ≡ lowered lower a ++ lowered lower b
lowered_append lower [] b = refl
lowered_append lower (op ∷ a) b = ap (λ l. lower op ++ l) (lowered_append lower a b) ∙ sym (append_assoc (lower op) (lowered lower a) (lowered lower b))

-- two lists with one target
pub targeted_append : (target : Option ℕ) (is js : List Instr) → targeted target (is ++ js) ≡ targeted target is ++ targeted target js
targeted_append target is js = map-append (λ i. record { instr = i; target = target }) is js

-- as many
pub targeted_length : (target : Option ℕ) (is : List Instr) → length (targeted target is) ≡ length is
targeted_length target is = length-map is (λ i. record { instr = i; target = target })

module _ (needed : List ℕ) where
  -- those of the parts between calls are those of all
  parts_instrs : (ws : List (List (Operation ℕ))) → joined (map (part_instrs needed) ws) ≡ lowered (run_instrs needed) (joined (map runs ws))
  parts_instrs [] = refl
  parts_instrs (w ∷ ws) = ap (λ l. part_instrs needed w ++ l) (parts_instrs ws) ∙ sym (lowered_append (run_instrs needed) (runs w) (joined (map runs ws)))

  parts_are : (ops : List (Operation ℕ)) → joined (map (part_instrs needed) (parts is_call ops)) ≡ part_instrs needed ops
  parts_are ops = parts_instrs (parts is_call ops) ∙ ap (lowered (run_instrs needed)) (sym (runs_by_parts ops))

  -- many lists
  targeted_joined : (target : Option ℕ) (ws : List (List (Operation ℕ))) → joined (map (λ part. targeted target (part_instrs needed part)) ws) ≡ targeted target (joined (map (part_instrs needed) ws))
  targeted_joined target [] = refl
  targeted_joined target (w ∷ ws) = ap (λ l. targeted target (part_instrs needed w) ++ l) (targeted_joined target ws) ∙ sym (targeted_append target (part_instrs needed w) (joined (map (part_instrs needed) ws)))

  -- the pieces of a block have its instructions
  same_block : (ops : List (Operation ℕ)) → all_instrs (block_segments needed ops) ≡ targeted (last_offset_target needed ops) (block_instrs needed ops)
  same_block ops =
      segments_instrs _ _ (parts is_call ops)
      ∙ ap (λ l. l ++ targeted (last_offset_target needed ops) (tail_of ops)) (targeted_joined (last_offset_target needed ops) (parts is_call ops) ∙ ap (targeted (last_offset_target needed ops)) (parts_are ops))
      ∙ sym (targeted_append (last_offset_target needed ops) (part_instrs needed ops) (tail_of ops))

  same_length : (ops : List (Operation ℕ)) → length (all_instrs (block_segments needed ops)) ≡ length (block_instrs needed ops)
  same_length ops = ap length (same_block ops) ∙ targeted_length (last_offset_target needed ops) (block_instrs needed ops)

  module _ (begins : List Bool) where
    abbrev of_targeted : List Targeted → List InBlock
    of_targeted is = map (λ i. record { instr = i.instr; target = option_map (block_of begins) i.target }) is

    abbrev of_members : List Member → List InBlock
    of_members ms = map (λ m. record { instr = m.instr; target = m.target }) ms

    -- one list of instructions
    same_list : (len : ℕ) (target : Option ℕ) (is : List Instr) → of_targeted (targeted target is) ≡ of_members (map (λ i. record { instr = i; len = len; target = option_map (block_of begins) target }) is)
    same_list len target [] = refl
    same_list len target (i ∷ is) = ap (λ l. record { instr = i; target = option_map (block_of begins) target } ∷ l) (same_list len target is)

    same_members : (len : ℕ) (ops : List (Operation ℕ)) → of_targeted (all_instrs (block_segments needed ops)) ≡ of_members (members len (lower_block needed begins ops))
    same_members len ops = ap of_targeted (same_block ops) ∙ same_list len (last_offset_target needed ops) (block_instrs needed ops)

    -- one block and more
    same_next : (len : ℕ) (lengths : List ℕ) (w : List (Operation ℕ)) (ws : List (List (Operation ℕ)))
        → of_targeted (joined (map all_instrs (map (block_segments needed) ws))) ≡ of_members (joined (member_groups lengths (map (lower_block needed begins) ws)))
        → of_targeted (all_instrs (block_segments needed w) ++ joined (map all_instrs (map (block_segments needed) ws))) ≡ of_members (members len (lower_block needed begins w) ++ joined (member_groups lengths (map (lower_block needed begins) ws)))
    same_next len lengths w ws e =
        map-append _ (all_instrs (block_segments needed w)) (joined (map all_instrs (map (block_segments needed) ws)))
        ∙ ap (λ l. l ++ of_targeted (joined (map all_instrs (map (block_segments needed) ws)))) (same_members len w)
        ∙ ap (λ l. of_members (members len (lower_block needed begins w)) ++ l) e
        ∙ sym (map-append _ (members len (lower_block needed begins w)) (joined (member_groups lengths (map (lower_block needed begins) ws))))

    -- the instructions of all blocks
    same_blocks : (lengths : List ℕ) (ws : List (List (Operation ℕ))) → of_targeted (joined (map all_instrs (map (block_segments needed) ws))) ≡ of_members (joined (member_groups lengths (map (lower_block needed begins) ws)))
    same_blocks lengths [] = refl
    same_blocks [] (w ∷ ws) = same_next 0 [] w ws (same_blocks [] ws)
    same_blocks (len ∷ lengths) (w ∷ ws) = same_next len lengths w ws (same_blocks lengths ws)

  -- where a block begins among them
  same_position : (begins : List Bool) (ws : List (List (Operation ℕ))) (k : ℕ) → position (map all_instrs (map (block_segments needed) ws)) k ≡ position (map (λ b. b.instrs) (map (lower_block needed begins) ws)) k
  same_position begins [] k = refl
  same_position begins (w ∷ ws) zero = refl
  same_position begins (w ∷ ws) (suc k) = ap (λ n. n + position (map all_instrs (map (block_segments needed) ws)) k) (same_length w) ∙ ap (λ n. length (block_instrs needed w) + n) (same_position begins ws k)

-- the same instructions
pub same_instrs : SameInstrs
same_instrs lengths lifted = ap (of_targeted lifted.needed lifted.begins) (group_instrs (groups lifted)) ∙ same_blocks lifted.needed lifted.begins lengths (blocks lifted.begins lifted.ops)

-- in the same places
pub same_places : SamePlaces
same_places lifted block = group_instr_place (groups lifted) block ∙ same_position lifted.needed lifted.begins (blocks lifted.begins lifted.ops) block
