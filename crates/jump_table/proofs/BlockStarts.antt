-- The positions of blocks, one after the other, and the length of the code.
use Rattle.std.proofs.Common.{◌≡◌, ℕ, zero, suc, ◌+◌, ◌*◌, ◌<◌, ◌≤◌, List, [], ◌∷◌, ◌++◌, length, map, Some, refl, sym, ap, ◌∙◌, arith, length-append}
use Rattle.std.specs.Prelude.{slice_get, slice_index, option_map}
use Rattle.std.proofs.lemmas.List.{map-append, length-map}
use Rattle.std.proofs.lemmas.Option.{slice_get-map, slice_get-get_or}
use Rattle.runs.specs.Joined.{joined, position}
use Rattle.runs.proofs.HasAt.{position_first, position_next}
use Rattle.pvm_ops.specs.declared.instr.Instr.{Instr}
use Rattle.pvm_ops.specs.Spelling.{spelling}
use Rattle.pvm_ops.specs.BlockList.{Block, BlockList, block_at, empty_block}
use Rattle.jump_table.specs.Assembly.{Member, entry_len, members, groups, members_of, instrs_of, first_of, words, instr_position, start_of, placed, code_of}
use Rattle.jump_table.specs.Laws.{IsPlaceable, IsAssemblable}
use Rattle.jump_table.proofs.Written.{position_le}
use Rattle.jump_table.proofs.Entries.{length-after}
use Rattle.jump_table.proofs.Blocks.{instrs_same, groups_position, groups_get, block_member, member_instr, placed_size}

-- the words of lists of instructions, joined
words_joined : (gs : List (List Member)) → words (joined gs) ≡ joined (map words gs)
words_joined [] = refl
words_joined (g ∷ gs) = map-append (λ (m : Member). spelling m.instr m.len) g (joined gs) ∙ ap (λ l. words g ++ l) (words_joined gs)

-- as many words as instructions in each list
words_position : (gs : List (List Member)) (k : ℕ) → position (map words gs) k ≡ position gs k
words_position [] k = refl
words_position (g ∷ gs) zero = refl
words_position (g ∷ gs) (suc k) = let rest = words_position gs k in omega (arith, length-map g (λ (m : Member). spelling m.instr m.len))

-- the position of a word after a list of words
position_after : (ws rest : List (List ℕ)) (k : ℕ) → position (ws ++ rest) (length ws + k) ≡ length (joined ws) + position rest k
position_after [] rest k = let n : 0 + k ≡ k = omega arith in rw n (omega arith)
position_after (w ∷ ws) rest k =
    let n : suc (length ws) + k ≡ suc (length ws + k) = omega arith in
    let after = position_after ws rest k in
    rw n (omega (arith, length-append w (joined ws)))

-- the position of the first word of a list among joined lists
group_position : (gs : List (List (List ℕ))) (k : ℕ) → position (joined gs) (position gs k) ≡ position (map (λ g. joined g) gs) k
group_position [] k = refl
group_position (g ∷ gs) zero = position_first (joined (g ∷ gs))
group_position (g ∷ gs) (suc k) = position_after g (joined gs) (position gs k) ∙ ap (λ n. length (joined g) + n) (group_position gs k)

-- the position of the end
position_end : {A : Type 0} → (ws : List (List A)) → position ws (length ws) ≡ length (joined ws)
position_end [] = refl
position_end (w ∷ ws) = let rest = position_end ws in omega (arith, length-append w (joined ws))

-- the bytes of each block
abbrev pub block_words : List ℕ → BlockList → List (List ℕ)
block_words lengths list = map (λ g. joined g) (map words (groups lengths list.blocks))

-- a block begins after the bytes of those before it
pub start_is : (lengths : List ℕ) (list : BlockList) (block : ℕ) → start_of lengths list block ≡ entry_len * length list.entries + position (block_words lengths list) block
start_is lengths list block =
    let gs = groups lengths list.blocks in
    let first : position (map words gs) block ≡ first_of list block = words_position gs block ∙ groups_position lengths list.blocks block in
    ap (λ p. entry_len * length list.entries + p)
    (ap (λ ws. position ws (first_of list block)) (words_joined gs)
    ∙ ap (position (joined (map words gs))) (sym first)
    ∙ group_position (map words gs) block)

-- the members of a block among all
pub group_at : (lengths : List ℕ) (list : BlockList) (block : ℕ) → block < length list.blocks → slice_get (groups lengths list.blocks) block ≡ Some (members (slice_index lengths block) (block_at list block))
group_at lengths list block lt = groups_get lengths list.blocks block (block_at list block) (slice_get-get_or list.blocks block empty_block lt)

-- no group after the last
pub groups_count : (lengths : List ℕ) (list : BlockList) (block : ℕ) → length list.blocks ≤ block → length (groups lengths list.blocks) ≤ block
groups_count lengths list block le = omega (arith, each lengths list.blocks)
  where
    each : (lengths : List ℕ) (bs : List Block) → length (groups lengths bs) ≡ length bs
    each lengths [] = refl
    each [] (b ∷ bs) = ap suc (each [] bs)
    each (len ∷ lengths) (b ∷ bs) = ap suc (each lengths bs)

-- the next block begins after the bytes of a block
pub start_next : (lengths : List ℕ) (list : BlockList) (block : ℕ) → block < length list.blocks → start_of lengths list (block + 1) ≡ start_of lengths list block + length (joined (words (members (slice_index lengths block) (block_at list block))))
start_next lengths list block lt =
    let gs = groups lengths list.blocks in
    let b = block_at list block in
    let at : slice_get (block_words lengths list) block ≡ Some (joined (words (members (slice_index lengths block) b))) =
    slice_get-map (λ g. joined g) (map words gs) block
    ∙ ap (option_map (λ g. joined g)) (slice_get-map words gs block ∙ ap (option_map words) (group_at lengths list block lt)) in
    let next = position_next (block_words lengths list) block _ at in
    omega (arith, next, start_is lengths list block, start_is lengths list (block + 1))

-- how many instructions there are
members_count : (lengths : List ℕ) (list : BlockList) → length (members_of lengths list) ≡ length (instrs_of list)
members_count lengths list = sym (length-map (members_of lengths list) (λ (m : Member). m.instr)) ∙ ap length (instrs_same lengths list.blocks)

-- the number of the instruction after the last block is that of all
first_end : (list : BlockList) → first_of list (length list.blocks) ≡ length (instrs_of list)
first_end list =
    let blocks = map (λ (b : Block). b.instrs) list.blocks in
    ap (position blocks) (sym (length-map list.blocks (λ (b : Block). b.instrs))) ∙ position_end blocks

-- how many bytes the code has
pub code_size : (lengths : List ℕ) (list : BlockList) → length (code_of lengths list).bytes ≡ entry_len * length list.entries + length (joined (words (members_of lengths list)))
unfolding code_of
code_size lengths list = omega (arith, length-after lengths list 0 list.entries (placed lengths list 0 (members_of lengths list)), placed_size lengths list 0 (members_of lengths list))

-- the position after the last block is the end of the code
pub start_end : (lengths : List ℕ) (list : BlockList) → start_of lengths list (length list.blocks) ≡ length (code_of lengths list).bytes
start_end lengths list =
    let ms = members_of lengths list in
    let count : first_of list (length list.blocks) ≡ length (words ms) =
    first_end list ∙ sym (members_count lengths list) ∙ sym (length-map ms (λ (m : Member). spelling m.instr m.len)) in
    let end : position (words ms) (first_of list (length list.blocks)) ≡ length (joined (words ms)) = ap (position (words ms)) count ∙ position_end (words ms) in
    omega (arith, code_size lengths list)

-- each instruction begins in the code or at its end
pub position_within : (lengths : List ℕ) (list : BlockList) (number : ℕ) → instr_position lengths list number ≤ length (code_of lengths list).bytes
position_within lengths list number = omega (arith, code_size lengths list, position_le (words (members_of lengths list)) number)

-- the instructions of a block can be placed
pub block_placeable : (list : BlockList) → IsAssemblable list → (block : ℕ) → block < length list.blocks → (k : ℕ) (i : Instr) → slice_get (block_at list block).instrs k ≡ Some i → IsPlaceable i
block_placeable list plain block lt k i e =
    plain.instrs (first_of list block + k) i
    (member_instr [] list (first_of list block + k) _ (block_member [] list block (block_at list block) k i (slice_get-get_or list.blocks block empty_block lt) e))
