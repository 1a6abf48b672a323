-- The steps by which code is written, by what is left to write.
use Rattle.std.proofs.Common.{◌≡◌, ℕ, suc, ◌+◌, ◌*◌, ◌<◌, ◌≤◌, ◌^◌, List, [], ◌∷◌, ◌++◌, length, map, drop, replicate, get_or, false, Option, Some, None, refl, sym, ap, ◌∙◌, arith, length-append}
use Rattle.std.specs.Prelude.{IsTrue, slice_get, slice_index, option_map}
use Rattle.std.proofs.lemmas.List.{at_drop_more, at_drop_all, map-append, append-nil, get_or_read, length-set, length-map, length-replicate}
use Rattle.std.proofs.lemmas.Option.{slice_get-map, slice_get-get_or, slice_get_within, get_or_from_slice_get}
use Rattle.runs.specs.Joined.{joined}
use Rattle.runs.proofs.HasAt.{position_first, position_next}
use Rattle.pvm_ops.specs.declared.instr.Instr.{Instr}
use Rattle.pvm_ops.specs.Listing.{Listing, packed}
use Rattle.pvm_ops.specs.Opcodes.{is_known}
use Rattle.pvm_ops.specs.Fetch.{trap}
use Rattle.pvm_ops.specs.Spelling.{spelling, IsEncodable}
use Rattle.pvm_ops.specs.BlockList.{Block, BlockList, block_at, empty_block}
use Rattle.pvm_ops.proofs.Masks.{length-packed}
use Rattle.jump_table.specs.Assembly.{Member, offset_len, entry_len, jump, members, groups, members_of, first_of, words, instr_position, start_of, offset, entry_jumps, placed_instr, placed, code_members, code_of}
use Rattle.jump_table.specs.Lengths.{IsWide}
use Rattle.jump_table.specs.Laws.{IsAssemblable}
use Rattle.jump_table.specs.Assembling.{most_bytes, AreStarts, HasRoom, with_mark, with_word, with_words, instr_at}
use Rattle.jump_table.proofs.Spelled.{some_spelling}
use Rattle.jump_table.proofs.Entries.{offset_fits, jump_encodable, length-after}
use Rattle.jump_table.proofs.Blocks.{block_member, member_instr, first_next, all_map, all_of_each, placed_length, placed_size}
use Rattle.jump_table.proofs.Placed.{placed_op, placed_encodable}
use Rattle.jump_table.proofs.BlockStarts.{group_at, groups_count, code_size, position_within}
use Rattle.jump_table.proofs.Marking.{words_written}

-- words after words
pub words_append : (code : Listing) (xs ys : List (List ℕ)) → with_words code (xs ++ ys) ≡ with_words (with_words code xs) ys
words_append code [] ys = refl
words_append code (x ∷ xs) ys = words_append (with_word code x) xs ys

-- how many bytes there are then
pub words_size : (code : Listing) (ws : List (List ℕ)) → length (with_words code ws).bytes ≡ length code.bytes + length (joined ws)
words_size code [] = omega arith
words_size code (w ∷ ws) = omega (arith, words_size (with_word code w) ws, length-append code.bytes w, length-append w (joined ws))

-- a mask is as long with another mark
mark_size : (at : ℕ) (mask : List ℕ) → length (with_mark at mask) ≡ length mask
mark_size at mask = length-set _ _ _

pub words_mask : (code : Listing) (ws : List (List ℕ)) → length (with_words code ws).mask ≡ length code.mask
words_mask code [] = refl
words_mask code (w ∷ ws) = words_mask (with_word code w) ws ∙ mark_size (length code.bytes) code.mask

pub word_mask : (code : Listing) (w : List ℕ) → length (with_word code w).mask ≡ length code.mask
word_mask code w = mark_size (length code.bytes) code.mask

-- instructions after instructions
placed_append : (lengths : List ℕ) (list : BlockList) (number : ℕ) (xs ys : List Member) → placed lengths list number (xs ++ ys) ≡ placed lengths list number xs ++ placed lengths list (number + length xs) ys
placed_append lengths list number [] ys = let n : number + 0 ≡ number = omega arith in rw n refl
placed_append lengths list number (x ∷ xs) ys =
    let n : number + length (x ∷ xs) ≡ number + 1 + length xs = omega arith in
    rw (n, placed_append lengths list (number + 1) xs ys) refl

-- their words
placed_words : (lengths : List ℕ) (list : BlockList) (number : ℕ) (xs ys : List Member) → words (placed lengths list number (xs ++ ys)) ≡ words (placed lengths list number xs) ++ words (placed lengths list (number + length xs) ys)
placed_words lengths list number xs ys = ap words (placed_append lengths list number xs ys) ∙ map-append (λ (m : Member). spelling m.instr m.len) (placed lengths list number xs) (placed lengths list (number + length xs) ys)

-- the bytes of the entries' jumps
pub entries_size : (lengths : List ℕ) (list : BlockList) (at : ℕ) (entries : List ℕ) → length (joined (words (entry_jumps lengths list at entries))) ≡ entry_len * length entries
entries_size lengths list at entries =
    let all = length-after lengths list at entries [] in
    let none = ap (λ (ms : List Member). length (joined (words ms))) (append-nil (entry_jumps lengths list at entries)) in
    omega arith

-- the jump of an entry that is next
pub entry_more : (lengths : List ℕ) (list : BlockList) (code : Listing) (at k : ℕ) → k < length list.entries → with_words code (words (entry_jumps lengths list at (drop k list.entries))) ≡ with_words (with_word code (spelling (jump (offset at (start_of lengths list (get_or list.entries k 0)))) offset_len)) (words (entry_jumps lengths list (at + entry_len) (drop (k + 1) list.entries)))
entry_more lengths list code at k lt = at_drop_more (λ es. with_words code (words (entry_jumps lengths list at es))) list.entries k 0 lt

-- its jump, by the starts of blocks
pub entry_is : (lengths : List ℕ) (list : BlockList) (starts items : List ℕ) → IsAssemblable list → AreStarts lengths list starts → items ≡ list.entries → (k at to x : ℕ) (i : Instr) → k < length items → at ≡ entry_len * k → to ≡ get_or starts (get_or items k 0) to → x ≡ offset at to → i ≡ jump x → i ≡ jump (offset (entry_len * k) (start_of lengths list (get_or list.entries k 0)))
entry_is lengths list starts items plain are same k at to x i lt is_at is_to is_x is_i =
    let block = get_or list.entries k 0 in
    let inside : k < length list.entries = omega (arith, ap length same) in
    let below : block < length list.blocks = plain.entries k block (slice_get-get_or list.entries k 0 inside) in
    let read : to ≡ get_or starts block to = rw same at is_to in
    let start : to ≡ start_of lengths list block = get_or_read starts block to (omega (arith, are.count)) read 0 ∙ are.each block below in
    is_i ∙ ap jump (is_x ∙ rw (is_at, start) refl)

-- its jump can be written
pub entry_fits : (lengths : List ℕ) (list : BlockList) (k block : ℕ) → length (code_of lengths list).bytes ≤ most_bytes → k < length list.entries → IsEncodable (jump (offset (entry_len * k) (start_of lengths list block))) offset_len
entry_fits lengths list k block small lt =
    let within = position_within lengths list (first_of list block) in
    jump_encodable _ (offset_fits (entry_len * k) (start_of lengths list block) (omega (arith, code_size lengths list)) (omega arith))

-- an instruction of a block among all
pub member_at : (lengths : List ℕ) (list : BlockList) (block k : ℕ) → block < length list.blocks → k < length (block_at list block).instrs → slice_get (members_of lengths list) (first_of list block + k) ≡ Some (record { instr = get_or (block_at list block).instrs k trap; len = slice_index lengths block; target = (block_at list block).target })
member_at lengths list block k lt inside =
    let b = block_at list block in
    block_member lengths list block b k (get_or b.instrs k trap) (slice_get-get_or list.blocks block empty_block lt) (slice_get-get_or b.instrs k trap inside)

-- its opcode is known
pub instr_known : (list : BlockList) → IsAssemblable list → (block k : ℕ) → block < length list.blocks → k < length (block_at list block).instrs → IsTrue (is_known (get_or (block_at list block).instrs k trap).op)
instr_known list plain block k lt inside = (plain.instrs (first_of list block + k) _ (member_instr [] list (first_of list block + k) _ (member_at [] list block k lt inside))).known

-- the instruction with the offset to its block's target
abbrev pub next_instr : List ℕ → BlockList → ℕ → ℕ → Instr
next_instr lengths list block k = placed_instr lengths list (first_of list block + k) (block_at list block).target (get_or (block_at list block).instrs k trap)

pub next_known : (lengths : List ℕ) (list : BlockList) → IsAssemblable list → (block k : ℕ) → block < length list.blocks → k < length (block_at list block).instrs → IsTrue (is_known (next_instr lengths list block k).op)
next_known lengths list plain block k lt inside = rw (placed_op lengths list (first_of list block + k) (block_at list block).target (get_or (block_at list block).instrs k trap)) (instr_known list plain block k lt inside)

pub next_fits : (lengths : List ℕ) (list : BlockList) → IsAssemblable list → IsWide list lengths → length (code_of lengths list).bytes ≤ most_bytes → (block k : ℕ) → block < length list.blocks → k < length (block_at list block).instrs → IsEncodable (next_instr lengths list block k) (slice_index lengths block)
unfolding code_of
next_fits lengths list plain wide small block k lt inside =
    let few : length (joined (words (code_members lengths list))) < 2 ^ 31 = omega arith in
    placed_encodable lengths list few plain wide (first_of list block + k) _ (member_at lengths list block k lt inside)

-- the target of a block is a block
pub target_within : (list : BlockList) → IsAssemblable list → (block target : ℕ) → block < length list.blocks → (block_at list block).target ≡ Some target → target < length list.blocks
target_within list plain block target lt e = plain.targets block target (block_at list block) (slice_get-get_or list.blocks block empty_block lt) e

-- so the instruction is found by the starts of blocks
pub next_is : (lengths : List ℕ) (list : BlockList) (starts : List ℕ) → IsAssemblable list → AreStarts lengths list starts → (block k at : ℕ) → block < length list.blocks → at ≡ instr_position lengths list (first_of list block + k) → instr_at at (get_or (block_at list block).instrs k trap) (block_at list block).target starts ≡ next_instr lengths list block k
next_is lengths list starts plain are block k at lt is = by_target (block_at list block).target refl
  where
    i : Instr
    i = get_or (block_at list block).instrs k trap

    by_target : (o : Option ℕ) → (block_at list block).target ≡ o → instr_at at i o starts ≡ placed_instr lengths list (first_of list block + k) o i
    by_target None e = refl
    by_target (Some target) e = rw (is, are.each target (target_within list plain block target lt e)) refl

-- the instruction of a block that is next
pub instr_more : (lengths : List ℕ) (list : BlockList) (code : Listing) (block k : ℕ) → k < length (block_at list block).instrs
    → with_words code (words (placed lengths list (first_of list block + k) (members (slice_index lengths block) (record { instrs = drop k (block_at list block).instrs; target = (block_at list block).target }))))
    ≡ with_words (with_word code (spelling (next_instr lengths list block k) (slice_index lengths block))) (words (placed lengths list (first_of list block + (k + 1)) (members (slice_index lengths block) (record { instrs = drop (k + 1) (block_at list block).instrs; target = (block_at list block).target }))))
instr_more lengths list code block k lt =
    let b = block_at list block in
    let n : first_of list block + (k + 1) ≡ first_of list block + k + 1 = omega arith in
    rw n (at_drop_more (λ (is : List Instr). with_words code (words (placed lengths list (first_of list block + k) (members (slice_index lengths block) (record { instrs = is; target = b.target }))))) b.instrs k trap lt)

-- and the position after it
pub instr_next : (lengths : List ℕ) (list : BlockList) (block k : ℕ) → block < length list.blocks → k < length (block_at list block).instrs → instr_position lengths list (first_of list block + (k + 1)) ≡ instr_position lengths list (first_of list block + k) + length (spelling (next_instr lengths list block k) (slice_index lengths block))
instr_next lengths list block k lt inside =
    let b = block_at list block in
    let i = get_or b.instrs k trap in
    let number = first_of list block + k in
    let n : first_of list block + (k + 1) ≡ number + 1 = omega arith in
    let word : slice_get (words (members_of lengths list)) number ≡ Some (spelling i (slice_index lengths block)) =
    slice_get-map (λ (m : Member). spelling m.instr m.len) (members_of lengths list) number ∙ ap (option_map (λ (m : Member). spelling m.instr m.len)) (member_at lengths list block k lt inside) in
    let next = position_next (words (members_of lengths list)) number (spelling i (slice_index lengths block)) word in
    rw n (omega (arith, placed_length lengths list number b.target i (slice_index lengths block)))

-- its first byte is in the code
pub instr_within : (lengths : List ℕ) (list : BlockList) (block k : ℕ) → block < length list.blocks → k < length (block_at list block).instrs → instr_position lengths list (first_of list block + k) < length (code_of lengths list).bytes
instr_within lengths list block k lt inside =
    omega (arith, instr_next lengths list block k lt inside, some_spelling (next_instr lengths list block k) (slice_index lengths block), position_within lengths list (first_of list block + (k + 1)))

-- the block that is next
pub block_more : (lengths : List ℕ) (list : BlockList) (code : Listing) (block : ℕ) → block < length list.blocks
    → with_words code (words (placed lengths list (first_of list block) (joined (drop block (groups lengths list.blocks)))))
    ≡ with_words (with_words code (words (placed lengths list (first_of list block) (members (slice_index lengths block) (block_at list block))))) (words (placed lengths list (first_of list (block + 1)) (joined (drop (block + 1) (groups lengths list.blocks)))))
block_more lengths list code block lt =
    let b = block_at list block in
    let ms = members (slice_index lengths block) b in
    let gs = groups lengths list.blocks in
    let number = first_of list block in
    let rest = joined (drop (block + 1) gs) in
    let here = group_at lengths list block lt in
    let next : number + length ms ≡ first_of list (block + 1) = omega (arith, first_next list block b (slice_get-get_or list.blocks block empty_block lt), length-map {B = Member} b.instrs (λ i. record { instr = i; len = slice_index lengths block; target = b.target })) in
    at_drop_more (λ (g : List (List Member)). with_words code (words (placed lengths list number (joined g)))) gs block [] (slice_get_within gs block ms here)
    ∙ ap (λ (m : List Member). with_words code (words (placed lengths list number (m ++ rest)))) (get_or_from_slice_get gs block ms [] here)
    ∙ ap (with_words code) (placed_words lengths list number ms rest)
    ∙ words_append code (words (placed lengths list number ms)) (words (placed lengths list (number + length ms) rest))
    ∙ ap (λ (k : ℕ). with_words (with_words code (words (placed lengths list number ms))) (words (placed lengths list k rest))) next

-- how many bytes its instructions take
pub block_size : (lengths : List ℕ) (list : BlockList) (number block : ℕ) → length (joined (words (placed lengths list number (members (slice_index lengths block) (block_at list block))))) ≡ length (joined (words (members (slice_index lengths block) (block_at list block))))
block_size lengths list number block = placed_size lengths list number (members (slice_index lengths block) (block_at list block))

-- the code of jumps and blocks
pub all_written : (lengths : List ℕ) (list : BlockList) (size : ℕ) → size ≡ length (code_of lengths list).bytes → with_words (with_words (record { bytes = []; mask = packed (replicate size false) }) (words (entry_jumps lengths list 0 list.entries))) (words (placed lengths list 0 (members_of lengths list))) ≡ code_of lengths list
unfolding code_of
all_written lengths list size is =
    let jumps = entry_jumps lengths list 0 list.entries in
    let blocks = placed lengths list 0 (members_of lengths list) in
    sym (words_append (record { bytes = []; mask = packed (replicate size false) }) (words jumps) (words blocks))
    ∙ ap (with_words (record { bytes = []; mask = packed (replicate size false) })) (sym (map-append (λ (m : Member). spelling m.instr m.len) jumps blocks))
    ∙ words_written (words (jumps ++ blocks)) size (all_map _ _ (jumps ++ blocks) (all_of_each _ (jumps ++ blocks) (λ (m : Member). some_spelling m.instr m.len))) is

-- a mask for the whole code
pub room_new : (lengths : List ℕ) (list : BlockList) (size : ℕ) → size ≡ length (code_of lengths list).bytes → HasRoom lengths list (record { bytes = []; mask = packed (replicate size false) })
room_new lengths list size is = omega (arith, length-packed (replicate size false), length-replicate size false)

-- a code without words left
pub blocks_none : (lengths : List ℕ) (list : BlockList) (code : Listing) (block : ℕ) → length list.blocks ≤ block → with_words code (words (placed lengths list (first_of list block) (joined (drop block (groups lengths list.blocks))))) ≡ code
blocks_none lengths list code block le = at_drop_all (λ (g : List (List Member)). with_words code (words (placed lengths list (first_of list block) (joined g)))) (groups lengths list.blocks) block (groups_count lengths list block le)

-- the first instruction has number 0
pub first_zero : (list : BlockList) → first_of list 0 ≡ 0
first_zero list = position_first (map (λ (b : Block). b.instrs) list.blocks)

-- the positions of blocks, by the starts of blocks
pub starts_same : (lengths : List ℕ) (list : BlockList) (starts blocks : List ℕ) → AreStarts lengths list starts → ((place block : ℕ) → slice_get blocks place ≡ Some block → block < length list.blocks) → map (λ block. slice_index starts block) blocks ≡ map (start_of lengths list) blocks
starts_same lengths list starts [] are below = refl
starts_same lengths list starts (b ∷ bs) are below = rw (are.each b (below 0 b refl), starts_same lengths list starts bs are (λ place block e. below (suc place) block e)) refl
