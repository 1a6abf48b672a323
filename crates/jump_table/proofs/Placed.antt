-- The code of a list of blocks has each instruction at its position.
use Rattle.std.proofs.Common.{◌≡◌, ℕ, zero, suc, ◌+◌, ◌*◌, ◌<◌, ◌≤◌, ◌^◌, Bool, true, false, List, length, Option, Some, None, refl, sym, ap, ◌∙◌, subst, arith}
use Rattle.std.specs.Prelude.{slice_get}
use Rattle.std.proofs.lemmas.Option.{slice_get_within, slice_get-get_or}
use Rattle.numbers.specs.Words.{sum_64}
use Rattle.runs.specs.Joined.{joined, position}
use Rattle.pvm_ops.specs.declared.instr.Instr.{Instr}
use Rattle.pvm_ops.specs.Listing.{Listing, is_marked}
use Rattle.pvm_ops.specs.Opcodes.{form_of}
use Rattle.pvm_ops.specs.Offsets.{offset_of, has_offset}
use Rattle.pvm_ops.specs.Spelling.{IsEncodable}
use Rattle.pvm_ops.specs.BlockList.{Block, BlockList, empty_block}
use Rattle.blob_check.specs.Starts.{is_start}
use Rattle.jump_table.specs.Assembly.{Member, offset_len, entry_len, jump, members_of, words, first_of, instr_position, start_of, offset, placed_instr, placed, code_members, code_of}
use Rattle.jump_table.specs.Laws.{IsPlaceable, IsAssemblable, AreEnded, Fetches, IsPlaced, CodeIsPlaced, TargetsAreLed, is_some}
use Rattle.jump_table.specs.Lengths.{IsWide}
use Rattle.jump_table.proofs.Offsets.{with_rest, has_this, encodable_with, encodable_any}
use Rattle.jump_table.proofs.Written.{written, position_le}
use Rattle.jump_table.proofs.Spelled.{spelled_fetches, spelled_ends}
use Rattle.jump_table.proofs.Entries.{offset_fits, fits_bytes, jump_encodable, jump_known, entry_jump, entry_position, after_get, after_position, length-after}
use Rattle.jump_table.proofs.Blocks.{block_member, member_instr, member_has, member_targets, few_member, first_next, block_length, block_last, start_first, placed_position, placed_size, at_number, placed_get, placed_none}
use Rattle.jump_table.proofs.Starting.{starts_first, starts_after}

-- all instructions of a list with their offsets
abbrev rest_of : List ℕ → BlockList → List Member
rest_of lengths list = placed lengths list 0 (members_of lengths list)

-- and their code
abbrev written_code : List ℕ → BlockList → Listing
written_code lengths list = written (words (code_members lengths list))

-- what is fetched at a position is fetched at an equal one
moved : (code : Listing) (at to next after : ℕ) (i : Instr) → at ≡ to → next ≡ after → Fetches code at i next → Fetches code to i after
moved code at to next after i e f h = subst (λ n. Fetches code to i n) f (subst (λ p. Fetches code p i next) e h)

-- an instruction keeps its opcode
pub placed_op : (lengths : List ℕ) (list : BlockList) (number : ℕ) (target : Option ℕ) (i : Instr) → (placed_instr lengths list number target i).op ≡ i.op
placed_op lengths list number None i = refl
placed_op lengths list number (Some target) i = (with_rest (form_of i.op) (offset (instr_position lengths list number) (start_of lengths list target)) i).op

-- an offset leads back to where it leads
back : (at to : ℕ) → at < 2 ^ 31 → to < 2 ^ 31 → sum_64 at (offset at to) ≡ to
back at to a b = omega arith

module _ (lengths : List ℕ) (list : BlockList) (small : length (joined (words (code_members lengths list))) < 2 ^ 31) where
  -- each position is in the code or at its end
  position_small : (number : ℕ) → instr_position lengths list number < 2 ^ 31
  position_small number =
      let within = position_le (words (members_of lengths list)) number in
      omega (arith, length-after lengths list 0 list.entries (rest_of lengths list), placed_size lengths list 0 (members_of lengths list))

  -- the position of the instruction with a number after the jumps
  number_position : (number : ℕ) → position (words (code_members lengths list)) (length list.entries + number) ≡ instr_position lengths list number
  number_position number = after_position lengths list 0 list.entries (rest_of lengths list) number ∙ ap (λ p. entry_len * length list.entries + p) (placed_position lengths list 0 (members_of lengths list) number)

  -- the offset of an instruction leads to the start of its target
  targeted_leads : (number : ℕ) (o : Option ℕ) (target : ℕ) (i : Instr) → o ≡ Some target → has_offset (form_of i.op) ≡ true → sum_64 (instr_position lengths list number) (offset_of (form_of i.op) (placed_instr lengths list number o i)) ≡ start_of lengths list target
  targeted_leads number None target i e has = absurd cc
  targeted_leads number (Some t) target i e has =
      let same : t ≡ target = cc in
      rw (has_this (form_of i.op) (offset (instr_position lengths list number) (start_of lengths list t)) i has, same) (back (instr_position lengths list number) (start_of lengths list target) (position_small number) (position_small (first_of list target)))

  module _ (plain : IsAssemblable list) (wide : IsWide list lengths) where
    -- an entry's jump at its position
    entry_is_there : (entry block : ℕ) → slice_get list.entries entry ≡ Some block → Fetches (written_code lengths list) (entry_len * entry) (jump (offset (entry_len * entry) (start_of lengths list block))) (entry_len * (entry + 1))
    entry_is_there entry block e =
        let lt : entry < length list.entries = slice_get_within list.entries entry block e in
        let zero_and : 0 + entry_len * entry ≡ entry_len * entry = omega arith in
        let from : entry_len * entry < 2 ^ 31 = omega (arith, length-after lengths list 0 list.entries (rest_of lengths list)) in
        let fits = offset_fits (entry_len * entry) (start_of lengths list block) from (position_small (first_of list block)) in
        let is = rw zero_and at (entry_jump lengths list 0 list.entries (rest_of lengths list) entry block e) in
        moved (written_code lengths list) _ _ _ _ _
        (entry_position lengths list 0 list.entries (rest_of lengths list) entry (omega arith))
        (entry_position lengths list 0 list.entries (rest_of lengths list) (entry + 1) (omega arith))
        (spelled_fetches (code_members lengths list) entry _ is jump_known (jump_encodable _ fits))

    -- an instruction can be spelled with its offset
    pub placed_encodable : (number : ℕ) (m : Member) → slice_get (members_of lengths list) number ≡ Some m → IsEncodable (placed_instr lengths list number m.target m.instr) m.len
    placed_encodable number m e = by_target m.target refl
      where
        few : m.len ≤ 4
        few = few_member lengths list wide.few number m e

        ok : IsPlaceable m.instr
        ok = plain.instrs number m.instr (member_instr lengths list number m e)

        by_target : (o : Option ℕ) → m.target ≡ o → IsEncodable (placed_instr lengths list number o m.instr) m.len
        by_target None f = encodable_any m.instr m.len offset_len few (by_offset (has_offset (form_of m.instr.op)) refl) ok.encodable
          where
            by_offset : (b : Bool) → has_offset (form_of m.instr.op) ≡ b → b ≡ false
            by_offset true has = (let targeted = member_has lengths list plain.blocks number m e has in let none : is_some m.target ≡ false = ap is_some f in absurd cc)
            by_offset false has = refl
        by_target (Some target) f = encodable_with _ m.instr m.len offset_len few (λ has. fits_bytes m.len (instr_position lengths list number) (start_of lengths list target) few (position_small number) (position_small (first_of list target)) (wide.fits number target m e f has)) ok.encodable

    -- so it is at its position
    instr_is_there : (number : ℕ) (m : Member) → slice_get (members_of lengths list) number ≡ Some m → Fetches (written_code lengths list) (instr_position lengths list number) (placed_instr lengths list number m.target m.instr) (instr_position lengths list (number + 1))
    instr_is_there number m e =
        let ok = plain.instrs number m.instr (member_instr lengths list number m e) in
        let n : length list.entries + number + 1 ≡ length list.entries + (number + 1) = omega arith in
        let k : 0 + number ≡ number = omega arith in
        let there = rw k at (placed_get lengths list 0 (members_of lengths list) number m e) in
        moved (written_code lengths list) _ _ _ _ _
        (number_position number)
        (ap (position (words (code_members lengths list))) n ∙ number_position (number + 1))
        (spelled_fetches (code_members lengths list) (length list.entries + number) (at_number lengths list number m) (after_get lengths list 0 list.entries (rest_of lengths list) number ∙ there)
        (rw (placed_op lengths list number m.target m.instr) ok.known) (placed_encodable number m e))

    -- there is nothing after the last
    none_after : (number : ℕ) → slice_get (members_of lengths list) number ≡ None → is_marked (written_code lengths list) (instr_position lengths list number) ≡ false
    none_after number e =
        subst (λ (at : ℕ). is_marked (written_code lengths list) at ≡ false) (number_position number)
        (spelled_ends (code_members lengths list) (length list.entries + number) (after_get lengths list 0 list.entries (rest_of lengths list) number ∙ placed_none lengths list 0 (members_of lengths list) number e))

    -- a block's first instruction at its start
    first_is_there : (block : ℕ) (b : Block) → slice_get list.blocks block ≡ Some b → (i : Instr) × Fetches (written_code lengths list) (start_of lengths list block) i (instr_position lengths list (first_of list block + 1))
    first_is_there block b e =
        let ended = plain.blocks block b e in
        let first = slice_get-get_or b.instrs 0 ended.last (omega (arith, block_length b ended)) in
        let n : first_of list block + 0 ≡ first_of list block = omega arith in
        (_, instr_is_there (first_of list block) _ (rw n at (block_member lengths list block b 0 _ e first)))

    -- the first block starts after the jumps of the entries, or at position 0
    first_block : (count : ℕ) (b : Block) → length list.entries ≡ count → slice_get list.blocks 0 ≡ Some b → is_start (written_code lengths list) (start_of lengths list 0) ≡ true
    first_block zero b n e =
        let first = first_is_there 0 b e in
        let here : start_of lengths list 0 ≡ 0 = omega (arith, start_first lengths list) in
        subst (λ (at : ℕ). is_start (written_code lengths list) at ≡ true) (sym here) (starts_first (written_code lengths list) first.0 _ (rw here at first.1))
    first_block (suc entry) b n e =
        let first = first_is_there 0 b e in
        let here : entry_len * (entry + 1) ≡ start_of lengths list 0 = omega (arith, start_first lengths list) in
        let before = entry_is_there entry _ (slice_get-get_or list.entries entry 0 (omega arith)) in
        starts_after (written_code lengths list) _ _ (start_of lengths list 0) first.0 _ (rw here at before) refl first.1

    -- every other starts after the one before
    next_block : AreEnded list → (block : ℕ) (b next : Block) → slice_get list.blocks block ≡ Some b → slice_get list.blocks (block + 1) ≡ Some next → is_start (written_code lengths list) (start_of lengths list (block + 1)) ≡ true
    next_block are_ended block b next e f =
        let ended = plain.blocks block b e in
        let first = first_is_there (block + 1) next f in
        let number = first_of list block + length ended.front in
        let before = instr_is_there number _ (block_member lengths list block b (length ended.front) ended.last e (block_last b ended)) in
        let last_number : first_of list block + length ended.front + 1 ≡ first_of list (block + 1) = omega (arith, first_next list block b e, block_length b ended) in
        let terminator = are_ended block b ended.front ended.last e ended.is in
        starts_after (written_code lengths list) _ (placed_instr lengths list number b.target ended.last) _ first.0 _ (rw last_number at before) (rw (placed_op lengths list number b.target ended.last) terminator) first.1

    -- a block starts where each of the list does
    each_starts : AreEnded list → (block : ℕ) → block < length list.blocks → is_start (written_code lengths list) (start_of lengths list block) ≡ true
    each_starts are_ended zero lt = first_block (length list.entries) _ refl (slice_get-get_or list.blocks 0 empty_block lt)
    each_starts are_ended (suc block) lt =
        let n : suc block ≡ block + 1 = omega arith in
        rw n (next_block are_ended block _ _ (slice_get-get_or list.blocks block empty_block (omega arith)) (slice_get-get_or list.blocks (block + 1) empty_block (omega arith)))

    -- so all is placed
    all_placed : IsPlaced lengths list (written_code lengths list)
    all_placed = record { entries = entry_is_there; instrs = instr_is_there; leads = λ number target m e has. targeted_leads number m.target target m.instr e has; past = none_after; starts = each_starts; lands = λ are_ended number target m e f. each_starts are_ended target (member_targets lengths list plain.targets number target m e f) }

pub code_is_placed : CodeIsPlaced
unfolding code_of
code_is_placed lengths list plain wide small = all_placed lengths list small plain wide

-- at the end of a block with a target
pub targets_are_led : TargetsAreLed
targets_are_led lengths list code plain placed block target b e f =
    let ended = plain.blocks block b e in
    let number = first_of list block + length ended.front in
    let there = block_member lengths list block b (length ended.front) ended.last e (block_last b ended) in
    let has : has_offset (form_of ended.last.op) ≡ true = ended.targeted ∙ ap is_some f in
    let op = placed_op lengths list number b.target ended.last in
    let next : number + 1 ≡ first_of list (block + 1) = omega (arith, first_next list block b e, block_length b ended) in
    record {
      at = instr_position lengths list number;
      last = placed_instr lengths list number b.target ended.last;
      fetched = rw next at (placed.instrs number _ there);
      has = rw op has;
      leads = rw op (placed.leads number target (record { instr = ended.last; len = 0; target = b.target }) f has);
      starts = λ are_ended. placed.starts are_ended target (plain.targets block target b e f);
    }
