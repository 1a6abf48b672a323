-- A linked program with an entry is a checked one.
use Rattle.std.proofs.Common.{◌≡◌, ◌⊎◌, ℕ, zero, suc, ◌+◌, ◌-◌, ◌*◌, ◌^◌, ◌<◌, ◌≤◌, Bool, true, false, List, [], ◌∷◌, ◌++◌, length, map, Option, Some, None, refl, sym, ap, ◌∙◌, subst, arith, length-append, get_or, inl, inr}
use Rattle.std.specs.Prelude.{option_map, slice_get, slice_index, nat_lt, nat_le, nat_eq, ◌&&◌, ◌||◌, not, if◌then◌else◌, cond}
use Rattle.std.proofs.Math.Bool.{or-true}
use Rattle.std.proofs.lemmas.Bool.{cases_lt, ltb-true}
use Rattle.std.proofs.lemmas.List.{length-map}
use Rattle.std.proofs.lemmas.Option.{slice_get-map, slice_get-get_or, slice_get_within, get_or_from_slice_get}
use Rattle.std.proofs.lemmas.List.FromFn.{length-map-range_with_len}
use Rattle.numbers.specs.Words.{sum_64}
use Rattle.faults.specs.Present.{broken, each_below}
use Rattle.faults.proofs.Steps.{each_below-more, each_below-zero}
use Rattle.runs.specs.Blocks.{block_of}
use Rattle.runs.specs.Joined.{joined, position}
use Rattle.runs.proofs.HasAt.{position_next}
use Rattle.symbols.specs.Wanted.{Given}
use Rattle.lift_blocks.specs.Listed.{Lifted, IsLifted, place}
use Rattle.pvm_ops.specs.declared.instr.Instr.{Instr}
use Rattle.pvm_ops.specs.Listing.{Listing, bit_of, is_marked, is_stop}
use Rattle.pvm_ops.specs.Opcodes.{is_known, form_of}
use Rattle.pvm_ops.specs.Fetch.{fetch_of}
use Rattle.pvm_ops.specs.Spelling.{spelling, Reads}
use Rattle.pvm_ops.specs.Offsets.{offset_of, has_offset}
use Rattle.pvm_ops.specs.BlockList.{Block, BlockList}
use Rattle.pvm_ops.proofs.Table as table
use Rattle.blob_check.specs.Starts.{is_start, is_terminator}
use Rattle.blob_check.specs.Faults.{target_of, is_no_start, last_mark, faults_at, faults_of_end, faults_of_entry, faults_of, IsChecked}
use Rattle.blob_check.specs.declared.checking.CheckFault.{CheckFault}
use Rattle.blob_codec.specs.Grammar.{Program, Container}
use Rattle.jump_table.specs.Assembly.{Member, offset_len, entry_len, jump, members_of, instrs_of, words, first_of, instr_position, start_of, offset, placed_instr, placed as placed_members, code_members, code_of, table_of}
use Rattle.jump_table.specs.Laws.{is_some, IsBlock, IsAssemblable, AreEnded, Fetches, IsPlaced, CodeIsPlaced}
use Rattle.jump_table.proofs.Blocks.{block_member, member_instr, member_has, block_length, block_last, placed_position, at_number, placed_get, placed_none}
use Rattle.jump_table.proofs.Entries.{entry_member, entry_jump, entry_position, after_get, after_position}
use Rattle.jump_table.proofs.Placed.{placed_op}
use Rattle.jump_table.proofs.Spelled.{some_spelling}
use Rattle.jump_table.proofs.Starting.{starts_first}
use Rattle.jump_table.proofs.Written.{written, word_reads, inside_goes_on}
use Rattle.lower.specs.Lowering.{lowered_blocks}
use Rattle.lower.specs.Laws.{LoweredIsPlaceable}
use Rattle.lower.proofs.Lists.{From, from_map}
use Rattle.link_core.specs.Linked.{IsLinked, program_of}
use Rattle.link_core.specs.Laws.{LinkedIsChecked}

first_true : (a b : Bool) → (a && b) ≡ true → a ≡ true
first_true true b e = refl
first_true false b e = e

second_true : (a b : Bool) → (a && b) ≡ true → b ≡ true
second_true true b e = e
second_true false b e = absurd cc

marked_within : (code : Listing) (at : ℕ) → is_marked code at ≡ true → at < length code.bytes
marked_within code at e = ltb-true at (length code.bytes) (first_true _ _ e)

marked_stops : (code : Listing) (at : ℕ) → is_marked code at ≡ true → is_stop code at ≡ true
marked_stops code at e =
    let bit : nat_eq (bit_of code.mask at) 1 ≡ true = second_true (nat_lt at (length code.bytes)) (nat_eq (bit_of code.mask at) 1) e in
    rw bit (or-true (nat_le (length code.bytes) at))

-- the list in which the element with a number of joined lists is
record Found {A : Type 0} (ws : List (List A)) (at : ℕ) : Type 0 where
  k : ℕ
  w : List A
  there : slice_get ws k ≡ Some w
  from : position ws k ≤ at
  to : at < position ws k + length w

find : {A : Type 0} (ws : List (List A)) (at : ℕ) → at < length (joined ws) → Found ws at
find [] at lt = absurd (omega (arith, lt))
find (w ∷ ws) at lt = by_case (λ n within. find ws n within) (cases_lt at (length w))
  where
    by_case : ((n : ℕ) → n < length (joined ws) → Found ws n) → (at < length w) ⊎ (length w ≤ at) → Found (w ∷ ws) at
    by_case further (inl here) = record { k = 0; w = w; there = refl; from = omega arith; to = omega (arith, here) }
    by_case further (inr past) =
        let r = further (at - length w) (omega (arith, lt, past, length-append w (joined ws))) in
        record { k = suc r.k; w = r.w; there = r.there; from = omega (arith, r.from, past); to = omega (arith, r.to, past) }

-- a word that begins at a position
record WordAt (ws : List (List ℕ)) (at : ℕ) : Type 0 where
  k : ℕ
  w : List ℕ
  there : slice_get ws k ≡ Some w
  is : at ≡ position ws k

-- what is marked begins a word
marked_word : (ws : List (List ℕ)) (at : ℕ) → is_marked (written ws) at ≡ true → WordAt ws at
marked_word ws at marked = by_case (cases_lt (position ws f.k) at)
  where
    f : Found ws at
    f = find ws at (marked_within (written ws) at marked)

    by_case : (position ws f.k < at) ⊎ (at ≤ position ws f.k) → WordAt ws at
    by_case (inl inside) =
        let goes_on : is_stop (written ws) at ≡ false = inside_goes_on ws f.k f.w at f.there (omega (arith, inside)) f.to in
        let stops : is_stop (written ws) at ≡ true = marked_stops (written ws) at marked in
        let no : ◌≡◌ {A = Bool} false true = sym goes_on ∙ stops in absurd cc
    by_case (inr first) = record { k = f.k; w = f.w; there = f.there; is = omega (arith, first, f.from) }

none_each : {F : Type 0} (n : ℕ) (at : ℕ → List F) → ((i : ℕ) → i < n → at i ≡ []) → each_below n at ≡ []
none_each zero at h = each_below-zero at
none_each (suc n) at h = each_below-more n (suc n) at (omega arith) (none_each n at (λ i lt. h i (omega (arith, lt)))) (h n (omega arith))

-- the last mark below a number
record LastMark (code : Listing) (n : ℕ) : Type 0 where
  at : ℕ
  is : last_mark code n ≡ Some at
  marked : is_marked code at ≡ true
  alone : (p : ℕ) → at < p → p < n → is_marked code p ≡ false

last_of : (code : Listing) (n : ℕ) → (last_mark code n ≡ None) ⊎ LastMark code n
unfolding last_mark
last_of code zero = inl refl
last_of code (suc n) = by_mark (is_marked code n) refl (last_of code n)
  where
    by_mark : (b : Bool) → is_marked code n ≡ b → (last_mark code n ≡ None) ⊎ LastMark code n → (last_mark code (suc n) ≡ None) ⊎ LastMark code (suc n)
    by_mark true e r = inr (record { at = n; is = rw e refl; marked = e; alone = λ p a b. absurd (omega (arith, a, b)) })
    by_mark false e (inl none) = inl (rw e none)
    by_mark false e (inr r) = inr (record { at = r.at; is = rw e r.is; marked = r.marked; alone = λ p a b. below p a (cases_lt p n) b })
      where
        below : (p : ℕ) → r.at < p → (p < n) ⊎ (n ≤ p) → p < suc n → is_marked code p ≡ false
        below p a (inl lt) b = r.alone p a lt
        below p a (inr le) b = let same : p ≡ n = omega (arith, le, b) in ap (is_marked code) same ∙ e

reads_op : (bytes : List ℕ) (at : ℕ) (i : Instr) (len : ℕ) → Reads bytes at (spelling i len) → slice_index bytes at ≡ i.op
unfolding spelling
reads_op bytes at i len h = h.0

module _ (lengths : List ℕ) (list : BlockList) (assemblable : IsAssemblable list) (ended : AreEnded list) (small : length (code_of lengths list).bytes < 2 ^ 31) (placed : IsPlaced lengths list (code_of lengths list)) where
  abbrev code : Listing
  code = code_of lengths list

  abbrev rest : List Member
  rest = placed_members lengths list 0 (members_of lengths list)

  code_is : code_of lengths list ≡ written (words (code_members lengths list))
  unfolding code_of
  code_is = refl

  start_small : (block : ℕ) → is_start code (start_of lengths list block) ≡ true → start_of lengths list block < 2 ^ 31
  start_small block e = omega (arith, small, marked_within code (start_of lengths list block) (first_true _ _ (first_true _ _ e)))

  -- the byte where an instruction begins is its opcode
  op_at : (k : ℕ) (m : Member) → slice_get (code_members lengths list) k ≡ Some m → slice_index code.bytes (position (words (code_members lengths list)) k) ≡ m.instr.op
  op_at k m e =
      let there : slice_get (words (code_members lengths list)) k ≡ Some (spelling m.instr m.len) =
      slice_get-map (λ (n : Member). spelling n.instr n.len) (code_members lengths list) k ∙ ap (option_map (λ (n : Member). spelling n.instr n.len)) e in
      ap (λ (c : Listing). slice_index c.bytes (position (words (code_members lengths list)) k)) code_is
      ∙ reads_op (joined (words (code_members lengths list))) (position (words (code_members lengths list)) k) m.instr m.len (word_reads (words (code_members lengths list)) k (spelling m.instr m.len) there)

  -- what begins at a mark: the jump of an entry, or an instruction of a block
  record EntryAt (at : ℕ) : Type 0 where
    entry : ℕ
    block : ℕ
    there : slice_get list.entries entry ≡ Some block
    is : at ≡ entry_len * entry
    op : slice_index code.bytes at ≡ 40

  record InstrAt (at : ℕ) : Type 0 where
    number : ℕ
    m : Member
    there : slice_get (members_of lengths list) number ≡ Some m
    is : at ≡ instr_position lengths list number
    op : slice_index code.bytes at ≡ m.instr.op

  entry_at : (at k : ℕ) (m : Member) → k < length list.entries → slice_get (code_members lengths list) k ≡ Some m → at ≡ position (words (code_members lengths list)) k → EntryAt at
  entry_at at k m lt e is =
      let there = slice_get-get_or list.entries k 0 lt in
      let jumps = entry_jump lengths list 0 list.entries rest k (get_or list.entries k 0) there in
      let same : ◌≡◌ {A = Option Member} (Some m) (Some (entry_member lengths list (0 + entry_len * k) (get_or list.entries k 0))) = sym e ∙ jumps in
      let one : m ≡ entry_member lengths list (0 + entry_len * k) (get_or list.entries k 0) = cc in
      record {
        entry = k;
        block = get_or list.entries k 0;
        there = there;
        is = is ∙ entry_position lengths list 0 list.entries rest k (omega (arith, lt));
        op = ap (slice_index code.bytes) is ∙ op_at k m e ∙ ap (λ (n : Member). n.instr.op) one;
      }

  instr_at : (at q : ℕ) (m : Member) → slice_get (code_members lengths list) (length list.entries + q) ≡ Some m → at ≡ position (words (code_members lengths list)) (length list.entries + q) → InstrAt at
  instr_at at q m e is = by_get (slice_get (members_of lengths list) q) refl
    where
      get : slice_get rest q ≡ Some m
      get = sym (after_get lengths list 0 list.entries rest q) ∙ e

      by_get : (o : Option Member) → slice_get (members_of lengths list) q ≡ o → InstrAt at
      by_get None none = let no : ◌≡◌ {A = Option Member} (Some m) None = sym get ∙ placed_none lengths list 0 (members_of lengths list) q none in absurd cc
      by_get (Some n) some =
          let same : ◌≡◌ {A = Option Member} (Some m) (Some (at_number lengths list (0 + q) n)) = sym get ∙ placed_get lengths list 0 (members_of lengths list) q n some in
          let one : m ≡ at_number lengths list (0 + q) n = cc in
          record {
            number = q;
            m = n;
            there = some;
            is = is ∙ after_position lengths list 0 list.entries rest q ∙ ap (λ p. entry_len * length list.entries + p) (placed_position lengths list 0 (members_of lengths list) q);
            op = ap (slice_index code.bytes) is ∙ op_at (length list.entries + q) m e ∙ ap (λ (k : Member). k.instr.op) one ∙ placed_op lengths list (0 + q) n.target n.instr;
          }

  kind : (at : ℕ) → is_marked code at ≡ true → EntryAt at ⊎ InstrAt at
  kind at marked =
      let word = marked_word (words (code_members lengths list)) at (subst (λ (c : Listing). is_marked c at ≡ true) code_is marked) in
      let from = from_map (λ (n : Member). spelling n.instr n.len) (code_members lengths list) word.k word.w word.there in
      by_number word.k from.x from.there word.is (cases_lt word.k (length list.entries))
    where
      by_number : (k : ℕ) (m : Member) → slice_get (code_members lengths list) k ≡ Some m → at ≡ position (words (code_members lengths list)) k → (k < length list.entries) ⊎ (length list.entries ≤ k) → EntryAt at ⊎ InstrAt at
      by_number k m e is (inl lt) = inl (entry_at at k m lt e is)
      by_number k m e is (inr le) =
          let n : k ≡ length list.entries + (k - length list.entries) = omega (arith, le) in
          inr (instr_at at (k - length list.entries) m (subst (λ j. slice_get (code_members lengths list) j ≡ Some m) n e) (subst (λ j. at ≡ position (words (code_members lengths list)) j) n is))

  -- what is known of an instruction that is marked
  record IsFine (at : ℕ) : Type 0 where
    known : is_known (slice_index code.bytes at) ≡ true
    target : is_no_start code (target_of code at) ≡ false

  target_with : (at next : ℕ) (i : Instr) → fetch_of code at ≡ record { instr = i; next = next } → target_of code at ≡ (if has_offset (form_of i.op) then Some (sum_64 at (offset_of (form_of i.op) i)) else None)
  target_with at next i e = ap (λ f. if has_offset (form_of f.instr.op) then Some (sum_64 at (offset_of (form_of f.instr.op) f.instr)) else None) e

  back : (at to : ℕ) → at < 2 ^ 31 → to < 2 ^ 31 → sum_64 at (offset at to) ≡ to
  back at to a b = omega arith

  start_here : (o : Option ℕ) (to : ℕ) → o ≡ Some to → is_start code to ≡ true → is_no_start code o ≡ false
  start_here o to is start = rw (is, start) refl

  entry_fine : (at : ℕ) → is_marked code at ≡ true → EntryAt at → IsFine at
  entry_fine at marked e =
      let from = entry_len * e.entry in
      let to = start_of lengths list e.block in
      let f = placed.entries e.entry e.block e.there in
      let start : is_start code to ≡ true = placed.starts ended e.block (assemblable.entries e.entry e.block e.there) in
      let below : from < 2 ^ 31 = omega (arith, small, marked_within code from f.marked) in
      let led : sum_64 from (offset from to) ≡ to = back from to below (start_small e.block start) in
      let target : target_of code from ≡ Some to = target_with from (entry_len * (e.entry + 1)) (jump (offset from to)) f.fetched ∙ jumps from (offset from to) ∙ ap (λ x. Some x) led in
      subst IsFine (sym e.is) (record { known = f.known; target = start_here (target_of code from) to target start })
    where
      jumps : (from x : ℕ) → (if has_offset (form_of 40) then Some (sum_64 from (offset_of (form_of 40) (jump x))) else None) ≡ Some (sum_64 from x)
      jumps from x = rw table.jump_form refl

  instr_fine : (at : ℕ) → InstrAt at → IsFine at
  instr_fine at e = subst IsFine (sym e.is) (record { known = f.known; target = by_offset (has_offset (form_of e.m.instr.op)) refl })
    where
      from : ℕ
      from = instr_position lengths list e.number

      i : Instr
      i = placed_instr lengths list e.number e.m.target e.m.instr

      op : i.op ≡ e.m.instr.op
      op = placed_op lengths list e.number e.m.target e.m.instr

      f : Fetches code from i (instr_position lengths list (e.number + 1))
      f = placed.instrs e.number e.m e.there

      target : target_of code from ≡ (if has_offset (form_of e.m.instr.op) then Some (sum_64 from (offset_of (form_of e.m.instr.op) i)) else None)
      target = target_with from (instr_position lengths list (e.number + 1)) i f.fetched ∙ ap (λ o. if has_offset (form_of o) then Some (sum_64 from (offset_of (form_of o) i)) else None) op

      by_target : (o : Option ℕ) → e.m.target ≡ o → is_some o ≡ true → has_offset (form_of e.m.instr.op) ≡ true → is_no_start code (target_of code from) ≡ false
      by_target None t some has = absurd cc
      by_target (Some to) t some has =
          start_here (target_of code from) (start_of lengths list to)
          (target ∙ ap (λ b. if b then Some (sum_64 from (offset_of (form_of e.m.instr.op) i)) else None) has ∙ ap (λ x. Some x) (placed.leads e.number to e.m t has))
          (placed.lands ended e.number to e.m e.there t)

      by_offset : (b : Bool) → has_offset (form_of e.m.instr.op) ≡ b → is_no_start code (target_of code from) ≡ false
      by_offset true has = by_target e.m.target refl (member_has lengths list assemblable.blocks e.number e.m e.there has) has
      by_offset false has = ap (is_no_start code) (target ∙ ap (λ b. if b then Some (sum_64 from (offset_of (form_of e.m.instr.op) i)) else None) has)

  fine : (at : ℕ) → is_marked code at ≡ true → EntryAt at ⊎ InstrAt at → IsFine at
  fine at marked (inl e) = entry_fine at marked e
  fine at marked (inr e) = instr_fine at e

  no_faults_at : (at : ℕ) → faults_at code at ≡ []
  no_faults_at at = by_mark (is_marked code at) refl
    where
      by_mark : (b : Bool) → is_marked code at ≡ b → faults_at code at ≡ []
      by_mark false e = rw e refl
      by_mark true e = let h = fine at e (kind at e) in rw (e, h.known, h.target) refl

  -- the last instruction of all ends a block
  last_ends : (number : ℕ) (m : Member) → slice_get (members_of lengths list) number ≡ Some m → slice_get (members_of lengths list) (number + 1) ≡ None → is_terminator m.instr.op ≡ true
  last_ends number m there none = by_place (cases_lt (number - first_of list f.k + 1) (length b.x.instrs))
    where
      f : Found (map (λ (b : Block). b.instrs) list.blocks) number
      f = find (map (λ (b : Block). b.instrs) list.blocks) number (slice_get_within (instrs_of list) number m.instr (member_instr lengths list number m there))

      b : From (λ (b : Block). b.instrs) list.blocks f.k f.w
      b = from_map (λ (b : Block). b.instrs) list.blocks f.k f.w f.there

      is_block : IsBlock b.x
      is_block = assemblable.blocks f.k b.x b.there

      size : length b.x.instrs ≡ length f.w
      size = ap length b.is

      by_place : (number - first_of list f.k + 1 < length b.x.instrs) ⊎ (length b.x.instrs ≤ number - first_of list f.k + 1) → is_terminator m.instr.op ≡ true
      by_place (inl lt) =
          let j = number - first_of list f.k + 1 in
          let next = block_member lengths list f.k b.x j (get_or b.x.instrs j is_block.last) b.there (slice_get-get_or b.x.instrs j is_block.last lt) in
          let n : first_of list f.k + j ≡ number + 1 = omega (arith, f.from) in
          let no = sym (rw n at next) ∙ none in absurd cc
      by_place (inr le) =
          let last = block_member lengths list f.k b.x (length is_block.front) is_block.last b.there (block_last b.x is_block) in
          let n : first_of list f.k + length is_block.front ≡ number = omega (arith, f.from, f.to, le, size, block_length b.x is_block) in
          let same = sym there ∙ rw n at last in
          let op : m.instr ≡ is_block.last = cc in
          ap (λ (i : Instr). is_terminator i.op) op ∙ ended f.k b.x is_block.front is_block.last b.there is_block.is

  instr_ends : (at : ℕ) → InstrAt at → ((p : ℕ) → at < p → p < length code.bytes → is_marked code p ≡ false) → is_terminator (slice_index code.bytes at) ≡ true
  instr_ends at e alone = by_next (slice_get (members_of lengths list) (e.number + 1)) refl
    where
      next : position (words (members_of lengths list)) (e.number + 1) ≡ position (words (members_of lengths list)) e.number + length (spelling e.m.instr e.m.len)
      next =
          position_next (words (members_of lengths list)) e.number (spelling e.m.instr e.m.len)
          (slice_get-map (λ (n : Member). spelling n.instr n.len) (members_of lengths list) e.number ∙ ap (option_map (λ (n : Member). spelling n.instr n.len)) e.there)

      by_next : (o : Option Member) → slice_get (members_of lengths list) (e.number + 1) ≡ o → is_terminator (slice_index code.bytes at) ≡ true
      by_next None none = ap is_terminator e.op ∙ last_ends e.number e.m e.there none
      by_next (Some m) some =
          let f = placed.instrs (e.number + 1) m some in
          let after : at < instr_position lengths list (e.number + 1) = omega (arith, e.is, next, some_spelling e.m.instr e.m.len) in
          let no = sym f.marked ∙ alone (instr_position lengths list (e.number + 1)) after (marked_within code (instr_position lengths list (e.number + 1)) f.marked) in
          absurd cc

  ends : (at : ℕ) → EntryAt at ⊎ InstrAt at → ((p : ℕ) → at < p → p < length code.bytes → is_marked code p ≡ false) → is_terminator (slice_index code.bytes at) ≡ true
  ends at (inl e) alone = ap is_terminator e.op
  ends at (inr e) alone = instr_ends at e alone

  no_fault_of_end : faults_of_end code (last_mark code (length code.bytes)) ≡ []
  no_fault_of_end = by_last (last_of code (length code.bytes))
    where
      by_last : (last_mark code (length code.bytes) ≡ None) ⊎ LastMark code (length code.bytes) → faults_of_end code (last_mark code (length code.bytes)) ≡ []
      by_last (inl none) = rw none refl
      by_last (inr last) = let closed = ends last.at (kind last.at last.marked) last.alone in rw (last.is, closed) refl

  no_faults_of_entry : (width entry : ℕ) → entry < length (table_of lengths list) → faults_of_entry (record { table = table_of lengths list; width = width; code = code }) entry ≡ []
  no_faults_of_entry width entry lt =
      let within : entry < length list.needed = omega (arith, lt, length-map list.needed (start_of lengths list)) in
      let there = slice_get-get_or list.needed entry 0 within in
      let block = get_or list.needed entry 0 in
      let at : slice_index (table_of lengths list) entry ≡ start_of lengths list block =
      get_or_from_slice_get (table_of lengths list) entry (start_of lengths list block) 0
      (slice_get-map (start_of lengths list) list.needed entry ∙ ap (option_map (start_of lengths list)) there) in
      let start = placed.starts ended block (assemblable.needed entry block there) in
      rw (at, start) refl

  is_checked : 0 < length list.entries → IsChecked (program_of lengths list)
  is_checked some =
      let first = placed.entries 0 (get_or list.entries 0 0) (slice_get-get_or list.entries 0 0 some) in
      let start : is_start code 0 ≡ true = starts_first code _ _ first in
      let marks : each_below (length code.bytes) (faults_at code) ≡ [] = none_each (length code.bytes) (faults_at code) (λ at lt. no_faults_at at) in
      let entries = none_each (length (table_of lengths list)) (faults_of_entry (program_of lengths list)) (λ entry lt. no_faults_of_entry (program_of lengths list).width entry lt) in
      rw (start, marks, no_fault_of_end, entries) refl

-- the law of the link
pub linked_is_checked : LoweredIsPlaceable → CodeIsPlaced → LinkedIsChecked
linked_is_checked placeable is_placed given c linked some =
    let list = lowered_blocks linked.lifted in
    let lengths = linked.lengths in
    let small : length (code_of lengths list).bytes < 2 ^ 31 = (let h = rw linked.container_is at linked.small in omega arith) in
    let both = placeable given linked.lifted linked.is_lifted in
    let placed = is_placed lengths list both.0 linked.lengths_are.wide small in
    let same : length linked.lifted.entries ≡ length given.wanted.entries = sym (length-map linked.lifted.entries (place linked.lifted.places)) ∙ ap length linked.is_lifted.entries_are ∙ length-map-range_with_len _ 0 (length given.wanted.entries) in
    let entries : 0 < length list.entries = omega (arith, some, same, length-map linked.lifted.entries (block_of linked.lifted.begins)) in
    subst (λ (d : Container). IsChecked d.program) (sym linked.container_is) (is_checked lengths list both.0 both.1 small placed entries)
