-- The blocks of a list begin where their shapes do, so lengths are wide enough for a list exactly where they are for the
-- shapes of its blocks.
use Rattle.std.proofs.Common.{◌≡◌, ◌⊎◌, inl, inr, ℕ, zero, suc, ◌+◌, ◌-◌, ◌*◌, ◌<◌, ◌≤◌, List, [], ◌∷◌, ◌++◌, length, map, take, get_or, true, Some, refl, sym, ap, ◌∙◌, subst, arith}
use Rattle.std.specs.Prelude.{slice_get, slice_index, option_map}
use Rattle.std.specs.List.{AllByRecursion}
use Rattle.std.proofs.lemmas.List.{length-map}
use Rattle.std.proofs.lemmas.Option.{slice_get-map, slice_get-get_or, slice_get_within, get_or_from_slice_get}
use Rattle.runs.specs.Joined.{joined, position}
use Rattle.runs.proofs.HasAt.{position_next}
use Rattle.pvm_ops.specs.declared.instr.Instr.{Instr}
use Rattle.pvm_ops.specs.Fetch.{trap}
use Rattle.pvm_ops.specs.Opcodes.{form_of}
use Rattle.pvm_ops.specs.Offsets.{has_offset}
use Rattle.pvm_ops.specs.Spelling.{spelling}
use Rattle.pvm_ops.specs.BlockList.{Block, BlockList, block_at, empty_block}
use Rattle.jump_table.specs.Assembly.{Member, offset_len, entry_len, members, groups, members_of, first_of, words, instr_position, start_of, code_of}
use Rattle.jump_table.specs.Lengths.{FitsIn, IsWide, Below, AreLengths}
use Rattle.jump_table.specs.Laws.{is_some, HasNoOffset, IsPlaceable, IsBlock, IsAssemblable, LengthsAreOne}
use Rattle.jump_table.specs.Assembling.{most_bytes, AreStarts, IsTooLarge, Refuses, spelled}
use Rattle.jump_table.specs.declared.fault.AssembleFault.{AssembleFault}
use Rattle.jump_table.specs.declared.fault.AssembleFault.TheVariants.{TooLarge}
use Rattle.jump_table.specs.declared.shapes.Shape.{Shape}
use Rattle.jump_table.specs.Shapes.{offset_bytes, start, shape_of, shapes_of, Wide, AreShapeStarts, TargetsWithin}
use Rattle.jump_table.proofs.Least.{start_below, start_le, start_more, block_long, fits_later, fits_earlier}
use Rattle.jump_table.proofs.Sizes.{block_bytes, last_grows, shape_last, at_last}
use Rattle.jump_table.proofs.Blocks.{block_member, first_next, block_length, block_last, groups_get, groups_position}
use Rattle.jump_table.proofs.BlockStarts.{start_is, start_end, block_placeable}

-- ---- positions

shaped : (bs : List Block) (lens : List ℕ) (k : ℕ) → ((j : ℕ) (b : Block) → slice_get bs j ≡ Some b → IsBlock b) → position (map (λ g. joined g) (map words (groups lens bs))) k ≡ start (map shape_of bs) lens k
shaped [] lens k h = refl
shaped (b ∷ bs) [] zero h = refl
shaped (b ∷ bs) [] (suc k) h = omega (arith, block_bytes b (h 0 b refl) 0, shaped bs [] k (λ j c e. h (suc j) c e))
shaped (b ∷ bs) (l ∷ lens) zero h = refl
shaped (b ∷ bs) (l ∷ lens) (suc k) h = omega (arith, block_bytes b (h 0 b refl) l, shaped bs lens k (λ j c e. h (suc j) c e))

-- the shape of a block of a list
pub shape_at : (list : BlockList) (block : ℕ) (b : Block) → slice_get list.blocks block ≡ Some b → slice_get (shapes_of list) block ≡ Some (shape_of b)
shape_at list block b e = slice_get-map shape_of list.blocks block ∙ ap (option_map shape_of) e

-- and the block of a shape
pub record Shaped (list : BlockList) (block : ℕ) (s : Shape) : Type 0 where
  pub b : Block
  pub there : slice_get list.blocks block ≡ Some b
  pub is : shape_of b ≡ s

pub of_shape : (list : BlockList) (block : ℕ) (s : Shape) → slice_get (shapes_of list) block ≡ Some s → Shaped list block s
of_shape list block s e =
    let lt : block < length list.blocks = omega (arith, slice_get_within (shapes_of list) block s e, length-map list.blocks shape_of) in
    let there = slice_get-get_or list.blocks block empty_block lt in
    let both = shape_at list block (block_at list block) there in
    let same : shape_of (block_at list block) ≡ s = cc in
    record { b = block_at list block; there = there; is = same }

module _ (list : BlockList) (plain : IsAssemblable list) where
  abbrev base : ℕ
  base = entry_len * length list.entries

  -- a block begins where its shape does, after the jumps of the entries
  pub start_shaped : (lengths : List ℕ) (block : ℕ) → start_of lengths list block ≡ base + start (shapes_of list) lengths block
  start_shaped lengths block = start_is lengths list block ∙ ap (λ p. base + p) (shaped list.blocks lengths block plain.blocks)

  -- the length of the code
  pub size_shaped : (lengths : List ℕ) → length (code_of lengths list).bytes ≡ base + start (shapes_of list) lengths (length list.blocks)
  size_shaped lengths = sym (start_end lengths list) ∙ start_shaped lengths (length list.blocks)

  -- the last instruction of a block is after those before it
  pub last_shaped : (lengths : List ℕ) (block : ℕ) (b : Block) (e : slice_get list.blocks block ≡ Some b) → instr_position lengths list (first_of list block + length (plain.blocks block b e).front) ≡ base + (start (shapes_of list) lengths block + (shape_of b).front)
  last_shaped lengths block b e =
      let is = plain.blocks block b e in
      let len = slice_index lengths block in
      let number = first_of list block + length is.front in
      let member = block_member lengths list block b (length is.front) is.last e (block_last b is) in
      let word : slice_get (words (members_of lengths list)) number ≡ Some (spelling is.last len) =
      slice_get-map (λ (m : Member). spelling m.instr m.len) (members_of lengths list) number ∙ ap (option_map (λ (m : Member). spelling m.instr m.len)) member in
      let next = position_next (words (members_of lengths list)) number (spelling is.last len) word in
      let n : number + 1 ≡ first_of list (block + 1) = omega (arith, first_next list block b e, block_length b is) in
      let after : instr_position lengths list (number + 1) ≡ base + start (shapes_of list) lengths (block + 1) = ap (instr_position lengths list) n ∙ start_shaped lengths (block + 1) in
      let more = start_more (shapes_of list) lengths block (shape_of b) (shape_at list block b e) in
      omega (arith, next, after, more, last_grows b is len, shape_last b is)

  -- ---- wide enough

  at_most : (lengths : List ℕ) → ((block len : ℕ) → slice_get lengths block ≡ Some len → len ≤ 4) → (i : ℕ) → slice_index lengths i ≤ 4
  at_most [] few i = omega arith
  at_most (len ∷ lengths) few zero = few 0 len refl
  at_most (len ∷ lengths) few (suc i) = at_most lengths (λ k l e. few (suc k) l e) i

  -- what is wide enough for a list is for its shapes
  pub to_wide : (lengths : List ℕ) → IsWide list lengths → Wide (shapes_of list) lengths
  to_wide lengths wide = record {
    most = at_most lengths wide.few;
    fits = λ i t s e et.
        let of = of_shape list i s e in
        let is = plain.blocks i of.b of.there in
        let number = first_of list i + length is.front in
        let member = block_member lengths list i of.b (length is.front) is.last of.there (block_last of.b is) in
        let target : of.b.target ≡ Some t = ap (λ (x : Shape). x.target) of.is ∙ et in
        let has : has_offset (form_of is.last.op) ≡ true = is.targeted ∙ ap is_some target in
        let fit = wide.fits number t _ member target has in
        let from : instr_position lengths list number ≡ base + (start (shapes_of list) lengths i + s.front) = last_shaped lengths i of.b of.there ∙ ap (λ (x : Shape). base + (start (shapes_of list) lengths i + x.front)) of.is in
        fits_earlier (slice_index lengths i) base _ _
        (subst (λ to. FitsIn (slice_index lengths i) (base + (start (shapes_of list) lengths i + s.front)) to) (start_shaped lengths t)
        (subst (λ at. FitsIn (slice_index lengths i) at (start_of lengths list t)) from fit));
  }

-- ---- the block of an instruction

-- an element of joined lists is in one of them
pub record InGroup {A : Type 0} (gs : List (List A)) (number : ℕ) (x : A) : Type 0 where
  pub group : ℕ
  pub at : ℕ
  pub items : List A
  pub there : slice_get gs group ≡ Some items
  pub is : slice_get items at ≡ Some x
  pub number_is : number ≡ position gs group + at

split_get : {A : Type 0} (xs ys : List A) (number : ℕ) (x : A) → slice_get (xs ++ ys) number ≡ Some x → (slice_get xs number ≡ Some x) ⊎ ((length xs ≤ number) × (slice_get ys (number - length xs) ≡ Some x))
split_get [] ys number x e = let n : number - 0 ≡ number = omega arith in inr (omega arith, rw n e)
split_get (z ∷ xs) ys zero x e = inl e
split_get (z ∷ xs) ys (suc number) x e =
    elim (split_get xs ys number x e) [
      | inl here ↦ inl here
      | inr past ↦ (let n : suc number - suc (length xs) ≡ number - length xs = omega arith in let le = past.0 in inr (omega arith, rw n past.1))
    ]

in_group : {A : Type 0} (gs : List (List A)) (number : ℕ) (x : A) → slice_get (joined gs) number ≡ Some x → InGroup gs number x
in_group [] number x e = absurd cc
in_group (g ∷ gs) number x e =
    elim (split_get g (joined gs) number x e) [
      | inl here ↦ record { group = 0; at = number; items = g; there = refl; is = here; number_is = omega arith }
      | inr past ↦
          (let rest = in_group gs (number - length g) x past.1 in
          record { group = suc rest.group; at = rest.at; items = rest.items; there = rest.there; is = rest.is; number_is = omega (arith, past.0, rest.number_is) })
    ]

-- only the last instruction of a block has an offset
last_only : (front : List Instr) (last : Instr) (k : ℕ) (i : Instr) → AllByRecursion HasNoOffset front → slice_get (front ++ last ∷ []) k ≡ Some i → has_offset (form_of i.op) ≡ true → (k ≡ length front) × (i ≡ last)
last_only [] last zero i h e has = (refl, cc)
last_only [] last (suc k) i h e has = absurd cc
last_only (x ∷ front) last zero i h e has = (let same : x ≡ i = cc in let none = h.0 in absurd cc)
last_only (x ∷ front) last (suc k) i h e has = (let rest = last_only front last k i h.1 e has in (ap suc rest.0, rest.1))

module _ (list : BlockList) (plain : IsAssemblable list) where
  -- an instruction with an offset is the last of a block
  pub record LastOf (lengths : List ℕ) (number : ℕ) (m : Member) : Type 0 where
    block : ℕ
    b : Block
    there : slice_get list.blocks block ≡ Some b
    number_is : number ≡ first_of list block + length (plain.blocks block b there).front
    len_is : m.len ≡ slice_index lengths block
    target_is : m.target ≡ b.target

  last_of : (lengths : List ℕ) (number : ℕ) (m : Member) → slice_get (members_of lengths list) number ≡ Some m → has_offset (form_of m.instr.op) ≡ true → LastOf lengths number m
  last_of lengths number m e has =
      let g = in_group (groups lengths list.blocks) number m e in
      let lt : g.group < length list.blocks = omega (arith, slice_get_within (groups lengths list.blocks) g.group g.items g.there, groups_length lengths list.blocks) in
      let b = block_at list g.group in
      let there = slice_get-get_or list.blocks g.group empty_block lt in
      let is = plain.blocks g.group b there in
      let len = slice_index lengths g.group in
      let both = groups_get lengths list.blocks g.group b there in
      let items : g.items ≡ members len b = some_same (sym g.there ∙ both) in
      let make : Instr → Member = λ i. record { instr = i; len = len; target = b.target } in
      let here : slice_get (members len b) g.at ≡ Some m = ap (λ (ms : List Member). slice_get ms g.at) (sym items) ∙ g.is in
      let from = from_list make b.instrs g.at m here in
      let instr : slice_get (is.front ++ is.last ∷ []) g.at ≡ Some from.0 = ap (λ (xs : List Instr). slice_get xs g.at) (sym is.is) ∙ from.1 in
      let same_instr : from.0 ≡ m.instr = ap (λ (x : Member). x.instr) from.2 in
      let last = last_only is.front is.last g.at from.0 is.plain instr (ap (λ (i : Instr). has_offset (form_of i.op)) same_instr ∙ has) in
      record {
        block = g.group;
        b = b;
        there = there;
        number_is = g.number_is ∙ omega (arith, groups_position lengths list.blocks g.group, last.0);
        len_is = sym (ap (λ (x : Member). x.len) from.2);
        target_is = sym (ap (λ (x : Member). x.target) from.2);
      }
    where
      some_same : {A : Type 0} → {x y : A} → Some x ≡ Some y → x ≡ y
      some_same e = cc

      groups_length : (lengths : List ℕ) (bs : List Block) → length (groups lengths bs) ≡ length bs
      groups_length lengths [] = refl
      groups_length [] (b ∷ bs) = ap suc (groups_length [] bs)
      groups_length (len ∷ lengths) (b ∷ bs) = ap suc (groups_length lengths bs)

      from_list : (make : Instr → Member) (is : List Instr) (k : ℕ) (m : Member) → slice_get (map make is) k ≡ Some m → (i : Instr) × (slice_get is k ≡ Some i) × (make i ≡ m)
      from_list make [] k m e = absurd cc
      from_list make (i ∷ is) zero m e = (i, refl, some_same e)
      from_list make (i ∷ is) (suc k) m e = from_list make is k m e

  few_of : (lengths : List ℕ) → ((i : ℕ) → slice_index lengths i ≤ 4) → (block len : ℕ) → slice_get lengths block ≡ Some len → len ≤ 4
  few_of lengths most block len e = (let same = get_or_from_slice_get lengths block len 0 e in let few = most block in omega arith)

  -- what is wide enough for the shapes of a list is for the list
  pub of_wide : (lengths : List ℕ) → Wide (shapes_of list) lengths → IsWide list lengths
  of_wide lengths wide = record {
    few = few_of lengths wide.most;
    fits = λ number target m e f has.
        let last = last_of lengths number m e has in
        let block = last.block in
        let fit = wide.fits block target (shape_of last.b) (shape_at list block last.b last.there) (sym last.target_is ∙ f) in
        let from : instr_position lengths list number ≡ entry_len * length list.entries + (start (shapes_of list) lengths block + (shape_of last.b).front) = ap (instr_position lengths list) last.number_is ∙ last_shaped list plain lengths block last.b last.there in
        subst (λ len. FitsIn len (instr_position lengths list number) (start_of lengths list target)) (sym last.len_is)
        (subst (λ at. FitsIn (slice_index lengths block) at (start_of lengths list target)) (sym from)
        (subst (λ to. FitsIn (slice_index lengths block) (entry_len * length list.entries + (start (shapes_of list) lengths block + (shape_of last.b).front)) to) (sym (start_shaped list plain lengths target))
        (fits_later (slice_index lengths block) (entry_len * length list.entries) _ _ fit)));
  }

  -- so the least lengths of the shapes are those of the list
  pub are_lengths : (lengths : List ℕ) → length lengths ≡ length list.blocks → Wide (shapes_of list) lengths → ((other : List ℕ) → Wide (shapes_of list) other → Below lengths other) → AreLengths list lengths
  are_lengths lengths count wide least = record { count = count; wide = of_wide lengths wide; least = λ other w. least other (to_wide list plain other w) }

  -- where the code is too large with lengths that are nowhere longer than others, it is with those
  pub too_large_with : (lengths : List ℕ) → ((other : List ℕ) → Wide (shapes_of list) other → Below lengths other) → most_bytes < entry_len * length list.entries + start (shapes_of list) lengths (length list.blocks) → IsTooLarge list
  too_large_with lengths least more other wide =
      let below = start_below (shapes_of list) lengths other (length list.blocks) (least other (to_wide list plain other wide)) in
      omega (arith, size_shaped list plain other, below, more)

  -- where a block has too many bytes the code has
  pub too_large_front : (block : ℕ) (b : Block) → slice_get list.blocks block ≡ Some b → most_bytes < (shape_of b).front → IsTooLarge list
  too_large_front block b e more other wide =
      let shapes = shapes_of list in
      let long = block_long shapes other block (shape_of b) (shape_at list block b e) in
      let lt = slice_get_within list.blocks block b e in
      let up = start_le shapes other (suc block) (length list.blocks) (omega (arith, lt)) in
      omega (arith, size_shaped list plain other, long, up, more)

  -- or where there are too many entries
  pub too_large_entries : most_bytes < entry_len * length list.entries → IsTooLarge list
  too_large_entries more other wide = omega (arith, size_shaped list plain other, more)

  -- the targets of shapes are blocks
  pub targets_within : TargetsWithin (shapes_of list)
  targets_within i t s e et =
      let of = of_shape list i s e in
      let lt = plain.targets i t of.b of.there (ap (λ (x : Shape). x.target) of.is ∙ et) in
      omega (arith, lt, length-map list.blocks shape_of)

  pub are_starts : (lengths starts : List ℕ) → AreShapeStarts (entry_len * length list.entries) (shapes_of list) lengths starts → AreStarts lengths list starts
  are_starts lengths starts are = record {
    count = are.starts_count ∙ length-map list.blocks shape_of;
    each = λ block lt. are.are block (omega (arith, lt, length-map list.blocks shape_of)) ∙ sym (start_shaped list plain lengths block);
  }

-- what is nowhere longer and nowhere shorter is the same
below_same : (a b : List ℕ) → length a ≡ length b → Below a b → Below b a → a ≡ b
below_same [] [] e f g = refl
below_same [] (y ∷ b) e f g = absurd (omega arith)
below_same (x ∷ a) [] e f g = absurd (omega arith)
below_same (x ∷ a) (y ∷ b) e f g =
    let x_le : x ≤ y = f 0 in
    let y_le : y ≤ x = g 0 in
    let head : x ≡ y = omega arith in
    let rest : a ≡ b = below_same a b (omega arith) (λ k. f (suc k)) (λ k. g (suc k)) in
    rw (head, rest) refl

-- a list has at most one assignment of the shortest lengths
pub lengths_are_one : LengthsAreOne
lengths_are_one list a b f g = below_same a b (f.count ∙ sym g.count) (f.least b g.wide) (g.least a f.wide)

-- ---- a block's shape

-- an element of a prefix of a list is in the list
pub taken : {A : Type 0} (n : ℕ) (xs : List A) (k : ℕ) (x : A) → slice_get (take n xs) k ≡ Some x → slice_get xs k ≡ Some x
taken zero xs k x e = absurd cc
taken (suc n) [] k x e = e
taken (suc n) (y ∷ ys) zero x e = e
taken (suc n) (y ∷ ys) (suc k) x e = taken n ys k x e

module _ (list : BlockList) (plain : IsAssemblable list) (block : ℕ) (lt : block < length list.blocks) (instrs : List Instr) (are : instrs ≡ (block_at list block).instrs) where
  there : slice_get list.blocks block ≡ Some (block_at list block)
  there = slice_get-get_or list.blocks block empty_block lt

  pub some_instrs : 1 ≤ length instrs
  some_instrs = omega (arith, ap length are, block_length (block_at list block) (plain.blocks block (block_at list block) there))

  pub front_placeable : (number : ℕ) (i : Instr) → slice_get (take (length instrs - 1) instrs) number ≡ Some i → IsPlaceable i
  front_placeable number i e = block_placeable list plain block lt number i (ap (λ (is : List Instr). slice_get is number) (sym are) ∙ taken (length instrs - 1) instrs number i e)

  pub last_placeable : IsPlaceable (get_or instrs (length instrs - 1) trap)
  last_placeable = block_placeable list plain block lt (length instrs - 1) _ (ap (λ (is : List Instr). slice_get is (length instrs - 1)) (sym are) ∙ slice_get-get_or instrs (length instrs - 1) trap (omega (arith, some_instrs)))

  pub front_is : length (joined (spelled offset_len (take (length instrs - 1) instrs))) ≡ (shape_of (block_at list block)).front
  front_is = ap (λ (is : List Instr). length (joined (spelled offset_len (take (length is - 1) is)))) are

  pub front_refused : (fault error : AssembleFault) → error ≡ fault → (fault ≡ TooLarge) × (most_bytes < length (joined (spelled offset_len (take (length instrs - 1) instrs)))) → Refuses list error
  front_refused fault error same refused =
      subst (Refuses list) (sym (same ∙ refused.0)) (too_large_front list plain block (block_at list block) there (omega (arith, refused.1, front_is)))

  pub last_bytes : offset_bytes (block_at list block).target offset_len ≤ length (spelling (get_or instrs (length instrs - 1) trap) offset_len)
  last_bytes =
      let b = block_at list block in
      let is = plain.blocks block b there in
      let last : get_or instrs (length instrs - 1) trap ≡ is.last = ap (λ (xs : List Instr). get_or xs (length xs - 1) trap) are ∙ at_last b is trap in
      let same = ap (λ (i : Instr). length (spelling i offset_len)) last in
      omega (arith, same, last_grows b is offset_len)
