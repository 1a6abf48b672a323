-- The instructions of blocks among all instructions.
use Rattle.std.proofs.Common.{◌≡◌, ℕ, zero, suc, ◌+◌, ◌*◌, ◌<◌, ◌≤◌, true, List, [], ◌∷◌, ◌++◌, length, map, Option, Some, None, refl, sym, ap, ◌∙◌, subst, arith, length-append, get_or}
use Rattle.std.specs.Prelude.{slice_get, slice_index, option_map}
use Rattle.std.specs.List.{AllByRecursion}
use Rattle.std.proofs.Math.Seq.{get_or-append_seam}
use Rattle.std.proofs.lemmas.List.{map-append, length-map}
use Rattle.std.proofs.lemmas.Option.{slice_get-map, slice_get-get_or}
use Rattle.runs.specs.Joined.{joined, position}
use Rattle.runs.proofs.HasAt.{HasAt, has_list_at, position_first, position_next}
use Rattle.pvm_ops.specs.declared.instr.Instr.{Instr}
use Rattle.pvm_ops.specs.Opcodes.{form_of}
use Rattle.pvm_ops.specs.Offsets.{has_offset}
use Rattle.pvm_ops.specs.Spelling.{spelling}
use Rattle.pvm_ops.specs.BlockList.{Block, BlockList}
use Rattle.jump_table.specs.Assembly.{Member, entry_len, members, groups, members_of, instrs_of, first_of, words, instr_position, start_of, offset, placed_instr, placed}
use Rattle.jump_table.specs.Laws.{is_some, HasNoOffset, IsBlock}
use Rattle.jump_table.proofs.Offsets.{length-with}

-- the instructions of one list
one_same : (len : ℕ) (target : Option ℕ) (is : List Instr) → map (λ (m : Member). m.instr) (map (λ i. record { instr = i; len = len; target = target }) is) ≡ is
one_same len target [] = refl
one_same len target (i ∷ is) = ap (λ l. i ∷ l) (one_same len target is)

-- the members are the instructions
pub instrs_same : (lengths : List ℕ) (bs : List Block) → map (λ (m : Member). m.instr) (joined (groups lengths bs)) ≡ joined (map (λ b. b.instrs) bs)
instrs_same lengths [] = refl
instrs_same [] (b ∷ bs) = map-append (λ (m : Member). m.instr) (members 0 b) (joined (groups [] bs)) ∙ ap (λ l. l ++ map (λ (m : Member). m.instr) (joined (groups [] bs))) (one_same 0 b.target b.instrs) ∙ ap (λ l. b.instrs ++ l) (instrs_same [] bs)
instrs_same (len ∷ lengths) (b ∷ bs) = map-append (λ (m : Member). m.instr) (members len b) (joined (groups lengths bs)) ∙ ap (λ l. l ++ map (λ (m : Member). m.instr) (joined (groups lengths bs))) (one_same len b.target b.instrs) ∙ ap (λ l. b.instrs ++ l) (instrs_same lengths bs)

-- as many in each block
members_count : (len : ℕ) (b : Block) → length (members len b) ≡ length b.instrs
members_count len b = length-map b.instrs (λ i. record { instr = i; len = len; target = b.target })

-- so a block begins at the same number
pub groups_position : (lengths : List ℕ) (bs : List Block) (k : ℕ) → position (groups lengths bs) k ≡ position (map (λ b. b.instrs) bs) k
groups_position lengths [] k = refl
groups_position [] (b ∷ bs) zero = refl
groups_position [] (b ∷ bs) (suc k) = let r = groups_position [] bs k in omega (arith, members_count 0 b)
groups_position (len ∷ lengths) (b ∷ bs) zero = refl
groups_position (len ∷ lengths) (b ∷ bs) (suc k) = let r = groups_position lengths bs k in omega (arith, members_count len b)

-- the members of a block
pub groups_get : (lengths : List ℕ) (bs : List Block) (k : ℕ) (b : Block) → slice_get bs k ≡ Some b → slice_get (groups lengths bs) k ≡ Some (members (slice_index lengths k) b)
groups_get lengths [] k b e = absurd cc
groups_get [] (c ∷ bs) zero b e = let same : c ≡ b = cc in rw same refl
groups_get [] (c ∷ bs) (suc k) b e = groups_get [] bs k b e
groups_get (len ∷ lengths) (c ∷ bs) zero b e = let same : c ≡ b = cc in rw same refl
groups_get (len ∷ lengths) (c ∷ bs) (suc k) b e = groups_get lengths bs k b e

-- the k-th element of a list at an index is k indices after it
inside : {A : Type 0} → (xs : List A) (at : ℕ) (ws : List A) (k : ℕ) (x : A) → HasAt xs at ws → slice_get ws k ≡ Some x → slice_get xs (at + k) ≡ Some x
inside xs at [] k x h e = absurd cc
inside xs at (w ∷ ws) zero x h e = let n : at + 0 ≡ at = omega arith in rw n (h.0 ∙ e)
inside xs at (w ∷ ws) (suc k) x h e = let n : at + suc k ≡ at + 1 + k = omega arith in rw n (inside xs (at + 1) ws k x h.1 e)

-- the k-th instruction of a block is k numbers after the block's first
pub block_member : (lengths : List ℕ) (list : BlockList) (block : ℕ) (b : Block) (k : ℕ) (i : Instr) → slice_get list.blocks block ≡ Some b → slice_get b.instrs k ≡ Some i → slice_get (members_of lengths list) (first_of list block + k) ≡ Some (record { instr = i; len = slice_index lengths block; target = b.target })
block_member lengths list block b k i e f =
    let make : Instr → Member = λ i. record { instr = i; len = slice_index lengths block; target = b.target } in
    let there = inside (members_of lengths list) (position (groups lengths list.blocks) block) (members (slice_index lengths block) b) k (make i)
    (has_list_at (groups lengths list.blocks) block _ (groups_get lengths list.blocks block b e))
    (slice_get-map make b.instrs k ∙ ap (option_map make) f) in
    rw (← groups_position lengths list.blocks block) there

-- a member is one of the instructions
pub member_instr : (lengths : List ℕ) (list : BlockList) (number : ℕ) (m : Member) → slice_get (members_of lengths list) number ≡ Some m → slice_get (instrs_of list) number ≡ Some m.instr
member_instr lengths list number m e = ap (λ l. slice_get l number) (sym (instrs_same lengths list.blocks)) ∙ slice_get-map (λ (m : Member). m.instr) (members_of lengths list) number ∙ ap (option_map (λ (m : Member). m.instr)) e

-- the next block begins after a block's instructions
pub first_next : (list : BlockList) (block : ℕ) (b : Block) → slice_get list.blocks block ≡ Some b → first_of list (block + 1) ≡ first_of list block + length b.instrs
first_next list block b e = position_next (map (λ b. b.instrs) list.blocks) block b.instrs (slice_get-map _ list.blocks block ∙ ap (option_map (λ b. b.instrs)) e)

-- the instructions of a block: those in front, and the last
pub block_length : (b : Block) (e : IsBlock b) → length b.instrs ≡ length e.front + 1
block_length b e = ap length e.is ∙ length-append e.front (e.last ∷ [])

-- the last is after those before it
pub block_last : (b : Block) (e : IsBlock b) → slice_get b.instrs (length e.front) ≡ Some e.last
block_last b e =
    let n = block_length b e in
    let within : length e.front < length b.instrs = omega arith in
    slice_get-get_or b.instrs (length e.front) e.last within
    ∙ ap Some (ap (λ is. get_or is (length e.front) e.last) e.is ∙ get_or-append_seam e.front e.last [] e.last)

-- the first block begins after the jumps of the entries
pub start_first : (lengths : List ℕ) (list : BlockList) → start_of lengths list 0 ≡ entry_len * length list.entries
start_first lengths list =
    let block = position_first (map (λ b. b.instrs) list.blocks) in
    let instr = position_first (words (members_of lengths list)) in
    rw block (omega arith)

-- what holds of each element of two lists holds of each of their concatenation
pub all_append : {A : Type 0} (P : A → Type 0) (xs ys : List A) → AllByRecursion P xs → AllByRecursion P ys → AllByRecursion P (xs ++ ys)
all_append P [] ys h g = g
all_append P (x ∷ xs) ys h g = (h.0, all_append P xs ys h.1 g)

pub all_map : {A B : Type 0} (P : B → Type 0) (f : A → B) (xs : List A) → AllByRecursion (λ x. P (f x)) xs → AllByRecursion P (map f xs)
all_map P f [] h = tt
all_map P f (x ∷ xs) h = (h.0, all_map P f xs h.1)

pub all_at : {A : Type 0} (P : A → Type 0) (xs : List A) (k : ℕ) (x : A) → AllByRecursion P xs → slice_get xs k ≡ Some x → P x
all_at P [] k x h e = absurd cc
all_at P (y ∷ ys) zero x h e = let same : y ≡ x = cc in subst P same h.0
all_at P (y ∷ ys) (suc k) x h e = all_at P ys k x h.1 e

pub all_of_each : {A : Type 0} (P : A → Type 0) (xs : List A) → ((x : A) → P x) → AllByRecursion P xs
all_of_each P [] h = tt
all_of_each P (x ∷ xs) h = (h x, all_of_each P xs h)

-- the lengths are four at most
few_members : (lengths : List ℕ) (bs : List Block) → ((k len : ℕ) → slice_get lengths k ≡ Some len → len ≤ 4) → AllByRecursion (λ (m : Member). m.len ≤ 4) (joined (groups lengths bs))
few_members lengths [] few = tt
few_members [] (b ∷ bs) few = all_append _ (members 0 b) (joined (groups [] bs)) (all_map _ _ b.instrs (all_of_each _ b.instrs (λ i. omega arith))) (few_members [] bs few)
few_members (len ∷ lengths) (b ∷ bs) few =
    let here : len ≤ 4 = few 0 len refl in
    all_append _ (members len b) (joined (groups lengths bs)) (all_map _ _ b.instrs (all_of_each _ b.instrs (λ i. here))) (few_members lengths bs (λ k l e. few (suc k) l e))

pub few_member : (lengths : List ℕ) (list : BlockList) → ((k len : ℕ) → slice_get lengths k ≡ Some len → len ≤ 4) → (number : ℕ) (m : Member) → slice_get (members_of lengths list) number ≡ Some m → m.len ≤ 4
few_member lengths list few number m e = all_at _ (members_of lengths list) number m (few_members lengths list.blocks few) e

-- what has an offset has a target
abbrev HasTarget : Option ℕ → Instr → Type 0
HasTarget target i = has_offset (form_of i.op) ≡ true → is_some target ≡ true

front_have : (target : Option ℕ) (is : List Instr) → AllByRecursion HasNoOffset is → AllByRecursion (HasTarget target) is
front_have target [] h = tt
front_have target (i ∷ is) h = ((λ has. (let none = h.0 in absurd cc)), front_have target is h.1)

block_has : (b : Block) → IsBlock b → AllByRecursion (HasTarget b.target) b.instrs
block_has b e = subst (λ is. AllByRecursion (HasTarget b.target) is) (sym e.is) (all_append _ e.front (e.last ∷ []) (front_have b.target e.front e.plain) ((λ has. sym e.targeted ∙ has), tt))

members_have : (lengths : List ℕ) (bs : List Block) → ((k : ℕ) (b : Block) → slice_get bs k ≡ Some b → IsBlock b) → AllByRecursion (λ (m : Member). HasTarget m.target m.instr) (joined (groups lengths bs))
members_have lengths [] h = tt
members_have [] (b ∷ bs) h = all_append _ (members 0 b) (joined (groups [] bs)) (all_map _ _ b.instrs (block_has b (h 0 b refl))) (members_have [] bs (λ k c e. h (suc k) c e))
members_have (len ∷ lengths) (b ∷ bs) h = all_append _ (members len b) (joined (groups lengths bs)) (all_map _ _ b.instrs (block_has b (h 0 b refl))) (members_have lengths bs (λ k c e. h (suc k) c e))

pub member_has : (lengths : List ℕ) (list : BlockList) → ((k : ℕ) (b : Block) → slice_get list.blocks k ≡ Some b → IsBlock b) → (number : ℕ) (m : Member) → slice_get (members_of lengths list) number ≡ Some m → has_offset (form_of m.instr.op) ≡ true → is_some m.target ≡ true
member_has lengths list h number m e = all_at (λ (m : Member). HasTarget m.target m.instr) (members_of lengths list) number m (members_have lengths list.blocks h) e

-- targets are blocks of the list
targeted_below : (count : ℕ) (lengths : List ℕ) (bs : List Block) → ((k target : ℕ) (b : Block) → slice_get bs k ≡ Some b → b.target ≡ Some target → target < count) → AllByRecursion (λ (m : Member). (target : ℕ) → m.target ≡ Some target → target < count) (joined (groups lengths bs))
targeted_below count lengths [] h = tt
targeted_below count [] (b ∷ bs) h = all_append _ (members 0 b) (joined (groups [] bs)) (all_map _ _ b.instrs (all_of_each _ b.instrs (λ i target f. h 0 target b refl f))) (targeted_below count [] bs (λ k target c e f. h (suc k) target c e f))
targeted_below count (len ∷ lengths) (b ∷ bs) h = all_append _ (members len b) (joined (groups lengths bs)) (all_map _ _ b.instrs (all_of_each _ b.instrs (λ i target f. h 0 target b refl f))) (targeted_below count lengths bs (λ k target c e f. h (suc k) target c e f))

pub member_targets : (lengths : List ℕ) (list : BlockList) → ((k target : ℕ) (b : Block) → slice_get list.blocks k ≡ Some b → b.target ≡ Some target → target < length list.blocks) → (number target : ℕ) (m : Member) → slice_get (members_of lengths list) number ≡ Some m → m.target ≡ Some target → target < length list.blocks
member_targets lengths list h number target m e f = all_at (λ (m : Member). (target : ℕ) → m.target ≡ Some target → target < length list.blocks) (members_of lengths list) number m (targeted_below (length list.blocks) lengths list.blocks h) e target f

-- an instruction is as long with its offset
pub placed_length : (lengths : List ℕ) (list : BlockList) (number : ℕ) (target : Option ℕ) (i : Instr) (len : ℕ) → length (spelling (placed_instr lengths list number target i) len) ≡ length (spelling i len)
placed_length lengths list number None i len = refl
placed_length lengths list number (Some target) i len = length-with (offset (instr_position lengths list number) (start_of lengths list target)) i len

-- so all have the positions that they had
pub placed_position : (lengths : List ℕ) (list : BlockList) (number : ℕ) (ms : List Member) (q : ℕ) → position (words (placed lengths list number ms)) q ≡ position (words ms) q
placed_position lengths list number [] q = refl
placed_position lengths list number (m ∷ ms) zero = refl
placed_position lengths list number (m ∷ ms) (suc q) =
    let r = placed_position lengths list (number + 1) ms q in
    omega (arith, placed_length lengths list number m.target m.instr m.len)

-- and take as many bytes
pub placed_size : (lengths : List ℕ) (list : BlockList) (number : ℕ) (ms : List Member) → length (joined (words (placed lengths list number ms))) ≡ length (joined (words ms))
placed_size lengths list number [] = refl
placed_size lengths list number (m ∷ ms) =
    let r = placed_size lengths list (number + 1) ms in
    omega (arith, placed_length lengths list number m.target m.instr m.len, length-append (spelling (placed_instr lengths list number m.target m.instr) m.len) (joined (words (placed lengths list (number + 1) ms))), length-append (spelling m.instr m.len) (joined (words ms)))

-- each with its offset
abbrev pub at_number : List ℕ → BlockList → ℕ → Member → Member
at_number lengths list number m = record { instr = placed_instr lengths list number m.target m.instr; len = m.len; target = m.target }

pub placed_get : (lengths : List ℕ) (list : BlockList) (number : ℕ) (ms : List Member) (q : ℕ) (m : Member) → slice_get ms q ≡ Some m → slice_get (placed lengths list number ms) q ≡ Some (at_number lengths list (number + q) m)
placed_get lengths list number [] q m e = absurd cc
placed_get lengths list number (n ∷ ms) zero m e =
    let same : n ≡ m = cc in
    let k : number + 0 ≡ number = omega arith in
    rw (same, k) refl
placed_get lengths list number (n ∷ ms) (suc q) m e = let k : number + suc q ≡ number + 1 + q = omega arith in rw k (placed_get lengths list (number + 1) ms q m e)

pub placed_none : (lengths : List ℕ) (list : BlockList) (number : ℕ) (ms : List Member) (q : ℕ) → slice_get ms q ≡ None → slice_get (placed lengths list number ms) q ≡ None
placed_none lengths list number [] q e = refl
placed_none lengths list number (n ∷ ms) zero e = absurd cc
placed_none lengths list number (n ∷ ms) (suc q) e = placed_none lengths list (number + 1) ms q e
