-- A list of blocks as it is built: its last block takes instructions and a target.
use Rattle.std.proofs.Common.{◌≡◌, ℕ, zero, suc, ◌+◌, ◌-◌, ◌<◌, ◌≤◌, Bool, true, List, [], ◌∷◌, ◌++◌, length, map, take, drop, get_or, Option, Some, None, refl, sym, ap, ◌∙◌, arith, append_assoc, length-append}
use Rattle.std.specs.Prelude.{nat_lt, slice_get, slice_range}
use Rattle.std.specs.Option.{option_map}
use Rattle.std.proofs.Math.Seq.{take-suc}
use Rattle.std.proofs.lemmas.List.{append-nil, get_or-drop, length-drop, map-append, take_more}
use Rattle.std.proofs.lemmas.Bool.{lt-ltb}
use Rattle.std.proofs.lemmas.Option.{get_or_from_slice_get}
use Rattle.runs.specs.Blocks.{block_of}
use Rattle.runs.specs.Segments.{lowered}
use Rattle.lift_blocks.specs.Operations.{Operation}
use Rattle.lift_blocks.specs.Listed.{ends_block}
use Rattle.pvm_ops.specs.declared.instr.Instr.{Instr}
use Rattle.pvm_ops.specs.BlockList.{Block, BlockList, change_last, empty_block}
use Rattle.lower.specs.declared.forms.Three.{Three}
use Rattle.lower.specs.Plain.{listed}
use Rattle.lower.specs.Constants.{runs}
use Rattle.lower.specs.Lowering.{tail_if, tail_of, offset_target, last_offset_target, run_instrs, part_instrs, block_instrs, lower_block}
use Rattle.lower.specs.Building.{one_if, with_instrs, extended, with_target_if, targeted_at, with_block}

-- as many blocks
pub length-change_last : (change : Block → Block) (bs : List Block) → length (change_last change bs) ≡ length bs
length-change_last change [] = refl
length-change_last change (b ∷ []) = refl
length-change_last change (b ∷ c ∷ rest) = ap suc (length-change_last change (c ∷ rest))

-- the last of a list with one more
pub change_last-more : (change : Block → Block) (bs : List Block) (b : Block) → change_last change (bs ++ b ∷ []) ≡ bs ++ change b ∷ []
change_last-more change [] b = refl
change_last-more change (x ∷ []) b = refl
change_last-more change (x ∷ y ∷ rest) b = ap (λ bs. x ∷ bs) (change_last-more change (y ∷ rest) b)

-- no more instructions
change_last-none : (bs : List Block) → change_last (with_instrs []) bs ≡ bs
change_last-none [] = refl
change_last-none (b ∷ []) = ap (λ is. record b { instrs = is } ∷ []) (append-nil b.instrs)
change_last-none (b ∷ c ∷ rest) = ap (λ bs. b ∷ bs) (change_last-none (c ∷ rest))

pub extended-none : (list : BlockList) → extended [] list ≡ list
extended-none list = ap (λ bs. record list { blocks = bs }) (change_last-none list.blocks)

-- no target
change_last-no_target : (bs : List Block) → change_last (with_target_if None) bs ≡ bs
change_last-no_target [] = refl
change_last-no_target (b ∷ []) = refl
change_last-no_target (b ∷ c ∷ rest) = ap (λ bs. b ∷ bs) (change_last-no_target (c ∷ rest))

pub targeted_at-none : (list : BlockList) → targeted_at None list ≡ list
targeted_at-none list = ap (λ bs. record list { blocks = bs }) (change_last-no_target list.blocks)

-- more instructions twice
change_last-twice : (is js : List Instr) (bs : List Block) → change_last (with_instrs js) (change_last (with_instrs is) bs) ≡ change_last (with_instrs (is ++ js)) bs
change_last-twice is js [] = refl
change_last-twice is js (b ∷ []) = ap (λ is. record b { instrs = is } ∷ []) (append_assoc b.instrs is js)
change_last-twice is js (b ∷ c ∷ []) = ap (λ bs. b ∷ bs) (change_last-twice is js (c ∷ []))
change_last-twice is js (b ∷ c ∷ d ∷ rest) = ap (λ bs. b ∷ bs) (change_last-twice is js (c ∷ d ∷ rest))

pub extended-twice : (is js : List Instr) (list : BlockList) → extended js (extended is list) ≡ extended (is ++ js) list
extended-twice is js list = ap (λ bs. record list { blocks = bs }) (change_last-twice is js list.blocks)

-- there is still a last block
pub still_some : (is : List Instr) (list new : BlockList) → new ≡ extended is list → 0 < length list.blocks → 0 < length new.blocks
still_some is list new e some = rw (e, length-change_last (with_instrs is) list.blocks) some

-- at most three instructions, one by one
pub listed_parts : (t : Three) → listed t ≡ (one_if (nat_lt 0 t.count) t.first ++ one_if (nat_lt 1 t.count) t.second) ++ one_if (nat_lt 2 t.count) t.third
listed_parts t = by_count t.count
  where
    by_count : (n : ℕ) → take n (t.first ∷ t.second ∷ t.third ∷ []) ≡ (one_if (nat_lt 0 n) t.first ++ one_if (nat_lt 1 n) t.second) ++ one_if (nat_lt 2 n) t.third
    by_count zero = refl
    by_count (suc zero) = refl
    by_count (suc (suc zero)) = refl
    by_count (suc (suc (suc zero))) = refl
    by_count (suc (suc (suc (suc n)))) =
        let first : nat_lt 0 (suc (suc (suc (suc n)))) ≡ true = lt-ltb 0 (suc (suc (suc (suc n)))) (omega arith) in
        let second : nat_lt 1 (suc (suc (suc (suc n)))) ≡ true = lt-ltb 1 (suc (suc (suc (suc n)))) (omega arith) in
        let third : nat_lt 2 (suc (suc (suc (suc n)))) ≡ true = lt-ltb 2 (suc (suc (suc (suc n)))) (omega arith) in
        rw (first, second, third) refl

pub three_are_added : (t : Three) (list first second third : BlockList)
    → first ≡ extended (one_if (nat_lt 0 t.count) t.first) list → second ≡ extended (one_if (nat_lt 1 t.count) t.second) first → third ≡ extended (one_if (nat_lt 2 t.count) t.third) second
    → third ≡ extended (listed t) list
three_are_added t list first second third e f g =
    let a : List Instr = one_if (nat_lt 0 t.count) t.first in
    let b : List Instr = one_if (nat_lt 1 t.count) t.second in
    let c : List Instr = one_if (nat_lt 2 t.count) t.third in
    g ∙ ap (extended c) (f ∙ ap (extended b) e ∙ extended-twice a b list) ∙ extended-twice (a ++ b) c list ∙ ap (λ is. extended is list) (sym (listed_parts t))

-- no part of a list
pub slice_range-none : {A : Type 0} (xs : List A) (from : ℕ) → slice_range xs from from ≡ []
slice_range-none xs from = let none : from - from ≡ 0 = omega arith in ap (λ n. take n (drop from xs)) none

-- a part of a list with the next element
pub slice_range-more : {A : Type 0} (xs : List A) (from at : ℕ) (x : A) → from ≤ at → at < length xs → slice_get xs at ≡ Some x → slice_range xs from (at + 1) ≡ slice_range xs from at ++ x ∷ []
slice_range-more xs from at x le lt e =
    let n : ℕ = at - from in
    let size : at + 1 - from ≡ suc n = omega arith in
    let there : from + n ≡ at = omega arith in
    let within : n < length (drop from xs) = omega (arith, length-drop from xs) in
    let is : get_or (drop from xs) n x ≡ x = get_or-drop from xs n x ∙ ap (λ i. get_or xs i x) there ∙ get_or_from_slice_get xs at x x e in
    ap (λ m. take m (drop from xs)) size ∙ take-suc (drop from xs) n x within ∙ ap (λ y. take n (drop from xs) ++ y ∷ []) is

-- no operation is left
pub none_is_left : (needed : List ℕ) (ops : List (Operation ℕ)) (at : ℕ) (list : BlockList) → extended (part_instrs needed (slice_range ops at at)) list ≡ list
none_is_left needed ops at list = ap (λ part. extended (part_instrs needed part) list) (slice_range-none ops at) ∙ extended-none list

-- one part less is left
pub one_part_less : (needed : List ℕ) (ops : List (Operation ℕ)) (from next to : ℕ) (now new : BlockList)
    → runs (slice_range ops from to) ≡ slice_range ops from next ∷ runs (slice_range ops next to) → new ≡ extended (run_instrs needed (slice_range ops from next)) now
    → extended (part_instrs needed (slice_range ops next to)) new ≡ extended (part_instrs needed (slice_range ops from to)) now
one_part_less needed ops from next to now new cut e =
    ap (extended (part_instrs needed (slice_range ops next to))) e
    ∙ extended-twice (run_instrs needed (slice_range ops from next)) (part_instrs needed (slice_range ops next to)) now
    ∙ ap (λ parts. extended (lowered (run_instrs needed) parts) now) (sym cut)

-- the end and the target of a block are those of its last operation
tail_of-last : (ops : List (Operation ℕ)) (op : Operation ℕ) → tail_of (ops ++ op ∷ []) ≡ tail_if (ends_block op)
tail_of-last [] op = refl
tail_of-last (a ∷ []) op = refl
tail_of-last (a ∷ b ∷ ops) op = tail_of-last (b ∷ ops) op

offset_target-last : (needed : List ℕ) (ops : List (Operation ℕ)) (op : Operation ℕ) → last_offset_target needed (ops ++ op ∷ []) ≡ offset_target needed op
offset_target-last needed [] op = refl
offset_target-last needed (a ∷ []) op = refl
offset_target-last needed (a ∷ b ∷ ops) op = offset_target-last needed (b ∷ ops) op

-- a block with its target
with_target-none : (is : List Instr) (target : Option ℕ) → with_target_if target (record { instrs = is; target = None }) ≡ record { instrs = is; target = target }
with_target-none is None = refl
with_target-none is (Some target) = refl

-- the block of operations whose last is known
block-last : (needed : List ℕ) (begins : List Bool) (front : List (Operation ℕ)) (op : Operation ℕ)
    → with_target_if (option_map (block_of begins) (offset_target needed op)) (record { instrs = part_instrs needed (front ++ op ∷ []) ++ tail_if (ends_block op); target = None })
    ≡ lower_block needed begins (front ++ op ∷ [])
block-last needed begins front op =
    let ops : List (Operation ℕ) = front ++ op ∷ [] in
    let low : List Instr = part_instrs needed ops in
    let instrs : low ++ tail_if (ends_block op) ≡ block_instrs needed ops = ap (λ is. low ++ is) (sym (tail_of-last front op)) in
    let target : option_map (block_of begins) (offset_target needed op) ≡ option_map (block_of begins) (last_offset_target needed ops) = ap (option_map (block_of begins)) (sym (offset_target-last needed front op)) in
    with_target-none (low ++ tail_if (ends_block op)) (option_map (block_of begins) (offset_target needed op))
    ∙ ap (λ is. record { instrs = is; target = option_map (block_of begins) (offset_target needed op) }) instrs
    ∙ ap (λ o. record { instrs = block_instrs needed ops; target = o }) target

-- an empty block, with the instructions of operations, and ended with the last
pub block_is_built : (needed : List ℕ) (begins : List Bool) (front : List (Operation ℕ)) (op : Operation ℕ) (list : BlockList)
    → targeted_at (option_map (block_of begins) (offset_target needed op)) (extended (tail_if (ends_block op)) (extended (part_instrs needed (front ++ op ∷ [])) (with_block empty_block list)))
    ≡ with_block (lower_block needed begins (front ++ op ∷ [])) list
block_is_built needed begins front op list =
    let low : List Instr = part_instrs needed (front ++ op ∷ []) in
    let tail : List Instr = tail_if (ends_block op) in
    let target : Option ℕ = option_map (block_of begins) (offset_target needed op) in
    ap (λ bs. record list { blocks = bs }) (
    ap (λ bs. change_last (with_target_if target) (change_last (with_instrs tail) bs)) (change_last-more (with_instrs low) list.blocks empty_block)
    ∙ ap (change_last (with_target_if target)) (change_last-more (with_instrs tail) list.blocks (with_instrs low empty_block))
    ∙ change_last-more (with_target_if target) list.blocks (with_instrs tail (with_instrs low empty_block))
    ∙ ap (λ b. list.blocks ++ b ∷ []) (block-last needed begins front op))

-- the last block is new
pub some_block : (block : Block) (list new : BlockList) → new ≡ with_block block list → 0 < length new.blocks
some_block block list new e = rw e (omega (arith, length-append list.blocks (block ∷ [])))

-- the block of operations
pub block_is_added : (needed : List ℕ) (begins : List Bool) (ops : List (Operation ℕ)) (from to : ℕ) (op : Operation ℕ) (list empty filled ended : BlockList)
    → from < to → to ≤ length ops → slice_get ops (to - 1) ≡ Some op
    → empty ≡ with_block empty_block list → filled ≡ extended (part_instrs needed (slice_range ops from to)) empty
    → ended ≡ targeted_at (option_map (block_of begins) (offset_target needed op)) (extended (tail_if (ends_block op)) filled)
    → ended ≡ with_block (lower_block needed begins (slice_range ops from to)) list
block_is_added needed begins ops from to op list empty filled ended lt within there e f g =
    let front : List (Operation ℕ) = slice_range ops from (to - 1) in
    let next : to - 1 + 1 ≡ to = omega arith in
    let part : slice_range ops from to ≡ front ++ op ∷ [] = ap (slice_range ops from) (sym next) ∙ slice_range-more ops from (to - 1) op (omega arith) (omega arith) there in
    g ∙ ap (λ l. targeted_at (option_map (block_of begins) (offset_target needed op)) (extended (tail_if (ends_block op)) l)) (f ∙ ap (extended (part_instrs needed (slice_range ops from to))) e)
    ∙ ap (λ ops. targeted_at (option_map (block_of begins) (offset_target needed op)) (extended (tail_if (ends_block op)) (extended (part_instrs needed ops) (with_block empty_block list)))) part
    ∙ block_is_built needed begins front op list
    ∙ ap (λ ops. with_block (lower_block needed begins ops) list) (sym part)

-- the numbers of a list's first elements with the next
pub map_take-more : {A B : Type 0} (f : A → B) (xs : List A) (at : ℕ) (x : A) → at < length xs → slice_get xs at ≡ Some x → map f (take (at + 1) xs) ≡ map f (take at xs) ++ f x ∷ []
map_take-more f xs at x lt e = ap (map f) (take_more xs at x lt ∙ ap (λ y. take at xs ++ y ∷ []) (get_or_from_slice_get xs at x x e)) ∙ map-append f (take at xs) (x ∷ [])

-- the block of one more entry
pub entry_is_added : (begins : List Bool) (entries : List ℕ) (at t block : ℕ) (list now new : BlockList)
    → at < length entries → slice_get entries at ≡ Some t → block ≡ block_of begins t
    → now ≡ record list { entries = list.entries ++ map (block_of begins) (take at entries) } → new ≡ record now { entries = now.entries ++ block ∷ [] }
    → new ≡ record list { entries = list.entries ++ map (block_of begins) (take (at + 1) entries) }
entry_is_added begins entries at t block list now new lt there is e f =
    f ∙ ap (λ (l : BlockList). record l { entries = l.entries ++ block ∷ [] }) e
    ∙ ap (λ es. record list { entries = es }) (
    append_assoc list.entries (map (block_of begins) (take at entries)) (block ∷ [])
    ∙ ap (λ b. list.entries ++ (map (block_of begins) (take at entries) ++ b ∷ [])) is
    ∙ ap (λ es. list.entries ++ es) (sym (map_take-more (block_of begins) entries at t lt there)))

-- and of one more place of the address map
pub needed_is_added : (begins : List Bool) (needed : List ℕ) (at t block : ℕ) (list now new : BlockList)
    → at < length needed → slice_get needed at ≡ Some t → block ≡ block_of begins t
    → now ≡ record list { needed = list.needed ++ map (block_of begins) (take at needed) } → new ≡ record now { needed = now.needed ++ block ∷ [] }
    → new ≡ record list { needed = list.needed ++ map (block_of begins) (take (at + 1) needed) }
needed_is_added begins needed at t block list now new lt there is e f =
    f ∙ ap (λ (l : BlockList). record l { needed = l.needed ++ block ∷ [] }) e
    ∙ ap (λ ns. record list { needed = ns }) (
    append_assoc list.needed (map (block_of begins) (take at needed)) (block ∷ [])
    ∙ ap (λ b. list.needed ++ (map (block_of begins) (take at needed) ++ b ∷ [])) is
    ∙ ap (λ ns. list.needed ++ ns) (sym (map_take-more (block_of begins) needed at t lt there)))
