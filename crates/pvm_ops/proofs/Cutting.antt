-- Blocks whose instructions are kept in one list.
use Rattle.std.proofs.Common.{◌≡◌, ℕ, zero, suc, ◌+◌, ◌-◌, ◌<◌, ◌≤◌, Bool, true, false, cond, ltb, List, [], ◌∷◌, ◌++◌, length, length-append, get_or, take, drop, Some, None, refl, sym, ap, ◌∙◌, arith, eq-eqb}
use Rattle.std.specs.Prelude.{slice_range}
use Rattle.std.specs.List.{slice_index_or}
use Rattle.std.proofs.Math.ListN.{set}
use Rattle.std.proofs.lemmas.Bool.{eqb-true, ltb-false}
use Rattle.std.proofs.lemmas.Bool.Decides.{nat_tests}
use Rattle.std.proofs.lemmas.List.{take-append-le, drop-append-le, take_all, length-drop}
use Rattle.pvm_ops.specs.declared.blocks.BasicBlock.{BasicBlock}
use Rattle.pvm_ops.specs.declared.instr.Instr.{Instr}
use Rattle.pvm_ops.specs.BlockList.{Block, BlockList, empty_block, change_last, with_instr, with_target}
use Rattle.pvm_ops.specs.BlockParts.{blocks_from, are_cut, start_of}

-- ---- where blocks are cut

record Front (start end : ℕ) (b : BasicBlock) (bs : List BasicBlock) : Type 0 where
  pub after : start ≤ b.end
  pub rest : are_cut b.end end bs ≡ true

front : (start end : ℕ) (b : BasicBlock) (bs : List BasicBlock) → are_cut start end (b ∷ bs) ≡ true → Front start end b bs
front start end b bs e = by_test (ltb b.end start) refl e
  where
    by_test : (t : Bool) → ltb b.end start ≡ t → cond t false (are_cut b.end end bs) ≡ true → Front start end b bs
    by_test true f e = absurd cc
    by_test false f e = record { after = ltb-false b.end start f; rest = e }

joined : (start end : ℕ) (b : BasicBlock) (bs : List BasicBlock) → start ≤ b.end → are_cut b.end end bs ≡ true → are_cut start end (b ∷ bs) ≡ true
joined start end b bs le e = by_test (ltb b.end start) refl
  where
    by_test : (t : Bool) → ltb b.end start ≡ t → cond t false (are_cut b.end end bs) ≡ true
    by_test true f = absurd (grind (arith, nat_tests))
    by_test false f = e

-- the first one begins no later than the last one ends
ordered : (start end : ℕ) (bs : List BasicBlock) → are_cut start end bs ≡ true → start ≤ end
ordered start end [] e = (let same = eqb-true start end e in omega (arith, same))
ordered start end (b ∷ bs) e = (let f = front start end b bs e in let r = ordered b.end end bs f.rest in omega (arith, f.after, r))

pub none_cut : are_cut 0 0 [] ≡ true
none_cut = refl

-- with one more, which has no instruction yet
pub begun_cut : (start end : ℕ) (bs : List BasicBlock) (b : BasicBlock) → are_cut start end bs ≡ true → b.end ≡ end → are_cut start end (bs ++ b ∷ []) ≡ true
begun_cut start end [] b e is =
    let same = eqb-true start end e in
    joined start end b [] (omega (arith, same, is)) (eq-eqb b.end end is)
begun_cut start end (c ∷ bs) b e is = (let f = front start end c bs e in joined start end c (bs ++ b ∷ []) f.after (begun_cut c.end end bs b f.rest is))

empty_range : (instrs : List Instr) (start end : ℕ) → start ≡ end → slice_range instrs start end ≡ []
empty_range instrs start end e = (let none : end - start ≡ 0 = omega (arith, e) in rw none refl)

pub begun : (start : ℕ) (instrs : List Instr) (bs : List BasicBlock) (b : BasicBlock) → are_cut start (length instrs) bs ≡ true → b.end ≡ length instrs → b.target ≡ None → blocks_from start instrs (bs ++ b ∷ []) ≡ blocks_from start instrs bs ++ empty_block ∷ []
begun start instrs [] b e is none =
    let same : start ≡ b.end = eqb-true start (length instrs) e ∙ sym is in
    rw (empty_range instrs start b.end same, none) refl
begun start instrs (c ∷ bs) b e is none =
    let f = front start (length instrs) c bs e in
    ap (λ l. record { instrs = slice_range instrs start c.end; target = c.target } ∷ l) (begun c.end instrs bs b f.rest is none)

-- ---- the last block

-- a range of instructions stays, where one is added after it
range_stays : (instrs : List Instr) (i : Instr) (start end : ℕ) → start ≤ end → end ≤ length instrs → slice_range (instrs ++ i ∷ []) start end ≡ slice_range instrs start end
range_stays instrs i start end le within =
    ap (take (end - start)) (drop-append-le start instrs (i ∷ []) (omega (arith, le, within)))
    ∙ take-append-le (end - start) (drop start instrs) (i ∷ []) (omega (arith, length-drop start instrs, within))

-- and the last one has it too
range_grows : (instrs : List Instr) (i : Instr) (start : ℕ) → start ≤ length instrs → slice_range (instrs ++ i ∷ []) start (length instrs + 1) ≡ slice_range instrs start (length instrs) ++ i ∷ []
range_grows instrs i start le =
    let all : take (length instrs + 1 - start) (drop start instrs ++ i ∷ []) ≡ drop start instrs ++ i ∷ [] = take_all (length instrs + 1 - start) (drop start instrs ++ i ∷ []) (omega (arith, length-append (drop start instrs) (i ∷ []), length-drop start instrs, le)) in
    let whole : take (length instrs - start) (drop start instrs) ≡ drop start instrs = take_all (length instrs - start) (drop start instrs) (omega (arith, length-drop start instrs)) in
    ap (take (length instrs + 1 - start)) (drop-append-le start instrs (i ∷ []) le) ∙ all ∙ ap (λ l. l ++ i ∷ []) (sym whole)

pub pushed_cut : (start end : ℕ) (bs : List BasicBlock) (k : ℕ) (b : BasicBlock) → are_cut start end bs ≡ true → suc k ≡ length bs → b.end ≡ end + 1 → are_cut start (end + 1) (set bs k b) ≡ true
pushed_cut start end [] k b e n is = absurd (omega (arith, n))
pushed_cut start end (x ∷ []) zero b e n is =
    let f = front start end x [] e in
    let last = eqb-true x.end end f.rest in
    joined start (end + 1) b [] (omega (arith, f.after, last, is)) (eq-eqb b.end (end + 1) is)
pushed_cut start end (x ∷ []) (suc k) b e n is = absurd (omega (arith, n))
pushed_cut start end (x ∷ y ∷ rest) zero b e n is = absurd (omega (arith, n))
pushed_cut start end (x ∷ y ∷ rest) (suc k) b e n is =
    let f = front start end x (y ∷ rest) e in
    joined start (end + 1) x (set (y ∷ rest) k b) f.after (pushed_cut x.end end (y ∷ rest) k b f.rest (omega (arith, n)) is)

pub pushed :
    (start : ℕ) (instrs : List Instr) (i : Instr) (bs : List BasicBlock) (k : ℕ) (b d : BasicBlock) → are_cut start (length instrs) bs ≡ true → suc k ≡ length bs → b.target ≡ (get_or bs k d).target
    → b.end ≡ length instrs + 1 → blocks_from start (instrs ++ i ∷ []) (set bs k b) ≡ change_last (with_instr i) (blocks_from start instrs bs)
pushed start instrs i [] k b d e n was is = absurd (omega (arith, n))
pushed start instrs i (x ∷ []) zero b d e n was is =
    let f = front start (length instrs) x [] e in
    let last = eqb-true x.end (length instrs) f.rest in
    rw (is, last, was) (ap (λ l. record { instrs = l; target = x.target } ∷ []) (range_grows instrs i start (omega (arith, f.after, last))))
pushed start instrs i (x ∷ []) (suc k) b d e n was is = absurd (omega (arith, n))
pushed start instrs i (x ∷ y ∷ rest) zero b d e n was is = absurd (omega (arith, n))
pushed start instrs i (x ∷ y ∷ rest) (suc k) b d e n was is =
    let f = front start (length instrs) x (y ∷ rest) e in
    let within = ordered x.end (length instrs) (y ∷ rest) f.rest in
    rw (range_stays instrs i start x.end f.after within)
    (ap (λ l. record { instrs = slice_range instrs start x.end; target = x.target } ∷ l) (pushed x.end instrs i (y ∷ rest) k b d f.rest (omega (arith, n)) was is))

-- the last one gets a target, and ends where it did
pub targeted_cut : (start end : ℕ) (bs : List BasicBlock) (k : ℕ) (b d : BasicBlock) → are_cut start end bs ≡ true → suc k ≡ length bs → b.end ≡ (get_or bs k d).end → are_cut start end (set bs k b) ≡ true
targeted_cut start end [] k b d e n is = absurd (omega (arith, n))
targeted_cut start end (x ∷ []) zero b d e n is =
    let f = front start end x [] e in
    joined start end b [] (omega (arith, f.after, is)) (rw is f.rest)
targeted_cut start end (x ∷ []) (suc k) b d e n is = absurd (omega (arith, n))
targeted_cut start end (x ∷ y ∷ rest) zero b d e n is = absurd (omega (arith, n))
targeted_cut start end (x ∷ y ∷ rest) (suc k) b d e n is =
    let f = front start end x (y ∷ rest) e in
    joined start end x (set (y ∷ rest) k b) f.after (targeted_cut x.end end (y ∷ rest) k b d f.rest (omega (arith, n)) is)

pub targeted : (start t : ℕ) (instrs : List Instr) (bs : List BasicBlock) (k : ℕ) (b d : BasicBlock) → suc k ≡ length bs → b.end ≡ (get_or bs k d).end → b.target ≡ Some t → blocks_from start instrs (set bs k b) ≡ change_last (with_target t) (blocks_from start instrs bs)
targeted start t instrs [] k b d n is to = absurd (omega (arith, n))
targeted start t instrs (x ∷ []) zero b d n is to = rw (is, to) refl
targeted start t instrs (x ∷ []) (suc k) b d n is to = absurd (omega (arith, n))
targeted start t instrs (x ∷ y ∷ rest) zero b d n is to = absurd (omega (arith, n))
targeted start t instrs (x ∷ y ∷ rest) (suc k) b d n is to =
    ap (λ l. record { instrs = slice_range instrs start x.end; target = x.target } ∷ l) (targeted x.end t instrs (y ∷ rest) k b d (omega (arith, n)) is to)

-- ---- a block by its number

pub length_blocks : (start : ℕ) (instrs : List Instr) (bs : List BasicBlock) → length (blocks_from start instrs bs) ≡ length bs
length_blocks start instrs [] = refl
length_blocks start instrs (b ∷ bs) = ap suc (length_blocks b.end instrs bs)

-- a block begins where the one before it ends
pub start_after : (start : ℕ) (bs : List BasicBlock) (k : ℕ) (d : BasicBlock) → k < length bs → start_of start bs (suc k) ≡ (get_or bs k d).end
start_after start [] k d lt = absurd (omega (arith, lt))
start_after start (b ∷ bs) zero d lt = refl
start_after start (b ∷ bs) (suc k) d lt = start_after b.end bs k d (omega (arith, lt))

pub start_behind : (start : ℕ) (bs : List BasicBlock) (k : ℕ) (d : BasicBlock) → 0 < k → k < length bs → start_of start bs k ≡ (get_or bs (k - 1) d).end
start_behind start bs zero d some lt = absurd (omega (arith, some))
start_behind start bs (suc k) d some lt =
    let same : k ≡ suc k - 1 = omega arith in
    start_after start bs k d (omega (arith, lt)) ∙ ap (λ j. (get_or bs j d).end) same

-- and its instructions are there
pub record HasRange (start end : ℕ) (bs : List BasicBlock) (k : ℕ) (d : BasicBlock) : Type 0 where
  pub order : start_of start bs k ≤ (get_or bs k d).end
  pub within : (get_or bs k d).end ≤ end

pub has_range : (start end : ℕ) (bs : List BasicBlock) (k : ℕ) (d : BasicBlock) → are_cut start end bs ≡ true → k < length bs → HasRange start end bs k d
has_range start end [] k d e lt = absurd (omega (arith, lt))
has_range start end (b ∷ bs) zero d e lt = (let f = front start end b bs e in record { order = f.after; within = ordered b.end end bs f.rest })
has_range start end (b ∷ bs) (suc k) d e lt =
    let f = front start end b bs e in
    let r = has_range b.end end bs k d f.rest (omega (arith, lt)) in
    record { order = r.order; within = r.within }

pub block_is : (start : ℕ) (instrs : List Instr) (bs : List BasicBlock) (k : ℕ) (d : BasicBlock) → k < length bs
    → slice_index_or (blocks_from start instrs bs) k empty_block ≡ record { instrs = slice_range instrs (start_of start bs k) (get_or bs k d).end; target = (get_or bs k d).target }
block_is start instrs [] k d lt = absurd (omega (arith, lt))
block_is start instrs (b ∷ bs) zero d lt = refl
block_is start instrs (b ∷ bs) (suc k) d lt = block_is b.end instrs bs k d (omega (arith, lt))

-- ---- the list with its entries

-- what is seen of a list whose blocks change
pub list_changed : (change : List Block → List Block) (new : List Block) (inside list : BlockList) → inside ≡ list → new ≡ change inside.blocks → record inside { blocks = new } ≡ record list { blocks = change list.blocks }
list_changed change new inside list seen e =
    let with : List Block → BlockList = λ bs. record inside { blocks = bs } in
    ap with e ∙ ap (λ (l : BlockList). record l { blocks = change l.blocks }) seen
