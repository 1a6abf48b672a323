-- In the blocks of a lifted list only the first operation may call the host, and another comes after it.
use Rattle.std.proofs.Common.{◌≡◌, ℕ, zero, suc, ◌+◌, Bool, true, false, List, [], ◌∷◌, length, get_or, Some, refl, sym, ap, ◌∙◌, arith}
use Rattle.std.specs.Prelude.{slice_get}
use Rattle.std.specs.List.{AllByRecursion}
use Rattle.runs.specs.Blocks.{begins_first, in_first, with_first, blocks}
use Rattle.symbols.specs.Wanted.{Given}
use Rattle.lift_blocks.specs.Operations.{Operation, Plain, Branch, Jal, Jalr, Pair, HostCall, Sbrk}
use Rattle.lift_blocks.specs.Listed.{Lifted, IsLifted}
use Rattle.lift_blocks.specs.Laws.{CallsBeginBlocks}
use Rattle.lower.specs.Lowering.{is_call}
use Rattle.lower.specs.Laws.{CallIsFirst}
use Rattle.lower.proofs.Begin.{marks_count}
use Rattle.lower.proofs.FirstBlock.{begins_is}

-- each call is marked as the beginning of a block, and the operation after it is not
abbrev AreMarked : List Bool → List (Operation ℕ) → Type 0
AreMarked bs ops = (q : ℕ) (op : Operation ℕ) → slice_get ops q ≡ Some op → is_call op ≡ true → (get_or bs q false ≡ true) × (get_or bs (suc q) true ≡ false)

-- the first block begins with an operation
abbrev BeginsWith : Operation ℕ → List (List (Operation ℕ)) → Type 0
BeginsWith op [] = ⊥
BeginsWith op ([] ∷ ws) = ⊥
BeginsWith op ((x ∷ w) ∷ ws) = op ≡ x

begins_with : (b : Bool) (op : Operation ℕ) (ws : List (List (Operation ℕ))) → BeginsWith op (with_first b op ws)
begins_with true op ws = refl
begins_with false op [] = refl
begins_with false op (w ∷ ws) = refl

-- before a first block that begins with no call
before_others : (op next : Operation ℕ) (ws : List (List (Operation ℕ))) → BeginsWith next ws → is_call next ≡ false → AllByRecursion CallIsFirst ws → AllByRecursion CallIsFirst (in_first op ws)
before_others op next [] b none h = absurd b
before_others op next ([] ∷ ws) b none h = absurd b
before_others op next ((x ∷ w) ∷ ws) b none h = (((ap is_call (sym b) ∙ none, h.0.0), λ call. omega arith), h.1)

alone : (op : Operation ℕ) → is_call op ≡ false → CallIsFirst (op ∷ [])
alone op none = (tt, λ call. (let wrong : true ≡ false = sym call ∙ none in absurd cc))

no_call : (op : Operation ℕ) → (is_call op ≡ true → ⊥) → is_call op ≡ false
no_call op wrong = by_test (is_call op) refl
  where
    by_test : (b : Bool) → is_call op ≡ b → b ≡ false
    by_test true e = absurd (wrong e)
    by_test false e = refl

-- with the next operation, by whether a block begins after it
with_next : (b : Bool) (bs : List Bool) (op : Operation ℕ) (ops : List (Operation ℕ)) → begins_first bs ≡ b → length bs ≡ length ops → AreMarked (true ∷ bs) (op ∷ ops) → AllByRecursion CallIsFirst (blocks bs ops) → AllByRecursion CallIsFirst (with_first b op (blocks bs ops))
with_next true bs op ops starts n marks h = (alone op (no_call op (λ call. (let wrong : true ≡ false = sym starts ∙ begins_is bs ∙ (marks 0 op refl call).1 in absurd cc))), h)
with_next false [] op ops starts n marks h = absurd cc
with_next false (b ∷ bs) op [] starts n marks h = absurd (omega (arith, n))
with_next false (b ∷ bs) op (next ∷ ops) starts n marks h =
    before_others op next (blocks (b ∷ bs) (next ∷ ops)) (begins_with (begins_first bs) next (blocks bs ops))
    (no_call next (λ call. (let wrong : true ≡ false = sym (marks 1 next refl call).0 ∙ starts in absurd cc))) h

calls_first : (bs : List Bool) (ops : List (Operation ℕ)) → length bs ≡ length ops → AreMarked bs ops → AllByRecursion CallIsFirst (blocks bs ops)
calls_first [] [] n marks = tt
calls_first [] (op ∷ ops) n marks = absurd (omega (arith, n))
calls_first (b ∷ bs) [] n marks = tt
calls_first (b ∷ bs) (op ∷ ops) n marks =
    with_next (begins_first bs) bs op ops refl (omega (arith, n)) (λ q x e call. from_first q x e call (marks q x e call))
    (calls_first bs ops (omega (arith, n)) (λ q x e call. marks (suc q) x e call))
  where
    from_first : (q : ℕ) (x : Operation ℕ) → slice_get (op ∷ ops) q ≡ Some x → is_call x ≡ true → (get_or (b ∷ bs) q false ≡ true) × (get_or (b ∷ bs) (suc q) true ≡ false) → (get_or (true ∷ bs) q false ≡ true) × (get_or (true ∷ bs) (suc q) true ≡ false)
    from_first zero x e call m = (refl, m.1)
    from_first (suc q) x e call m = m

pub calls_are_first : CallsBeginBlocks → (given : Given) (lifted : Lifted) → IsLifted given lifted → AllByRecursion CallIsFirst (blocks lifted.begins lifted.ops)
calls_are_first law given lifted h = calls_first lifted.begins lifted.ops (marks_count given lifted h) marked
  where
    marked : AreMarked lifted.begins lifted.ops
    marked q (HostCall number) e call = (let m = law given lifted h q number e in (m.0, (let next : q + 1 ≡ suc q = omega arith in ap (λ k. get_or lifted.begins k true) (sym next) ∙ m.1)))
    marked q (Plain op) e call = absurd cc
    marked q (Branch condition rs1 rs2 target) e call = absurd cc
    marked q (Jal rd link target) e call = absurd cc
    marked q (Jalr rd rs1 imm link) e call = absurd cc
    marked q (Pair temp rd link target) e call = absurd cc
    marked q Sbrk e call = absurd cc
