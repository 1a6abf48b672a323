-- Only the last operation of a block of a lifted list ends it, since a block begins after each that does.
use Rattle.std.proofs.Common.{◌≡◌, ℕ, suc, Bool, true, false, List, [], ◌∷◌, length, Some, refl, sym, ap, ◌∙◌, subst, arith}
use Rattle.std.specs.Prelude.{slice_get, ◌||◌}
use Rattle.std.specs.List.{AllByRecursion}
use Rattle.runs.specs.Blocks.{begins_first, in_first, with_first, blocks}
use Rattle.symbols.specs.Wanted.{Given}
use Rattle.relocs.specs.Places.{CodePlace, has}
use Rattle.lift_blocks.specs.Operations.{Operation, operation_at}
use Rattle.lift_blocks.specs.Listed.{Lifted, IsLifted, targeted_places, ends_block, ends_at, starts, place}
use Rattle.lift_blocks.proofs.Named.{ends_renamed}
use Rattle.lower.specs.Laws.{FrontGoesOn}

-- operations that end their blocks where those at their places do
abbrev AreAligned : Given → List CodePlace → List (Operation ℕ) → Type 0
AreAligned given ps ops = (q : ℕ) (op : Operation ℕ) → slice_get ops q ≡ Some op → ends_block op ≡ ends_at (operation_at given (place ps q))

first_false : (a b : Bool) → (a || b) ≡ false → a ≡ false
first_false true b e = e
first_false false b e = refl

-- if no block begins after it, the one before did not end
not_ended : (given : Given) (ended : Bool) (ps : List CodePlace) → begins_first (starts given ended ps) ≡ false → ended ≡ false
not_ended given ended [] e = absurd cc
not_ended given ended (p ∷ ps) e = first_false ended (has (targeted_places given) p) e

in_front : (op : Operation ℕ) (ws : List (List (Operation ℕ))) → ends_block op ≡ false → AllByRecursion FrontGoesOn ws → AllByRecursion FrontGoesOn (in_first op ws)
in_front op [] e h = (tt, tt)
in_front op ([] ∷ ws) e h = (tt, h.1)
in_front op ((x ∷ w) ∷ ws) e h = ((e, h.0), h.1)

by_mark : (b : Bool) (op : Operation ℕ) (ws : List (List (Operation ℕ))) → (b ≡ false → ends_block op ≡ false) → AllByRecursion FrontGoesOn ws → AllByRecursion FrontGoesOn (with_first b op ws)
by_mark true op ws e h = (tt, h)
by_mark false op ws e h = in_front op ws (e refl) h

fronts : (given : Given) (ended : Bool) (ps : List CodePlace) (ops : List (Operation ℕ)) → length ops ≡ length ps → AreAligned given ps ops → AllByRecursion FrontGoesOn (blocks (starts given ended ps) ops)
fronts given ended [] [] n a = tt
fronts given ended [] (op ∷ ops) n a = absurd (omega (arith, n))
fronts given ended (p ∷ ps) [] n a = tt
fronts given ended (p ∷ ps) (op ∷ ops) n a =
    by_mark (begins_first (starts given (ends_at (operation_at given p)) ps)) op (blocks (starts given (ends_at (operation_at given p)) ps) ops)
    (λ e. a 0 op refl ∙ not_ended given (ends_at (operation_at given p)) ps e)
    (fronts given (ends_at (operation_at given p)) ps ops (omega (arith, n)) (λ q x e. a (suc q) x e))

pub fronts_go_on : (given : Given) (lifted : Lifted) → IsLifted given lifted → AllByRecursion FrontGoesOn (blocks lifted.begins lifted.ops)
fronts_go_on given lifted h =
    subst (λ bs. AllByRecursion FrontGoesOn (blocks bs lifted.ops)) (sym h.begins_are)
    (fronts given true lifted.places lifted.ops h.count (λ q op e. sym (ends_renamed (place lifted.places) op) ∙ sym (ap ends_at (h.ops_are q op e))))
