use Rattle.std.proofs.Common.{◌≡◌, ◌<◌, ℕ, List, length, map, get_or, Option, Some, None, IfSome, refl, ap, ◌∙◌, subst, arith}
use Rattle.std.specs.Prelude.{slice_get, option_map}
use Rattle.std.proofs.lemmas.List.{length-map}
use Rattle.std.proofs.lemmas.Option.{slice_get-map, slice_get_read}
use Rattle.lift_blocks.specs.declared.source_op.SourceOp.{SourceOp}
use Rattle.lift_blocks.specs.Operations.{Operation}
use Rattle.lift_blocks.specs.Kept.{operation_of}
use Rattle.lift_blocks.specs.Listed.{Lifted, target_of}
use Rattle.lift_blocks.proofs.lifted.Lifted.operation.Goals as goal

-- an operation that was read, by the list that the fields are
read_at : (ops : List SourceOp) (list : List (Operation ℕ)) (at : ℕ) (op : SourceOp) → map operation_of ops ≡ list → at < length list → op ≡ get_or ops at op → slice_get (map operation_of ops) at ≡ Some (operation_of op)
read_at ops list at op is lt e = slice_get-map operation_of ops at ∙ ap (option_map operation_of) (slice_get_read ops (length ops) at op refl (omega (arith, length-map ops operation_of, ap length is)) e)

pub returns-clause-fits : goal.returns-clause-fits
returns-clause-fits c = c.self.invariant.fits c.args.at (operation_of c.index.result.now) (read_at c.self.inside.ops.items c.args.self.now.ops c.args.at c.index.result.now (ap (λ l. l.ops) c.self.view_is) c.requires c.index.ensures)

-- what holds of each value that an option may have
if_any : (o : Option ℕ) (n : ℕ) → ((t : ℕ) → o ≡ Some t → t < n) → IfSome o (λ t. t < n)
if_any None n h = tt
if_any (Some t) n h = h t refl

pub returns-clause-target : goal.returns-clause-target
returns-clause-target c =
    if_any (target_of (operation_of c.index.result.now)) (length c.args.self.now.ops)
    (λ t e. subst (λ (l : Lifted). t < length l.ops) c.self.view_is (c.self.invariant.targets c.args.at (operation_of c.index.result.now) t (read_at c.self.inside.ops.items c.args.self.now.ops c.args.at c.index.result.now (ap (λ l. l.ops) c.self.view_is) c.requires c.index.ensures) e))
