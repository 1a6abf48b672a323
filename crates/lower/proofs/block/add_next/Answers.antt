use Rattle.std.proofs.Common.{◌≡◌, [], ◌∷◌, Some, sym, ap, ◌∙◌, arith}
use Rattle.lift_blocks.specs.Kept.{operation_of}
use Rattle.lower.specs.Building.{extended}
use Rattle.lower.specs.Constants.{begins_run, constant}
use Rattle.lower.proofs.Ranges.{first_alone, run_is_added, one_is_added}
use Rattle.lower.proofs.block.add_next.Goals as goal

pub returns-in_ok-push-in-Some-clause-added : goal.returns-in_ok-push-in-Some-clause-added
returns-in_ok-push-in-Some-clause-added c =
    let begins : begins_run (operation_of c.operation-op.result) ≡ Some c.in-Some.register = sym c.begins_run.ensures ∙ c.in-Some.is in
    c.in_ok-push-in-Some.ensures.ok
    ∙ ap (λ i. extended (i ∷ []) c.args.blocks.now) (c.constant.ensures ∙ ap (λ v. constant c.in-Some.register v) c.run_on-run.ensures.value)
    ∙ ap (λ is. extended is c.args.blocks.now) (sym (run_is_added c.args.lifted.now.ops c.args.lifted.now.needed c.in-Some.register c.args.from c.run_on-run.result.end (operation_of c.operation-op.result) c.run_on-run.ensures.after (omega arith) c.operation-op.ensures.value begins))

pub returns-in_ok-add_operation-in-None-clause-first : goal.returns-in_ok-add_operation-in-None-clause-first
returns-in_ok-add_operation-in-None-clause-first c =
    first_alone c.args.lifted.now.ops c.args.from c.args.to (operation_of c.operation-op.result) c.requires.next c.requires.within c.operation-op.ensures.value (sym c.begins_run.ensures ∙ c.in-None.is)

pub returns-in_ok-add_operation-in-None-clause-added : goal.returns-in_ok-add_operation-in-None-clause-added
returns-in_ok-add_operation-in-None-clause-added c =
    c.in_ok-add_operation-in-None.ensures
    ∙ ap (λ is. extended is c.args.blocks.now) (sym (one_is_added c.args.lifted.now.ops c.args.lifted.now.needed c.args.from (operation_of c.operation-op.result) (omega arith) c.operation-op.ensures.value (sym c.begins_run.ensures ∙ c.in-None.is)))
