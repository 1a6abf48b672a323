use Rattle.std.proofs.Common.{◌++◌, ◌+◌, ◌≤◌, length, arith, length-append}
use Rattle.std.proofs.KnownBytes.{Consumes-trans}
use Rattle.std.proofs.lemmas.Grind.{common_steps}
use Rattle.outside.proofs.transfer.read_rest.Goals as goal

pub returns-in_err-read_onto-clause-few : goal.returns-in_err-read_onto-clause-few
returns-in_err-read_onto-clause-few g c =
    let bytes = c.loop.bytes in
    let few = c.in_err-read_onto.ensures.few in
    let within : length (bytes ++ few.0) ≤ c.args.limit + 1 = grind (arith, common_steps, few.1, length-append bytes few.0) in
    (bytes ++ few.0, within, Consumes-trans _ _ _ _ _ c.loop.invariant.taken few.2)
