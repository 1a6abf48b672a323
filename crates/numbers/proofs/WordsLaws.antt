-- Laws of words.
use Rattle.std.proofs.Common.{◌^◌, refl}
use Rattle.std.proofs.Math.Nat.{mod-mod}
use Rattle.numbers.specs.Laws.{SignIsKept}

pub sign_extend-mod : SignIsKept
sign_extend-mod bits x = rw (mod-mod x (2 ^ bits)) refl
