use Rattle.std.proofs.Common.{◌≡◌, ℕ, ◌+◌, ◌-◌, List, ◌++◌, length, take, drop, sym, ap, ◌∙◌, subst, arith, length-drop, take_all}
use Rattle.std.specs.Io.KnownBytes.{Appends}
use Rattle.std.proofs.KnownBytes.{Appends-trans}
use Rattle.std.proofs.Math.Seq.{take-add}
use Rattle.outside.proofs.transfer.write_whole.Goals as goal

-- a prefix, and a prefix of what follows it
take-on : (bytes : List ℕ) (done count : ℕ) → take done bytes ++ take count (take (length bytes - done) (drop done bytes)) ≡ take (done + count) bytes
take-on bytes done count =
    ap (λ rest. take done bytes ++ take count rest) (take_all (length bytes - done) (drop done bytes) (omega (arith, length-drop done bytes)))
    ∙ sym (take-add done count bytes)

pub loop-done-preserved : goal.loop-done-preserved
loop-done-preserved g c = record {
  within = omega (arith, c.in_ok-count.ensures.bound, c.loop-done.invariant.within);
  put = subst (Appends _ _) (take-on _ c.loop-done.done c.in_ok-count.count) (Appends-trans _ _ _ _ _ c.loop-done.invariant.put c.in_ok-count.ensures.ok);
}
