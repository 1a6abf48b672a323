use Rattle.std.proofs.Common.{◌≡◌, ℕ, replicate, ap, ◌∙◌, arith}
use Rattle.std.specs.Prelude.{None}
use Rattle.page_memory.proofs.tables.empty_root.Goals as goal

pub returns : goal.returns
returns c =
    let all : c.loop.counter ≡ 1024 = omega (arith, c.loop-test.false, c.loop.auto.counter-end) in
    c.loop.invariant ∙ ap (λ (n : ℕ). replicate n None) all
