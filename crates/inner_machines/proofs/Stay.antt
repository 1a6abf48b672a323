-- A call changes the inner machine of its own number alone.
use Rattle.std.proofs.Common.{ℕ, refl, ap, sym, ◌∙◌, arith}
use Rattle.std.specs.Prelude.{Some, None}
use Rattle.machine_state.specs.State.{register}
use Rattle.inner_machines.specs.Inner.{Inners}
use Rattle.inner_machines.specs.Laws.{Stays, OthersStay}
use Rattle.inner_machines.proofs.Cases.{each_call}
use Rattle.inner_machines.proofs.Gaps.{get_other}

pub others_stay : OthersStay
others_stay number q w free own =
    let inners : Inners = w.held in
    let n : ℕ = register w.state 7 in
    each_call (Stays q inners) w.state inners number (record {
      ends = tt;
      stays = λ result word. refl;
      makes = λ eight bytes k least allowed. get_other inners k (Some _) q (λ same. free eight (least ∙ ap (λ (k : ℕ). Some k) (sym same)));
      peeks = λ nine inner named allows. refl;
      pokes = λ ten inner named. get_other inners n (Some _) q (own (omega (arith, ten)) (omega (arith, ten)));
      changes = λ eleven inner named room. get_other inners n (Some _) q (own (omega (arith, eleven)) (omega (arith, eleven)));
      invokes = λ twelve inner named allows. get_other inners n (Some _) q (own (omega (arith, twelve)) (omega (arith, twelve)));
      expunges = λ eight nine inner named. get_other inners n None q (own eight nine);
    })
