-- The host of a run keeps the rules of hosts: it answers by calls on inner machines, which do, and by replies that are words.
use Rattle.std.proofs.Common.{◌≡◌, ℕ, ◌+◌, Bool, true, false, List, [], ◌∷◌, Option, Some, None, refl, sym, ◌∙◌, arith}
use Rattle.std.specs.Prelude.{if◌then◌else◌}
use Rattle.std.specs.Ordering.{nat_cmp}
use Rattle.std.specs.FinMap as finite
use Rattle.std.specs.List.{AllByRecursion}
use Rattle.runs.specs.World.{World}
use Rattle.machine_state.specs.State.{State, IsState, with_register, with_memory}
use Rattle.machine_state.specs.Start.{Image, start_state}
use Rattle.machine_state.specs.Ends.{Answer, Answered, Ended}
use Rattle.machine_state.specs.Hosts.{Bounds, bounds_of, IsWorld, GoodAnswer, AnswersWell}
use Rattle.machine_state.proofs.Registers.{registers_stay, memory_stays}
use Rattle.inner_machines.specs.Inner.{Inner, Inners, no_inners, most_machines}
use Rattle.inner_machines.specs.Calls.{is_nest_call, nest_call}
use Rattle.inner_machines.specs.CallRules.{IsInner, InnersFit, CallsAnswerWell}
use Rattle.inner_machines.proofs.Totals.{total_none}
use Rattle.transcript.specs.Hosts.{Reply, IsReply, HostState, start_host, with_pieces, refused_of, reply_or, by_replies, by_nest, answering}
use Rattle.link_core.specs.Hosts.{HostFits}

module _ (calls_answer_well : CallsAnswerWell) (heap_bound : ℕ) where
  abbrev Good : Answer HostState → Type 0
  Good a = GoodAnswer (IsWorld (HostFits heap_bound)) a

  -- a reply changes no bounds, and leaves words in the registers
  reply_is_good : (r : Reply) (o : Option ℕ) (left : HostState) (s : State) → IsReply r → IsState s → HostFits heap_bound (bounds_of s) left → Good (reply_or o r left s)
  reply_is_good r (Some address) left s is good fits = tt
  reply_is_good r None left s is good fits = record {
    good_state = registers_stay (with_register (with_memory s (with_pieces r.pieces s.memory)) 7 r.first) 8 r.second (registers_stay (with_memory s (with_pieces r.pieces s.memory)) 7 r.first (memory_stays s (with_pieces r.pieces s.memory) good) is.0) is.1;
    held_fits = fits;
  }

  replies_are_good : (rs : List Reply) (number : ℕ) (w : World State HostState) → w.held.replies ≡ rs → IsWorld (HostFits heap_bound) w → Good (by_replies rs number w)
  replies_are_good [] number w e g = tt
  replies_are_good (r ∷ rs) number w e g =
      let all : AllByRecursion IsReply (r ∷ rs) = rw e at g.held_fits.replies in
      reply_is_good r (refused_of w.state.memory r.pieces) (record { replies = rs; given = w.held.given + 1; inner = w.held.inner }) w.state all.0 g.good_state (record { inner = g.held_fits.inner; replies = all.1 })

  -- a call on inner machines leaves the replies
  nest_is_good : (held : HostState) (a : Answer Inners) → AllByRecursion IsReply held.replies → GoodAnswer (IsWorld (InnersFit heap_bound)) a → Good (by_nest held a)
  nest_is_good held (Answered spent rest next) all good = record { good_state = good.good_state; held_fits = record { inner = good.held_fits; replies = all } }
  nest_is_good held (Ended end) all good = tt

  pub answers_well : AnswersWell (HostFits heap_bound) answering
  answers_well number w g = by_test (is_nest_call number)
    where
      inner : World State Inners
      inner = record { state = w.state; held = w.held.inner }

      by_test : (b : Bool) → Good (if b then by_nest w.held (nest_call number inner) else by_replies w.held.replies number w)
      by_test true = nest_is_good w.held (nest_call number inner) g.held_fits.replies (calls_answer_well heap_bound number inner (record { good_state = g.good_state; held_fits = g.held_fits.inner }))
      by_test false = replies_are_good w.held.replies number w refl g

no_inner : (inner : Inner) → None ≡ Some inner → IsInner inner
no_inner inner e = absurd cc

-- what is held at a start fits
pub start_fits : (image : Image) (argument : List ℕ) (replies : List Reply) → AllByRecursion IsReply replies → HostFits (start_state image argument).heap_bound (bounds_of (start_state image argument)) (start_host replies)
start_fits image argument replies all = record {
  inner = record {
    shares = record { heap = refl; shared = omega (arith, total_none (λ inner. finite.len inner.memory) most_machines) };
    each = λ number inner got. no_inner inner (sym (finite.get-empty nat_cmp number) ∙ got);
  };
  replies = all;
}
