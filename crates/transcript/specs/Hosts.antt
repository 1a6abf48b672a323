-- How the host calls of a run are answered: those on inner machines by what they do, and every other by the next of a list
-- of replies.
use Rattle.std.specs.Prelude.{◌≡◌, ℕ, zero, suc, ◌+◌, ◌<◌, ◌^◌, List, [], ◌∷◌, length, drop, true, if◌then◌else◌, Option, Some, None, Result, Ok, Err, refl}
use Rattle.std.specs.Coded.{Coded, code_by, coded×, coded_ℕ, coded_list}
use Rattle.runs.specs.World.{World}
use Rattle.machine_state.specs.Memory.{Memory}
use Rattle.machine_state.specs.State.{State, with_register, with_memory}
use Rattle.machine_state.specs.Ends.{Unanswered, BadReply, Answer, Answered, Ended, Host}
use Rattle.page_memory.specs.Access.{is_refused, with_bytes}
use Rattle.pvm_machine.specs.Machine.{Machine}
use Rattle.inner_machines.specs.Inner.{Inners, no_inners}
use Rattle.inner_machines.specs.Calls.{is_nest_call, nest_call}

-- a reply: the values of r7 and r8, and bytes to write, each list with the address of its first
pub record Reply : Type 0 where
  pub first : ℕ
  pub second : ℕ
  pub pieces : List (ℕ × List ℕ)

-- the registers of a reply are words
abbrev pub IsReply : Reply → Type 0
IsReply r = (r.first < 2 ^ 64) × (r.second < 2 ^ 64)

-- a reply is stored as the tuple of its fields
abbrev pub reply_code : Coded Reply
reply_code =
    code_by (ℕ × (ℕ × List (ℕ × List ℕ)))
    (coded× coded_ℕ (coded× coded_ℕ (coded_list (coded× coded_ℕ (coded_list coded_ℕ)))))
    (λ r. (r.first, (r.second, r.pieces)))
    (λ p. record { first = p.0; second = p.1.0; pieces = p.1.1 })
    (λ _. refl)

-- what the host holds: the replies that are left, how many were given before them, and the inner machines by number
pub record HostState : Type 0 where
  pub replies : List Reply
  pub given : ℕ
  pub inner : Inners

-- the host of a start
abbrev pub start_host : List Reply → HostState
start_host replies = record { replies = replies; given = 0; inner = no_inners }

-- the first of the given number of addresses from one on that may not be written
unfoldable pub first_refused : Memory → ℕ → ℕ → Option ℕ
first_refused memory at zero = None
first_refused memory at (suc len) = if is_refused memory true at then Some at else first_refused memory (at + 1) len

abbrev pub or_else : Option ℕ → Option ℕ → Option ℕ
or_else None next = next
or_else (Some address) next = Some address

-- the first address of a reply that may not be written
abbrev pub refused_of : Memory → List (ℕ × List ℕ) → Option ℕ
refused_of memory [] = None
refused_of memory (p ∷ ps) = or_else (first_refused memory p.0 (length p.1)) (refused_of memory ps)

-- the memory with the bytes of a reply, one piece after another
abbrev pub with_pieces : List (ℕ × List ℕ) → Memory → Memory
with_pieces [] memory = memory
with_pieces (p ∷ ps) memory = with_pieces ps (with_bytes memory p.0 p.1)

-- the state after a reply
abbrev pub replied : Reply → State → State
replied r s = with_register (with_register (with_memory s (with_pieces r.pieces s.memory)) 7 r.first) 8 r.second

-- A reply is given where all its bytes may be written; else the run ends with the first address that may not, and the
-- reply's line, counted from 1.
abbrev pub reply_or : Option ℕ → Reply → HostState → State → Answer HostState
reply_or None r left s = Answered 0 0 (record { state = replied r s; held = left })
reply_or (Some address) r left s = Ended (BadReply left.given address s.memory)

-- the answer by the first reply that is left; with none left the run ends
abbrev pub by_replies : List Reply → ℕ → World State HostState → Answer HostState
by_replies [] number w = Ended (Unanswered number w.state.memory)
by_replies (r ∷ rs) number w = reply_or (refused_of w.state.memory r.pieces) r (record { replies = rs; given = w.held.given + 1; inner = w.held.inner }) w.state

-- the answer by a call on inner machines, which leaves the replies
abbrev pub by_nest : HostState → Answer Inners → Answer HostState
by_nest held (Answered spent rest next) = Answered spent rest (record { state = next.state; held = record held { inner = next.held } })
by_nest held (Ended end) = Ended end

-- the host of a run, for both machines
abbrev pub answering : Host HostState
answering number w =
    if is_nest_call number then by_nest w.held (nest_call number (record { state = w.state; held = w.held.inner })) else by_replies w.held.replies number w

-- what the host holds after the given number of replies
abbrev pub left_of : List Reply → ℕ → Inners → HostState
left_of replies given inners = record { replies = drop given replies; given = given; inner = inners }

-- A machine was answered by a reply. Where the result is an address, it is the first that may not be written, and nothing
-- changed.
abbrev pub IsReplied : Reply → Machine → Machine → Result Unit ℕ → Type 0
IsReplied r old new (Ok done) = (refused_of old.state.memory r.pieces ≡ None) × (new ≡ record old { state = replied r old.state })
IsReplied r old new (Err address) = (refused_of old.state.memory r.pieces ≡ Some address) × (new ≡ old) × (address < 2 ^ 32)

-- it was answered by the reply at a place of the list
abbrev pub IsRepliedBy : Option Reply → Machine → Machine → Result Unit ℕ → Type 0
IsRepliedBy None old new result = ⊥
IsRepliedBy (Some r) old new result = IsReplied r old new result
