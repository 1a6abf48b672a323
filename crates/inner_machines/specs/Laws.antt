-- The laws of calls on inner machines that contracts name.
use Rattle.std.specs.Prelude.{◌≡◌, ◌≢◌, ◌⊎◌, ℕ, ◌+◌, ◌-◌, ◌<◌, ◌≤◌, List, [], ◌∷◌, Bool, true, false, ◌&&◌, not, nat_eq, if◌then◌else◌, Option, Some, None, is_some, length}
use Rattle.std.specs.List.{AllByRecursion}
use Rattle.std.specs.FinMap as map
use Rattle.runs.specs.World.{World}
use Rattle.machine_state.specs.State.{State, register}
use Rattle.machine_state.specs.Ends.{Answer, Answered, Ended}
use Rattle.machine_state.specs.Hosts.{GoodAnswer}
use Rattle.machine_state.specs.Memory.{Memory}
use Rattle.machine_state.specs.Output.{page_at}
use Rattle.page_memory.specs.Access.{page_allows, touched, byte_of}
use Rattle.inner_machines.specs.Inner.{Inner, Inners, no_inners, most_machines, most_frames, frames, least_free}
use Rattle.inner_machines.specs.Calls.{full, new_inner, worked, nest_call}

-- What changes of the inner machines.

-- the machine with a number is as before
abbrev pub Stays : ℕ → Inners → Answer Inners → Type 0
Stays q inners (Answered spent rest next) = map.get next.held q ≡ map.get inners q
Stays q inners (Ended end) = Unit {0}

-- A call changes the machine of its own number alone: `machine` makes that of the least free number, `peek` changes none,
-- and any other changes that of register 7.
abbrev pub OthersStay : Type 0
OthersStay =
    (number q : ℕ) (w : World State Inners) → (number ≡ 8 → least_free w.held ≢ Some q) → (number ≢ 8 → number ≢ 9 → q ≢ register w.state 7)
    → Stays q w.held (nest_call number w)

-- the number that `machine` gives: no machine has it, and there is one with each lesser number; none is left if all are
-- taken
abbrev pub IsLeastFree : Inners → Option ℕ → Type 0
IsLeastFree inners None = (q : ℕ) → q < most_machines → is_some (map.get inners q) ≡ true
IsLeastFree inners (Some n) = (n < most_machines) × (map.get inners n ≡ None) × ((q : ℕ) → q < n → is_some (map.get inners q) ≡ true)

abbrev pub LeastIsFree : Type 0
LeastIsFree = (inners : Inners) → IsLeastFree inners (least_free inners)

-- What changes of the machine that calls.

-- no page comes, goes or changes its mode, and each byte outside a range is as before
pub record BytesStay (at len : ℕ) (old new : Memory) : Type 0 where
  pub modes : (writing : Bool) (address : ℕ) → page_allows writing (page_at new address) ≡ page_allows writing (page_at old address)
  pub bytes : (address : ℕ) → (address < at) ⊎ (at + len ≤ address) → byte_of new address ≡ byte_of old address

-- how many bytes a call may write, from the address in register 8 on
abbrev pub written_by : ℕ → State → ℕ
written_by number s = if nat_eq number 9 then register s 10 else (if nat_eq number 12 then 112 else 0)

-- what a call keeps of the state of the machine that calls: all but its page limit is named here
pub record KeepsState (number : ℕ) (old new : State) : Type 0 where
  pub registers : (at : ℕ) → at ≢ 7 → at ≢ 8 → register new at ≡ register old at
  pub eighth : number ≢ 12 → register new 8 ≡ register old 8
  pub memory : BytesStay (register old 8) (written_by number old) old.memory new.memory
  pub heap_top : new.heap_top ≡ old.heap_top
  pub heap_bound : new.heap_bound ≡ old.heap_bound

-- the answer of a call keeps this, and only `invoke` spends gas
abbrev pub KeepsOuter : ℕ → State → Answer Inners → Type 0
KeepsOuter number s (Answered spent rest next) = KeepsState number s next.state × (number ≢ 12 → (spent ≡ 0) × (rest ≡ 0))
KeepsOuter number s (Ended end) = Unit {0}

-- so do all calls
abbrev pub OuterStays : Type 0
OuterStays = (number : ℕ) (w : World State Inners) → KeepsOuter number w.state (nest_call number w)

-- What all machines of a run share.

-- they have at most 131,072 pages together, and the machine that calls may have those that the inner ones leave
pub record SharesPages (w : World State Inners) : Type 0 where
  pub few : map.len w.state.memory + frames w.held ≤ most_frames
  pub limit : w.state.frame_limit ≡ most_frames - frames w.held

-- each call keeps this
abbrev pub CallsSharePages : Type 0
CallsSharePages = (number : ℕ) (w : World State Inners) → SharesPages w → GoodAnswer SharesPages (nest_call number w)

-- an inner machine spends of the gas that it is given alone
abbrev pub WorkIsPaid : Type 0
WorkIsPaid = (inner : Inner) (registers : List ℕ) (gas : ℕ) → (worked inner registers gas).machine.gas ≤ gas

-- An inner machine is what its own calls made of it.

-- a call, with the state of the machine that makes it, whose memory has the bytes that the call reads
pub record Call : Type 0 where
  pub number : ℕ
  pub state : State

-- its result beside inner machines
abbrev pub made_beside : Inners → Call → Answer Inners
made_beside inners c = nest_call c.number (record { state = c.state; held = inners })

-- the inner machines that an answer leaves, and the result in register 7; those before it, where it ends the program
abbrev pub left_in : Inners → Answer Inners → Inners
left_in inners (Answered spent rest next) = next.held
left_in inners (Ended end) = inners

abbrev pub result_in : Answer Inners → Option ℕ
result_in (Answered spent rest next) = Some (register next.state 7)
result_in (Ended end) = None

-- the inner machines after calls, from none on; the last call is first in the list
unfoldable pub after : List Call → Inners
after [] = no_inners
after (c ∷ earlier) = left_in (after earlier) (made_beside (after earlier) c)

-- there is a machine with a number after the first of the calls and there was none before: the call made it
abbrev pub is_made : ℕ → Call → List Call → Bool
is_made n c earlier = is_some (map.get (after (c ∷ earlier)) n) && not (is_some (map.get (after earlier) n))

-- the call is `pages`, and its result is FULL
abbrev pub is_result : ℕ → Option ℕ → Bool
is_result word None = false
is_result word (Some result) = nat_eq result word

abbrev pub is_refused : Call → List Call → Bool
is_refused c earlier = nat_eq c.number 11 && is_result full (result_in (made_beside (after earlier) c))

-- it names the machine with a number as its own
abbrev pub is_own : ℕ → Call → Bool
is_own n c = not (nat_eq c.number 8) && nat_eq (register c.state 7) n

-- a machine's own calls since the one that made it, but for those that had no room
unfoldable pub own_calls : ℕ → List Call → List Call
own_calls n [] = []
own_calls n (c ∷ earlier) =
    if is_made n c earlier then c ∷ []
    else (if is_own n c && not (is_refused c earlier) then c ∷ own_calls n earlier
    else own_calls n earlier)

-- the machine that a call makes, and what a call makes of a machine if there is no other
abbrev pub made_by : Call → Inner
made_by c = new_inner (touched c.state.memory (register c.state 7) (register c.state 8)) (register c.state 9)

abbrev pub alone_after : ℕ → Call → Option Inner → Option Inner
alone_after n c None = None
alone_after n c (Some inner) = map.get (left_in (map.insert no_inners n inner) (made_beside (map.insert no_inners n inner) c)) n

-- what calls alone make of a machine: the first is the one that makes it
unfoldable pub by_calls : ℕ → List Call → Option Inner
by_calls n [] = None
by_calls n (c ∷ earlier) = if nat_eq c.number 8 then Some (made_by c) else alone_after n c (by_calls n earlier)

-- thirteen registers
abbrev pub HasRegisters : Call → Type 0
HasRegisters c = length c.state.registers ≡ 13

-- each machine that there is after calls is what its own calls alone made of it
abbrev pub OwnCallsDecide : Type 0
OwnCallsDecide =
    (calls : List Call) (n : ℕ) (inner : Inner) → AllByRecursion HasRegisters calls → map.get (after calls) n ≡ Some inner
    → by_calls n (own_calls n calls) ≡ Some inner
