-- The cases of the call `machine`.
use Rattle.std.proofs.Common.{◌≡◌, ℕ, List, length, Bool, true, false, Some, None, Result, Ok, Err, refl, slice_set}
use Rattle.std.specs.Prelude.{is_ok}
use Rattle.std.specs.FinMap as map
use Rattle.machine_state.specs.State.{State, register}
use Rattle.page_memory.specs.Access.{touched}
use Rattle.page_memory.specs.Ranges.{range_allows}
use Rattle.page_memory.proofs.Steps.{length-touched}
use Rattle.blob_codec.specs.declared.fault.BlobFault.{BlobFault}
use Rattle.blob_codec.specs.Grammar.{Program}
use Rattle.blob_codec.specs.Reading.{program_of}
use Rattle.pvm_machine.specs.Machine.{Machine}
use Rattle.inner_machines.specs.Inner.{Inners}
use Rattle.inner_machines.specs.Calls.{answers, nested, machine_call, made, placed, new_inner, place_for, huh, full}
use Rattle.inner_machines.specs.Served.{Leaves, under_gas}
use Rattle.inner_machines.specs.declared.answer.Served.{Served}
use Rattle.inner_machines.specs.declared.answer.Served.TheVariants.{Done, Panic}
use Rattle.inner_machines.proofs.Leaving.{answered}

none_made : (s : State) (inners : Inners) (bytes : List ℕ) (r : Result Program BlobFault) → is_ok r ≡ false → made s inners bytes r ≡ answers huh s inners
none_made s inners bytes (Ok program) e = cc
none_made s inners bytes (Err fault) e = refl

one_made : (s : State) (inners : Inners) (bytes : List ℕ) (r : Result Program BlobFault) → is_ok r ≡ true → made s inners bytes r ≡ placed s inners (new_inner bytes (register s 9)) (place_for inners (length bytes))
one_made s inners bytes (Ok program) e = refl
one_made s inners bytes (Err fault) e = cc

-- the bytes that the call names, and whether they may be read
abbrev pub named : Machine → List ℕ
named m = touched m.state.memory (register m.state 7) (register m.state 8)

abbrev pub allowed : Machine → Bool
allowed m = range_allows m.state.memory false (register m.state 7) (register m.state 8)

module _ (m : Machine) (inners : Inners) where
  pub range_barred : allowed m ≡ false → Leaves (under_gas m inners (machine_call m.state inners)) m inners m inners Panic
  unfolding machine_call
  range_barred barred = rw barred refl

  pub no_program :
      (m' : Machine) (how : Served) → allowed m ≡ true → is_ok (program_of (named m)) ≡ false → how ≡ Done → m' ≡ record m { state = (nested m.state (slice_set m.state.registers 7 huh) inners).state }
      → Leaves (under_gas m inners (machine_call m.state inners)) m inners m' inners how
  unfolding machine_call
  no_program m' how allows none is_done left = rw (allows, none_made m.state inners (named m) (program_of (named m)) none) (answered m m' inners inners m.state huh how is_done left)

  pub no_room :
      (m' : Machine) (how : Served) → allowed m ≡ true → is_ok (program_of (named m)) ≡ true → place_for inners (register m.state 8) ≡ None → how ≡ Done
      → m' ≡ record m { state = (nested m.state (slice_set m.state.registers 7 full) inners).state } → Leaves (under_gas m inners (machine_call m.state inners)) m inners m' inners how
  unfolding machine_call
  no_room m' how allows some taken is_done left =
      rw (allows, one_made m.state inners (named m) (program_of (named m)) some, length-touched (register m.state 8) (register m.state 7) m.state.memory, taken) (answered m m' inners inners m.state full how is_done left)

  pub is_made :
      (m' : Machine) (inners' : Inners) (how : Served) (number : ℕ) → allowed m ≡ true → is_ok (program_of (named m)) ≡ true → place_for inners (register m.state 8) ≡ Some number
      → inners' ≡ map.insert inners number (new_inner (named m) (register m.state 9)) → how ≡ Done → m' ≡ record m { state = (nested m.state (slice_set m.state.registers 7 number) inners').state }
      → Leaves (under_gas m inners (machine_call m.state inners)) m inners m' inners' how
  unfolding machine_call
  is_made m' inners' how number allows some room added is_done left =
      rw (allows, one_made m.state inners (named m) (program_of (named m)) some, length-touched (register m.state 8) (register m.state 7) m.state.memory, room, ← added) (answered m m' inners inners' m.state number how is_done left)
