-- How the inner machines are kept: by their numbers, with a gap for each number that none has.
use Rattle.std.specs.Prelude.{ℕ, ◌+◌, ◌≡◌, ◌≤◌, List, [], ◌∷◌, Option, Some, None, true, is_ok}
use Rattle.blob_codec.specs.Reading.{program_of}
use Rattle.std.specs.FinMap as map
use Rattle.machine_state.specs.Memory.{Memory}
use Rattle.pvm_machine.specs.declared.answers.Exit.{Exit}
use Rattle.pvm_machine.specs.Ran.{last_answer}
use Rattle.inner_machines.specs.Calls.{worked, words_at, with_words}
use Rattle.inner_machines.specs.Inner.{Inner, Inners, no_inners, most_frames, most_program_bytes, frames, program_bytes}

-- the machines with one at a number, or without one
abbrev pub with_slot : Inners → ℕ → Option Inner → Inners
with_slot inners number None = map.remove inners number
with_slot inners number (Some inner) = map.insert inners number inner

-- the machines of a list, of which the first has a number
unfoldable pub inners_from : ℕ → List (Option Inner) → Inners
inners_from number [] = no_inners
inners_from number (slot ∷ slots) = with_slot (inners_from (number + 1) slots) number slot

abbrev pub inners_of : List (Option Inner) → Inners
inners_of slots = inners_from 0 slots

-- bytes that spell a program
abbrev pub IsSpelled : List ℕ → Type 0
IsSpelled bytes = is_ok (program_of bytes) ≡ true

-- the pages and the bytes of programs that machines have together
pub record IsCounted (inners : Inners) (pages bytes : ℕ) : Type 0 where
  pub pages_are : pages ≡ frames inners
  pub few_pages : pages ≤ most_frames
  pub bytes_are : bytes ≡ program_bytes inners
  pub few_bytes : bytes ≤ most_program_bytes

-- what the work of a machine leaves in a memory, and how it ends, with the gas left
abbrev pub Works : Inner → Memory → ℕ → ℕ → Memory → Exit → ℕ → Type 0
Works inner old at gas new exit left =
    let r = worked inner (words_at old (at + 8) 13) gas in
    (r.answer ≡ last_answer exit) × (r.machine.gas ≡ left) × (new ≡ with_words old at (r.machine.gas ∷ r.machine.state.registers))
