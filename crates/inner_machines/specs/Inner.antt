-- Inner machines: those that a running program makes, runs and takes away.
use Rattle.std.specs.Prelude.{ℕ, zero, suc, ◌+◌, ◌^◌, List, length, if◌then◌else◌, Option, Some, None, is_some, refl}
use Rattle.std.specs.Ordering.{nat_cmp}
use Rattle.std.specs.FinMap as map
use Rattle.std.specs.Coded.{Coded, code_by, coded×, coded_ℕ, coded_list}
use Rattle.machine_state.specs.Memory.{Memory}
use Rattle.machine_state.specs.Codes.{memory_code}

-- an inner machine: the bytes of its program, its memory, and the position of its next instruction
pub record Inner : Type 0 where
  pub program : List ℕ
  pub memory : Memory
  pub counter : ℕ

-- the inner machines of a run, by their numbers
abbrev pub Inners : Type 0
Inners = map.FinMap nat_cmp Inner

abbrev pub no_inners : Inners
no_inners = map.empty

-- how many machines there are at most, with how many bytes of programs together, and how many pages the memories of all
-- machines of a run have together, that of the running program counted
abbrev pub most_machines : ℕ
most_machines = 1024

abbrev pub most_program_bytes : ℕ
most_program_bytes = 2 ^ 26

abbrev pub most_frames : ℕ
most_frames = 131072

abbrev pub counted : (Inner → ℕ) → Option Inner → ℕ
counted count None = 0
counted count (Some inner) = count inner

-- the sum of a count over the machines with numbers below one
unfoldable pub total : (Inner → ℕ) → ℕ → Inners → ℕ
total count zero inners = 0
total count (suc n) inners = total count n inners + counted count (map.get inners n)

-- how many machines there are, how many pages they have together, and how many bytes their programs have
abbrev pub machines : Inners → ℕ
machines inners = total (λ inner. 1) most_machines inners

abbrev pub frames : Inners → ℕ
frames inners = total (λ inner. map.len inner.memory) most_machines inners

abbrev pub program_bytes : Inners → ℕ
program_bytes inners = total (λ inner. length inner.program) most_machines inners

-- the least of the given number of numbers from one on that no machine has
unfoldable pub free_from : ℕ → ℕ → Inners → Option ℕ
free_from at zero inners = None
free_from at (suc more) inners = if is_some (map.get inners at) then free_from (at + 1) more inners else Some at

-- the least free number, if there is one
abbrev pub least_free : Inners → Option ℕ
least_free inners = free_from 0 most_machines inners

-- machines are stored as the tuples of their fields
abbrev pub inner_code : Coded Inner
inner_code =
    code_by (List ℕ × (Memory × ℕ))
    (coded× (coded_list coded_ℕ) (coded× memory_code coded_ℕ))
    (λ i. (i.program, (i.memory, i.counter)))
    (λ p. record { program = p.0; memory = p.1.0; counter = p.1.1 })
    (λ _. refl)

abbrev pub inners_code : Coded Inners
inners_code = map.code coded_ℕ inner_code
