-- The calls on inner machines (JAM Gray Paper 0.7.0, appendix B.8, refine functions), with the cases of each in order. Registers 7 to 10 have the
-- arguments, and register 7 takes the result. Ranges of addresses do not wrap, and an empty one is always allowed.
use Rattle.std.specs.Prelude.{ℕ, zero, suc, ◌+◌, ◌-◌, ◌^◌, List, [], ◌∷◌, length, replicate, Bool, true, false, ◌&&◌, ◌||◌, not, nat_lt, nat_le, nat_eq, if◌then◌else◌, slice_set, Option, Some, None, is_some, Result, Ok, Err}
use Rattle.std.specs.FinMap as map
use Rattle.numbers.specs.Bytes.{little, number_of}
use Rattle.runs.specs.World.{World}
use Rattle.machine_state.specs.Memory as model
use Rattle.machine_state.specs.State.{State, register, with_memory}
use Rattle.machine_state.specs.Ends.{Answer, Answered, Ended, Host, panic}
use Rattle.machine_state.specs.Output.{all_from}
use Rattle.page_memory.specs.Access.{touched, with_bytes}
use Rattle.page_memory.specs.Ranges.{range_allows}
use Rattle.page_memory.specs.Pages.{page_with, with_page}
use Rattle.page_memory.specs.Mapping.{with_mode}
use Rattle.page_memory.specs.declared.mode.Mode.TheVariants.{Readable, Writable}
use Rattle.blob_codec.specs.declared.fault.BlobFault.{BlobFault}
use Rattle.blob_codec.specs.Grammar.{Program, program_with}
use Rattle.blob_codec.specs.Reading.{program_of}
use Rattle.pvm_machine.specs.Machine.{Machine}
use Rattle.pvm_machine.specs.Stepped.{Stepped, all_steps}
use Rattle.pvm_machine.specs.declared.answers.Step.{Step}
use Rattle.pvm_machine.specs.declared.answers.Step.TheVariants as step
use Rattle.inner_machines.specs.Inner.{Inner, Inners, most_program_bytes, most_frames, frames, program_bytes, least_free}

-- the results: OK, done; OOB, a range that the inner machine has not; WHO, no such machine; FULL, no room; HUH, arguments
-- that mean nothing
abbrev pub ok : ℕ
ok = 0

abbrev pub oob : ℕ
oob = 2 ^ 64 - 3

abbrev pub who : ℕ
who = 2 ^ 64 - 4

abbrev pub full : ℕ
full = 2 ^ 64 - 5

abbrev pub huh : ℕ
huh = 2 ^ 64 - 9

-- a call ends the program by a panic
abbrev pub panics : State → Answer Inners
panics s = Ended (panic s)

-- What a call leaves: the state with other registers, and the inner machines. The calling machine may have the pages that
-- the inner ones leave.
abbrev pub nested : State → List ℕ → Inners → World State Inners
nested s registers inners = record { state = record s { registers = registers; frame_limit = most_frames - frames inners }; held = inners }

-- a call goes on with a result in register 7, and no inner machine ran
abbrev pub answers : ℕ → State → Inners → Answer Inners
answers result s inners = Answered 0 0 (nested s (slice_set s.registers 7 result) inners)

-- 8, machine: of the bytes in the range at r7 of length r8 as its program, with a counter (r9)
abbrev pub placed : State → Inners → Inner → Option ℕ → Answer Inners
placed s inners inner None = answers full s inners
placed s inners inner (Some number) = answers number s (map.insert inners number inner)

-- the number for a machine whose program has this length, if there is room for it
abbrev pub place_for : Inners → ℕ → Option ℕ
place_for inners len = if nat_lt most_program_bytes (program_bytes inners + len) then None else least_free inners

-- a machine without a page
abbrev pub new_inner : List ℕ → ℕ → Inner
new_inner bytes counter = record { program = bytes; memory = model.no_memory; counter = counter }

abbrev pub made : State → Inners → List ℕ → Result Program BlobFault → Answer Inners
made s inners bytes (Err fault) = answers huh s inners
made s inners bytes (Ok program) = placed s inners (new_inner bytes (register s 9)) (place_for inners (length bytes))

unfoldable pub machine_call : State → Inners → Answer Inners
machine_call s inners =
    let bytes = touched s.memory (register s 7) (register s 8) in
    if range_allows s.memory false (register s 7) (register s 8) then made s inners bytes (program_of bytes) else panics s

-- 9, peek: machine r7, into the range at r8, from its range at r9, of length r10
abbrev pub peeked : State → Inners → Option Inner → Answer Inners
peeked s inners None = answers who s inners
peeked s inners (Some inner) =
    if range_allows inner.memory false (register s 9) (register s 10)
    then answers ok (with_memory s (with_bytes s.memory (register s 8) (touched inner.memory (register s 9) (register s 10)))) inners
    else answers oob s inners

unfoldable pub peek_call : State → Inners → Answer Inners
peek_call s inners =
    if range_allows s.memory true (register s 8) (register s 10) then peeked s inners (map.get inners (register s 7)) else panics s

-- 10, poke: machine r7, from the range at r8, into its range at r9, of length r10
abbrev pub poked : State → Inners → Option Inner → Answer Inners
poked s inners None = answers who s inners
poked s inners (Some inner) =
    if range_allows inner.memory true (register s 9) (register s 10)
    then answers ok s (map.insert inners (register s 7) (record inner { memory = with_bytes inner.memory (register s 9) (touched s.memory (register s 8) (register s 10)) }))
    else answers oob s inners

unfoldable pub poke_call : State → Inners → Answer Inners
poke_call s inners =
    if range_allows s.memory false (register s 8) (register s 10) then poked s inners (map.get inners (register s 7)) else panics s

-- what becomes of a page: 0 takes it away, 1 and 2 make it a zero page that may be read, or written too, and 3 and 4
-- change this alone
abbrev pub page_after : ℕ → Option model.Page → Option model.Page
page_after how page =
    if nat_eq how 0 then None
    else (if nat_eq how 1 then page_with Readable (replicate model.page_size 0)
    else (if nat_eq how 2 then page_with Writable (replicate model.page_size 0)
    else (if nat_eq how 3 then with_mode Readable page
    else with_mode Writable page)))

-- the given number of pages from one on are changed
unfoldable pub change_pages : (Option model.Page → Option model.Page) → ℕ → ℕ → model.Memory → model.Memory
change_pages change zero first memory = memory
change_pages change (suc count) first memory = with_page (change_pages change count (first + 1) memory) first (change (map.get memory first))

-- a memory has the given number of pages from one on
abbrev pub has_pages : model.Memory → ℕ → ℕ → Bool
has_pages memory first count = all_from (λ page. is_some (map.get memory page)) first count

-- arguments that mean no pages: how they change, the first, and how many
abbrev pub no_such_pages : ℕ → ℕ → ℕ → Bool
no_such_pages how first count = nat_lt 4 how || nat_lt first 16 || nat_le (2 ^ 20) (first + count)

-- arguments mean pages of a memory: such as may be, and those that keep their bytes are there
abbrev pub means_pages : model.Memory → ℕ → ℕ → ℕ → Bool
means_pages memory how first count = not (no_such_pages how first count) && (nat_le how 2 || has_pages memory first count)

-- changes that make zero pages
abbrev pub is_mapping : ℕ → Bool
is_mapping how = nat_eq how 1 || nat_eq how 2

-- the machines with pages of one of them changed
abbrev pub with_changed_pages : ℕ → ℕ → ℕ → Inners → ℕ → Inner → Inners
with_changed_pages how first count inners number inner = map.insert inners number (record inner { memory = change_pages (page_after how) count first inner.memory })

-- 11, pages: of machine r7, r9 pages from number r8 on, and how they change (r10)
abbrev pub changed : State → Inners → Inners → Answer Inners
changed s inners after =
    if is_mapping (register s 10) && nat_lt most_frames (map.len s.memory + frames after) then answers full s inners else answers ok s after

abbrev pub paged : State → Inners → Option Inner → Answer Inners
paged s inners None = answers who s inners
paged s inners (Some inner) =
    if means_pages inner.memory (register s 10) (register s 8) (register s 9)
    then changed s inners (with_changed_pages (register s 10) (register s 8) (register s 9) inners (register s 7) inner)
    else answers huh s inners

unfoldable pub pages_call : State → Inners → Answer Inners
pages_call s inners = paged s inners (map.get inners (register s 7))

-- words of eight bytes, one after another, read and written
abbrev pub word_at : model.Memory → ℕ → ℕ
word_at memory at = number_of (touched memory at 8)

unfoldable pub words_at : model.Memory → ℕ → ℕ → List ℕ
words_at memory at zero = []
words_at memory at (suc n) = word_at memory at ∷ words_at memory (at + 8) n

unfoldable pub with_words : model.Memory → ℕ → List ℕ → model.Memory
with_words memory at [] = memory
with_words memory at (word ∷ words) = with_words (with_bytes memory at (little 8 word)) (at + 8) words

-- the program that bytes spell; bytes that are none stand for a program without code, and no machine has such
abbrev pub or_empty : Result Program BlobFault → Program
or_empty (Ok program) = program
or_empty (Err fault) = program_with [] 0 [] []

-- an inner machine at work, with registers and gas: it has no heap, and can be given no page
abbrev pub at_work : Program → Inner → List ℕ → ℕ → Machine
at_work program inner registers gas =
    record { table = program.table; code = program.code; counter = inner.counter; state = record { registers = registers; memory = inner.memory; heap_top = 0; heap_bound = 0; frame_limit = 0 }; gas = gas }

-- it runs until a step doesn't go on: a host call ends the run too, and is not served
unfoldable pub worked : Inner → List ℕ → ℕ → Stepped
worked inner registers gas = all_steps (at_work (or_empty (program_of inner.program)) inner registers gas)

-- how it stopped, in registers 7 and 8 of the machine that calls. No run ends with one of the last two.
abbrev pub reported_by : List ℕ → Step → List ℕ
reported_by registers step.Halt = slice_set registers 7 0
reported_by registers step.Panic = slice_set registers 7 1
reported_by registers (step.Fault address) = slice_set (slice_set registers 7 2) 8 address
reported_by registers (step.Host number) = slice_set (slice_set registers 7 3) 8 number
reported_by registers step.OutOfGas = slice_set registers 7 4
reported_by registers step.Next = registers
reported_by registers step.Memory = registers

-- the machines after one of them has worked
abbrev pub with_worked : Inners → ℕ → Inner → Stepped → Inners
with_worked inners number inner r = map.insert inners number (record inner { memory = r.machine.state.memory; counter = r.machine.counter })

-- what is left of an inner machine that worked with so much gas: the words at r8 are the gas left and the registers
abbrev pub ran : State → Inners → Inner → ℕ → Stepped → Answer Inners
ran s inners inner gas r =
    Answered (gas - r.machine.gas) r.machine.gas
    (nested (with_memory s (with_words s.memory (register s 8) (r.machine.gas ∷ r.machine.state.registers))) (reported_by s.registers r.answer)
    (with_worked inners (register s 7) inner r))

-- 12, invoke: machine r7, with the words at r8: the gas that it is given, and its thirteen registers. What happens if
-- the calling machine has less gas is said where runs under gas are defined.
abbrev pub invoked : State → Inners → Option Inner → Answer Inners
invoked s inners None = answers who s inners
invoked s inners (Some inner) =
    let gas = word_at s.memory (register s 8) in
    ran s inners inner gas (worked inner (words_at s.memory (register s 8 + 8) 13) gas)

unfoldable pub invoke_call : State → Inners → Answer Inners
invoke_call s inners =
    if range_allows s.memory true (register s 8) 112 then invoked s inners (map.get inners (register s 7)) else panics s

-- 13, expunge: machine r7, whose counter is the result
abbrev pub expunged : State → Inners → Option Inner → Answer Inners
expunged s inners None = answers who s inners
expunged s inners (Some inner) = answers inner.counter s (map.remove inners (register s 7))

unfoldable pub expunge_call : State → Inners → Answer Inners
expunge_call s inners = expunged s inners (map.get inners (register s 7))

-- which numbers are those of calls on inner machines
abbrev pub is_nest_call : ℕ → Bool
is_nest_call number = nat_le 8 number && nat_le number 13

-- the host that answers them
abbrev pub nest_call : Host Inners
nest_call number w =
    if nat_eq number 8 then machine_call w.state w.held
    else (if nat_eq number 9 then peek_call w.state w.held
    else (if nat_eq number 10 then poke_call w.state w.held
    else (if nat_eq number 11 then pages_call w.state w.held
    else (if nat_eq number 12 then invoke_call w.state w.held
    else expunge_call w.state w.held))))
