-- Calls keep that all machines of a run share their pages.
use Rattle.std.proofs.Common.{◌≡◌, ℕ, ◌+◌, ◌≤◌, List, [], ◌∷◌, refl, sym, ◌∙◌, arith}
use Rattle.std.specs.Prelude.{Some, None}
use Rattle.std.specs.FinMap as map
use Rattle.machine_state.specs.Memory as model
use Rattle.machine_state.specs.State.{State, register}
use Rattle.machine_state.specs.Ends.{Answer}
use Rattle.machine_state.specs.Hosts.{GoodAnswer}
use Rattle.numbers.specs.Bytes.{little}
use Rattle.page_memory.specs.Access.{touched, with_bytes}
use Rattle.page_memory.specs.Laws.{StoresKeepPages}
use Rattle.page_memory.proofs.Counted.{len-with_bytes}
use Rattle.page_memory.proofs.Views.{no_frames}
use Rattle.inner_machines.specs.Inner.{Inner, Inners, most_frames, frames}
use Rattle.inner_machines.specs.Calls.{new_inner, word_at, words_at, with_words, worked}
use Rattle.inner_machines.specs.Laws.{SharesPages, CallsSharePages, WorkIsPaid}
use Rattle.inner_machines.proofs.Cases.{each_call}
use Rattle.inner_machines.proofs.Counted.{no_more, at_least}
use Rattle.inner_machines.proofs.Working.{inner_works}

-- words are stored as bytes
len-with_words : (words : List ℕ) (memory : model.Memory) (at : ℕ) → map.len (with_words memory at words) ≡ map.len memory
unfolding with_words
len-with_words [] memory at = refl
len-with_words (word ∷ words) memory at = len-with_words words (with_bytes memory at (little 8 word)) (at + 8) ∙ len-with_bytes (little 8 word) memory at

pub calls_share_pages : StoresKeepPages → CallsSharePages
calls_share_pages keep number w is =
    let s : State = w.state in
    let inners : Inners = w.held in
    let n : ℕ = register s 7 in
    let few : map.len s.memory + frames inners ≤ most_frames = is.few in
    let Good : Answer Inners → Type 0 = λ a. GoodAnswer SharesPages a in
    each_call Good s inners number (record {
      ends = tt;
      stays = λ result word. record { few = few; limit = refl };
      makes = λ eight bytes k least allowed.
          let none : map.len model.no_memory ≡ 0 = sym no_frames in
          let less = no_more inners k (Some (new_inner bytes (register s 9))) (omega (arith, none)) in
          record { few = omega (arith, few, less); limit = refl };
      peeks = λ nine inner named allows.
          record { few = omega (arith, few, len-with_bytes (touched inner.memory (register s 9) (register s 10)) s.memory (register s 8)); limit = refl };
      pokes = λ ten inner named.
          let bytes : List ℕ = touched s.memory (register s 8) (register s 10) in
          let new : Inner = record inner { memory = with_bytes inner.memory (register s 9) bytes } in
          let less = no_more inners n (Some new) (at_least inners n inner _ named (omega (arith, len-with_bytes bytes inner.memory (register s 9)))) in
          record { few = omega (arith, few, less); limit = refl };
      changes = λ eleven inner named room. record { few = room (map.len s.memory) (omega arith) few; limit = refl };
      invokes = λ twelve inner named allows.
          let r = worked inner (words_at s.memory (register s 8 + 8) 13) (word_at s.memory (register s 8)) in
          let w = inner_works keep inner (words_at s.memory (register s 8 + 8) 13) (word_at s.memory (register s 8)) in
          let new : Inner = record inner { memory = r.machine.state.memory; counter = r.machine.counter } in
          let less = no_more inners n (Some new) (at_least inners n inner _ named (omega (arith, w.pages))) in
          record { few = omega (arith, few, less, len-with_words (r.machine.gas ∷ r.machine.state.registers) s.memory (register s 8)); limit = refl };
      expunges = λ eight nine inner named.
          let less = no_more inners n None (omega arith) in
          record { few = omega (arith, few, less); limit = refl };
    })

pub work_is_paid : StoresKeepPages → WorkIsPaid
work_is_paid keep inner registers gas = (inner_works keep inner registers gas).gas
