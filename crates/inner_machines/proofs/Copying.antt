-- Bytes that are copied from one memory into another.
use Rattle.std.proofs.Common.{◌≡◌, ℕ, ◌+◌, ◌%◌, ◌^◌, ◌<◌, ◌≤◌, Bool, true, false, List, ◌++◌, length, take, drop, ap, sym, ◌∙◌, arith}
use Rattle.std.specs.Prelude.{Option, Some, None, nat_le, nat_eq}
use Rattle.std.proofs.lemmas.Bool.Decides.{nat_tests}
use Rattle.machine_state.specs.Memory as model
use Rattle.machine_state.specs.Output.{page_at}
use Rattle.page_memory.specs.Access.{page_allows, least_refused, touched, with_bytes, stored}
use Rattle.page_memory.specs.Ranges.{lent, lent_in}
use Rattle.page_memory.proofs.Parts.{touched-split, stored-split, allowed_at, modes_stay}
use Rattle.page_memory.proofs.Steps.{length-touched}
use Rattle.page_memory.proofs.Within.{allowed_within}

not_lent : (o : Option model.Page) (at len : ℕ) → at % 4096 + len ≤ 4096 → page_allows false o ≡ true → lent_in o (at % 4096) len ≡ None → ⊥
not_lent None at len within allows none = cc
not_lent (Some page) at len within allows none =
    let test : nat_le (at % 4096 + len) 4096 ≡ true = grind (arith, nat_tests) in
    let none' : Some (take len (drop (at % 4096) page.bytes)) ≡ None = rw test at none in
    cc

-- readable bytes of one page are borrowed
pub is_lent : (m : model.Memory) (at len : ℕ) → 0 < len → at % 4096 + len ≤ 4096 → page_allows false (page_at m at) ≡ true → lent m at len ≡ None → ⊥
is_lent m at len some within allows none =
    let test : nat_eq len 0 ≡ false = grind (arith, nat_tests) in
    not_lent (page_at m at) at len within allows (rw test at none)

-- a store of them within a page
pub part_put : (m new from : model.Memory) (at into len : ℕ) (bytes : List ℕ) → into < 2 ^ 32 → into % 4096 + len ≤ 4096 → page_allows true (page_at m into) ≡ true → length bytes ≡ len → bytes ≡ touched from at len
    → new ≡ stored m into bytes (least_refused m true into (length bytes)) → new ≡ with_bytes m into (touched from at len)
part_put m new from at into len bytes below within allows long is new_is =
    let free : least_refused m true into (length bytes) ≡ None = ap (least_refused m true into) long ∙ allowed_within true len into m below within allows in
    new_is ∙ ap (stored m into bytes) free ∙ ap (with_bytes m into) is

-- one part more is copied
pub part_copied : (from m self new : model.Memory) (at into done step next place : ℕ) → at < 2 ^ 32 → into < 2 ^ 32 → next ≡ at + done → next < 2 ^ 32 → place ≡ into + done → place < 2 ^ 32
    → self ≡ with_bytes m into (touched from at done) → new ≡ with_bytes self place (touched from next step) → new ≡ with_bytes m into (touched from at (done + step))
part_copied from m self new at into done step next place at_below into_below next_is next_below place_is place_below self_is new_is =
    let long : length (touched from at done) ≡ done = length-touched done at from in
    let here : (at + done) % 2 ^ 32 ≡ next = omega (arith, next_is, next_below) in
    let there : (into + length (touched from at done)) % 2 ^ 32 ≡ place = omega (arith, long, place_is, place_below) in
    let split : touched from at (done + step) ≡ touched from at done ++ touched from next step = touched-split done at step from at_below ∙ ap (λ (n : ℕ). touched from at done ++ touched from n step) here in
    new_is
    ∙ ap (λ (s : model.Memory). with_bytes s place (touched from next step)) self_is
    ∙ ap (λ (n : ℕ). with_bytes (with_bytes m into (touched from at done)) n (touched from next step)) (sym there)
    ∙ sym (stored-split (touched from at done) (touched from next step) into m into_below)
    ∙ ap (with_bytes m into) (sym split)

-- the page of the next byte may be read, or written, also after bytes were stored
pub next_allows : (m : model.Memory) (writing : Bool) (at done len next : ℕ) → at < 2 ^ 32 → done < len → next ≡ at + done → next < 2 ^ 32 → least_refused m writing at len ≡ None → page_allows writing (page_at m next) ≡ true
next_allows m writing at done len next below less is next_below free =
    let here : (at + done) % 2 ^ 32 ≡ next = omega (arith, is, next_below) in
    ap (λ (n : ℕ). page_allows writing (page_at m n)) (sym here) ∙ allowed_at done at len m writing below less free

pub still_allows : (m self : model.Memory) (into next : ℕ) (bytes : List ℕ) → self ≡ with_bytes m into bytes → page_allows true (page_at m next) ≡ true → page_allows true (page_at self next) ≡ true
still_allows m self into next bytes is allows = ap (λ (s : model.Memory). page_allows true (page_at s next)) is ∙ modes_stay bytes into next m true ∙ allows
