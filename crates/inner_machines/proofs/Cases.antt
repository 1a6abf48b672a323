-- What holds of the answer in each case of the calls holds of the answer of every call.
use Rattle.std.proofs.Common.{◌≡◌, ◌≢◌, ℕ, ◌+◌, ◌^◌, ◌<◌, ◌≤◌, Bool, true, false, List, length, refl, arith, nat_eq}
use Rattle.std.specs.Prelude.{Option, Some, None, Result, Ok, Err, ◌&&◌, nat_lt, if◌then◌else◌}
use Rattle.std.specs.FinMap as map
use Rattle.std.proofs.lemmas.Bool.Decides.{nat_tests}
use Rattle.machine_state.specs.State.{State, register, with_memory}
use Rattle.machine_state.specs.Ends.{Answer}
use Rattle.page_memory.specs.Access.{touched, with_bytes}
use Rattle.page_memory.specs.Ranges.{range_allows}
use Rattle.blob_codec.specs.declared.fault.BlobFault.{BlobFault}
use Rattle.blob_codec.specs.Grammar.{Program}
use Rattle.blob_codec.specs.Reading.{program_of}
use Rattle.inner_machines.specs.Inner.{Inner, Inners, most_frames, most_program_bytes, frames, program_bytes, least_free}
use Rattle.inner_machines.specs.Calls.{answers, panics, new_inner, placed, made, peeked, poked, page_after, change_pages, paged, ran, invoked, expunged, machine_call, peek_call, poke_call, pages_call, invoke_call, expunge_call, nest_call, is_mapping, means_pages, with_changed_pages, word_at, words_at, worked, ok, oob, who, full, huh}
use Rattle.inner_machines.proofs.Counted.{no_more, at_least}
use Rattle.inner_machines.proofs.Ranges.{fewer_pages}

module _ (Good : Answer Inners → Type 0) (s : State) (inners : Inners) where
  abbrev IsNamed : Inner → Type 0
  IsNamed inner = map.get inners (register s 7) ≡ Some inner

  -- there is room for the pages of machines beside as many more as there was before, at most those of the machine that calls
  abbrev HaveRoom : Inners → Type 0
  HaveRoom after = (beside : ℕ) → beside ≤ map.len s.memory → beside + frames inners ≤ most_frames → beside + frames after ≤ most_frames

  pub record Cases (number : ℕ) : Type 0 where
    pub ends : Good (panics s)
    pub stays : (result : ℕ) → result < 2 ^ 64 → Good (answers result s inners)
    pub makes : number ≡ 8 → (bytes : List ℕ) (n : ℕ) → least_free inners ≡ Some n → program_bytes inners + length bytes ≤ most_program_bytes
        → Good (answers n s (map.insert inners n (new_inner bytes (register s 9))))
    pub peeks : number ≡ 9 → (inner : Inner) → IsNamed inner → range_allows s.memory true (register s 8) (register s 10) ≡ true
        → Good (answers ok (with_memory s (with_bytes s.memory (register s 8) (touched inner.memory (register s 9) (register s 10)))) inners)
    pub pokes : number ≡ 10 → (inner : Inner) → IsNamed inner
        → Good (answers ok s (map.insert inners (register s 7) (record inner { memory = with_bytes inner.memory (register s 9) (touched s.memory (register s 8) (register s 10)) })))
    pub changes : number ≡ 11 → (inner : Inner) → IsNamed inner → HaveRoom (with_changed_pages (register s 10) (register s 8) (register s 9) inners (register s 7) inner)
        → Good (answers ok s (with_changed_pages (register s 10) (register s 8) (register s 9) inners (register s 7) inner))
    pub invokes : number ≡ 12 → (inner : Inner) → IsNamed inner → range_allows s.memory true (register s 8) 112 ≡ true
        → Good (ran s inners inner (word_at s.memory (register s 8)) (worked inner (words_at s.memory (register s 8 + 8) 13) (word_at s.memory (register s 8))))
    pub expunges : number ≢ 8 → number ≢ 9 → (inner : Inner) → IsNamed inner → Good (answers inner.counter s (map.remove inners (register s 7)))

  module _ (number : ℕ) (c : Cases number) where
    choice : (b : Bool) (x y : Answer Inners) → (b ≡ true → Good x) → Good y → Good (if b then x else y)
    choice true x y h k = h refl
    choice false x y h k = k

    by_number : (k : ℕ) (x y : Answer Inners) → (number ≡ k → Good x) → (number ≢ k → Good y) → Good (if nat_eq number k then x else y)
    by_number k x y h other = by_test (nat_eq number k) refl
      where
        by_test : (b : Bool) → nat_eq number k ≡ b → Good (if b then x else y)
        by_test true e = h (grind (arith, nat_tests, e))
        by_test false e = other (grind (arith, nat_tests, e))

    placed_is : number ≡ 8 → (bytes : List ℕ) (b : Bool) (o : Option ℕ) → nat_lt most_program_bytes (program_bytes inners + length bytes) ≡ b → least_free inners ≡ o
        → Good (placed s inners (new_inner bytes (register s 9)) (if b then None else o))
    placed_is eight bytes true o full_is free_is = c.stays full (omega arith)
    placed_is eight bytes false None full_is free_is = c.stays full (omega arith)
    placed_is eight bytes false (Some n) full_is free_is = c.makes eight bytes n free_is (grind (arith, nat_tests, full_is))

    made_is : number ≡ 8 → (bytes : List ℕ) (r : Result Program BlobFault) → Good (made s inners bytes r)
    made_is eight bytes (Err fault) = c.stays huh (omega arith)
    made_is eight bytes (Ok program) = placed_is eight bytes (nat_lt most_program_bytes (program_bytes inners + length bytes)) (least_free inners) refl refl

    peeked_is : number ≡ 9 → range_allows s.memory true (register s 8) (register s 10) ≡ true → (o : Option Inner) → map.get inners (register s 7) ≡ o → Good (peeked s inners o)
    peeked_is nine allows None got = c.stays who (omega arith)
    peeked_is nine allows (Some inner) got = choice (range_allows inner.memory false (register s 9) (register s 10)) _ _ (λ _. c.peeks nine inner got allows) (c.stays oob (omega arith))

    poked_is : number ≡ 10 → (o : Option Inner) → map.get inners (register s 7) ≡ o → Good (poked s inners o)
    poked_is ten None got = c.stays who (omega arith)
    poked_is ten (Some inner) got = choice (range_allows inner.memory true (register s 9) (register s 10)) _ _ (λ _. c.pokes ten inner got) (c.stays oob (omega arith))

    paged_is : number ≡ 11 → (o : Option Inner) → map.get inners (register s 7) ≡ o → Good (paged s inners o)
    paged_is eleven None got = c.stays who (omega arith)
    paged_is eleven (Some inner) got = choice (means_pages inner.memory (register s 10) (register s 8) (register s 9)) _ _ (λ _. by_room (is_mapping (register s 10)) (nat_lt most_frames (map.len s.memory + frames after)) refl refl) (c.stays huh (omega arith))
      where
        new : Inner
        new = record inner { memory = change_pages (page_after (register s 10)) (register s 9) (register s 8) inner.memory }

        after : Inners
        after = map.insert inners (register s 7) new

        by_room : (maps more : Bool) → is_mapping (register s 10) ≡ maps → nat_lt most_frames (map.len s.memory + frames after) ≡ more → Good (if maps && more then answers full s inners else answers ok s after)
        by_room true true e f = c.stays full (omega arith)
        by_room true false e f = c.changes eleven inner got (λ beside few fits. grind (arith, nat_tests, f, few))
        by_room false more e f =
            let less = no_more inners (register s 7) (Some new) (at_least inners (register s 7) inner _ got (fewer_pages (register s 10) (register s 9) (register s 8) inner.memory e)) in
            c.changes eleven inner got (λ beside few fits. omega (arith, less, fits))

    invoked_is : number ≡ 12 → range_allows s.memory true (register s 8) 112 ≡ true → (o : Option Inner) → map.get inners (register s 7) ≡ o → Good (invoked s inners o)
    invoked_is twelve allows None got = c.stays who (omega arith)
    invoked_is twelve allows (Some inner) got = c.invokes twelve inner got allows

    expunged_is : number ≢ 8 → number ≢ 9 → (o : Option Inner) → map.get inners (register s 7) ≡ o → Good (expunged s inners o)
    expunged_is eight nine None got = c.stays who (omega arith)
    expunged_is eight nine (Some inner) got = c.expunges eight nine inner got

    pub each_call : Good (nest_call number (record { state = s; held = inners }))
    unfolding machine_call peek_call poke_call pages_call invoke_call expunge_call
    each_call =
        let bytes : List ℕ = touched s.memory (register s 7) (register s 8) in
        let at : Option Inner = map.get inners (register s 7) in
        by_number 8 _ _ (λ eight. choice (range_allows s.memory false (register s 7) (register s 8)) _ _ (λ _. made_is eight bytes (program_of bytes)) c.ends)
        (λ eight. by_number 9 _ _ (λ nine. choice (range_allows s.memory true (register s 8) (register s 10)) _ _ (λ allows. peeked_is nine allows at refl) c.ends)
        (λ nine. by_number 10 _ _ (λ ten. choice (range_allows s.memory false (register s 8) (register s 10)) _ _ (λ _. poked_is ten at refl) c.ends)
        (λ ten. by_number 11 _ _ (λ eleven. paged_is eleven at refl)
        (λ eleven. by_number 12 _ _ (λ twelve. choice (range_allows s.memory true (register s 8) 112) _ _ (λ allows. invoked_is twelve allows at refl) c.ends)
        (λ twelve. expunged_is eight nine at refl)))))
