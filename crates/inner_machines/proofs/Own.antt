-- Each inner machine is what its own calls alone made of it.
use Rattle.std.proofs.Common.{◌≡◌, ℕ, ◌+◌, ◌≤◌, Bool, true, false, List, [], ◌∷◌, length, refl, ap, sym, ◌∙◌, subst, arith, nat_eq, inl, inr, slice_set}
use Rattle.std.specs.Prelude.{Option, Some, None, Result, Ok, Err, ◌&&◌, not, nat_lt, if◌then◌else◌, slice_index}
use Rattle.std.specs.FinMap as map
use Rattle.std.specs.Ordering.{nat_cmp}
use Rattle.std.proofs.lemmas.Bool.{cases_eq, cases_lt, and_parts}
use Rattle.std.proofs.lemmas.Bool.Decides.{nat_tests}
use Rattle.std.proofs.lemmas.List.{get_or-set_same}
use Rattle.machine_state.specs.State.{State, register}
use Rattle.machine_state.specs.Ends.{Answer, Answered, Ended}
use Rattle.page_memory.specs.Access.{touched}
use Rattle.page_memory.specs.Ranges.{range_allows}
use Rattle.blob_codec.specs.declared.fault.BlobFault.{BlobFault}
use Rattle.blob_codec.specs.Grammar.{Program}
use Rattle.blob_codec.specs.Reading.{program_of}
use Rattle.inner_machines.specs.Inner.{Inner, Inners, no_inners, most_machines, most_frames, total, frames, least_free}
use Rattle.inner_machines.specs.Calls.{answers, panics, placed, made, peeked, poked, changed, paged, invoked, expunged, machine_call, peek_call, poke_call, pages_call, invoke_call, expunge_call, nest_call, new_inner, place_for, is_mapping, means_pages, with_changed_pages, page_after, change_pages, full, ok, huh}
use Rattle.inner_machines.specs.Laws.{Stays, Call, made_beside, left_in, result_in, after, is_result, is_refused, is_own, own_calls, made_by, by_calls, HasRegisters, OwnCallsDecide}
use Rattle.inner_machines.proofs.Gaps.{get_here, get_other, same_some}
use Rattle.inner_machines.proofs.Least.{least_free_is}
use Rattle.inner_machines.proofs.Totals.{total_slot, total_past, total_none}
use Rattle.inner_machines.proofs.Stay.{others_stay}

not_both : {b : Bool} → b ≡ true → b ≡ false → ⊥
not_both e f = let both : true ≡ false = sym e ∙ f in cc

is_not : (b : Bool) → not b ≡ true → b ≡ false
is_not true e = cc
is_not false e = refl

second : (a b : Bool) → a ≡ true → (a && b) ≡ false → b ≡ false
second true b e f = f
second false b e f = cc

-- the result in register 7
result_is : (registers : List ℕ) (word : ℕ) → length registers ≡ 13 → slice_index (slice_set registers 7 word) 7 ≡ word
result_is registers word long = get_or-set_same registers 7 word 0 (omega (arith, long))

-- no machine has the least free number
free_has_none : (m : Inners) (n : ℕ) → least_free m ≡ Some n → map.get m n ≡ None
free_has_none m n free = (least_free_is m n (sym free)).none

-- what stays after an answer
kept_by : (n : ℕ) (x : Inners) (a : Answer Inners) → Stays n x a → map.get (left_in x a) n ≡ map.get x n
kept_by n x (Answered spent rest next) stays = stays
kept_by n x (Ended end) stays = refl

-- two answers leave the same machine at a number
abbrev SameAt : ℕ → Inners → Inners → Answer Inners → Answer Inners → Type 0
SameAt n x y a b = map.get (left_in x a) n ≡ map.get (left_in y b) n

choice : (n : ℕ) (x y : Inners) (b : Bool) (a a' c c' : Answer Inners) → SameAt n x y a c → SameAt n x y a' c' → SameAt n x y (if b then a else a') (if b then c else c')
choice n x y true a a' c c' h k = h
choice n x y false a a' c c' h k = k

-- one machine beside no other has the fewest pages
fewest : (m : Inners) (n : ℕ) (old new : Inner) → frames (map.insert (map.insert no_inners n old) n new) ≤ frames (map.insert m n new)
fewest m n old new = elim (cases_lt n most_machines) [
  | inl less ↦
      let one : Inners = map.insert no_inners n old in
      let none : total pages most_machines no_inners ≡ 0 = total_none pages most_machines in
      let first = total_slot pages most_machines n no_inners (Some old) less in
      let here : map.get one n ≡ Some old = get_here no_inners n (Some old) in
      let empty : map.get no_inners n ≡ None = map.get-empty nat_cmp n in
      let second = total_slot pages most_machines n one (Some new) less in
      let whole = total_slot pages most_machines n m (Some new) less in
      let rest = total_slot pages most_machines n m None less in
      omega (arith, none, rw empty at first, rw here at second, whole, rest)
  | inr past ↦
      let one : Inners = map.insert no_inners n old in
      let none : total pages most_machines no_inners ≡ 0 = total_none pages most_machines in
      let first = total_past pages most_machines n no_inners (Some old) (omega (arith, past)) in
      let second = total_past pages most_machines n one (Some new) (omega (arith, past)) in
      omega (arith, none, first, second)
]
  where
    pages : Inner → ℕ
    pages = λ inner. map.len inner.memory

module _ (s : State) (x y : Inners) (inner : Inner) (in_x : map.get x (register s 7) ≡ Some inner) (in_y : map.get y (register s 7) ≡ Some inner) where
  abbrev At : Answer Inners → Answer Inners → Type 0
  At a b = SameAt (register s 7) x y a b

  kept : map.get x (register s 7) ≡ map.get y (register s 7)
  kept = in_x ∙ sym in_y

  put : (new : Inner) → map.get (map.insert x (register s 7) new) (register s 7) ≡ map.get (map.insert y (register s 7) new) (register s 7)
  put new = get_here x (register s 7) (Some new) ∙ sym (get_here y (register s 7) (Some new))

  peek_same : At (peek_call s x) (peek_call s y)
  unfolding peek_call
  peek_same =
      choice (register s 7) x y (range_allows s.memory true (register s 8) (register s 10)) _ _ _ _
      (rw (in_x, in_y) (choice (register s 7) x y (range_allows inner.memory false (register s 9) (register s 10)) _ _ _ _ kept kept)) kept

  poke_same : At (poke_call s x) (poke_call s y)
  unfolding poke_call
  poke_same =
      choice (register s 7) x y (range_allows s.memory false (register s 8) (register s 10)) _ _ _ _
      (rw (in_x, in_y) (choice (register s 7) x y (range_allows inner.memory true (register s 9) (register s 10)) _ _ _ _ (put _) kept)) kept

  invoke_same : At (invoke_call s x) (invoke_call s y)
  unfolding invoke_call
  invoke_same = choice (register s 7) x y (range_allows s.memory true (register s 8) 112) _ _ _ _ (rw (in_x, in_y) (put _)) kept

  expunge_same : At (expunge_call s x) (expunge_call s y)
  unfolding expunge_call
  expunge_same = rw (in_x, in_y) (get_here x (register s 7) None ∙ sym (get_here y (register s 7) None))

  -- pages are changed where there is room beside all machines, and so beside fewer
  changed_same : (p q : Inners) → length s.registers ≡ 13 → map.get p (register s 7) ≡ map.get q (register s 7) → frames q ≤ frames p → is_result full (result_in (changed s x p)) ≡ false → At (changed s x p) (changed s y q)
  changed_same p q long same fewer done = by_tests (is_mapping (register s 10)) (nat_lt most_frames (map.len s.memory + frames p)) (nat_lt most_frames (map.len s.memory + frames q)) refl refl done
    where
      by_tests : (maps b c : Bool) → nat_lt most_frames (map.len s.memory + frames p) ≡ b → nat_lt most_frames (map.len s.memory + frames q) ≡ c
          → is_result full (result_in (if maps && b then answers full s x else answers ok s p)) ≡ false → At (if maps && b then answers full s x else answers ok s p) (if maps && c then answers full s y else answers ok s q)
      by_tests false b c e f done = same
      by_tests true true c e f done = absurd (not_both (ap (λ (word : ℕ). nat_eq word full) (result_is s.registers full long)) done)
      by_tests true false true e f done = absurd (grind (arith, nat_tests, e, f, fewer))
      by_tests true false false e f done = same

  pages_same : length s.registers ≡ 13 → ((new : Inner) → frames (map.insert y (register s 7) new) ≤ frames (map.insert x (register s 7) new)) → is_result full (result_in (pages_call s x)) ≡ false → At (pages_call s x) (pages_call s y)
  unfolding pages_call
  pages_same long fewer done = rw (in_x, in_y) (by_test (means_pages inner.memory (register s 10) (register s 8) (register s 9)) (rw in_x at done))
    where
      new : Inner
      new = record inner { memory = change_pages (page_after (register s 10)) (register s 9) (register s 8) inner.memory }

      by_test : (b : Bool) → is_result full (result_in (if b then changed s x (map.insert x (register s 7) new) else answers huh s x)) ≡ false → At (if b then changed s x (map.insert x (register s 7) new) else answers huh s x) (if b then changed s y (map.insert y (register s 7) new) else answers huh s y)
      by_test true done = changed_same (map.insert x (register s 7) new) (map.insert y (register s 7) new) long (put new) (fewer new) done
      by_test false done = kept

-- an answer leaves the machine at a number as it was
abbrev KeptAt : ℕ → Inners → Answer Inners → Type 0
KeptAt n x a = map.get (left_in x a) n ≡ map.get x n

either : (n : ℕ) (x : Inners) (b : Bool) (a a' : Answer Inners) → KeptAt n x a → KeptAt n x a' → KeptAt n x (if b then a else a')
either n x true a a' h k = h
either n x false a a' h k = k

-- pages that have no room stay
refused_stays : (n : ℕ) (s : State) (x : Inners) → length s.registers ≡ 13 → is_result full (result_in (pages_call s x)) ≡ true → KeptAt n x (pages_call s x)
unfolding pages_call
refused_stays n s x long refused = by_machine (map.get x (register s 7)) refused
  where
    by_room : (b : Bool) (p : Inners) → is_result full (result_in (if b then answers full s x else answers ok s p)) ≡ true → KeptAt n x (if b then answers full s x else answers ok s p)
    by_room true p refused = refl
    by_room false p refused = absurd (not_both refused (ap (λ (word : ℕ). nat_eq word full) (result_is s.registers ok long)))

    by_test : (b : Bool) (p : Inners) → is_result full (result_in (if b then changed s x p else answers huh s x)) ≡ true → KeptAt n x (if b then changed s x p else answers huh s x)
    by_test true p refused = by_room (is_mapping (register s 10) && nat_lt most_frames (map.len s.memory + frames p)) p refused
    by_test false p refused = refl

    by_machine : (o : Option Inner) → is_result full (result_in (paged s x o)) ≡ true → KeptAt n x (paged s x o)
    by_machine None refused = refl
    by_machine (Some inner) refused = by_test (means_pages inner.memory (register s 10) (register s 8) (register s 9)) (with_changed_pages (register s 10) (register s 8) (register s 9) x (register s 7) inner) refused

-- no call but `machine` makes a machine
at_none : (n : ℕ) (x : Inners) (f : Option Inner → Answer Inners) → map.get x n ≡ None → KeptAt n x (f None) → KeptAt n x (f (map.get x n))
at_none n x f none stays = subst (λ (o : Option Inner). KeptAt n x (f o)) (sym none) stays

none_stays : (number : ℕ) (s : State) (x : Inners) → nat_eq number 8 ≡ false → map.get x (register s 7) ≡ None → KeptAt (register s 7) x (nest_call number (record { state = s; held = x }))
unfolding peek_call poke_call pages_call invoke_call expunge_call
none_stays number s x other none =
    let n : ℕ = register s 7 in
    rw other
    (either n x (nat_eq number 9) _ _ (either n x (range_allows s.memory true (register s 8) (register s 10)) _ _ (at_none n x (peeked s x) none refl) refl)
    (either n x (nat_eq number 10) _ _ (either n x (range_allows s.memory false (register s 8) (register s 10)) _ _ (at_none n x (poked s x) none refl) refl)
    (either n x (nat_eq number 11) _ _ (at_none n x (paged s x) none refl)
    (either n x (nat_eq number 12) _ _ (either n x (range_allows s.memory true (register s 8) 112) _ _ (at_none n x (invoked s x) none refl) refl)
    (at_none n x (expunged s x) none refl)))))

none_some : (o : Option Inner) (inner : Inner) → o ≡ None → o ≡ Some inner → ⊥
none_some o inner none some = let both : None ≡ Some inner = sym none ∙ some in cc

-- what `machine` makes where none stood
machine_makes : (n : ℕ) (s : State) (x : Inners) (inner : Inner) → map.get x n ≡ None → map.get (left_in x (machine_call s x)) n ≡ Some inner → new_inner (touched s.memory (register s 7) (register s 8)) (register s 9) ≡ inner
unfolding machine_call
machine_makes n s x inner none some = by_range (range_allows s.memory false (register s 7) (register s 8)) some
  where
    new : Inner
    new = new_inner (touched s.memory (register s 7) (register s 8)) (register s 9)

    by_place : (o : Option ℕ) → map.get (left_in x (placed s x new o)) n ≡ Some inner → new ≡ inner
    by_place None some = absurd (none_some _ inner none some)
    by_place (Some k) some = elim (cases_eq n k) [
      | inl same ↦ same_some new inner (sym (get_here x k (Some new)) ∙ ap (map.get (map.insert x k new)) (sym same) ∙ some)
      | inr other ↦ absurd (none_some _ inner (get_other x k (Some new) n other ∙ none) some)
    ]

    by_program : (r : Result Program BlobFault) → map.get (left_in x (made s x (touched s.memory (register s 7) (register s 8)) r)) n ≡ Some inner → new ≡ inner
    by_program (Err fault) some = absurd (none_some _ inner none some)
    by_program (Ok program) some = by_place (place_for x (length (touched s.memory (register s 7) (register s 8)))) some

    by_range : (b : Bool) → map.get (left_in x (if b then made s x (touched s.memory (register s 7) (register s 8)) (program_of (touched s.memory (register s 7) (register s 8))) else panics s)) n ≡ Some inner → new ≡ inner
    by_range true some = by_program (program_of (touched s.memory (register s 7) (register s 8))) some
    by_range false some = absurd (none_some _ inner none some)

-- an own call that is not refused does beside all machines what it does beside none
own_same : (number : ℕ) (s : State) (x : Inners) (inner : Inner) → length s.registers ≡ 13 → nat_eq number 8 ≡ false → map.get x (register s 7) ≡ Some inner
    → (nat_eq number 11 && is_result full (result_in (nest_call number (record { state = s; held = x })))) ≡ false
    → SameAt (register s 7) x (map.insert no_inners (register s 7) inner) (nest_call number (record { state = s; held = x })) (nest_call number (record { state = s; held = map.insert no_inners (register s 7) inner }))
own_same number s x inner long other in_x done = rw other (choice n x y (nat_eq number 9) _ _ _ _ (peek_same s x y inner in_x in_y) (choice n x y (nat_eq number 10) _ _ _ _ (poke_same s x y inner in_x in_y) (by_test (nat_eq number 11) refl)))
  where
    n : ℕ
    n = register s 7

    y : Inners
    y = map.insert no_inners (register s 7) inner

    in_y : map.get y (register s 7) ≡ Some inner
    in_y = get_here no_inners (register s 7) (Some inner)

    rest : Inners → Answer Inners
    rest inners = if nat_eq number 12 then invoke_call s inners else expunge_call s inners

    is_pages : nat_eq number 11 ≡ true → nest_call number (record { state = s; held = x }) ≡ pages_call s x
    is_pages e =
        let nine : nat_eq number 9 ≡ false = grind (arith, nat_tests, e) in
        let ten : nat_eq number 10 ≡ false = grind (arith, nat_tests, e) in
        rw (other, nine, ten, e) refl

    by_test : (b : Bool) → nat_eq number 11 ≡ b → SameAt n x y (if b then pages_call s x else rest x) (if b then pages_call s y else rest y)
    by_test true e = pages_same s x y inner in_x in_y long (λ new. fewest x n inner new) (ap (λ (a : Answer Inners). is_result full (result_in a)) (sym (is_pages e)) ∙ second (nat_eq number 11) _ e done)
    by_test false e = choice n x y (nat_eq number 12) _ _ _ _ (invoke_same s x y inner in_x in_y) (expunge_same s x y inner in_x in_y)

-- one call more
step : (c : Call) (earlier : List Call) (n : ℕ) (inner : Inner) → HasRegisters c → ((i : Inner) → map.get (after earlier) n ≡ Some i → by_calls n (own_calls n earlier) ≡ Some i) → map.get (after (c ∷ earlier)) n ≡ Some inner
    → (o : Option Inner) → map.get (after earlier) n ≡ o → by_calls n (own_calls n (c ∷ earlier)) ≡ Some inner
unfolding after own_calls by_calls
step c earlier n inner long before got None none = rw (got, none) (by_number (nat_eq c.number 8) refl)
  where
    stays : nat_eq c.number 8 ≡ false → KeptAt n (after earlier) (made_beside (after earlier) c)
    stays e = elim (cases_eq n (register c.state 7)) [
      | inl same ↦ rw same (none_stays c.number c.state (after earlier) e (ap (map.get (after earlier)) (sym same) ∙ none))
      | inr other ↦ kept_by n (after earlier) (made_beside (after earlier) c) (others_stay c.number n (record { state = c.state; held = after earlier }) (λ eight. absurd (grind (arith, nat_tests, e, eight))) (λ _ _. other))
    ]

    by_number : (b : Bool) → nat_eq c.number 8 ≡ b → (if b then Some (made_by c) else None) ≡ Some inner
    by_number true e = ap (λ (i : Inner). Some i) (machine_makes n c.state (after earlier) inner none (rw e at got))
    by_number false e = absurd (none_some _ inner (stays e ∙ none) got)
step c earlier n inner long before got (Some i) some = rw (got, some) (by_test (is_own n c && not (is_refused c earlier)) refl)
  where
    x : Inners
    x = after earlier

    same : KeptAt n x (made_beside x c) → Some i ≡ Some inner
    same stays = sym some ∙ sym stays ∙ got

    not_own : is_own n c ≡ false → KeptAt n x (made_beside x c)
    not_own e = kept_by n x (made_beside x c) (others_stay c.number n (record { state = c.state; held = x }) (λ eight free. none_some _ i (free_has_none x n free) some) (λ eight nine is. absurd (grind (arith, nat_tests, e, eight, is))))

    refused : is_refused c earlier ≡ true → KeptAt n x (made_beside x c)
    refused e =
        let parts = and_parts (nat_eq c.number 11) _ e in
        let eight : nat_eq c.number 8 ≡ false = grind (arith, nat_tests, parts.0) in
        let nine : nat_eq c.number 9 ≡ false = grind (arith, nat_tests, parts.0) in
        let ten : nat_eq c.number 10 ≡ false = grind (arith, nat_tests, parts.0) in
        let is_pages : made_beside x c ≡ pages_call c.state x = rw (eight, nine, ten, parts.0) refl in
        rw is_pages (refused_stays n c.state x long (ap (λ (a : Answer Inners). is_result full (result_in a)) (sym is_pages) ∙ parts.1))

    stays : (b r : Bool) → is_own n c ≡ b → is_refused c earlier ≡ r → (b && not r) ≡ false → KeptAt n x (made_beside x c)
    stays false r e f test = not_own e
    stays true true e f test = refused f
    stays true false e f test = cc

    own : (is_own n c ≡ true) → is_refused c earlier ≡ false → by_calls n (c ∷ own_calls n earlier) ≡ Some inner
    own e f =
        let parts = and_parts (not (nat_eq c.number 8)) (nat_eq (register c.state 7) n) e in
        let eight : nat_eq c.number 8 ≡ false = is_not (nat_eq c.number 8) parts.0 in
        let at : register c.state 7 ≡ n = grind (arith, nat_tests, parts.1) in
        rw (eight, before i some) (rw at at (sym (own_same c.number c.state x i long eight (ap (map.get x) at ∙ some) f)) ∙ got)

    parts_of : (b r : Bool) → is_own n c ≡ b → is_refused c earlier ≡ r → (b && not r) ≡ true → by_calls n (c ∷ own_calls n earlier) ≡ Some inner
    parts_of true false e f test = own e f
    parts_of true true e f test = cc
    parts_of false r e f test = cc

    by_test : (b : Bool) → (is_own n c && not (is_refused c earlier)) ≡ b → by_calls n (if b then c ∷ own_calls n earlier else own_calls n earlier) ≡ Some inner
    by_test true e = parts_of (is_own n c) (is_refused c earlier) refl refl e
    by_test false e = before i some ∙ same (stays (is_own n c) (is_refused c earlier) refl refl e)

pub own_calls_decide : OwnCallsDecide
unfolding after
own_calls_decide [] n inner long got = absurd (none_some _ inner (map.get-empty nat_cmp n) got)
own_calls_decide (c ∷ earlier) n inner long got = step c earlier n inner long.0 (λ i some. own_calls_decide earlier n i long.1 some) got (map.get (after earlier) n) refl
