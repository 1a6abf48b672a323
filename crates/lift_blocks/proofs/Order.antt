-- The place after an operation that goes on is the next in code order.
use Rattle.std.proofs.Common.{◌≡◌, ℕ, zero, suc, ◌+◌, ◌-◌, ◌*◌, ◌/◌, ◌<◌, Bool, true, false, List, [], ◌∷◌, ◌++◌, length, Option, Some, None, refl, sym, ap, ◌∙◌, arith, eq-eqb}
use Rattle.std.specs.Prelude.{slice_get, nat_eq, nat_le, cond, not, ◌&&◌, ◌||◌, if◌then◌else◌, Result, Ok, Err, ℤ}
use Rattle.std.specs.List.{filter, filter_map, list_any, cons_option}
use Rattle.std.specs.Option.{option_map}
use Rattle.std.proofs.lemmas.Bool.{lt-leb}
use Rattle.faults.specs.First.{where_true}
use Rattle.faults.specs.Present.{each_below}
use Rattle.rv_decode.specs.declared.ops.RvOp.{RvOp}
use Rattle.rv_decode.specs.declared.ops.RvOp.TheVariants as rv
use Rattle.symbols.specs.Faults.{has_effect}
use Rattle.symbols.specs.Parts.{object_at}
use Rattle.symbols.specs.Wanted.{Given, Import}
use Rattle.relocs.specs.declared.operand.Operand.{Operand}
use Rattle.relocs.specs.Kinds.{names_target}
use Rattle.relocs.specs.Places.{CodePlace, Code, Stub, Nowhere, code_at, offsets_from, section_offsets, code_offsets, same_place, has}
use Rattle.relocs.specs.Words.{word_or_trap, raw_at, decoded, is_code_offset}
use Rattle.relocs.specs.Pairs.{is_pair_at, is_second, is_import, is_absent, named_by, import_stub, trap_stub, trap_stubs, stub_places, all_places, next_place}
use Rattle.relocs.specs.AddressMap.{needed_places}
use Rattle.lift_blocks.specs.Operations.{Operation, Plain, placed_op, pair_op, target_from, target_or, operand_at, stub_op, operation_in}
use Rattle.lift_blocks.specs.Listed.{can_go_on, next_of, successor_of, successor_places, targeted_places, is_emitted, code_places}

same_self : (n : ℕ) → nat_eq n n ≡ true
same_self n = eq-eqb n n refl

pub place_self : (p : CodePlace) → same_place p p ≡ true
place_self (Code o s offset) = rw (same_self o, same_self s, same_self offset) refl
place_self (Stub n at) = rw (same_self n, same_self at) refl
place_self Nowhere = refl

or_true : (b : Bool) → (b || true) ≡ true
or_true true = refl
or_true false = refl

pub any_front : {X : Type 0} (test : X → Bool) (xs ys : List X) → list_any test xs ≡ true → list_any test (xs ++ ys) ≡ true
any_front test [] ys h = absurd cc
any_front test (x ∷ xs) ys h = by_test (any_front test xs ys) (test x) h
  where
    by_test : (list_any test xs ≡ true → list_any test (xs ++ ys) ≡ true) → (b : Bool) → (b || list_any test xs) ≡ true → (b || list_any test (xs ++ ys)) ≡ true
    by_test more true h = refl
    by_test more false h = more h

-- what some element gives is among what all give
pub has_given : (f : CodePlace → Option CodePlace) (xs : List CodePlace) (i : ℕ) (p n : CodePlace) → slice_get xs i ≡ Some p → f p ≡ Some n → has (filter_map f xs) n ≡ true
has_given f [] i p n e h = absurd cc
has_given f (x ∷ xs) zero p n e h =
    let same : x ≡ p = cc in
    rw (same, h, place_self n) refl
has_given f (x ∷ xs) (suc i) p n e h = by_given (f x) (has_given f xs i p n e h)
  where
    by_given : (o : Option CodePlace) → has (filter_map f xs) n ≡ true → has (cons_option o (filter_map f xs)) n ≡ true
    by_given None r = r
    by_given (Some y) r = rw r (or_true (same_place n y))

pub filter_member : {X : Type 0} (test : X → Bool) (xs : List X) (q : ℕ) (p : X) → slice_get (filter test xs) q ≡ Some p → (i : ℕ) × (slice_get xs i ≡ Some p)
filter_member test [] q p e = absurd cc
filter_member {X} test (x ∷ xs) q p e = by_test (λ k. filter_member test xs k p) (test x) q e
  where
    by_test : ((k : ℕ) → slice_get (filter test xs) k ≡ Some p → (i : ℕ) × (slice_get xs i ≡ Some p)) → (b : Bool) (q : ℕ) → slice_get (cond b (x ∷ filter test xs) (filter test xs)) q ≡ Some p → (i : ℕ) × (slice_get (x ∷ xs) i ≡ Some p)
    by_test more true zero e = (0, e)
    by_test more true (suc q) e = (let r = more q e in (suc r.0, r.1))
    by_test more false q e = (let r = more q e in (suc r.0, r.1))

-- the operation of a word goes on only where the word does
abbrev word_goes_on : Option RvOp → Bool
word_goes_on None = false
word_goes_on (Some rv.Trap) = false
word_goes_on (Some op) = true

plain_word : (needed : List CodePlace) (next : CodePlace) (aim : ℤ → CodePlace) (operand : Operand) (o : Option RvOp) (p n : CodePlace) (given : Given)
    → next_of given p (option_map (placed_op needed next aim operand) o) ≡ Some n → word_goes_on o ≡ true
plain_word needed next aim operand None p n given e = absurd cc
plain_word needed next aim operand (Some (rv.Lui rd v)) p n given e = refl
plain_word needed next aim operand (Some (rv.Auipc rd v)) p n given e = refl
plain_word needed next aim operand (Some (rv.Jal rd offset)) p n given e = absurd cc
plain_word needed next aim operand (Some (rv.Jalr rd rs1 i)) p n given e = absurd cc
plain_word needed next aim operand (Some (rv.Branch cond rs1 rs2 offset)) p n given e = refl
plain_word needed next aim operand (Some (rv.Load width rd rs1 i)) p n given e = refl
plain_word needed next aim operand (Some (rv.Store width rs1 rs2 i)) p n given e = refl
plain_word needed next aim operand (Some (rv.OpImm op rd rs1 i)) p n given e = refl
plain_word needed next aim operand (Some (rv.Op op rd rs1 rs2)) p n given e = refl
plain_word needed next aim operand (Some rv.Fence) p n given e = refl
plain_word needed next aim operand (Some rv.Trap) p n given e = absurd cc

-- a pair never goes on
abbrev pub is_jump : Option (Operation CodePlace) → Bool
is_jump None = true
is_jump (Some op) = not (can_go_on op)

pub pair_jumps : (needed : List CodePlace) (next target : CodePlace) (a b : Option RvOp) → is_jump (pair_op needed next target a b) ≡ true
pair_jumps needed next target None b = refl
pair_jumps needed next target (Some (rv.Lui rd v)) b = refl
pair_jumps needed next target (Some (rv.Auipc rd v)) b = by_second b
  where
    by_second : (b : Option RvOp) → is_jump (pair_op needed next target (Some (rv.Auipc rd v)) b) ≡ true
    by_second None = refl
    by_second (Some (rv.Lui r x)) = refl
    by_second (Some (rv.Auipc r x)) = refl
    by_second (Some (rv.Jal r x)) = refl
    by_second (Some (rv.Jalr r x i)) = refl
    by_second (Some (rv.Branch c r x i)) = refl
    by_second (Some (rv.Load w r x i)) = refl
    by_second (Some (rv.Store w r x i)) = refl
    by_second (Some (rv.OpImm w r x i)) = refl
    by_second (Some (rv.Op w r x i)) = refl
    by_second (Some rv.Fence) = refl
    by_second (Some rv.Trap) = refl
pair_jumps needed next target (Some (rv.Jal rd offset)) b = refl
pair_jumps needed next target (Some (rv.Jalr rd rs1 i)) b = refl
pair_jumps needed next target (Some (rv.Branch cond rs1 rs2 offset)) b = refl
pair_jumps needed next target (Some (rv.Load width rd rs1 i)) b = refl
pair_jumps needed next target (Some (rv.Store width rs1 rs2 i)) b = refl
pair_jumps needed next target (Some (rv.OpImm op rd rs1 i)) b = refl
pair_jumps needed next target (Some (rv.Op op rd rs1 rs2)) b = refl
pair_jumps needed next target (Some rv.Fence) b = refl
pair_jumps needed next target (Some rv.Trap) b = refl

no_next : (given : Given) (p n : CodePlace) (o : Option (Operation CodePlace)) → is_jump o ≡ true → next_of given p o ≡ Some n → ⊥
no_next given p n None j e = absurd cc
no_next given p n (Some op) j e = by_go (can_go_on op) j e
  where
    by_go : (b : Bool) → not b ≡ true → where_true b (next_place given p) ≡ Some n → ⊥
    by_go true j e = absurd cc
    by_go false j e = absurd cc

next_is : (given : Given) (p n : CodePlace) (o : Option (Operation CodePlace)) → next_of given p o ≡ Some n → next_place given p ≡ n
next_is given p n None e = absurd cc
next_is given p n (Some op) e = by_go (can_go_on op) e
  where
    by_go : (b : Bool) → where_true b (next_place given p) ≡ Some n → next_place given p ≡ n
    by_go true e = cc
    by_go false e = absurd cc

-- an operation of code that goes on: it is no pair, its word goes on, and the next place is four bytes on
record GoesToNext (given : Given) (o s f : ℕ) (n : CodePlace) : Type 0 where
  no_pair : is_pair_at given o s f ≡ false
  word : word_goes_on (raw_at given (Code o s f)) ≡ true
  next : Code o s (f + 4) ≡ n

goes_to_next : (given : Given) (o s f : ℕ) (n : CodePlace) → successor_of given (Code o s f) ≡ Some n → GoesToNext given o s f n
unfolding operation_in
goes_to_next given o s f n e = by_pair (is_pair_at given o s f) refl e
  where
    p : CodePlace
    p = Code o s f

    by_pair : (b : Bool) → is_pair_at given o s f ≡ b
        → next_of given p (if b then pair_op (needed_places given) (next_place given p) (target_or given (operand_at given o s f) Nowhere) (raw_at given p) (raw_at given (Code o s (f + 4))) else option_map (placed_op (needed_places given) (next_place given p) (target_from given o s f (operand_at given o s f)) (operand_at given o s f)) (raw_at given p)) ≡ Some n
        → GoesToNext given o s f n
    by_pair true b e = absurd (no_next given p n _ (pair_jumps (needed_places given) (next_place given p) (target_or given (operand_at given o s f) Nowhere) (raw_at given p) (raw_at given (Code o s (f + 4)))) e)
    by_pair false b e =
        record {
          no_pair = b;
          word = plain_word (needed_places given) (next_place given p) (target_from given o s f (operand_at given o s f)) (operand_at given o s f) (raw_at given p) p n given e;
          next = (let r : next_place given p ≡ n = next_is given p n _ e in let q : next_place given p ≡ Code o s (f + 4) = rw b refl in sym q ∙ r);
        }

module _ (given : Given) where
  -- where an operation goes on, the next of the list is the place after it
  abbrev pub Follows : List CodePlace → Type 0
  Follows [] = Unit {0}
  Follows (p ∷ ps) = ((n : CodePlace) → successor_of given p ≡ Some n → slice_get ps 0 ≡ Some n) × Follows ps

  first_append : (a b : List CodePlace) (n : CodePlace) → slice_get a 0 ≡ Some n → slice_get (a ++ b) 0 ≡ Some n
  first_append [] b n e = absurd cc
  first_append (p ∷ a) b n e = e

  follows_append : (a b : List CodePlace) → Follows a → Follows b → Follows (a ++ b)
  follows_append [] b f g = g
  follows_append (p ∷ a) b f g = (λ n e. first_append a b n (f.0 n e), follows_append a b f.1 g)

  follows_each : (n : ℕ) (at : ℕ → List CodePlace) → ((i : ℕ) → Follows (at i)) → Follows (each_below n at)
  unfolding each_below
  follows_each zero at f = tt
  follows_each (suc n) at f = follows_append (each_below n at) (at n) (follows_each n at f) (f n)

  stops : (a b : Bool) (x : Result RvOp _) (y : _) → b ≡ false → word_goes_on (decoded (Some (if a then Ok rv.Trap else (if b then x else Err y)))) ≡ false
  stops true b x y e = refl
  stops false b x y e = rw e refl

  -- at the last place of a section nothing goes on: there is the end's trap, or too few bytes
  last_is_there : (bytes : List ℕ) (f : ℕ) → length bytes < f + 4 → word_goes_on (decoded (Some (word_or_trap bytes f))) ≡ false
  unfolding word_or_trap
  last_is_there bytes f few = stops (nat_eq f (length bytes)) (nat_le (f + 4) (length bytes)) _ _ (lt-leb (f + 4) (length bytes) few)

  stops_if : (a : Bool) (x : Result RvOp _) → word_goes_on (decoded (Some x)) ≡ false → word_goes_on (decoded (if a then Some x else None)) ≡ false
  stops_if true x e = e
  stops_if false x e = refl

  in_section : (o s f count : ℕ) (bytes : List ℕ) → code_at given o s ≡ Some bytes → f + 4 * count ≡ 4 * (length bytes / 4 + 1) → Follows (offsets_from o s f count)
  in_section o s f zero bytes c e = tt
  in_section o s f (suc zero) bytes c e =
      let few : length bytes < f + 4 = omega arith in
      let none : word_goes_on (raw_at given (Code o s f)) ≡ false = rw c (stops_if (is_code_offset (length bytes) f) (word_or_trap bytes f) (last_is_there bytes f few)) in
      (λ n h. (let g = goes_to_next given o s f n h in let wrong : true ≡ false = sym g.word ∙ none in absurd cc), tt)
  in_section o s f (suc (suc count)) bytes c e =
      (λ n h. ap Some (goes_to_next given o s f n h).next, in_section o s (f + 4) (suc count) bytes c (omega arith))

  of_code : (o s : ℕ) (code : Option (List ℕ)) → code_at given o s ≡ code → Follows (section_offsets code o s)
  of_code o s None c = tt
  of_code o s (Some bytes) c = in_section o s 0 (length bytes / 4 + 1) bytes c (omega arith)

  offsets_follow : Follows (code_offsets given)
  offsets_follow =
      follows_each (length given.objects) (λ o. each_below (length (object_at given.objects o).sections) (λ s. section_offsets (code_at given o s) o s))
      (λ o. follows_each (length (object_at given.objects o).sections) (λ s. section_offsets (code_at given o s) o s) (λ s. of_code o s (code_at given o s) refl))

  first_passes : (test : CodePlace → Bool) (ys : List CodePlace) (n : CodePlace) → slice_get ys 0 ≡ Some n → test n ≡ true → slice_get (filter test ys) 0 ≡ Some n
  first_passes test [] n e t = absurd cc
  first_passes test (y ∷ ys) n e t =
      let same : y ≡ n = cc in
      rw (same, t) refl

  -- the same of those that pass a test, where all that is gone on to pass it
  filter_keeps : (test : CodePlace → Bool) → ((p n : CodePlace) → successor_of given p ≡ Some n → test n ≡ true) → (xs : List CodePlace) → Follows xs → Follows (filter test xs)
  filter_keeps test passes [] f = tt
  filter_keeps test passes (x ∷ xs) f = by_test (filter_keeps test passes xs f.1) (test x)
    where
      by_test : Follows (filter test xs) → (b : Bool) → Follows (cond b (x ∷ filter test xs) (filter test xs))
      by_test rest true = (λ n h. first_passes test xs n (f.0 n h) (passes x n h), rest)
      by_test rest false = rest

  -- the place that an operation goes on to is no second word
  no_second : (p n : CodePlace) → successor_of given p ≡ Some n → not (is_second given n) ≡ true
  no_second (Code o s f) n h =
      let g = goes_to_next given o s f n h in
      let back : f + 4 - 4 ≡ f = omega arith in
      rw (← g.next, back, g.no_pair) (both (nat_le 4 (f + 4)))
    where
      both : (b : Bool) → not (b && false) ≡ true
      both true = refl
      both false = refl
  no_second (Stub m at) n h = ap (λ q. not (is_second given q)) (sym (next_is given (Stub m at) n _ h))
  no_second Nowhere n h = ap (λ q. not (is_second given q)) (sym (next_is given Nowhere n _ h))

  return_jumps : (b : Bool) (one : Option Import) → is_jump (if b && nat_eq 1 0 then Some (Plain rv.Trap) else stub_op one 1) ≡ true
  return_jumps true None = refl
  return_jumps true (Some one) = refl
  return_jumps false None = refl
  return_jumps false (Some one) = refl

  stub_follows : (i : ℕ) → Follows (import_stub given i)
  unfolding operation_in
  stub_follows i = by_named (list_any (is_import i) (named_by (λ r. has_effect r.kind) given))
    where
      by_named : (b : Bool) → Follows (if b then Stub i 0 ∷ Stub i 1 ∷ [] else [])
      by_named true = (
        λ n h. ap Some (next_is given (Stub i 0) n _ h),
        (λ n h. absurd (no_next given (Stub i 1) n _ (return_jumps (nat_eq i (length given.wanted.imports)) (slice_get given.wanted.imports i)) h), tt),
      )
      by_named false = tt

  trap_jumps : (b : Bool) (one : Option Import) → b ≡ true → is_jump (if b && nat_eq 0 0 then Some (Plain rv.Trap) else stub_op one 0) ≡ true
  trap_jumps true one e = refl
  trap_jumps false one e = absurd cc

  trap_follows : Follows (trap_stubs given)
  unfolding operation_in
  trap_follows = by_named (list_any is_absent (named_by names_target given))
    where
      by_named : (b : Bool) → Follows (if b then trap_stub given ∷ [] else [])
      by_named true =
          let count = length given.wanted.imports in
          (λ n h. absurd (no_next given (trap_stub given) n _ (trap_jumps (nat_eq count count) (slice_get given.wanted.imports count) (same_self count)) h), tt)
      by_named false = tt

  all_follow : Follows (all_places given)
  unfolding all_places
  all_follow =
      follows_append (filter (λ p. not (is_second given p)) (code_offsets given)) (stub_places given)
      (filter_keeps (λ p. not (is_second given p)) no_second (code_offsets given) offsets_follow)
      (follows_append (each_below (length given.wanted.imports) (import_stub given)) (trap_stubs given)
      (follows_each (length given.wanted.imports) (import_stub given) stub_follows) trap_follows)

  next_follows : (xs : List CodePlace) → Follows xs → (q : ℕ) (p n : CodePlace) → slice_get xs q ≡ Some p → successor_of given p ≡ Some n → slice_get xs (suc q) ≡ Some n
  next_follows [] f q p n e h = absurd cc
  next_follows (x ∷ xs) f zero p n e h =
      let same : x ≡ p = cc in
      f.0 n (rw same h)
  next_follows (x ∷ xs) f (suc q) p n e h = next_follows xs f.1 q p n e h

  -- the place that an operation goes on to is after it among all places
  pub next_of_all : (q : ℕ) (p n : CodePlace) → slice_get (all_places given) q ≡ Some p → successor_of given p ≡ Some n → slice_get (all_places given) (suc q) ≡ Some n
  next_of_all q p n e h = next_follows (all_places given) all_follow q p n e h

  -- the same of those that pass a test
  filter_follows : (test : CodePlace → Bool) (xs : List CodePlace) → Follows xs → (q : ℕ) (p n : CodePlace) → slice_get (filter test xs) q ≡ Some p → successor_of given p ≡ Some n → test n ≡ true → slice_get (filter test xs) (suc q) ≡ Some n
  filter_follows test [] f q p n e h t = absurd cc
  filter_follows test (x ∷ xs) f q p n e h t = by_test (λ k e1. filter_follows test xs f.1 k p n e1 h t) (test x) q e
    where
      by_test : ((k : ℕ) → slice_get (filter test xs) k ≡ Some p → slice_get (filter test xs) (suc k) ≡ Some n) → (b : Bool) (q : ℕ) → slice_get (cond b (x ∷ filter test xs) (filter test xs)) q ≡ Some p → slice_get (cond b (x ∷ filter test xs) (filter test xs)) (suc q) ≡ Some n
      by_test more true zero e =
          let same : x ≡ p = cc in
          first_passes test xs n (f.0 n (rw same h)) t
      by_test more true (suc q) e = more q e
      by_test more false q e = more q e

  -- the place that an operation goes on to is listed after it
  pub next_listed : (q : ℕ) (p n : CodePlace) → slice_get (code_places given) q ≡ Some p → successor_of given p ≡ Some n → slice_get (code_places given) (suc q) ≡ Some n
  unfolding code_places
  next_listed q p n e h =
      let there = filter_member (is_emitted given) (all_places given) q p e in
      let among : has (successor_places given) n ≡ true = has_given (successor_of given) (all_places given) there.0 p n there.1 h in
      let among' = any_front (same_place n) (successor_places given) (targeted_places given) among in
      let emitted : is_emitted given n ≡ true = rw among' (or_true _) in
      filter_follows (is_emitted given) (all_places given) all_follow q p n e h emitted
