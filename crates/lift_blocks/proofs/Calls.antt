-- A host call begins a block, and the block goes on after it: a call is the first operation of a stub, and nothing leads
-- to the second but the first.
use Rattle.std.proofs.Common.{◌≡◌, ℕ, zero, suc, ◌+◌, Bool, true, false, cond, List, [], ◌∷◌, ◌++◌, length, map, get_or, Option, Some, None, refl, sym, ap, ◌∙◌, subst, arith, add-one, ℤ}
use Rattle.std.specs.Prelude.{slice_get, if◌then◌else◌, ◌&&◌, ◌||◌, nat_eq}
use Rattle.std.specs.List.{AllByRecursion, filter, filter_map, cons_option, range_with_len}
use Rattle.std.specs.Option.{option_map}
use Rattle.std.proofs.lemmas.Bool.{ne_eqb}
use Rattle.std.proofs.lemmas.Option.{slice_get_within, slice_get-get_or}
use Rattle.faults.specs.First.{where_true}
use Rattle.faults.specs.Present.{each_below}
use Rattle.elf_objects.specs.declared.parts.Relocation.{Relocation}
use Rattle.rv_decode.specs.declared.ops.Reg.{Reg}
use Rattle.rv_decode.specs.declared.ops.Reg.TheVariants.{Zero, R}
use Rattle.rv_decode.specs.declared.ops.RvOp.{RvOp}
use Rattle.rv_decode.specs.declared.ops.RvOp.TheVariants as rv
use Rattle.symbols.specs.declared.place.Place.{Place}
use Rattle.symbols.specs.declared.place.Place.TheVariants as names
use Rattle.symbols.specs.Parts.{object_at}
use Rattle.symbols.specs.Resolution.{entry_place, resolution}
use Rattle.symbols.specs.Wanted.{Given, Import}
use Rattle.layout.specs.Slots.{loaded_relocations}
use Rattle.relocs.specs.declared.operand.Operand.{Operand}
use Rattle.relocs.specs.declared.operand.Operand.TheVariants.{Nothing, Value, Target}
use Rattle.relocs.specs.Kinds.{names_address}
use Rattle.relocs.specs.Places.{CodePlace, Code, Stub, Nowhere, has}
use Rattle.relocs.specs.Words.{raw_at}
use Rattle.relocs.specs.Pairs.{is_pair, is_pair_at, all_places, next_place}
use Rattle.relocs.specs.CodeMap.{place_of}
use Rattle.relocs.specs.AddressMap.{if_links, link_of, link_at, last_word, place_at, address_named, addresses_named, named_places, needed_places}
use Rattle.lift_blocks.specs.Operations.{Operation, Plain, Branch, Jal, Jalr, Pair, HostCall, Sbrk, rename, target_place, target_or, target_from, operand_at, placed_op, pair_op, stub_op, operation_in, operation_at}
use Rattle.lift_blocks.specs.Listed.{entry_places, can_go_on, ends_block, target_of, target_in, target_at, next_of, successor_of, targeted_places, ends_at, starts, place, or_nowhere}
use Rattle.lift_blocks.specs.Laws.{CallsBeginBlocks}
use Rattle.lift_blocks.proofs.OnePlaces.{all_append, all_each}
use Rattle.lift_blocks.proofs.Order.{is_jump, pair_jumps, next_listed}
use Rattle.lift_blocks.proofs.TargetPlaces.{pair_leads, stub_leads, nowhere_leads}

-- ---- no operation names the second place of a stub

-- a place that isn't after the first of a stub
abbrev IsNoReturn : CodePlace → Type 0
IsNoReturn (Code o s offset) = Unit {0}
IsNoReturn (Stub n zero) = Unit {0}
IsNoReturn (Stub n (suc at)) = ⊥
IsNoReturn Nowhere = Unit {0}

all_map : {A B : Type 0} (P : B → Type 0) (f : A → B) (xs : List A) → ((x : A) → P (f x)) → AllByRecursion P (map f xs)
all_map P f [] h = tt
all_map P f (x ∷ xs) h = (h x, all_map P f xs h)

-- what is given has the property
all_given : {A B : Type 0} (P : B → Type 0) (f : A → Option B) (xs : List A) → ((x : A) (y : B) → f x ≡ Some y → P y) → AllByRecursion P (filter_map f xs)
all_given P f [] h = tt
all_given P f (x ∷ xs) h = by_given (f x) refl (all_given P f xs h)
  where
    by_given : (o : Option _) → f x ≡ o → AllByRecursion P (filter_map f xs) → AllByRecursion P (cons_option o (filter_map f xs))
    by_given None e rest = rest
    by_given (Some y) e rest = (h x y e, rest)

-- what passes has the property
all_passing : {A : Type 0} (P : A → Type 0) (test : A → Bool) (xs : List A) → ((x : A) → test x ≡ true → P x) → AllByRecursion P (filter test xs)
all_passing P test [] h = tt
all_passing P test (x ∷ xs) h = by_test (test x) refl (all_passing P test xs h)
  where
    by_test : (b : Bool) → test x ≡ b → AllByRecursion P (filter test xs) → AllByRecursion P (cond b (x ∷ filter test xs) (filter test xs))
    by_test true e rest = (h x e, rest)
    by_test false e rest = rest

no_zero : (at : ℕ) → nat_eq (suc at) 0 ≡ false
no_zero at = ne_eqb (suc at) 0 (λ e. absurd (omega (arith, e)))

-- the second place of a stub is not among these
not_among : (ps : List CodePlace) (n at : ℕ) → AllByRecursion IsNoReturn ps → has ps (Stub n (suc at)) ≡ false
not_among [] n at h = refl
not_among (Code o s offset ∷ ps) n at h = not_among ps n at h.1
not_among (Stub m zero ∷ ps) n at h = apart (nat_eq n m) (not_among ps n at h.1)
  where
    apart : (b : Bool) → has ps (Stub n (suc at)) ≡ false → ((b && nat_eq (suc at) 0) || has ps (Stub n (suc at))) ≡ false
    apart true e = rw (no_zero at) e
    apart false e = e
not_among (Stub m (suc k) ∷ ps) n at h = absurd h.0
not_among (Nowhere ∷ ps) n at h = not_among ps n at h.1

among_is_none : (ps : List CodePlace) (p : CodePlace) → AllByRecursion IsNoReturn ps → has ps p ≡ true → IsNoReturn p
among_is_none ps (Code o s offset) h e = tt
among_is_none ps (Stub n zero) h e = tt
among_is_none ps (Stub n (suc at)) h e = (let none = not_among ps n at h in let wrong : true ≡ false = sym e ∙ none in absurd cc)
among_is_none ps Nowhere h e = tt

is_none : (p q : CodePlace) → p ≡ q → IsNoReturn p → IsNoReturn q
is_none p q e h = subst IsNoReturn e h

some_is_none : (p q : CodePlace) → Some p ≡ Some q → IsNoReturn p → IsNoReturn q
some_is_none p q e h = (let same : p ≡ q = cc in subst IsNoReturn same h)

of_symbol : (place : Place) → IsNoReturn (place_of place)
of_symbol (names.Code o s offset) = tt
of_symbol (names.Bytes o s offset) = tt
of_symbol names.Unloaded = tt
of_symbol (names.Import i) = tt
of_symbol (names.Number n) = tt
of_symbol names.Absent = tt

module _ (given : Given) where
  of_target : (place : Place) → IsNoReturn (target_place given place)
  of_target (names.Code o s offset) = tt
  of_target (names.Bytes o s offset) = tt
  of_target names.Unloaded = tt
  of_target (names.Import i) = tt
  of_target (names.Number n) = tt
  of_target names.Absent = tt

  of_operand : (operand : Operand) (own : CodePlace) → IsNoReturn own → IsNoReturn (target_or given operand own)
  of_operand Nothing own h = h
  of_operand (Value v) own h = h
  of_operand (Target place) own h = of_target place

  of_word : (needed : List CodePlace) (next : CodePlace) (o s offset : ℕ) (operand : Operand) (word : RvOp) (t : CodePlace) → target_of (placed_op needed next (target_from given o s offset operand) operand word) ≡ Some t → IsNoReturn t
  of_word needed next o s offset operand (rv.Jal rd by) t e = some_is_none _ t e (of_operand operand _ tt)
  of_word needed next o s offset operand (rv.Branch condition rs1 rs2 by) t e = some_is_none _ t e (of_operand operand _ tt)
  of_word needed next o s offset operand word t e = absurd cc

  -- where the operation at a place leads
  of_code : (o s offset : ℕ) (t : CodePlace) → target_at given (Code o s offset) ≡ Some t → IsNoReturn t
  unfolding operation_in
  of_code o s offset t e = by_pair (is_pair_at given o s offset) e
    where
      needed : List CodePlace
      needed = needed_places given

      next : CodePlace
      next = next_place given (Code o s offset)

      by_word : (word : Option RvOp) → target_in (option_map (placed_op needed next (target_from given o s offset (operand_at given o s offset)) (operand_at given o s offset)) word) ≡ Some t → IsNoReturn t
      by_word None h = absurd cc
      by_word (Some word) h = of_word needed next o s offset (operand_at given o s offset) word t h

      by_pair : (b : Bool)
          → target_in (if b then pair_op needed next (target_or given (operand_at given o s offset) Nowhere) (raw_at given (Code o s offset)) (raw_at given (Code o s (offset + 4))) else option_map (placed_op needed next (target_from given o s offset (operand_at given o s offset)) (operand_at given o s offset)) (raw_at given (Code o s offset))) ≡ Some t
          → IsNoReturn t
      by_pair true h = is_none _ t (pair_leads needed next (target_or given (operand_at given o s offset) Nowhere) t (raw_at given (Code o s offset)) (raw_at given (Code o s (offset + 4))) h) (of_operand (operand_at given o s offset) Nowhere tt)
      by_pair false h = by_word (raw_at given (Code o s offset)) h

  of_operation : (p t : CodePlace) → target_at given p ≡ Some t → IsNoReturn t
  of_operation (Code o s offset) t e = of_code o s offset t e
  of_operation (Stub n at) t e = absurd (stub_leads given n at t e)
  of_operation Nowhere t e = absurd (nowhere_leads given t e)

  -- and what links and relocations name
  link_is_next : (rd : Reg) (next n : CodePlace) → if_links rd next ≡ Some n → next ≡ n
  link_is_next Zero next n e = absurd cc
  link_is_next (R d) next n e = cc

  links_next : (next n : CodePlace) (word : Option RvOp) → link_of next word ≡ Some n → next ≡ n
  links_next next n (Some (rv.Jal rd offset)) e = link_is_next rd next n e
  links_next next n (Some (rv.Jalr rd rs1 imm)) e = link_is_next rd next n e
  links_next next n word e = absurd cc

  of_link : (p n : CodePlace) → link_at given p ≡ Some n → IsNoReturn n
  of_link (Code o s offset) n e = is_none _ n (links_next _ n (last_word (is_pair given (Code o s offset)) given (Code o s offset)) e) tt
  of_link (Stub m at) n e = absurd cc
  of_link Nowhere n e = absurd cc

  of_address : (place : Place) (addend : ℤ) → IsNoReturn (place_at place addend)
  of_address (names.Code o s offset) addend = tt
  of_address (names.Bytes o s offset) addend = tt
  of_address names.Unloaded addend = tt
  of_address (names.Import i) addend = tt
  of_address (names.Number n) addend = tt
  of_address names.Absent addend = tt

  of_relocation : (o : ℕ) (r : Relocation) (p : CodePlace) → address_named given o r ≡ Some p → IsNoReturn p
  of_relocation o r p e = by_test (names_address r) e
    where
      by_test : (b : Bool) → where_true b (place_at (resolution given o r.symbol) r.addend) ≡ Some p → IsNoReturn p
      by_test true h = some_is_none _ p h (of_address (resolution given o r.symbol) r.addend)
      by_test false h = absurd cc

  of_named : AllByRecursion IsNoReturn (named_places given)
  of_named =
      all_append IsNoReturn (filter_map (link_at given) (all_places given)) _ (all_given IsNoReturn (link_at given) (all_places given) of_link)
      (all_each IsNoReturn (length given.objects) (λ o. each_below (length (object_at given.objects o).sections) (addresses_named given o))
      (λ o lt. all_each IsNoReturn (length (object_at given.objects o).sections) (addresses_named given o)
      (λ s less. all_given IsNoReturn (address_named given o) (loaded_relocations given o s) (of_relocation o))))

  of_needed : AllByRecursion IsNoReturn (needed_places given)
  unfolding needed_places
  of_needed = all_passing IsNoReturn (has (named_places given)) (all_places given) (λ p e. among_is_none (named_places given) p of_named e)

  -- nothing aims at the second place of a stub
  not_targeted : (n at : ℕ) → has (targeted_places given) (Stub n (suc at)) ≡ false
  not_targeted n at =
      not_among (targeted_places given) n at
      (all_append IsNoReturn (entry_places given ++ filter_map (target_at given) (all_places given)) (needed_places given)
      (all_append IsNoReturn (entry_places given) (filter_map (target_at given) (all_places given))
      (all_map IsNoReturn (λ at. place_of (entry_place given at)) (range_with_len 0 (length given.wanted.entries)) (λ at. of_symbol (entry_place given at)))
      (all_given IsNoReturn (target_at given) (all_places given) of_operation)) of_needed)

  -- ---- a call is the first operation of a stub

  abbrev IsStubStart : CodePlace → Type 0
  IsStubStart p = (n : ℕ) × (p ≡ Stub n 0)

  no_word_calls : (needed : List CodePlace) (next : CodePlace) (aim : ℤ → CodePlace) (operand : Operand) (word : Option RvOp) (number : ℕ) → option_map (placed_op needed next aim operand) word ≡ Some (HostCall number) → ⊥
  no_word_calls needed next aim operand None number e = absurd cc
  no_word_calls needed next aim operand (Some (rv.Lui rd value)) number e = absurd cc
  no_word_calls needed next aim operand (Some (rv.Auipc rd value)) number e = absurd cc
  no_word_calls needed next aim operand (Some (rv.Jal rd offset)) number e = absurd cc
  no_word_calls needed next aim operand (Some (rv.Jalr rd rs1 imm)) number e = absurd cc
  no_word_calls needed next aim operand (Some (rv.Branch condition rs1 rs2 offset)) number e = absurd cc
  no_word_calls needed next aim operand (Some (rv.Load width rd rs1 imm)) number e = absurd cc
  no_word_calls needed next aim operand (Some (rv.Store width rs1 rs2 imm)) number e = absurd cc
  no_word_calls needed next aim operand (Some (rv.OpImm op rd rs1 imm)) number e = absurd cc
  no_word_calls needed next aim operand (Some (rv.Op op rd rs1 rs2)) number e = absurd cc
  no_word_calls needed next aim operand (Some rv.Fence) number e = absurd cc
  no_word_calls needed next aim operand (Some rv.Trap) number e = absurd cc

  no_pair_calls : (needed : List CodePlace) (next target : CodePlace) (a b : Option RvOp) (number : ℕ) → pair_op needed next target a b ≡ Some (HostCall number) → ⊥
  no_pair_calls needed next target a b number e = (let jumps : is_jump (Some (HostCall number)) ≡ true = sym (ap is_jump e) ∙ pair_jumps needed next target a b in absurd cc)

  no_code_calls : (o s offset number : ℕ) → operation_at given (Code o s offset) ≡ Some (HostCall number) → ⊥
  unfolding operation_in
  no_code_calls o s offset number e = by_pair (is_pair_at given o s offset) e
    where
      by_pair : (b : Bool)
          → (if b then pair_op (needed_places given) (next_place given (Code o s offset)) (target_or given (operand_at given o s offset) Nowhere) (raw_at given (Code o s offset)) (raw_at given (Code o s (offset + 4))) else option_map (placed_op (needed_places given) (next_place given (Code o s offset)) (target_from given o s offset (operand_at given o s offset)) (operand_at given o s offset)) (raw_at given (Code o s offset))) ≡ Some (HostCall number)
          → ⊥
      by_pair true h = no_pair_calls (needed_places given) (next_place given (Code o s offset)) _ (raw_at given (Code o s offset)) (raw_at given (Code o s (offset + 4))) number h
      by_pair false h = no_word_calls (needed_places given) (next_place given (Code o s offset)) _ (operand_at given o s offset) (raw_at given (Code o s offset)) number h

  stub_calls : (n at number : ℕ) → operation_at given (Stub n at) ≡ Some (HostCall number) → IsStubStart (Stub n at)
  unfolding operation_in
  stub_calls n at number e = by_trap (nat_eq n (length given.wanted.imports) && nat_eq at 0) (slice_get given.wanted.imports n) e
    where
      by_import : (one : Option Import) (at : ℕ) → stub_op one at ≡ Some (HostCall number) → IsStubStart (Stub n at)
      by_import None at h = absurd cc
      by_import (Some one) zero h = (n, refl)
      by_import (Some one) (suc zero) h = absurd cc
      by_import (Some one) (suc (suc at)) h = absurd cc

      by_trap : (b : Bool) (one : Option Import) → (if b then Some (Plain rv.Trap) else stub_op one at) ≡ Some (HostCall number) → IsStubStart (Stub n at)
      by_trap true one h = absurd cc
      by_trap false one h = by_import one at h

  nowhere_calls : (number : ℕ) → operation_at given Nowhere ≡ Some (HostCall number) → ⊥
  unfolding operation_in
  nowhere_calls number e = absurd cc

  calls_in_stub : (p : CodePlace) (number : ℕ) → operation_at given p ≡ Some (HostCall number) → IsStubStart p
  calls_in_stub (Code o s offset) number e = absurd (no_code_calls o s offset number e)
  calls_in_stub (Stub n at) number e = stub_calls n at number e
  calls_in_stub Nowhere number e = absurd (nowhere_calls number e)

  -- no operation goes on to the first place of a stub
  abbrev stub_offset : CodePlace → ℕ
  stub_offset (Code o s offset) = 1
  stub_offset (Stub n at) = at
  stub_offset Nowhere = 1

  none_before : (p : CodePlace) (n : ℕ) → next_place given p ≡ Stub n 0 → ⊥
  none_before (Code o s offset) n e = (let wrong : 1 ≡ 0 = ap stub_offset e in absurd (omega (arith, wrong)))
  none_before (Stub m at) n e = (let wrong : at + 1 ≡ 0 = ap stub_offset e in absurd (omega (arith, wrong)))
  none_before Nowhere n e = (let wrong : 1 ≡ 0 = ap stub_offset e in absurd (omega (arith, wrong)))

  goes_on_unless : (op : Operation CodePlace) → ends_block op ≡ false → can_go_on op ≡ true
  goes_on_unless (Plain rv.Trap) e = absurd cc
  goes_on_unless (Plain op) e = goes op e
    where
      goes : (op : RvOp) → ends_block {Target = CodePlace} (Plain op) ≡ false → can_go_on {Target = CodePlace} (Plain op) ≡ true
      goes rv.Trap e = absurd cc
      goes op e = refl
  goes_on_unless (Branch condition rs1 rs2 target) e = absurd cc
  goes_on_unless (Jal rd link target) e = absurd cc
  goes_on_unless (Jalr rd rs1 imm link) e = absurd cc
  goes_on_unless (Pair temp rd link target) e = absurd cc
  goes_on_unless (HostCall number) e = refl
  goes_on_unless Sbrk e = refl

  -- ---- the marks

  first_starts : (ps : List CodePlace) (p : CodePlace) (other : Bool) → slice_get ps 0 ≡ Some p → get_or (starts given true ps) 0 other ≡ true
  first_starts [] p other e = absurd cc
  first_starts (q ∷ ps) p other e = refl

  next_starts : (ended : Bool) (ps : List CodePlace) (k : ℕ) (p n : CodePlace) (other : Bool) → slice_get ps k ≡ Some p → slice_get ps (suc k) ≡ Some n → get_or (starts given ended ps) (suc k) other ≡ (ends_at (operation_at given p) || has (targeted_places given) n)
  next_starts ended [] k p n other e f = absurd cc
  next_starts ended (q ∷ []) zero p n other e f = absurd cc
  next_starts ended (q ∷ r ∷ ps) zero p n other e f = (let same : q ≡ p = cc in let next : r ≡ n = cc in rw (same, next) refl)
  next_starts ended (q ∷ ps) (suc k) p n other e f = next_starts (ends_at (operation_at given q)) ps k p n other e f

or_true_left : (a b : Bool) → a ≡ true → (a || b) ≡ true
or_true_left true b e = refl
or_true_left false b e = absurd cc

pub calls_begin_blocks : CallsBeginBlocks
calls_begin_blocks given lifted h q number e = (begins q e here at_stub.1, goes_on)
  where
    listed : (k : ℕ) (op : Operation ℕ) → slice_get lifted.ops k ≡ Some op → slice_get lifted.places k ≡ Some (place lifted.places k)
    listed k op f =
        let c = h.count in
        let there = slice_get-get_or lifted.places k Nowhere (omega (arith, slice_get_within lifted.ops k op f)) in
        there ∙ ap Some (sym (ap or_nowhere there))

    p : CodePlace
    p = place lifted.places q

    here : slice_get lifted.places q ≡ Some p
    here = listed q (HostCall number) e

    calls : operation_at given p ≡ Some (HostCall number)
    calls = h.ops_are q (HostCall number) e

    at_stub : IsStubStart given p
    at_stub = calls_in_stub given p number calls

    -- where an operation goes on, the next of the list is the place after it
    next : (k : ℕ) (r : CodePlace) (op : Operation CodePlace) → slice_get lifted.places k ≡ Some r → operation_at given r ≡ Some op → can_go_on op ≡ true → slice_get lifted.places (suc k) ≡ Some (next_place given r)
    next k r op f o can =
        let successor : successor_of given r ≡ Some (next_place given r) = ap (next_of given r) o ∙ ap (λ b. where_true b (next_place given r)) can in
        ap (λ l. slice_get l (suc k)) h.places_are ∙ next_listed given k r (next_place given r) (ap (λ l. slice_get l k) (sym h.places_are) ∙ f) successor

    goes_on : get_or lifted.begins (q + 1) true ≡ false
    goes_on =
        let after : next_place given p ≡ Stub at_stub.0 1 = ap (next_place given) at_stub.1 in
        let follows = next q p (HostCall number) here calls refl ∙ ap Some after in
        let mark = ap (λ bs. get_or bs (suc q) true) h.begins_are ∙ next_starts given true lifted.places q p (Stub at_stub.0 1) true here follows in
        let ended : ends_at (operation_at given p) ≡ false = ap ends_at calls in
        rw add-one (mark ∙ ap (λ b. b || has (targeted_places given) (Stub at_stub.0 1)) ended ∙ not_targeted given at_stub.0 0)

    begins : (k : ℕ) → slice_get lifted.ops k ≡ Some (HostCall number) → slice_get lifted.places k ≡ Some p → p ≡ Stub at_stub.0 0 → get_or lifted.begins k false ≡ true
    begins zero f at_its_place is = ap (λ bs. get_or bs 0 false) h.begins_are ∙ first_starts given lifted.places p false at_its_place
    begins (suc k) f at_its_place is =
        let within = slice_get_within lifted.ops (suc k) (HostCall number) f in
        let op = get_or lifted.ops k Sbrk in
        let before : slice_get lifted.ops k ≡ Some op = slice_get-get_or lifted.ops k Sbrk (omega (arith, within)) in
        let r = place lifted.places k in
        let there = listed k op before in
        let placed : Operation CodePlace = rename (place lifted.places) op in
        let is_op : operation_at given r ≡ Some placed = h.ops_are k op before in
        let mark = ap (λ bs. get_or bs (suc k) false) h.begins_are ∙ next_starts given true lifted.places k r p false there at_its_place in
        mark ∙ by_end r placed is_op (λ can. none_before given r at_stub.0 (same_some (sym (next k r placed there is_op can) ∙ at_its_place) ∙ is)) (ends_block placed) refl
      where
        same_some : {a b : CodePlace} → Some a ≡ Some b → a ≡ b
        same_some s = cc

        by_end : (r : CodePlace) (placed : Operation CodePlace) → operation_at given r ≡ Some placed → (can_go_on placed ≡ true → ⊥) → (b : Bool) → ends_block placed ≡ b → (ends_at (operation_at given r) || has (targeted_places given) p) ≡ true
        by_end r placed is_op wrong true ended = or_true_left _ _ (ap ends_at is_op ∙ ended)
        by_end r placed is_op wrong false ended = absurd (wrong (goes_on_unless given placed ended))
