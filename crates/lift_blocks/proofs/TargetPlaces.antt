-- Where code has no fault, the target of each operation is a place.
use Rattle.std.proofs.Common.{◌≡◌, ℕ, zero, suc, ◌+◌, ◌<◌, ◌≤◌, Bool, true, false, cond, List, [], ◌∷◌, ◌++◌, length, Option, Some, None, ℤ, pos, negsuc, refl, sym, ap, ◌∙◌, subst, arith, inl, inr}
use Rattle.std.specs.Prelude.{slice_get, if◌then◌else◌, not, ◌&&◌, ◌||◌, nat_eq, IfSome}
use Rattle.std.specs.List.{list_any, filter, filter_map, cons_option}
use Rattle.std.specs.Option.{option_map}
use Rattle.std.proofs.lemmas.List.Folds.{list_any-append}
use Rattle.std.proofs.Math.Nat.{eq-or-lt_of_le}
use Rattle.faults.specs.First.{where_true}
use Rattle.faults.specs.Present.{each_below}
use Rattle.faults.proofs.Absent.{none-left, none-right}
use Rattle.elf_objects.specs.declared.parts.Relocation.{Relocation}
use Rattle.rv_decode.specs.declared.ops.Cond.{Cond}
use Rattle.rv_decode.specs.declared.ops.Reg.{Reg}
use Rattle.rv_decode.specs.declared.ops.RvOp.{RvOp}
use Rattle.rv_decode.specs.declared.ops.RvOp.TheVariants as rv
use Rattle.symbols.specs.Faults.{has_effect}
use Rattle.symbols.specs.Laws.{IsWithin}
use Rattle.symbols.specs.Parts.{object_at}
use Rattle.symbols.specs.Wanted.{Given, Import, kept_objects}
use Rattle.symbols.specs.declared.wanted.ImportKind.{ImportKind}
use Rattle.symbols.specs.declared.wanted.ImportKind.TheVariants.{Host, Sbrk as ImportSbrk}
use Rattle.symbols.specs.declared.place.Place.{Place}
use Rattle.symbols.specs.declared.place.Place.TheVariants as names
use Rattle.symbols.proofs.Within.{all_within}
use Rattle.layout.specs.Slots.{loaded_relocations}
use Rattle.relocs.specs.declared.kinds.Kind.{Kind}
use Rattle.relocs.specs.declared.kinds.Kind.TheVariants.{Branch as BranchKind, Jal as JalKind, Call}
use Rattle.relocs.specs.declared.operand.Operand.TheVariants.{Nothing}
use Rattle.relocs.specs.declared.fault.TheConstants.{BAD_TARGET, INTO_PAIR, AUIPC_UNRELOCATED}
use Rattle.relocs.specs.Kinds.{kind_of, is_auipc, is_call, gives_target, names_target, may_change}
use Rattle.relocs.specs.Places.{CodePlace, Code, Stub, Nowhere, same_place, has, code_place, code_offsets}
use Rattle.relocs.specs.Words.{raw_at}
use Rattle.relocs.specs.Values.{place_fault, target_fault, fault_unless_zero}
use Rattle.relocs.specs.Pairs.{relocations_at, is_pair_at, is_second, named_if, named_in, named_by, is_import, is_absent, import_stub, trap_stub, trap_stubs, stub_places, all_places, is_place, can_call, has_call, next_place}
use Rattle.relocs.specs.AddressMap.{needed_places}
use Rattle.relocs.specs.Operands.{symbol_place, changes, meaning_fault, listed, operand_by, operand_of, target_place as shown_target}
use Rattle.relocs.specs.CodeFaults.{is_for_auipc, own_target, fault_of_target, operation_codes, code_faults}
use Rattle.lift_blocks.specs.Operations.{Operation, Plain, first_operand, operand_at, target_place, target_or, target_from, placed_op, pair_op, import_op, stub_op, operation_in, operation_at}
use Rattle.lift_blocks.specs.Listed.{target_of, target_in, target_at}
use Rattle.lift_blocks.specs.PlacedOps.{IsFaultless}
use Rattle.lift_blocks.proofs.Faultless.{faultless, and_right}
use Rattle.lift_blocks.proofs.Relocated.{IsLone, lone, is_meant}
use Rattle.lift_blocks.proofs.Order.{place_self}

-- ---- lists of lists

or_right : (a b : Bool) → b ≡ true → (a || b) ≡ true
or_right true b e = refl
or_right false b e = e

or_left : (a b : Bool) → a ≡ true → (a || b) ≡ true
or_left true b e = refl
or_left false b e = absurd cc

any_left : {A : Type 0} (test : A → Bool) (xs ys : List A) → list_any test xs ≡ true → list_any test (xs ++ ys) ≡ true
any_left test xs ys e = list_any-append test xs ys ∙ or_left (list_any test xs) (list_any test ys) e

any_right : {A : Type 0} (test : A → Bool) (xs ys : List A) → list_any test ys ≡ true → list_any test (xs ++ ys) ≡ true
any_right test xs ys e = list_any-append test xs ys ∙ or_right (list_any test xs) (list_any test ys) e

-- what is in one list is among all
any_among : {A : Type 0} (test : A → Bool) (n i : ℕ) (at : ℕ → List A) → i < n → list_any test (at i) ≡ true → list_any test (each_below n at) ≡ true
unfolding each_below
any_among test zero i at lt e = absurd (omega arith)
any_among test (suc n) i at lt e =
    let le : i ≤ n = omega arith in
    elim (eq-or-lt_of_le le) [
      | inl same ↦ any_right test (each_below n at) (at n) (subst (λ k. list_any test (at k) ≡ true) same e)
      | inr less ↦ any_left test (each_below n at) (at n) (any_among test n i at less e)
    ]

any_given : {A B : Type 0} (test : B → Bool) (f : A → Option B) (xs : List A) (i : ℕ) (x : A) (y : B) → slice_get xs i ≡ Some x → f x ≡ Some y → test y ≡ true → list_any test (filter_map f xs) ≡ true
any_given test f [] i x y e g t = absurd cc
any_given {A} {B} test f (z ∷ xs) zero x y e g t = (let same : z ≡ x = cc in rw (same, g, t) refl)
any_given {A} {B} test f (z ∷ xs) (suc i) x y e g t = later (f z) (any_given test f xs i x y e g t)
  where
    later : (o : Option B) → list_any test (filter_map f xs) ≡ true → list_any test (cons_option o (filter_map f xs)) ≡ true
    later None r = r
    later (Some w) r = or_right (test w) (list_any test (filter_map f xs)) r

-- ---- places of stubs

module _ (given : Given) where
  -- what a relocation of a code section names is among the named places
  named : (test : Relocation → Bool) (pick : Place → Bool) (o s f : ℕ) (r : Relocation) → IsFaultless given o s f → IsLone given o s f r → test r ≡ true → pick (symbol_place given o r) ≡ true → list_any pick (named_by test given) ≡ true
  named test pick o s f r free only passes picked =
      let here : named_if test given o r ≡ Some (symbol_place given o r) = rw passes refl in
      let section = any_given pick (named_if test given o) (loaded_relocations given o s) only.at r (symbol_place given o r) only.at_its_place here picked in
      any_among pick (length (kept_objects given)) o (λ o. each_below (length (object_at (kept_objects given) o).sections) (named_in test given o)) free.section.0.object_in
      (any_among pick (length (object_at (kept_objects given) o).sections) s (named_in test given o) free.section.0.section_in section)

  stub_is_there : (i : ℕ) (b : Bool) → b ≡ true → list_any (same_place (Stub i 0)) (if b then Stub i 0 ∷ Stub i 1 ∷ [] else []) ≡ true
  stub_is_there i true e = or_left (same_place (Stub i 0) (Stub i 0)) _ (place_self (Stub i 0))
  stub_is_there i false e = absurd cc

  trap_is_there : (p : CodePlace) (b : Bool) → b ≡ true → list_any (same_place p) (if b then p ∷ [] else []) ≡ true
  trap_is_there p true e = or_left (same_place p p) _ (place_self p)
  trap_is_there p false e = absurd cc

  same_import : (i : ℕ) → is_import i (names.Import i) ≡ true
  same_import i = grind arith

  import_is_place : (i : ℕ) → i < length given.wanted.imports → list_any (is_import i) (named_by (λ r. has_effect r.kind) given) ≡ true → is_place given (Stub i 0) ≡ true
  unfolding all_places
  import_is_place i lt e =
      let test : CodePlace → Bool = same_place (Stub i 0) in
      any_right test (filter (λ p. not (is_second given p)) (code_offsets given)) (stub_places given)
      (any_left test (each_below (length given.wanted.imports) (import_stub given)) (trap_stubs given)
      (any_among test (length given.wanted.imports) i (import_stub given) lt (stub_is_there i (list_any (is_import i) (named_by (λ r. has_effect r.kind) given)) e)))

  trap_is_place : list_any is_absent (named_by names_target given) ≡ true → is_place given (trap_stub given) ≡ true
  unfolding all_places
  trap_is_place e =
      let test : CodePlace → Bool = same_place (trap_stub given) in
      any_right test (filter (λ p. not (is_second given p)) (code_offsets given)) (stub_places given)
      (any_right test (each_below (length given.wanted.imports) (import_stub given)) (trap_stubs given)
      (trap_is_there (trap_stub given) (list_any is_absent (named_by names_target given)) e))

  place_there : (code : ℕ) (p : CodePlace) → place_fault given code p ≡ None → is_place given p ≡ true
  place_there code p e = by_place (is_place given p) e
    where
      by_place : (b : Bool) → (if b then None else Some (if is_second given p then INTO_PAIR else code)) ≡ None → b ≡ true
      by_place true e = refl
      by_place false e = absurd cc

  zero_only : (code : ℕ) (addend : ℤ) → fault_unless_zero code addend ≡ None → addend ≡ pos 0
  zero_only code (pos zero) e = refl
  zero_only code (pos (suc n)) e = absurd cc
  zero_only code (negsuc n) e = absurd cc

  within_imports : (place : Place) (i : ℕ) → place ≡ names.Import i → IsWithin given place → i < length given.wanted.imports
  within_imports place i e h = subst (IsWithin given) e h

  -- the target that a relocation gives is a place
  target_there : (o s f : ℕ) (r : Relocation) → IsFaultless given o s f → IsLone given o s f r → gives_target (kind_of r.kind) ≡ true → target_fault given (symbol_place given o r) r.addend ≡ None
      → is_place given (target_place given (shown_target (symbol_place given o r) r.addend)) ≡ true
  target_there o s f r free only gives e = by_symbol (symbol_place given o r) refl e
    where
      by_symbol : (place : Place) → symbol_place given o r ≡ place → target_fault given place r.addend ≡ None → is_place given (target_place given (shown_target place r.addend)) ≡ true
      by_symbol (names.Code o' s' f') same e = place_there BAD_TARGET (code_place o' s' f' r.addend) e
      by_symbol (names.Bytes o' s' f') same e = absurd cc
      by_symbol names.Unloaded same e = absurd cc
      by_symbol (names.Import i) same e =
          import_is_place i (within_imports (symbol_place given o r) i same (all_within.of_symbols given o r.symbol free.section.0.object_in))
          (named (λ r. has_effect r.kind) (is_import i) o s f r free only only.effect (subst (λ p. is_import i p ≡ true) (sym same) (same_import i)))
      by_symbol (names.Number n) same e = absurd cc
      by_symbol names.Absent same e = trap_is_place (named names_target is_absent o s f r free only gives (subst (λ p. is_absent p ≡ true) (sym same) refl))

-- ---- operations

-- the kinds that may change a jal or a branch give targets
jal_gives : (k : Kind) (rd : Reg) (by : ℤ) → may_change k (rv.Jal rd by) ≡ true → gives_target k ≡ true
jal_gives JalKind rd by e = refl
jal_gives k rd by e = absurd cc

branch_gives : (k : Kind) (cond : Cond) (rs1 rs2 : Reg) (by : ℤ) → may_change k (rv.Branch cond rs1 rs2 by) ≡ true → gives_target k ≡ true
branch_gives BranchKind cond rs1 rs2 by e = refl
branch_gives k cond rs1 rs2 by e = absurd cc

call_gives : (k : Kind) → is_call k ≡ true → gives_target k ≡ true
call_gives Call e = refl
call_gives k e = absurd cc

listed_none : (o : Option ℕ) → listed o ≡ [] → o ≡ None
listed_none None e = refl
listed_none (Some code) e = absurd cc

pub pair_leads : (needed : List CodePlace) (next target t : CodePlace) (a b : Option RvOp) → target_in (pair_op needed next target a b) ≡ Some t → target ≡ t
pair_leads needed next target t (Some (rv.Auipc temp value)) (Some (rv.Jalr rd rs1 imm)) e = cc
pair_leads needed next target t a b e = absurd cc

module _ (given : Given) (o s f : ℕ) (free : IsFaultless given o s f) where
  -- so is the target that the only relocation gives
  lone_target : (r : Relocation) → IsLone given o s f r → gives_target (kind_of r.kind) ≡ true → (own : CodePlace) → is_place given (target_or given (operand_of given o s r) own) ≡ true
  unfolding operand_of
  lone_target r only gives own =
      let means = is_meant given o s r only.no_fault in
      subst (λ b. is_place given (target_or given (if b then operand_by (kind_of r.kind) given o s r else Nothing) own) ≡ true) (sym only.effect) (by_kind (kind_of r.kind) refl gives means.meant)
    where
      by_kind : (k : Kind) → kind_of r.kind ≡ k → gives_target k ≡ true → meaning_fault k given o r ≡ None → is_place given (target_or given (operand_by k given o s r) own) ≡ true
      by_kind BranchKind same g m = target_there given o s f r free only gives m
      by_kind JalKind same g m = target_there given o s f r free only gives m
      by_kind Call same g m = target_there given o s f r free only gives m
      by_kind k same g m = absurd cc

  -- without a relocation the operation's own target is a place
  own_there : (op : RvOp) (t : CodePlace) → raw_at given (Code o s f) ≡ Some op → relocations_at given o s f ≡ [] → own_target o s f op ≡ Some t → is_place given t ≡ true
  own_there op t raw none own =
      let codes = none-left (if is_second given (Code o s f) then [] else operation_codes given o s f (raw_at given (Code o s f)) (relocations_at given o s f)) _ free.uses in
      let first : operation_codes given o s f (raw_at given (Code o s f)) (relocations_at given o s f) ≡ [] =
      subst (λ b. (if b then [] else operation_codes given o s f (raw_at given (Code o s f)) (relocations_at given o s f)) ≡ []) free.first codes in
      let word : operation_codes given o s f (Some op) [] ≡ [] = subst (λ x. operation_codes given o s f x [] ≡ []) raw (subst (λ l. operation_codes given o s f (raw_at given (Code o s f)) l ≡ []) none first) in
      let aim = listed_none (fault_of_target given (own_target o s f op)) (none-right (listed (where_true (is_auipc op && not (list_any is_for_auipc [])) AUIPC_UNRELOCATED)) (listed (fault_of_target given (own_target o s f op))) word) in
      place_there given BAD_TARGET t (subst (λ x. fault_of_target given x ≡ None) own aim)

  changed : (r : Relocation) (op : RvOp) → IsLone given o s f r → raw_at given (Code o s f) ≡ Some op → may_change (kind_of r.kind) op ≡ true
  changed r op only raw =
      let means = is_meant given o s r only.no_fault in
      subst (λ x. changes (kind_of r.kind) x ≡ true) (ap (λ n. raw_at given (Code o s n)) only.here ∙ raw) means.changes_it

  jump_there : (op : RvOp) (own : CodePlace) → raw_at given (Code o s f) ≡ Some op → own_target o s f op ≡ Some own → ((k : Kind) → may_change k op ≡ true → gives_target k ≡ true)
      → is_place given (target_or given (operand_at given o s f) own) ≡ true
  jump_there op own raw own_is gives = by_relocations (relocations_at given o s f) refl
    where
      by_relocations : (rs : List Relocation) → relocations_at given o s f ≡ rs → is_place given (target_or given (first_operand given o s rs) own) ≡ true
      by_relocations [] e = own_there op own raw e own_is
      by_relocations (r ∷ rs) e = (let only = lone given o s f r free (ap (λ l. slice_get l 0) e) in lone_target r only (gives (kind_of r.kind) (changed r op only raw)) own)

  is_there : (p t : CodePlace) → is_place given p ≡ true → Some p ≡ Some t → is_place given t ≡ true
  is_there p t h e = (let same : p ≡ t = cc in subst (λ q. is_place given q ≡ true) same h)

  word_leads : (needed : List CodePlace) (next t : CodePlace) (op : RvOp) → raw_at given (Code o s f) ≡ Some op
      → target_of (placed_op needed next (target_from given o s f (operand_at given o s f)) (operand_at given o s f) op) ≡ Some t → is_place given t ≡ true
  word_leads needed next t (rv.Jal rd by) raw e = is_there _ t (jump_there (rv.Jal rd by) (code_place o s f by) raw refl (λ k. jal_gives k rd by)) e
  word_leads needed next t (rv.Branch cond rs1 rs2 by) raw e = is_there _ t (jump_there (rv.Branch cond rs1 rs2 by) (code_place o s f by) raw refl (λ k. branch_gives k cond rs1 rs2 by)) e
  word_leads needed next t op raw e = absurd cc

  one_call : (b : Bool) → (b || false) ≡ true → b ≡ true
  one_call true e = refl
  one_call false e = absurd cc

  call_there : has_call (relocations_at given o s f) ≡ true → is_place given (target_or given (operand_at given o s f) Nowhere) ≡ true
  call_there call = by_relocations (relocations_at given o s f) refl call
    where
      by_relocations : (rs : List Relocation) → relocations_at given o s f ≡ rs → has_call rs ≡ true → is_place given (target_or given (first_operand given o s rs) Nowhere) ≡ true
      by_relocations [] e c = absurd cc
      by_relocations (r ∷ rs) e c =
          let only = lone given o s f r free (ap (λ l. slice_get l 0) e) in
          let one : r ∷ rs ≡ r ∷ [] = sym e ∙ only.lone in
          lone_target r only (call_gives (kind_of r.kind) (one_call (is_call (kind_of r.kind)) (subst (λ l. has_call l ≡ true) one c))) Nowhere

  code_leads : (t : CodePlace) → target_at given (Code o s f) ≡ Some t → is_place given t ≡ true
  unfolding operation_in is_pair_at
  code_leads t e = by_pair (is_pair_at given o s f) refl e
    where
      needed : List CodePlace
      needed = needed_places given

      next : CodePlace
      next = next_place given (Code o s f)

      by_word : (o' : Option RvOp) → raw_at given (Code o s f) ≡ o' → target_in (option_map (placed_op needed next (target_from given o s f (operand_at given o s f)) (operand_at given o s f)) o') ≡ Some t → is_place given t ≡ true
      by_word None raw h = absurd cc
      by_word (Some op) raw h = word_leads needed next t op raw h

      by_pair : (b : Bool) → is_pair_at given o s f ≡ b
          → target_in (if b then pair_op needed next (target_or given (operand_at given o s f) Nowhere) (raw_at given (Code o s f)) (raw_at given (Code o s (f + 4))) else option_map (placed_op needed next (target_from given o s f (operand_at given o s f)) (operand_at given o s f)) (raw_at given (Code o s f))) ≡ Some t
          → is_place given t ≡ true
      by_pair true pair h =
          let there = call_there (and_right (can_call given o s f) (has_call (relocations_at given o s f)) pair) in
          subst (λ q. is_place given q ≡ true) (pair_leads needed next (target_or given (operand_at given o s f) Nowhere) t (raw_at given (Code o s f)) (raw_at given (Code o s (f + 4))) h) there
      by_pair false pair h = by_word (raw_at given (Code o s f)) refl h

pub stub_leads : (given : Given) (n at : ℕ) (t : CodePlace) → target_at given (Stub n at) ≡ Some t → ⊥
unfolding operation_in
stub_leads given n at t e = by_trap (nat_eq n (length given.wanted.imports) && nat_eq at 0) (slice_get given.wanted.imports n) e
  where
    import_leads : (kind : ImportKind) → target_of (import_op kind) ≡ Some t → ⊥
    import_leads (Host number) h = absurd cc
    import_leads ImportSbrk h = absurd cc

    by_import : (one : Option Import) (at : ℕ) → target_in (stub_op one at) ≡ Some t → ⊥
    by_import None at h = absurd cc
    by_import (Some one) zero h = import_leads one.kind h
    by_import (Some one) (suc zero) h = absurd cc
    by_import (Some one) (suc (suc at)) h = absurd cc

    by_trap : (b : Bool) (one : Option Import) → target_in (if b then Some (Plain rv.Trap) else stub_op one at) ≡ Some t → ⊥
    by_trap true one h = absurd cc
    by_trap false one h = by_import one at h

pub nowhere_leads : (given : Given) (t : CodePlace) → target_at given Nowhere ≡ Some t → ⊥
unfolding operation_in
nowhere_leads given t e = absurd cc

-- the target of the operation at a place is a place
pub leads_to_place : (given : Given) → code_faults given ≡ [] → (p t : CodePlace) → is_place given p ≡ true → target_at given p ≡ Some t → is_place given t ≡ true
leads_to_place given none (Code o s f) t place e = code_leads given o s f (faultless given o s f none place) t e
leads_to_place given none (Stub n at) t place e = absurd (stub_leads given n at t e)
leads_to_place given none Nowhere t place e = absurd (nowhere_leads given t e)

-- what is listed among all places is a place
pub listed_place : (given : Given) (i : ℕ) (p : CodePlace) → slice_get (all_places given) i ≡ Some p → is_place given p ≡ true
listed_place given i p e = member (all_places given) i e
  where
    member : (ps : List CodePlace) (i : ℕ) → slice_get ps i ≡ Some p → has ps p ≡ true
    member [] i e = absurd cc
    member (q ∷ ps) zero e = (let same : q ≡ p = cc in or_left (same_place p q) (has ps p) (rw same (place_self p)))
    member (q ∷ ps) (suc i) e = or_right (same_place p q) (has ps p) (member ps i e)

-- the same, by the operation
pub leads : (given : Given) (p : CodePlace) (op : Operation CodePlace) → code_faults given ≡ [] → is_place given p ≡ true → operation_at given p ≡ Some op → IfSome (target_of op) (λ t. is_place given t ≡ true)
leads given p op none place e = by_target (target_of op) (ap target_in e)
  where
    by_target : (o : Option CodePlace) → target_at given p ≡ o → IfSome o (λ t. is_place given t ≡ true)
    by_target None h = tt
    by_target (Some t) h = leads_to_place given none p t place h
