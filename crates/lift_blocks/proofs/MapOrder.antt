-- The places of the address map are in the order that the map keeps.
use Rattle.std.proofs.Common.{◌≡◌, ℕ, zero, suc, ◌+◌, ◌-◌, ◌<◌, ◌≤◌, Bool, true, false, List, [], ◌∷◌, ◌++◌, length, length-append, get_or, map, Option, Some, None, refl, sym, ap, ◌∙◌, subst, arith, ℤ}
use Rattle.std.specs.Prelude.{slice_get, nat_eq, ◌&&◌, if◌then◌else◌}
use Rattle.std.specs.List.{filter_map, cons_option, filter}
use Rattle.std.proofs.lemmas.List.Folds.{list_any-append}
use Rattle.std.proofs.lemmas.List.{append-nil}
use Rattle.faults.specs.First.{where_true}
use Rattle.faults.specs.Present.{each_below}
use Rattle.elf_objects.specs.declared.parts.Relocation.{Relocation}
use Rattle.rv_decode.specs.declared.ops.Reg.TheVariants.{Zero, R}
use Rattle.rv_decode.specs.declared.ops.RvOp.{RvOp}
use Rattle.rv_decode.specs.declared.ops.RvOp.TheVariants as rv
use Rattle.symbols.specs.declared.place.Place.{Place}
use Rattle.symbols.specs.declared.place.Place.TheVariants as names
use Rattle.symbols.specs.Parts.{object_at}
use Rattle.symbols.specs.Resolution.{resolution}
use Rattle.symbols.specs.Wanted.{Given, kept_objects}
use Rattle.layout.specs.Slots.{each_section, loaded_relocations}
use Rattle.relocs.specs.Kinds.{names_address}
use Rattle.relocs.specs.Places.{CodePlace, Code, Stub, Nowhere, same_place, has}
use Rattle.relocs.specs.Pairs.{is_pair, all_places, next_place}
use Rattle.relocs.specs.AddressMap.{last_word, link_of, link_at, place_at, address_named, addresses_named, named_places, needed_places}
use Rattle.relocs.specs.CodeMap.{IsAfter}
use Rattle.relocs.specs.CodeMap as kept
use Rattle.lift_blocks.specs.Rank.{rank_of, code_rank}
use Rattle.lift_blocks.specs.Known.{IsKnown, AreAll, IsMappable}
use Rattle.lift_blocks.specs.Marks.{chosen}
use Rattle.lift_blocks.proofs.Choosing.{chosen_filter, mark_is}

-- ---- only the first operation of a stub is named

module _ (n k : ℕ) where
  no_stub : CodePlace → Type 0
  no_stub q = same_place (Stub n (suc k)) q ≡ false

  none_made : {A : Type 0} (f : A → Option CodePlace) (xs : List A) → ((x : A) (q : CodePlace) → f x ≡ Some q → same_place (Stub n (suc k)) q ≡ false) → has (filter_map f xs) (Stub n (suc k)) ≡ false
  none_made f [] none = refl
  none_made f (x ∷ xs) none = by_given (none_made f xs none) (f x) refl
    where
      by_given : has (filter_map f xs) (Stub n (suc k)) ≡ false → (o : Option CodePlace) → f x ≡ o → has (cons_option o (filter_map f xs)) (Stub n (suc k)) ≡ false
      by_given rest None e = rest
      by_given rest (Some q) e = (let other = none x q e in rw (other, rest) refl)

  none_each : (count : ℕ) (at : ℕ → List CodePlace) → ((i : ℕ) → has (at i) (Stub n (suc k)) ≡ false) → has (each_below count at) (Stub n (suc k)) ≡ false
  unfolding each_below
  none_each zero at none = refl
  none_each (suc count) at none = list_any-append (same_place (Stub n (suc k))) (each_below count at) (at count) ∙ rw (none_each count at none, none count) refl

  other_stub : (i : ℕ) → same_place (Stub n (suc k)) (Stub i 0) ≡ false
  other_stub i = (let e : nat_eq (suc k) 0 ≡ false = grind arith in by_number (nat_eq n i) e)
    where
      by_number : (b : Bool) → nat_eq (suc k) 0 ≡ false → (b && nat_eq (suc k) 0) ≡ false
      by_number true e = e
      by_number false e = refl

  link_is : (next q : CodePlace) (op : Option RvOp) → link_of next op ≡ Some q → next ≡ q
  link_is next q None e = absurd cc
  link_is next q (Some (rv.Lui rd v)) e = absurd cc
  link_is next q (Some (rv.Auipc rd v)) e = absurd cc
  link_is next q (Some (rv.Jal Zero offset)) e = absurd cc
  link_is next q (Some (rv.Jal (R r) offset)) e = cc
  link_is next q (Some (rv.Jalr Zero rs1 i)) e = absurd cc
  link_is next q (Some (rv.Jalr (R r) rs1 i)) e = cc
  link_is next q (Some (rv.Branch cond rs1 rs2 offset)) e = absurd cc
  link_is next q (Some (rv.Load width rd rs1 i)) e = absurd cc
  link_is next q (Some (rv.Store width rs1 rs2 i)) e = absurd cc
  link_is next q (Some (rv.OpImm op rd rs1 i)) e = absurd cc
  link_is next q (Some (rv.Op op rd rs1 rs2)) e = absurd cc
  link_is next q (Some rv.Fence) e = absurd cc
  link_is next q (Some rv.Trap) e = absurd cc

  module _ (given : Given) where
    no_link : (p q : CodePlace) → link_at given p ≡ Some q → same_place (Stub n (suc k)) q ≡ false
    no_link (Code o s offset) q e = (let is = link_is (next_place given (Code o s offset)) q (last_word (is_pair given (Code o s offset)) given (Code o s offset)) e in ap (same_place (Stub n (suc k))) (sym is))
    no_link (Stub m at) q e = absurd cc
    no_link Nowhere q e = absurd cc

    no_place : (place : Place) (addend : ℤ) → same_place (Stub n (suc k)) (place_at place addend) ≡ false
    no_place (names.Code o s offset) addend = refl
    no_place (names.Bytes o s offset) addend = refl
    no_place names.Unloaded addend = refl
    no_place (names.Import i) addend = other_stub i
    no_place (names.Number number) addend = refl
    no_place names.Absent addend = refl

    no_address : (o : ℕ) (r : Relocation) (q : CodePlace) → address_named given o r ≡ Some q → same_place (Stub n (suc k)) q ≡ false
    no_address o r q e = by_test (names_address r) e
      where
        by_test : (b : Bool) → where_true b (place_at (resolution given o r.symbol) r.addend) ≡ Some q → same_place (Stub n (suc k)) q ≡ false
        by_test true e = (let same : place_at (resolution given o r.symbol) r.addend ≡ q = cc in ap (same_place (Stub n (suc k))) (sym same) ∙ no_place (resolution given o r.symbol) r.addend)
        by_test false e = absurd cc

    no_second : has (named_places given) (Stub n (suc k)) ≡ false
    no_second =
        list_any-append (same_place (Stub n (suc k))) (filter_map (link_at given) (all_places given)) (each_section given (addresses_named given))
        ∙ rw (
          none_made (link_at given) (all_places given) no_link,
          none_each (length (kept_objects given)) (λ o. each_below (length (object_at (kept_objects given) o).sections) (addresses_named given o))
              (λ o. none_each (length (object_at (kept_objects given) o).sections) (addresses_named given o) (λ s. none_made (address_named given o) (loaded_relocations given o s) (no_address o))),
        ) refl

module _ (given : Given) where
  pub named_mappable : (p : CodePlace) → IsKnown given p → has (named_places given) p ≡ true → IsMappable p
  named_mappable (Code o s offset) known e = tt
  named_mappable (Stub n zero) known e = refl
  named_mappable (Stub n (suc k)) known e = (let none = no_second n k given in absurd cc)
  named_mappable Nowhere known e = known

  pub marked_mappable :
      (places : List CodePlace) (named : List Bool) (i : ℕ) (p : CodePlace) → AreAll given places → named ≡ map (has (named_places given)) places → slice_get places i ≡ Some p → get_or named i false ≡ true
      → IsMappable p
  marked_mappable places named i p all e here marked = named_mappable p (all.known.each i p here) (sym (mark_is (has (named_places given)) places named i p e here) ∙ marked)

  -- ---- the two orders

  pub rank_kept : (p q : CodePlace) → IsKnown given p → IsKnown given q → IsMappable p → IsMappable q → rank_of p < rank_of q → kept.rank_of p < kept.rank_of q
  unfolding rank_of code_rank kept.rank_of kept.code_rank
  rank_kept (Code o s f) (Code o' s' f') kp kq mp mq l = l
  rank_kept (Code o s f) (Stub n at) kp kq mp mq l = (let small = kp.2 in omega (arith, small))
  rank_kept (Code o s f) Nowhere kp kq mp mq l = absurd mq
  rank_kept (Stub n at) (Code o s f) kp kq mp mq l = (let small = kq.2 in absurd (omega (arith, small, l)))
  rank_kept (Stub n at) (Stub n' at') kp kq mp mq l = omega (arith, mp, mq, l)
  rank_kept (Stub n at) Nowhere kp kq mp mq l = absurd mq
  rank_kept Nowhere q kp kq mp mq l = absurd mp

  -- the last of these is before each place from an index on
  pub record EndsBefore (places listed : List CodePlace) (i : ℕ) : Type 0 where
    pub before : (last q : CodePlace) (j : ℕ) → slice_get listed (length listed - 1) ≡ Some last → i ≤ j → slice_get places j ≡ Some q → IsMappable q → kept.rank_of last < kept.rank_of q

  last_at : (xs : List CodePlace) (x : CodePlace) → slice_get (xs ++ x ∷ []) (length xs) ≡ Some x
  last_at [] x = refl
  last_at (y ∷ xs) x = last_at xs x

  last_pushed : (xs : List CodePlace) (x : CodePlace) → slice_get (xs ++ x ∷ []) (length (xs ++ x ∷ []) - 1) ≡ Some x
  last_pushed xs x =
      let count : length (xs ++ x ∷ []) - 1 ≡ length xs = omega (arith, length-append xs (x ∷ [])) in
      ap (slice_get (xs ++ x ∷ [])) count ∙ last_at xs x

  pub ends_before_none : (places : List CodePlace) → EndsBefore places [] 0
  ends_before_none places = record { before = λ last q j e l f m. absurd cc }

  pub ends_before_more :
      (places listed : List CodePlace) (i : ℕ) (p : CodePlace) (b : Bool) → AreAll given places → slice_get places i ≡ Some p → (b ≡ true → IsMappable p) → EndsBefore places listed i
      → EndsBefore places (listed ++ (if b then p ∷ [] else [])) (i + 1)
  ends_before_more places listed i p true all e m before = record { before = λ last q j f l g mq. at_last last q j f l g mq }
    where
      at_last : (last q : CodePlace) (j : ℕ) → slice_get (listed ++ p ∷ []) (length (listed ++ p ∷ []) - 1) ≡ Some last → i + 1 ≤ j → slice_get places j ≡ Some q → IsMappable q → kept.rank_of last < kept.rank_of q
      at_last last q j f l g mq =
          let pushed = last_pushed listed p in
          let same : p ≡ last = cc in
          let r = rank_kept p q (all.known.each i p e) (all.known.each j q g) (m refl) mq (all.ascend.rises i j p q (omega (arith, l)) e g) in
          subst (λ x. kept.rank_of x < kept.rank_of q) same r
  ends_before_more places listed i p false all e m before = record {
    before = λ last q j f l g mq. before.before last q j (let same : listed ++ [] ≡ listed = append-nil listed in subst (λ x. slice_get x (length x - 1) ≡ Some last) same f) (omega (arith, l)) g mq;
  }

  -- where a place is named, the map has only places before it
  pub is_after : (places listed : List CodePlace) (i : ℕ) (p : CodePlace) → slice_get places i ≡ Some p → IsMappable p → EndsBefore places listed i → IsAfter listed p
  is_after places listed i p e m before last f = before.before last p i f (omega arith) e m

  -- the chosen places are the needed ones
  pub needed_chosen : (places : List CodePlace) → places ≡ all_places given → chosen (map (has (named_places given)) places) places ≡ needed_places given
  unfolding needed_places
  needed_chosen places e = chosen_filter (has (named_places given)) places ∙ ap (filter (has (named_places given))) e
