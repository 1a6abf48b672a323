-- Numbers of objects and sections, and bytes of code, are small, and places of code are in code sections.
use Rattle.std.proofs.Common.{◌≡◌, ℕ, zero, suc, ◌+◌, ◌*◌, ◌/◌, ◌^◌, ◌<◌, ◌≤◌, Bool, true, false, cond, List, [], ◌∷◌, ◌++◌, length, Option, Some, None, refl, ap, subst, arith}
use Rattle.std.specs.Prelude.{slice_get, unwrap_or, not, if◌then◌else◌}
use Rattle.std.specs.List.{filter}
use Rattle.std.proofs.lemmas.Option.{slice_get_within}
use Rattle.faults.specs.Present.{each_below}
use Rattle.elf_objects.specs.Objects.{Object}
use Rattle.symbols.specs.Parts.{object_at, no_object}
use Rattle.symbols.specs.Wanted.{Given, kept_objects}
use Rattle.layout.specs.Faults.{layout_faults}
use Rattle.relocs.specs.Places.{CodePlace, Stub, code_at, offsets_from, section_offsets, code_offsets}
use Rattle.relocs.specs.Sites.{IsCodeSection}
use Rattle.relocs.specs.Kinds.{names_target}
use Rattle.symbols.specs.Faults.{has_effect}
use Rattle.std.specs.List.{list_any}
use Rattle.relocs.specs.Pairs.{is_second, is_import, is_absent, named_by, import_stub, trap_stub, trap_stubs, stub_places, all_places}
use Rattle.lift_blocks.specs.Rank.{code_rank, IsSmall}
use Rattle.lift_blocks.specs.Known.{IsKnown, AreKnown}
use Rattle.lift_blocks.proofs.CodeRoom.{code_small}
use Rattle.lift_blocks.proofs.Faultless.{code_section}

module _ (given : Given) where
  -- each number of sections was read as one of 32 bits
  pub all_small : length (kept_objects given) < 2 ^ 32 → ((o : ℕ) → o < length (kept_objects given) → length (object_at (kept_objects given) o).sections < 2 ^ 32) → layout_faults given ≡ [] → IsSmall given
  all_small few each none = record {
    objects = omega (arith, few);
    sections = λ o. by_object o (slice_get (kept_objects given) o) refl;
    code = λ o s bytes e. let r = code_small given o s bytes none e in omega (arith, r);
  }
    where
      by_object : (o : ℕ) (x : Option Object) → slice_get (kept_objects given) o ≡ x → length (object_at (kept_objects given) o).sections ≤ 2 ^ 32
      by_object o None f = (let at : length (object_at (kept_objects given) o).sections ≡ 0 = ap (λ x. length (unwrap_or x no_object).sections) f in omega (arith, at))
      by_object o (Some object) f = (let l = each o (slice_get_within (kept_objects given) o object f) in omega (arith, l))

  -- ---- places are known

  abbrev AllKnown : List CodePlace → Type 0
  AllKnown [] = Unit {0}
  AllKnown (p ∷ ps) = IsKnown given p × AllKnown ps

  known_append : (a b : List CodePlace) → AllKnown a → AllKnown b → AllKnown (a ++ b)
  known_append [] b f g = g
  known_append (p ∷ a) b f g = (f.0, known_append a b f.1 g)

  known_filter : (t : CodePlace → Bool) (ps : List CodePlace) → AllKnown ps → AllKnown (filter t ps)
  known_filter t [] f = tt
  known_filter t (p ∷ ps) f = by_test (t p) (known_filter t ps f.1)
    where
      by_test : (b : Bool) → AllKnown (filter t ps) → AllKnown (cond b (p ∷ filter t ps) (filter t ps))
      by_test true g = (f.0, g)
      by_test false g = g

  known_each : (n : ℕ) (at : ℕ → List CodePlace) → ((i : ℕ) → i < n → AllKnown (at i)) → AllKnown (each_below n at)
  unfolding each_below
  known_each zero at each = tt
  known_each (suc n) at each = known_append (each_below n at) (at n) (known_each n at (λ i l. each i (omega (arith, l)))) (each n (omega arith))

  known_at : (ps : List CodePlace) → AllKnown ps → (i : ℕ) (p : CodePlace) → slice_get ps i ≡ Some p → IsKnown given p
  known_at [] f i p e = absurd cc
  known_at (q ∷ ps) f zero p e = (let same : q ≡ p = cc in subst (IsKnown given) same f.0)
  known_at (q ∷ ps) f (suc i) p e = known_at ps f.1 i p e

  small_rank : (o s offset : ℕ) → o < 2 ^ 32 → s < 2 ^ 32 → offset < 2 ^ 64 → code_rank o s offset < 2 ^ 128
  unfolding code_rank
  small_rank o s offset a b c = omega (arith, a, b, c)

  module _ (small : IsSmall given) where
    known_offsets : (o s offset count : ℕ) → IsCodeSection given o s → offset + 4 * count ≤ 2 ^ 63 + 8 → AllKnown (offsets_from o s offset count)
    known_offsets o s offset zero is l = tt
    known_offsets o s offset (suc count) is l =
        let objects = small.objects in
        let sections = small.sections o in
        let object_in = is.0.object_in in
        let section_in = is.0.section_in in (
          (is, omega (arith, l), small_rank o s offset (omega (arith, objects, object_in)) (omega (arith, sections, section_in)) (omega (arith, l))),
          known_offsets o s (offset + 4) count is (omega (arith, l)),
        )

    known_code : (o s : ℕ) (code : Option (List ℕ)) → code_at given o s ≡ code → AllKnown (section_offsets code o s)
    known_code o s None e = tt
    known_code o s (Some bytes) e = (let short = small.code o s bytes e in known_offsets o s 0 (length bytes / 4 + 1) (code_section given o s bytes e) (omega (arith, short)))

    known_import : (i : ℕ) → AllKnown (import_stub given i)
    known_import i = by_named (list_any (is_import i) (named_by (λ r. has_effect r.kind) given))
      where
        by_named : (b : Bool) → AllKnown (if b then Stub i 0 ∷ Stub i 1 ∷ [] else [])
        by_named true = (omega arith, (omega arith, tt))
        by_named false = tt

    known_trap : AllKnown (trap_stubs given)
    known_trap = by_named (list_any is_absent (named_by names_target given))
      where
        by_named : (b : Bool) → AllKnown (if b then trap_stub given ∷ [] else [])
        by_named true = (omega arith, tt)
        by_named false = tt

    pub all_known : AreKnown given (all_places given)
    unfolding all_places
    all_known = record {
      each = known_at _
          (known_append (filter (λ p. not (is_second given p)) (code_offsets given)) (stub_places given)
          (known_filter (λ p. not (is_second given p)) (code_offsets given)
          (known_each (length (kept_objects given)) (λ o. each_below (length (object_at (kept_objects given) o).sections) (λ s. section_offsets (code_at given o s) o s))
          (λ o l. known_each (length (object_at (kept_objects given) o).sections) (λ s. section_offsets (code_at given o s) o s) (λ s m. known_code o s (code_at given o s) refl))))
          (known_append (each_below (length given.wanted.imports) (import_stub given)) (trap_stubs given) (known_each (length given.wanted.imports) (import_stub given) (λ i l. known_import i)) known_trap));
    }
