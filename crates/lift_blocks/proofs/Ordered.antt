-- All places are in the order of their ranks.
use Rattle.std.proofs.Common.{◌≡◌, ℕ, zero, suc, ◌+◌, ◌*◌, ◌/◌, ◌^◌, ◌<◌, ◌≤◌, Bool, true, false, List, [], ◌∷◌, ◌++◌, length, Option, Some, None, refl, ap, arith}
use Rattle.std.specs.Prelude.{slice_get, cond, not, if◌then◌else◌}
use Rattle.std.specs.List.{filter, list_any}
use Rattle.faults.specs.Present.{each_below}
use Rattle.symbols.specs.Faults.{has_effect}
use Rattle.symbols.specs.Parts.{object_at}
use Rattle.symbols.specs.Wanted.{Given}
use Rattle.relocs.specs.Kinds.{names_target}
use Rattle.relocs.specs.Places.{CodePlace, Code, Stub, code_at, offsets_from, section_offsets, code_offsets}
use Rattle.relocs.specs.Pairs.{is_second, is_import, is_absent, named_by, import_stub, trap_stub, trap_stubs, stub_places, all_places}
use Rattle.lift_blocks.specs.Rank.{rank_of, code_rank, IsSmall, Ascends}

-- ranks rise from one bound to another
abbrev pub Rises : ℕ → ℕ → List CodePlace → Type 0
Rises low high [] = low ≤ high
Rises low high (p ∷ ps) = (low ≤ rank_of p) × Rises (rank_of p + 1) high ps

rises_lower : (low middle high : ℕ) (ps : List CodePlace) → low ≤ middle → Rises middle high ps → Rises low high ps
rises_lower low middle high [] l r = omega (arith, l, r)
rises_lower low middle high (p ∷ ps) l r = (let a = r.0 in (omega (arith, l, a), r.1))

rises_higher : (low middle high : ℕ) (ps : List CodePlace) → middle ≤ high → Rises low middle ps → Rises low high ps
rises_higher low middle high [] l r = omega (arith, l, r)
rises_higher low middle high (p ∷ ps) l r = (r.0, rises_higher (rank_of p + 1) middle high ps l r.1)

rises_append : (low middle high : ℕ) (a b : List CodePlace) → Rises low middle a → Rises middle high b → Rises low high (a ++ b)
rises_append low middle high [] b f g = rises_lower low middle high b f g
rises_append low middle high (p ∷ a) b f g = (f.0, rises_append (rank_of p + 1) middle high a b f.1 g)

rises_filter : (t : CodePlace → Bool) (low high : ℕ) (ps : List CodePlace) → Rises low high ps → Rises low high (filter t ps)
rises_filter t low high [] r = r
rises_filter t low high (p ∷ ps) r = by_test (t p) (rises_filter t (rank_of p + 1) high ps r.1)
  where
    by_test : (b : Bool) → Rises (rank_of p + 1) high (filter t ps) → Rises low high (cond b (p ∷ filter t ps) (filter t ps))
    by_test true rest = (r.0, rest)
    by_test false rest = (let a = r.0 in rises_lower low (rank_of p + 1) high (filter t ps) (omega (arith, a)) rest)

rises_at : (low high : ℕ) (ps : List CodePlace) (j : ℕ) (q : CodePlace) → Rises low high ps → slice_get ps j ≡ Some q → low ≤ rank_of q
rises_at low high [] j q r e = absurd cc
rises_at low high (p ∷ ps) zero q r e = (let same : p ≡ q = cc in rw (← same) r.0)
rises_at low high (p ∷ ps) (suc j) q r e =
    let a = r.0 in
    let b = rises_at (rank_of p + 1) high ps j q r.1 e in
    omega (arith, a, b)

rises_below : (low high : ℕ) (ps : List CodePlace) → Rises low high ps → (i j : ℕ) (p q : CodePlace) → i < j → slice_get ps i ≡ Some p → slice_get ps j ≡ Some q → rank_of p < rank_of q
rises_below low high [] r i j p q l e f = absurd cc
rises_below low high (x ∷ ps) r i zero p q l e f = absurd (omega (arith, l))
rises_below low high (x ∷ ps) r zero (suc j) p q l e f =
    let same : x ≡ p = cc in
    let b = rises_at (rank_of x + 1) high ps j q r.1 f in
    let k = ap rank_of same in
    omega (arith, b, k)
rises_below low high (x ∷ ps) r (suc i) (suc j) p q l e f = rises_below (rank_of x + 1) high ps r.1 i j p q (omega (arith, l)) e f

rises_each : (n : ℕ) (at : ℕ → List CodePlace) (bound : ℕ → ℕ) → ((i : ℕ) → i < n → Rises (bound i) (bound (suc i)) (at i)) → Rises (bound 0) (bound n) (each_below n at)
unfolding each_below
rises_each zero at bound each = omega arith
rises_each (suc n) at bound each =
    rises_append (bound 0) (bound n) (bound (suc n)) (each_below n at) (at n) (rises_each n at bound (λ i l. each i (omega (arith, l)))) (each n (omega arith))

rank_code : (o s f : ℕ) → rank_of (Code o s f) ≡ (o * 2 ^ 32 + s) * 2 ^ 64 + f
unfolding rank_of code_rank
rank_code o s f = refl

rank_stub : (n at : ℕ) → rank_of (Stub n at) ≡ 2 ^ 128 + 2 * n + at
unfolding rank_of
rank_stub n at = refl

rises_offsets : (o s f count : ℕ) → f + 4 * count ≤ 2 ^ 64 → Rises ((o * 2 ^ 32 + s) * 2 ^ 64 + f) ((o * 2 ^ 32 + suc s) * 2 ^ 64) (offsets_from o s f count)
rises_offsets o s f zero l = omega (arith, l)
rises_offsets o s f (suc count) l =
    let k = rank_code o s f in (
      omega (arith, k),
      rises_lower _ ((o * 2 ^ 32 + s) * 2 ^ 64 + (f + 4)) _ (offsets_from o s (f + 4) count) (omega (arith, k)) (rises_offsets o s (f + 4) count (omega (arith, l))),
    )

module _ (given : Given) (small : IsSmall given) where
  rises_code : (o s : ℕ) (code : Option (List ℕ)) → code_at given o s ≡ code → Rises ((o * 2 ^ 32 + s) * 2 ^ 64) ((o * 2 ^ 32 + suc s) * 2 ^ 64) (section_offsets code o s)
  rises_code o s None c = omega arith
  rises_code o s (Some bytes) c =
      let short = small.code o s bytes c in
      rises_lower _ ((o * 2 ^ 32 + s) * 2 ^ 64 + 0) _ (offsets_from o s 0 (length bytes / 4 + 1)) (omega arith) (rises_offsets o s 0 (length bytes / 4 + 1) (omega (arith, short)))

  rises_object : (o : ℕ) → Rises (o * 2 ^ 32 * 2 ^ 64) (suc o * 2 ^ 32 * 2 ^ 64) (each_below (length (object_at given.objects o).sections) (λ s. section_offsets (code_at given o s) o s))
  rises_object o =
      let count = length (object_at given.objects o).sections in
      let few = small.sections o in
      let all = rises_each count (λ s. section_offsets (code_at given o s) o s) (λ s. (o * 2 ^ 32 + s) * 2 ^ 64) (λ s l. rises_code o s (code_at given o s) refl) in
      rises_higher _ ((o * 2 ^ 32 + count) * 2 ^ 64) _ _ (omega (arith, few)) (rises_lower _ ((o * 2 ^ 32 + 0) * 2 ^ 64) _ _ (omega arith) all)

  rises_objects : Rises 0 (2 ^ 128) (code_offsets given)
  rises_objects =
      let few = small.objects in
      let all = rises_each (length given.objects) (λ o. each_below (length (object_at given.objects o).sections) (λ s. section_offsets (code_at given o s) o s)) (λ o. o * 2 ^ 32 * 2 ^ 64) (λ o l. rises_object o) in
      rises_higher _ (length given.objects * 2 ^ 32 * 2 ^ 64) _ _ (omega (arith, few)) (rises_lower _ (0 * 2 ^ 32 * 2 ^ 64) _ _ (omega arith) all)

  rises_import : (i : ℕ) → Rises (2 ^ 128 + 2 * i) (2 ^ 128 + 2 * suc i) (import_stub given i)
  rises_import i = by_named (list_any (is_import i) (named_by (λ r. has_effect r.kind) given))
    where
      by_named : (b : Bool) → Rises (2 ^ 128 + 2 * i) (2 ^ 128 + 2 * suc i) (if b then Stub i 0 ∷ Stub i 1 ∷ [] else [])
      by_named true = (let a = rank_stub i 0 in let b = rank_stub i 1 in (omega (arith, a), (omega (arith, a, b), omega (arith, b))))
      by_named false = omega arith

  rises_trap : Rises (2 ^ 128 + 2 * length given.wanted.imports) (2 ^ 128 + 2 * length given.wanted.imports + 1) (trap_stubs given)
  rises_trap = by_named (list_any is_absent (named_by names_target given))
    where
      by_named : (b : Bool) → Rises (2 ^ 128 + 2 * length given.wanted.imports) (2 ^ 128 + 2 * length given.wanted.imports + 1) (if b then trap_stub given ∷ [] else [])
      by_named true = (let a = rank_stub (length given.wanted.imports) 0 in (omega (arith, a), omega (arith, a)))
      by_named false = omega arith

  rises_stubs : Rises (2 ^ 128) (2 ^ 128 + 2 * length given.wanted.imports + 1) (stub_places given)
  rises_stubs =
      rises_append _ (2 ^ 128 + 2 * length given.wanted.imports) _ (each_below (length given.wanted.imports) (import_stub given)) (trap_stubs given)
      (rises_lower _ (2 ^ 128 + 2 * 0) _ _ (omega arith) (rises_each (length given.wanted.imports) (import_stub given) (λ i. 2 ^ 128 + 2 * i) (λ i l. rises_import i))) rises_trap

  pub ascends : Ascends (all_places given)
  unfolding all_places
  ascends = record {
    rises = rises_below 0 (2 ^ 128 + 2 * length given.wanted.imports + 1) (filter (λ p. not (is_second given p)) (code_offsets given) ++ stub_places given)
        (rises_append 0 (2 ^ 128) _ (filter (λ p. not (is_second given p)) (code_offsets given)) (stub_places given) (rises_filter (λ p. not (is_second given p)) 0 (2 ^ 128) (code_offsets given) rises_objects) rises_stubs);
  }
