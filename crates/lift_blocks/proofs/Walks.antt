-- Places that are listed one after another.
use Rattle.std.proofs.Common.{◌≡◌, ℕ, zero, suc, ◌+◌, ◌*◌, Bool, true, false, List, [], ◌∷◌, ◌++◌, length, take, map, Some, refl, sym, ap, ◌∙◌, arith, add-one}
use Rattle.std.specs.Prelude.{slice_get, cond, if◌then◌else◌, ◌||◌}
use Rattle.std.specs.List.{filter, list_any}
use Rattle.faults.specs.Present.{each_below}
use Rattle.elf_objects.specs.declared.parts.Relocation.{Relocation}
use Rattle.symbols.specs.Parts.{object_at}
use Rattle.symbols.specs.Wanted.{Given}
use Rattle.relocs.specs.Places.{CodePlace, Code, code_at, section_offsets, offsets_from}
use Rattle.relocs.specs.Pairs.{stub_places, all_places}
use Rattle.lift_blocks.specs.CodeList.{is_first, section_places, object_places, code_places_of}
use Rattle.lift_blocks.specs.declared.site.Site.{Site}
use Rattle.lift_blocks.specs.Kept.{site_of}

assoc : {A : Type 0} (xs ys zs : List A) → (xs ++ ys) ++ zs ≡ xs ++ (ys ++ zs)
assoc [] ys zs = refl
assoc (x ∷ xs) ys zs = ap (λ l. x ∷ l) (assoc xs ys zs)

map_append : (xs ys : List Site) → map site_of (xs ++ ys) ≡ map site_of xs ++ map site_of ys
map_append [] ys = refl
map_append (x ∷ xs) ys = ap (λ l. site_of x ∷ l) (map_append xs ys)

filter_append : (t : CodePlace → Bool) (xs ys : List CodePlace) → filter t (xs ++ ys) ≡ filter t xs ++ filter t ys
filter_append t [] ys = refl
filter_append t (x ∷ xs) ys = by_test (filter_append t xs ys) (t x)
  where
    by_test : filter t (xs ++ ys) ≡ filter t xs ++ filter t ys → (b : Bool) → cond b (x ∷ filter t (xs ++ ys)) (filter t (xs ++ ys)) ≡ cond b (x ∷ filter t xs) (filter t xs) ++ filter t ys
    by_test e true = ap (λ l. x ∷ l) e
    by_test e false = e

offsets_next : (o s f n : ℕ) → offsets_from o s f (suc n) ≡ offsets_from o s f n ++ Code o s (f + 4 * n) ∷ []
offsets_next o s f zero = (let e : f ≡ f + 4 * 0 = omega arith in ap (λ k. Code o s k ∷ []) e)
offsets_next o s f (suc n) =
    let e : f + 4 + 4 * n ≡ f + 4 * suc n = omega arith in
    ap (λ l. Code o s f ∷ l) (offsets_next o s (f + 4) n ∙ ap (λ k. offsets_from o s (f + 4) n ++ Code o s k ∷ []) e)

-- a place more of a section, where it passes
pub sites_more :
    (t : CodePlace → Bool) (old now next : List Site) (o s n : ℕ) (site : Site)
    → map site_of now ≡ map site_of old ++ filter t (offsets_from o s 0 n) → next ≡ now ++ (if t (site_of site) then site ∷ [] else []) → site_of site ≡ Code o s (0 + 4 * n)
    → map site_of next ≡ map site_of old ++ filter t (offsets_from o s 0 (suc n))
sites_more t old now next o s n site e g at =
    ap (map site_of) g ∙ map_append now (if t (site_of site) then site ∷ [] else []) ∙ ap (λ l. l ++ map site_of (if t (site_of site) then site ∷ [] else [])) e
    ∙ assoc (map site_of old) (filter t (offsets_from o s 0 n)) (map site_of (if t (site_of site) then site ∷ [] else []))
    ∙ ap (λ l. map site_of old ++ l) (ap (λ l. filter t (offsets_from o s 0 n) ++ l) (one (t (site_of site)) refl) ∙ sym (filter_append t (offsets_from o s 0 n) (Code o s (0 + 4 * n) ∷ [])) ∙ ap (filter t) (sym (offsets_next o s 0 n)))
  where
    one : (b : Bool) → t (site_of site) ≡ b → map site_of (if t (site_of site) then site ∷ [] else []) ≡ filter t (Code o s (0 + 4 * n) ∷ [])
    one true h = (let k : t (Code o s (0 + 4 * n)) ≡ true = ap t (sym at) ∙ h in rw (h, k) (ap (λ p. p ∷ []) at))
    one false h = (let k : t (Code o s (0 + 4 * n)) ≡ false = ap t (sym at) ∙ h in rw (h, k) refl)

-- the places of one section or one object more
pub lists_more : {A : Type 0} (at : ℕ → List A) (old now next : List A) (n : ℕ) → now ≡ old ++ each_below n at → next ≡ now ++ at n → next ≡ old ++ each_below (suc n) at
unfolding each_below
lists_more at old now next n e g = g ∙ ap (λ l. l ++ at n) e ∙ assoc old (each_below n at) (at n)

pub none_yet : {A : Type 0} (at : ℕ → List A) (old : List A) → old ≡ old ++ each_below 0 at
unfolding each_below
none_yet at [] = refl
none_yet at (x ∷ old) = ap (λ l. x ∷ l) (none_yet at old)

pub nil_right : {A : Type 0} (old : List A) → old ≡ old ++ []
nil_right [] = refl
nil_right (x ∷ old) = ap (λ l. x ∷ l) (nil_right old)

-- ---- a test in a loop

pub any_next : (t : Relocation → Bool) (rs : List Relocation) (at : ℕ) (r : Relocation) → slice_get rs at ≡ Some r → list_any t (take at rs) ≡ false → t r ≡ false → list_any t (take (suc at) rs) ≡ false
any_next t [] at r e none f = absurd cc
any_next t (x ∷ rs) zero r e none f = (let same : x ≡ r = cc in rw (same, f) refl)
any_next t (x ∷ rs) (suc at) r e none f = by_test (λ n. any_next t rs at r e n f) (t x) none
  where
    by_test : (list_any t (take at rs) ≡ false → list_any t (take (suc at) rs) ≡ false) → (b : Bool) → (b || list_any t (take at rs)) ≡ false → (b || list_any t (take (suc at) rs)) ≡ false
    by_test more true n = absurd cc
    by_test more false n = more n

pub any_at : (t : Relocation → Bool) (rs : List Relocation) (at : ℕ) (r : Relocation) → slice_get rs at ≡ Some r → t r ≡ true → list_any t rs ≡ true
any_at t [] at r e f = absurd cc
any_at t (x ∷ rs) zero r e f = (let same : x ≡ r = cc in rw (same, f) refl)
any_at t (x ∷ rs) (suc at) r e f = by_test (t x) (any_at t rs at r e f)
  where
    by_test : (b : Bool) → list_any t rs ≡ true → (b || list_any t rs) ≡ true
    by_test true e = refl
    by_test false e = e

pub site_more :
    (t : CodePlace → Bool) (old now next : List Site) (o s n : ℕ) (site : Site)
    → map site_of now ≡ map site_of old ++ filter t (offsets_from o s 0 n) → next ≡ now ++ (if t (site_of site) then site ∷ [] else []) → site_of site ≡ Code o s (4 * n)
    → map site_of next ≡ map site_of old ++ filter t (offsets_from o s 0 (n + 1))
site_more t old now next o s n site e g at =
    let same : 4 * n ≡ 0 + 4 * n = omega arith in
    rw add-one (sites_more t old now next o s n site e g (at ∙ ap (λ k. Code o s k) same))

pub list_more : {A : Type 0} (at : ℕ → List A) (old now next : List A) (n : ℕ) → now ≡ old ++ each_below n at → next ≡ now ++ at n → next ≡ old ++ each_below (n + 1) at
list_more at old now next n e g = rw add-one (lists_more at old now next n e g)

-- ---- all places

filter_each : (t : CodePlace → Bool) (n : ℕ) (at : ℕ → List CodePlace) → filter t (each_below n at) ≡ each_below n (λ i. filter t (at i))
unfolding each_below
filter_each t zero at = refl
filter_each t (suc n) at = filter_append t (each_below n at) (at n) ∙ ap (λ l. l ++ filter t (at n)) (filter_each t n at)

each_same : (n : ℕ) (f g : ℕ → List CodePlace) → ((i : ℕ) → f i ≡ g i) → each_below n f ≡ each_below n g
unfolding each_below
each_same zero f g same = refl
each_same (suc n) f g same = ap (λ l. l ++ f n) (each_same n f g same) ∙ ap (λ l. each_below n g ++ l) (same n)

-- the places of code section by section, and those of the stubs, are all places
pub all_places_are : (given : Given) → all_places given ≡ code_places_of given ++ stub_places given
unfolding all_places section_places
all_places_are given =
    ap (λ l. l ++ stub_places given)
    (filter_each (is_first given) (length given.objects) (λ o. each_below (length (object_at given.objects o).sections) (λ s. section_offsets (code_at given o s) o s))
    ∙ each_same (length given.objects) _ (object_places given)
    (λ o. filter_each (is_first given) (length (object_at given.objects o).sections) (λ s. section_offsets (code_at given o s) o s)))

pub sites_append : (xs ys : List Site) → map site_of (xs ++ ys) ≡ map site_of xs ++ map site_of ys
sites_append xs ys = map_append xs ys

pub places_assoc : (xs ys zs : List CodePlace) → (xs ++ ys) ++ zs ≡ xs ++ (ys ++ zs)
places_assoc xs ys zs = assoc xs ys zs

pub places_nil : (xs : List CodePlace) → xs ++ [] ≡ xs
places_nil xs = sym (nil_right xs)

pub ruleset append_rules = (sites_append, places_assoc, places_nil)
