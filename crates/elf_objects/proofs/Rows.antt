-- The rows of the index as RELA sections are added.
use Rattle.std.proofs.Common.{◌≡◌, ◌≢◌, ◌<◌, ◌+◌, ◌*◌, ◌==◌, ◌++◌, ◌∷◌, [], List, Bool, true, false, refl, ap, ◌∙◌, arith, ℕ, zero, suc, length, get_or, length-append, append-nil}
use Rattle.std.proofs.lemmas.Bool.Decides.{nat_tests}
use Rattle.elf_objects.specs.declared.relocation_index.Row.{Row}
use Rattle.elf_objects.specs.Headers.{header_of, section_count}
use Rattle.elf_objects.specs.Contents.{bytes_of}
use Rattle.elf_objects.specs.Relocations.{entries_below, entry_count, is_rela, is_rela_of, relocation_in, relocations_below}
use Rattle.elf_objects.specs.Index.{AddsPart, HoldsRow, IsEmptyAt, IsIndexed, parts_below}

pub length-entries : (es : List ℕ) (n : ℕ) → length (entries_below es n) ≡ n
unfolding entries_below
length-entries es zero = refl
length-entries es (suc n) = let e = length-entries es n in omega (arith, e, length-append (entries_below es n) (relocation_in es (24 * n) ∷ []))

-- a section that is no RELA section for s changes nothing
pub parts-skip : (b : List ℕ) (s r : ℕ) → is_rela_of b s r ≡ false → parts_below b s (suc r) ≡ parts_below b s r
unfolding parts_below
parts-skip b s r e = rw (e, append-nil) refl

pub relocations-skip : (b : List ℕ) (s r : ℕ) → is_rela_of b s r ≡ false → relocations_below b s (suc r) ≡ relocations_below b s r
unfolding relocations_below
relocations-skip b s r e = rw (e, append-nil) refl

pub parts-take : (b : List ℕ) (s r : ℕ) → is_rela_of b s r ≡ true → parts_below b s (suc r) ≡ parts_below b s r ++ record { section = r; before = length (relocations_below b s r) } ∷ []
unfolding parts_below
parts-take b s r e = rw e refl

pub relocations-take : (b : List ℕ) (s r : ℕ) → is_rela_of b s r ≡ true → relocations_below b s (suc r) ≡ relocations_below b s r ++ entries_below (bytes_of b (header_of b r)) (entry_count b r)
unfolding relocations_below
relocations-take b s r e = rw e refl

pub length-take : (b : List ℕ) (s r : ℕ) → is_rela_of b s r ≡ true → length (relocations_below b s (suc r)) ≡ length (relocations_below b s r) + entry_count b r
length-take b s r e =
    ap length (relocations-take b s r e)
    ∙ length-append (relocations_below b s r) (entries_below (bytes_of b (header_of b r)) (entry_count b r))
    ∙ ap (λ n. length (relocations_below b s r) + n) (length-entries (bytes_of b (header_of b r)) (entry_count b r))

row-skip : (b : List ℕ) (s r : ℕ) (row : Row) → is_rela_of b s r ≡ false → HoldsRow row (parts_below b s r) (length (relocations_below b s r)) → HoldsRow row (parts_below b s (suc r)) (length (relocations_below b s (suc r)))
row-skip b s r row e h = rw (parts-skip b s r e, relocations-skip b s r e) h

pub indexed-start : (b : List ℕ) (rows : List Row) → IsEmptyAt rows (section_count b) → IsIndexed b rows 0
unfolding parts_below relocations_below
indexed-start b rows h = record { long = h.long; rows_hold = h.empty }

pub indexed-skip : (b : List ℕ) (rows : List Row) (r : ℕ) → is_rela b r ≡ false → IsIndexed b rows r → IsIndexed b rows (suc r)
indexed-skip b rows r e h =
    record { long = h.long; rows_hold = λ s d lt. row-skip b s r _ (rw e refl) (h.rows_hold s d lt) }

bool_cases : (b : Bool) (P : Type 0) → (b ≡ true → P) → (b ≡ false → P) → P
bool_cases true P so otherwise = so refl
bool_cases false P so otherwise = otherwise refl

pub indexed-take : (b : List ℕ) (old new : List Row) (r t n : ℕ) → is_rela b r ≡ true → (header_of b r).info ≡ t → entry_count b r ≡ n → IsIndexed b old r → AddsPart old new t r n → IsIndexed b new (suc r)
indexed-take b old new r t n e target entries h adds =
    record {
      long = adds.long ∙ h.long;
      rows_hold = λ s d lt.
          bool_cases (t == s) (HoldsRow (get_or new s d) (parts_below b s (suc r)) (length (relocations_below b s (suc r))))
          (λ same.
          let k : t ≡ s = grind (arith, nat_tests) in
          let here : is_rela_of b s r ≡ true = rw (e, target, same) refl in
          let was = h.rows_hold s d lt in
          let now = rw k at (adds.here d) in
          record {
            holds = now.holds ∙ (rw (was.holds, was.counts, parts-take b s r here) refl);
            counts = now.counts ∙ (rw (was.counts, length-take b s r here, entries) refl);
          })
          (λ other.
          let k : s ≢ t = grind (arith, nat_tests) in
          let here : is_rela_of b s r ≡ false = rw (e, target, other) refl in
          rw (adds.others s d k) (row-skip b s r _ here (h.rows_hold s d lt)));
    }

-- a RELA section for a loaded section names one that is there
pub rela-info : (b : List ℕ) (r : ℕ) → is_rela b r ≡ true → (header_of b r).info < section_count b
unfolding is_rela
rela-info b r e = grind (arith, nat_tests)
