-- Where the index finds a relocation.
use Rattle.std.proofs.Common.{◌≡◌, inl, inr, ◌<◌, ◌≤◌, ◌+◌, ◌-◌, ◌*◌, ◌++◌, ◌∷◌, [], List, Bool, true, false, refl, sym, ap, ◌∙◌, arith, ℕ, zero, suc, length, get_or, length-append, append-nil, append_assoc, Some}
use Rattle.std.proofs.Math.Nat.{eq-or-lt_of_le, eq-zero-or-pos}
use Rattle.std.proofs.lemmas.List.{get_or_default, get_or_append_left, get_or-append_right}
use Rattle.std.proofs.Math.Seq.{get_or-append_seam}
use Rattle.std.proofs.lemmas.Option.{slice_get-get_or}
use Rattle.std.specs.List.{slice_get}
use Rattle.elf_objects.specs.declared.relocation_index.Part.{Part}
use Rattle.elf_objects.specs.declared.parts.Relocation.{Relocation}
use Rattle.elf_objects.specs.Headers.{header_of, section_count}
use Rattle.elf_objects.specs.Contents.{bytes_of}
use Rattle.elf_objects.specs.Relocations.{entries_below, entry_count, is_rela_of, relocation_in, relocations_below, relocations_for}
use Rattle.elf_objects.specs.Index.{HoldsPart, IsIndexed, LeadsTo, no_part, parts_below}
use Rattle.elf_objects.specs.declared.relocation_index.Row.{Row}
use Rattle.elf_objects.proofs.Rows.{parts-skip, parts-take, relocations-skip, relocations-take, length-take, length-entries}

-- what is known of part i of the RELA sections below n
pub record IsPart (b : List ℕ) (s n : ℕ) (ps : List Part) (i : ℕ) : Type 0 where
  pub below : (get_or ps i no_part).section < n
  pub rela : is_rela_of b s (get_or ps i no_part).section ≡ true
  pub begins : (get_or ps i no_part).before ≡ length (relocations_below b s (get_or ps i no_part).section)
  pub goes_on : i + 1 < length ps → (get_or ps (i + 1) no_part).before ≡ length (relocations_below b s (suc (get_or ps i no_part).section))
  pub last : i + 1 ≡ length ps → length (relocations_below b s n) ≡ length (relocations_below b s (suc (get_or ps i no_part).section))

bool_cases : (b : Bool) (P : Type 0) → (b ≡ true → P) → (b ≡ false → P) → P
bool_cases true P so otherwise = so refl
bool_cases false P so otherwise = otherwise refl

part_kept : (b : List ℕ) (s n : ℕ) (i : ℕ) → is_rela_of b s n ≡ false → IsPart b s n (parts_below b s n) i → IsPart b s (suc n) (parts_below b s n) i
part_kept b s n i e h =
    record { below = (let k = h.below in omega (arith, k)); rela = h.rela; begins = h.begins; goes_on = h.goes_on; last = λ l. ap length (relocations-skip b s n e) ∙ h.last l }

part_before : (b : List ℕ) (s n : ℕ) (i : ℕ) → is_rela_of b s n ≡ true → i < length (parts_below b s n) → IsPart b s n (parts_below b s n) i → IsPart b s (suc n) (parts_below b s n ++ record { section = n; before = length (relocations_below b s n) } ∷ []) i
part_before b s n i e lt h =
    let ps = parts_below b s n in
    let q : Part = record { section = n; before = length (relocations_below b s n) } in
    let here : get_or (ps ++ q ∷ []) i no_part ≡ get_or ps i no_part = get_or_append_left ps (q ∷ []) no_part i lt in
    let len : length (ps ++ q ∷ []) ≡ length ps + 1 = length-append ps (q ∷ []) in
    record {
      below = rw here (let k = h.below in omega (arith, k));
      rela = rw here h.rela;
      begins = rw here h.begins;
      goes_on = λ l. rw here
          (let le : i + 1 ≤ length ps = omega (arith, lt) in
          elim (eq-or-lt_of_le le) [
            | inl same ↦ rw same (ap (λ (p : Part). p.before) (get_or-append_seam ps q [] no_part) ∙ h.last same)
            | inr less ↦ ap (λ (p : Part). p.before) (get_or_append_left ps (q ∷ []) no_part (i + 1) less) ∙ h.goes_on less
          ]);
      last = λ l. absurd (omega arith);
    }

part_new : (b : List ℕ) (s n : ℕ) → is_rela_of b s n ≡ true → IsPart b s (suc n) (parts_below b s n ++ record { section = n; before = length (relocations_below b s n) } ∷ []) (length (parts_below b s n))
part_new b s n e =
    let ps = parts_below b s n in
    let q : Part = record { section = n; before = length (relocations_below b s n) } in
    let here : get_or (ps ++ q ∷ []) (length ps) no_part ≡ q = get_or-append_seam ps q [] no_part in
    let len : length (ps ++ q ∷ []) ≡ length ps + 1 = length-append ps (q ∷ []) in
    record {
      below = rw here (omega arith);
      rela = rw here e;
      begins = rw here refl;
      goes_on = λ l. absurd (omega arith);
      last = λ l. rw here refl;
    }

pub part_is : (b : List ℕ) (s n : ℕ) (i : ℕ) → i < length (parts_below b s n) → IsPart b s n (parts_below b s n) i
part_is b s zero i lt = unfold parts_below in absurd (omega arith)
part_is b s (suc n) i lt =
    bool_cases (is_rela_of b s n) (IsPart b s (suc n) (parts_below b s (suc n)) i)
    (λ e.
    let took = parts-take b s n e in
    let q : Part = record { section = n; before = length (relocations_below b s n) } in
    let len : length (parts_below b s (suc n)) ≡ length (parts_below b s n) + 1 = ap length took ∙ length-append (parts_below b s n) (q ∷ []) in
    let le : i ≤ length (parts_below b s n) = omega arith in
    rw took (elim (eq-or-lt_of_le le) [
      | inl same ↦ rw same (part_new b s n e)
      | inr less ↦ part_before b s n i e less (part_is b s n i less)
    ]))
    (λ e.
    let kept = parts-skip b s n e in
    let less : i < length (parts_below b s n) = rw kept at lt in
    rw kept (part_kept b s n i e (part_is b s n i less)))

-- the relocations in the RELA sections below q are the front of those below n
pub front : (b : List ℕ) (s q n : ℕ) → q ≤ n → (rest : List Relocation) × (relocations_below b s n ≡ relocations_below b s q ++ rest)
front b s q zero le = let z : q ≡ 0 = omega arith in ([], rw (z, append-nil) refl)
front b s q (suc n) le =
    elim (eq-or-lt_of_le le) [
      | inl same ↦ ([], rw (same, append-nil) refl)
      | inr less ↦
          let p = front b s q n (omega arith) in
          elim (is_rela_of b s n) as (λ v. is_rela_of b s n ≡ v → (rest : List Relocation) × (relocations_below b s (suc n) ≡ relocations_below b s q ++ rest)) [
            | true ↦ λ e. (p.0 ++ entries_below (bytes_of b (header_of b n)) (entry_count b n), relocations-take b s n e ∙ rw (p.1, append_assoc) refl)
            | false ↦ λ e. (p.0, relocations-skip b s n e ∙ p.1)
          ] refl
    ]

pub entry_is : (es : List ℕ) (n k : ℕ) (d : Relocation) → k < n → get_or (entries_below es n) k d ≡ relocation_in es (24 * k)
unfolding entries_below
entry_is es zero k d lt = absurd (omega arith)
entry_is es (suc n) k d lt =
    let le : k ≤ n = omega arith in
    elim (eq-or-lt_of_le le) [
      | inl same ↦ rw (same) (let len = length-entries es n in let seam = get_or-append_seam (entries_below es n) (relocation_in es (24 * n)) [] d in rw len at seam)
      | inr less ↦ let len = length-entries es n in get_or_append_left (entries_below es n) _ d k (omega arith) ∙ entry_is es n k d less
    ]

-- where there is no part there is no relocation
pub none_without : (b : List ℕ) (s n : ℕ) → length (parts_below b s n) ≡ 0 → length (relocations_below b s n) ≡ 0
none_without b s zero e = unfold relocations_below in refl
none_without b s (suc n) e =
    bool_cases (is_rela_of b s n) (length (relocations_below b s (suc n)) ≡ 0)
    (λ r.
    let q : Part = record { section = n; before = length (relocations_below b s n) } in
    let len : length (parts_below b s (suc n)) ≡ length (parts_below b s n) + 1 = ap length (parts-take b s n r) ∙ length-append (parts_below b s n) (q ∷ []) in
    absurd (omega arith))
    (λ r. ap length (relocations-skip b s n r) ∙ none_without b s n (rw (parts-skip b s n r) at e))

-- the first part begins at 0
pub first_at_zero : (b : List ℕ) (s n : ℕ) → 0 < length (parts_below b s n) → (get_or (parts_below b s n) 0 no_part).before ≡ 0
first_at_zero b s zero lt = unfold parts_below in absurd (omega arith)
first_at_zero b s (suc n) lt =
    bool_cases (is_rela_of b s n) ((get_or (parts_below b s (suc n)) 0 no_part).before ≡ 0)
    (λ r.
    let ps = parts_below b s n in
    let q : Part = record { section = n; before = length (relocations_below b s n) } in
    rw (parts-take b s n r) (elim (eq-zero-or-pos (length ps)) [
      | inl none ↦ (let seam = get_or-append_seam ps q [] no_part in let seam0 : get_or (ps ++ q ∷ []) 0 no_part ≡ q = rw none at seam in ap (λ (p : Part). p.before) seam0 ∙ none_without b s n none)
      | inr some ↦ ap (λ (p : Part). p.before) (get_or_append_left ps (q ∷ []) no_part 0 some) ∙ first_at_zero b s n some
    ]))
    (λ r. let some : 0 < length (parts_below b s n) = rw (parts-skip b s n r) at lt in rw (parts-skip b s n r) (first_at_zero b s n some))

-- the relocation at a place, by the part that holds the place
pub relocation_is : (b : List ℕ) (s at i : ℕ) (ps : List Part) → ps ≡ parts_below b s (section_count b) → at < length (relocations_for b s) → HoldsPart ps at i →
    (at - (get_or ps i no_part).before < entry_count b (get_or ps i no_part).section)
    × (slice_get (relocations_for b s) at ≡ Some (relocation_in (bytes_of b (header_of b (get_or ps i no_part).section)) (24 * (at - (get_or ps i no_part).before))))
relocation_is b s at i ps is lt holds =
    let n = section_count b in
    let inside : i < length (parts_below b s n) = rw is at holds.within in
    let part : IsPart b s n ps i = rw is (part_is b s n i inside) in
    let q = (get_or ps i no_part).section in
    let es = bytes_of b (header_of b q) in
    let below : q < n = part.below in
    let split = front b s (suc q) n (omega arith) in
    let long : length (relocations_below b s (suc q)) ≡ length (relocations_below b s q) + entry_count b q = length-take b s q part.rela in
    let begins : (get_or ps i no_part).before ≡ length (relocations_below b s q) = part.begins in
    let from : (get_or ps i no_part).before ≤ at = holds.begins in
    let within : i < length ps = holds.within in
    let le : i + 1 ≤ length ps = omega arith in
    let to : at < length (relocations_below b s (suc q)) =
    elim (eq-or-lt_of_le le) [
      | inl same ↦ (let all = part.last same in let top : at < length (relocations_below b s n) = lt in omega (arith, all, top))
      | inr less ↦ (let next = part.goes_on less in let top = holds.ends less in omega (arith, next, top))
    ] in
    let k = at - (get_or ps i no_part).before in
    let small : k < entry_count b q = omega arith in
    let d = relocation_in es (24 * k) in
    let first : get_or (relocations_below b s n) at d ≡ get_or (relocations_below b s (suc q)) at d =
    rw split.1 (get_or_append_left (relocations_below b s (suc q)) split.0 d at to) in
    let second : get_or (relocations_below b s (suc q)) at d ≡ get_or (entries_below es (entry_count b q)) k d =
    rw (relocations-take b s q part.rela) (get_or-append_right (relocations_below b s q) (entries_below es (entry_count b q)) (get_or ps i no_part).before at d (sym begins) from) in
    (small, slice_get-get_or (relocations_below b s n) at d lt ∙ ap Some (first ∙ second ∙ entry_is es (entry_count b q) k d small))

-- a row of the index that holds a part at i leads to the relocation
pub part_leads : (b : List ℕ) (rows : List Row) (s at i : ℕ) (row : Row) (ps : List Part) (p : Part) → IsIndexed b rows (section_count b) → s < section_count b → at < length (relocations_for b s) → row ≡ get_or rows s row → ps ≡ row.parts.items → HoldsPart ps at i → p ≡ get_or ps i p → LeadsTo b s at p
part_leads b rows s at i row ps p indexed within lt is parts holds here =
    let row_holds = rw (← is) at (indexed.rows_hold s row within) in
    let all : ps ≡ parts_below b s (section_count b) = parts ∙ row_holds.holds in
    let bound : i < length ps = holds.within in
    let same : p ≡ get_or ps i no_part = here ∙ get_or_default ps i p no_part bound in
    let there : i < length (parts_below b s (section_count b)) = rw all at bound in
    let part : IsPart b s (section_count b) ps i = rw all (part_is b s (section_count b) i there) in
    let found = relocation_is b s at i ps all lt holds in
    rw same (record { rela = part.rela; section = part.below; begins = holds.begins; within = found.0; gives = found.1 })

-- a section with a relocation has a first part, which begins at 0
pub first_part : (b : List ℕ) (rows : List Row) (s at : ℕ) (row : Row) (ps : List Part) → IsIndexed b rows (section_count b) → s < section_count b → at < length (relocations_for b s) → row ≡ get_or rows s row → ps ≡ row.parts.items → (0 < length ps) × ((get_or ps 0 no_part).before ≡ 0)
first_part b rows s at row ps indexed within lt is parts =
    let row_holds = rw (← is) at (indexed.rows_hold s row within) in
    let n = section_count b in
    let all : ps ≡ parts_below b s n = parts ∙ row_holds.holds in
    let some : 0 < length (parts_below b s n) =
    elim (eq-zero-or-pos (length (parts_below b s n))) [
      | inl none ↦ (let z = none_without b s n none in absurd (omega (arith, z, lt)))
      | inr some ↦ some
    ] in
    rw all (some, first_at_zero b s n some)
