-- The lists of places hold the place of each symbol and entry.
use Rattle.std.proofs.Common.{◌≡◌, ℕ, zero, suc, ◌<◌, ◌≤◌, List, [], ◌∷◌, ◌++◌, length, get_or, slice_get, unwrap_or, Some, refl, sym, ◌∙◌, ap, inl, inr, arith, length-append}
use Rattle.std.proofs.Math.Nat.{eq-or-lt_of_le}
use Rattle.std.proofs.Math.Seq.{get_or-append_seam}
use Rattle.std.proofs.lemmas.List.{get_or_append_left}
use Rattle.std.proofs.lemmas.Option.{slice_get-get_or}
use Rattle.symbols.specs.declared.place.Answer.{Answer}
use Rattle.symbols.specs.declared.place.Place.{Place}
use Rattle.symbols.specs.Parts.{symbol_count}
use Rattle.symbols.specs.Wanted.{Given}
use Rattle.symbols.specs.Resolution.{resolution, entry_place}
use Rattle.symbols.specs.Resolved.{IsResolved}
use Rattle.symbols.specs.Rows.{values_below, places_of_object, places_of_symbols, places_of_entries, HasAnswers}

length-values_below : {A : Type 0} (n : ℕ) (at : ℕ → A) → length (values_below n at) ≡ n
length-values_below zero at = refl
length-values_below (suc n) at = omega (arith, length-append (values_below n at) (at n ∷ []), length-values_below n at)

get_or-values_below : {A : Type 0} (n i : ℕ) (at : ℕ → A) (d : A) → i < n → get_or (values_below n at) i d ≡ at i
get_or-values_below zero i at d lt = absurd (omega arith)
get_or-values_below (suc n) i at d lt =
    let le : i ≤ n = omega arith in
    elim (eq-or-lt_of_le le) [
      | inl last ↦ ap (λ k. get_or (values_below n at ++ at n ∷ []) k d) (last ∙ sym (length-values_below n at)) ∙ get_or-append_seam (values_below n at) (at n) [] d ∙ ap at (sym last)
      | inr less ↦ (let within : i < length (values_below n at) = omega (arith, length-values_below n at) in get_or_append_left (values_below n at) (at n ∷ []) d i within ∙ get_or-values_below n i at d less)
    ]

pub slice_get-values_below : {A : Type 0} (n i : ℕ) (at : ℕ → A) → i < n → slice_get (values_below n at) i ≡ Some (at i)
slice_get-values_below n i at lt =
    let within : i < length (values_below n at) = omega (arith, length-values_below n at) in
    slice_get-get_or (values_below n at) i (at i) within ∙ ap Some (get_or-values_below n i at (at i) lt)

-- what was computed is what is resolved
pub is_resolved : (given : Given) (symbols : List (List Place)) (entries : List Place) (answers : List (List ℕ × Answer)) → symbols ≡ places_of_symbols given → entries ≡ places_of_entries given → HasAnswers given answers
    → IsResolved given (record { symbols = symbols; entries = entries; answers = answers })
is_resolved given symbols entries answers s e a = record {
  symbols_are = λ object number object_in number_in. rw s (ap (λ row. slice_get (unwrap_or row []) number) (slice_get-values_below (length given.objects) object (places_of_object given) object_in) ∙ slice_get-values_below (symbol_count given.objects object) number (resolution given object) number_in);
  entries_are = λ entry entry_in. rw e (slice_get-values_below (length given.wanted.entries) entry (entry_place given) entry_in);
  answers_are = a;
}
