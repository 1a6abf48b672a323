-- Page tables that are made.
use Rattle.std.proofs.lemmas.Bool.Decides.{nat_tests}
use Rattle.std.proofs.lemmas.Grind.{get_or-set_at}
use Rattle.std.proofs.lemmas.List.{get_or-set_other}
use Rattle.std.proofs.Common.{◌≡◌, ℕ, zero, suc, ◌/◌, ◌%◌, ◌^◌, ◌<◌, arith, List, [], ◌∷◌, length, replicate, refl, ap, sym, ◌∙◌, nat_eq}
use Rattle.std.proofs.Common.{Bor}
use Rattle.std.specs.Prelude.{Bool, true, false, not, Option, Some, None, is_some, slice_index_or, slice_set, if◌then◌else◌}
use Rattle.std.specs.Option.{option_copied}
use Rattle.page_memory.specs.Pages.{Kept, Leaf, page_of, page_in, with_page, kept_in, kept_at, with_place, memory_of, IsKept, HasPlace, SamePlaces}
use Rattle.page_memory.proofs.Views.{viewed_at, placed, placed_memory, remove_nothing, true_false, same_numbers}

none_in : {X : Type 0} (n i : ℕ) → slice_index_or (replicate {A = Option X} n None) i None ≡ None
none_in zero i = refl
none_in (suc n) zero = refl
none_in (suc n) (suc i) = none_in n i

-- nothing is kept in a page table without leaves
pub no_places : (t u : List Leaf) → t ≡ [] → u ≡ replicate 1024 None → SamePlaces t u
no_places t u none all q =
    ap (λ (s : List Leaf). kept_at s q) all
    ∙ ap (λ (s : Leaf). kept_in s (q % 1024)) (none_in {X = List (Option Kept)} 1024 (q / 1024))
    ∙ ap (λ (s : List Leaf). kept_at s q) (sym none)

fresh_at : (b : Bool) (t : List Leaf) (i q : ℕ) (s : List (Option Kept)) → nat_eq (q / 1024) i ≡ b → i < length t → slice_index_or t i None ≡ None → s ≡ replicate 1024 None →
    kept_at (slice_set t i (Some s)) q ≡ kept_at t q
fresh_at true t i q s e h none all =
    let same : q / 1024 ≡ i = grind (arith, nat_tests) in
    ap (λ (x : Leaf). kept_in x (q % 1024)) (get_or-set_at t i (q / 1024) (Some s) None same h)
    ∙ ap (λ (x : List (Option Kept)). slice_index_or x (q % 1024) None) all
    ∙ none_in {X = Kept} 1024 (q % 1024)
    ∙ ap (λ (x : Leaf). kept_in x (q % 1024)) (sym none)
    ∙ ap (λ (n : ℕ). kept_in (slice_index_or t n None) (q % 1024)) (sym same)
fresh_at false t i q s e h none all =
    ap (λ (x : Leaf). kept_in x (q % 1024)) (get_or-set_other t i (q / 1024) (Some s) None (λ same. absurd (true_false (sym (same_numbers (q / 1024) i same) ∙ e))))

-- nor in a new leaf
pub fresh : (t : List Leaf) (i : ℕ) (s : List (Option Kept)) → i < length t → slice_index_or t i None ≡ None → s ≡ replicate 1024 None → SamePlaces t (slice_set t i (Some s))
fresh t i s h none all q = fresh_at (nat_eq (q / 1024) i) t i q s refl h none all

pub none_of : (t : List Leaf) → length t ≡ 0 → t ≡ []
none_of [] e = refl
none_of (s ∷ t) e = cc

-- where there is no page to borrow, none is kept
pub nothing : (o : Option (Bor Kept)) (x : Option Kept) (r : Bool) → option_copied o ≡ x → is_some o ≡ not r → r ≡ true → x ≡ None
nothing None x r e is none = sym e
nothing (Some b) x true e is none = cc
nothing (Some b) x false e is none = cc

-- a reserved page is no page of the memory
pub ready : (t : List Leaf) (n : ℕ) (page : Kept) → n < 2 ^ 20 → HasPlace t n → kept_at t n ≡ None → page_of page ≡ None → memory_of (with_place t n (Some page)) ≡ memory_of t
ready t n page h has none gone =
    placed_memory t n (Some page) h has
    ∙ ap (with_page (memory_of t) n) gone
    ∙ remove_nothing (memory_of t) n (viewed_at t n h ∙ ap page_in none)

one_number : (n : ℕ) → nat_eq n n ≡ true
one_number n = grind (arith, nat_tests)

pub kept_there : (t : List Leaf) (n : ℕ) (page : Kept) → HasPlace t n → IsKept (with_place t n (Some page)) n
kept_there t n page has = ap is_some (placed t n n (Some page) has ∙ ap (λ (b : Bool). if b then Some page else kept_at t n) (one_number n))
