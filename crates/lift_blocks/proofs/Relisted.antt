-- What is left of a list by marks, in its place, and the numbers of what is left.
use Rattle.std.proofs.Common.{◌≡◌, ℕ, zero, suc, ◌+◌, ◌-◌, ◌<◌, ◌≤◌, Bool, true, false, cond, List, [], ◌∷◌, ◌++◌, length, get_or, take, drop, Some, refl, sym, ap, ◌∙◌, arith, subst, add-one}
use Rattle.std.specs.Prelude.{slice_get}
use Rattle.std.proofs.Math.ListN.{set}
use Rattle.std.proofs.lemmas.List.{append-nil, take_more_set, drop-set-lt, drop-drop, drop_all}
use Rattle.std.proofs.lemmas.Option.{slice_get-get_or, slice_get_within}
use Rattle.relocs.specs.Places.{CodePlace, Nowhere}
use Rattle.lift_blocks.specs.Listed.{place, or_nowhere}
use Rattle.lift_blocks.specs.Fits.{FitsInstructions}
use Rattle.lift_blocks.specs.Listing.{IsNumberOf, IsNumbered, has_target}
use Rattle.lift_blocks.specs.Operations.{Operation, Plain, Branch, Jal, Jalr, Pair, HostCall, Sbrk, rename}
use Rattle.lift_blocks.specs.Marks.{chosen, counts_from}
use Rattle.lift_blocks.proofs.ListedOps.{chosen_next, listed_next, take_next}

-- ---- how many are before each

drop_next : {X : Type 0} (xs : List X) (i : ℕ) (x : X) → slice_get xs i ≡ Some x → drop i xs ≡ x ∷ drop (i + 1) xs
drop_next {X = X} xs i x e = by_suc xs i e ∙ ap (λ n. x ∷ drop n xs) (sym (add-one i))
  where
    by_suc : (xs : List X) (i : ℕ) → slice_get xs i ≡ Some x → drop i xs ≡ x ∷ drop (suc i) xs
    by_suc [] i e = absurd cc
    by_suc (y ∷ xs) zero e = (let same : y ≡ x = cc in rw same refl)
    by_suc (y ∷ xs) (suc i) e = by_suc xs i e

-- the next count
pub counts_step : (n : ℕ) (bs : List Bool) (i : ℕ) (b : Bool) → slice_get bs i ≡ Some b → counts_from n (drop i bs) ≡ n ∷ counts_from (cond b (suc n) n) (drop (i + 1) bs)
counts_step n bs i b e = ap (counts_from n) (drop_next bs i b e)

pub counts_next :
    (bs : List Bool) (at n m : ℕ) (b : Bool) (now new : List ℕ) → slice_get bs at ≡ Some b → now ++ counts_from n (drop at bs) ≡ counts_from 0 bs → new ≡ now ++ n ∷ [] → m ≡ cond b (suc n) n
    → new ++ counts_from m (drop (at + 1) bs) ≡ counts_from 0 bs
counts_next bs at n m b now new e was added is =
    listed_next now new (counts_from n (drop at bs)) (counts_from m (drop (at + 1) bs)) (counts_from 0 bs) n was added
    (counts_step n bs at b e ∙ ap (λ k. n ∷ counts_from k (drop (at + 1) bs)) (sym is))

pub counts_all : (bs : List Bool) (at n : ℕ) (now : List ℕ) → now ++ counts_from n (drop at bs) ≡ counts_from 0 bs → length bs ≤ at → now ≡ counts_from 0 bs
counts_all bs at n now was past = (let none = drop_all at bs past in sym (append-nil now) ∙ ap (λ l. now ++ counts_from n l) (sym none) ∙ was)

-- the count before a marked element is its index among the marked ones
counted : {X : Type 0} (n : ℕ) (bs : List Bool) (xs : List X) (i c : ℕ) (x : X) → slice_get (counts_from n bs) i ≡ Some c → slice_get bs i ≡ Some true → slice_get xs i ≡ Some x → (n ≤ c) × (slice_get (chosen bs xs) (c - n) ≡ Some x)
counted n [] xs i c x e m h = absurd cc
counted n (b ∷ bs) [] i c x e m h = absurd cc
counted n (b ∷ bs) (y ∷ xs) zero c x e m h =
    let first : n ≡ c = cc in
    let mark : b ≡ true = cc in
    let none : c - n ≡ 0 = omega (arith, first) in
    (omega (arith, first), rw (none, mark) h)
counted {X = X} n (b ∷ bs) (y ∷ xs) (suc i) c x e m h = by_mark b e (λ k f. counted k bs xs i c x f m h)
  where
    by_mark :
        (b : Bool) → slice_get (counts_from (cond b (suc n) n) bs) i ≡ Some c → ((k : ℕ) → slice_get (counts_from k bs) i ≡ Some c → (k ≤ c) × (slice_get (chosen bs xs) (c - k) ≡ Some x))
        → (n ≤ c) × (slice_get (cond b (y ∷ chosen bs xs) (chosen bs xs)) (c - n) ≡ Some x)
    by_mark true f rest =
        let r = rest (suc n) f in
        let at : c - n ≡ suc (c - suc n) = omega (arith, r.0) in
        (omega (arith, r.0), rw at r.1)
    by_mark false f rest = rest n f

pub number_of_listed : (places : List CodePlace) (listed : List Bool) (t c : ℕ) → t < length places → slice_get (counts_from 0 listed) t ≡ Some c → slice_get listed t ≡ Some true → IsNumberOf (chosen listed places) (place places t) c
number_of_listed places listed t c lt e m =
    let there = slice_get-get_or places t Nowhere lt in
    let r = counted 0 listed places t c (get_or places t Nowhere) e m there in
    let same : c - 0 ≡ c = omega arith in
    let at : slice_get (chosen listed places) c ≡ Some (get_or places t Nowhere) = subst (λ k. slice_get (chosen listed places) k ≡ Some (get_or places t Nowhere)) same r.1 in
    record { is = ap or_nowhere at ∙ sym (ap or_nowhere there); exists = slice_get_within (chosen listed places) c (get_or places t Nowhere) at }

pub length_counts : (n : ℕ) (bs : List Bool) → length (counts_from n bs) ≡ length bs
length_counts n [] = refl
length_counts n (b ∷ bs) = ap suc (length_counts (cond b (suc n) n) bs)

-- ---- in place

-- an element that a loop has not reached is as it was
pub at_rest : {X : Type 0} (xs now : List X) (i : ℕ) (x : X) → drop i now ≡ drop i xs → slice_get now i ≡ Some x → slice_get xs i ≡ Some x
at_rest {X = X} xs now i x rest e = head xs i (drop (i + 1) now) (sym rest ∙ drop_next now i x e)
  where
    head : (xs : List X) (i : ℕ) (more : List X) → drop i xs ≡ x ∷ more → slice_get xs i ≡ Some x
    head [] zero more e = absurd cc
    head [] (suc i) more e = absurd cc
    head (y ∷ xs) zero more e = (let same : y ≡ x = cc in rw same refl)
    head (y ∷ xs) (suc i) more e = head xs i more e

-- and so is the rest after it
pub rest_more : {X : Type 0} (xs now : List X) (i : ℕ) → drop i now ≡ drop i xs → drop (i + 1) now ≡ drop (i + 1) xs
rest_more xs now i rest = sym (drop-drop 1 i now) ∙ ap (drop 1) rest ∙ drop-drop 1 i xs

-- an element is written at an index that the loop has passed
pub rest_written : {X : Type 0} (xs now new : List X) (i to : ℕ) (x : X) → drop i now ≡ drop i xs → to ≤ i → new ≡ set now to x → drop (i + 1) new ≡ drop (i + 1) xs
rest_written xs now new i to x rest le is = ap (drop (i + 1)) is ∙ drop-set-lt (i + 1) now to x (omega (arith, le)) ∙ rest_more xs now i rest

pub front_written : {X : Type 0} (now new : List X) (to : ℕ) (x : X) → to < length now → new ≡ set now to x → take (to + 1) new ≡ take to now ++ x ∷ []
front_written now new to x lt is = ap (take (to + 1)) is ∙ take_more_set now to x lt

-- the next element is marked
pub front_marked : {X : Type 0} (bs : List Bool) (xs now new : List X) (i to : ℕ) (x : X) → slice_get bs i ≡ Some true → drop i now ≡ drop i xs → slice_get now i ≡ Some x → take to now ≡ chosen (take i bs) (take i xs) → to < length now → new ≡ set now to x
    → take (to + 1) new ≡ chosen (take (i + 1) bs) (take (i + 1) xs)
front_marked bs xs now new i to x m rest here was lt is =
    front_written now new to x lt is ∙ ap (λ l. l ++ x ∷ []) was ∙ sym (chosen_next bs xs i true x m (at_rest xs now i x rest here))

-- the next element is marked, and stays where it is
pub front_stays : {X : Type 0} (bs : List Bool) (xs now : List X) (i : ℕ) (x : X) → slice_get bs i ≡ Some true → drop i now ≡ drop i xs → slice_get now i ≡ Some x → take i now ≡ chosen (take i bs) (take i xs)
    → take (i + 1) now ≡ chosen (take (i + 1) bs) (take (i + 1) xs)
front_stays bs xs now i x m rest here was = take_next now i x here ∙ ap (λ l. l ++ x ∷ []) was ∙ sym (chosen_next bs xs i true x m (at_rest xs now i x rest here))

pub some_at : {X : Type 0} (xs : List X) (i : ℕ) → i < length xs → (x : X) × (slice_get xs i ≡ Some x)
some_at [] i lt = absurd (omega (arith, lt))
some_at (x ∷ xs) zero lt = (x, refl)
some_at (x ∷ xs) (suc i) lt = some_at xs i (omega (arith, lt))

-- or it isn't
chosen_skip : {X : Type 0} (bs : List Bool) (xs : List X) (i : ℕ) → slice_get bs i ≡ Some false → chosen (take (suc i) bs) (take (suc i) xs) ≡ chosen (take i bs) (take i xs)
chosen_skip [] xs i e = absurd cc
chosen_skip (c ∷ bs) [] zero e = refl
chosen_skip (c ∷ bs) [] (suc i) e = refl
chosen_skip (c ∷ bs) (y ∷ xs) zero e = (let mark : c ≡ false = cc in rw mark refl)
chosen_skip (c ∷ bs) (y ∷ xs) (suc i) e = ap (λ l. cond c (y ∷ l) l) (chosen_skip bs xs i e)

pub front_unmarked : {X : Type 0} (bs : List Bool) (xs now : List X) (i to : ℕ) → slice_get bs i ≡ Some false → take to now ≡ chosen (take i bs) (take i xs) → take to now ≡ chosen (take (i + 1) bs) (take (i + 1) xs)
front_unmarked bs xs now i to m was = was ∙ sym (chosen_skip bs xs i m) ∙ ap (λ n. chosen (take n bs) (take n xs)) (sym (add-one i))

-- ---- operations without a target

-- an operation without a target is its own number among any places
pub untargeted : (places kept : List CodePlace) (op : Operation ℕ) → has_target op ≡ false → FitsInstructions op → IsNumbered kept (rename (place places) op) op
untargeted places kept (Plain op) e fits = record { is = refl; fits = fits; target = λ t h. absurd cc }
untargeted places kept (Branch cond rs1 rs2 target) e fits = absurd cc
untargeted places kept (Jal rd link target) e fits = absurd cc
untargeted places kept (Jalr rd rs1 imm link) e fits = record { is = refl; fits = fits; target = λ t h. absurd cc }
untargeted places kept (Pair temp rd link target) e fits = absurd cc
untargeted places kept (HostCall number) e fits = record { is = refl; fits = fits; target = λ t h. absurd cc }
untargeted places kept Sbrk e fits = record { is = refl; fits = fits; target = λ t h. absurd cc }
