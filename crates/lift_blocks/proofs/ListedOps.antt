-- From the operations at all places to those in code order.
use Rattle.std.proofs.Common.{◌≡◌, ℕ, zero, suc, ◌+◌, ◌<◌, ◌≤◌, ◌^◌, Bool, true, false, cond, List, [], ◌∷◌, ◌++◌, length, get_or, map, take, drop, Option, Some, None, refl, sym, ap, ◌∙◌, arith, subst, drop-cons, add-one}
use Rattle.std.specs.Prelude.{slice_get, not, ◌||◌, nat_lt}
use Rattle.std.specs.List.{AllByRecursion, filter_map, cons_option, position, position_or_len}
use Rattle.std.specs.Option.{option_map}
use Rattle.std.proofs.lemmas.List.{length-map, append_assoc, append-nil}
use Rattle.std.proofs.lemmas.List.Folds.{list_any-append}
use Rattle.std.proofs.lemmas.List.Sums.{passes_at_first}
use Rattle.std.proofs.lemmas.Option.{slice_get-map, slice_get_within, slice_get-get_or, get_or_from_slice_get}
use Rattle.symbols.specs.Wanted.{Given}
use Rattle.relocs.specs.Places.{CodePlace, same_place, has}
use Rattle.relocs.specs.Pairs.{all_places}
use Rattle.relocs.specs.AddressMap.{named_places, needed_places}
use Rattle.lift_blocks.specs.declared.site.Site.{Site}
use Rattle.lift_blocks.specs.declared.source_op.SourceOp.{SourceOp}
use Rattle.lift_blocks.specs.Operations.{Operation, Plain, Branch, Jal, Jalr, Pair, HostCall, Sbrk, rename, operation_at}
use Rattle.lift_blocks.specs.Fits.{FitsInstructions}
use Rattle.lift_blocks.specs.Kept.{site_of, operation_of, IsInRange}
use Rattle.lift_blocks.specs.Listed.{Lifted, IsLifted, targeted_places, successor_places, entry_places, target_in, target_at, target_of, is_end, is_emitted, code_places, ends_at, ends_block, starts, place, or_nowhere}
use Rattle.lift_blocks.specs.Listing.{AreOperations, AreListed, IsNumberOf, AreNumbersOf, HasTargetIn, IsNumbered, AreNumbered, begins_from, at_places}
use Rattle.lift_blocks.specs.Marks.{with_marks, chosen}
use Rattle.lift_blocks.specs.Rank.{rank_of, Ascends}
use Rattle.std.proofs.lemmas.Bool.{ltb-true}
use Rattle.lift_blocks.proofs.Finding.{place_same}
use Rattle.lift_blocks.proofs.Marking.{has_these, tail}
use Rattle.lift_blocks.proofs.Choosing.{chosen_filter, chosen_map, chosen_member, chosen_at_most, length_chosen}

-- ---- lists

filter_map-map : {X Y Z : Type 0} (h : Y → Option Z) (f : X → Y) (xs : List X) → filter_map h (map f xs) ≡ filter_map (λ x. h (f x)) xs
filter_map-map h f [] = refl
filter_map-map h f (x ∷ xs) = ap (cons_option (h (f x))) (filter_map-map h f xs)

pub or_swap : (a b : Bool) → (a || b) ≡ (b || a)
or_swap true true = refl
or_swap true false = refl
or_swap false true = refl
or_swap false false = refl

has_swap : (these others : List CodePlace) (p : CodePlace) → has (these ++ others) p ≡ has (others ++ these) p
has_swap these others p = list_any-append (same_place p) these others ∙ or_swap (has these p) (has others p) ∙ sym (list_any-append (same_place p) others these)

pub take_next : {X : Type 0} (xs : List X) (i : ℕ) (x : X) → slice_get xs i ≡ Some x → take (i + 1) xs ≡ take i xs ++ x ∷ []
take_next {X = X} xs i x e = ap (λ n. take n xs) (add-one i) ∙ by_suc xs i e
  where
    by_suc : (xs : List X) (i : ℕ) → slice_get xs i ≡ Some x → take (suc i) xs ≡ take i xs ++ x ∷ []
    by_suc [] i e = absurd cc
    by_suc (y ∷ xs) zero e = (let same : y ≡ x = cc in rw same refl)
    by_suc (y ∷ xs) (suc i) e = ap (λ l. y ∷ l) (by_suc xs i e)

map_append : {X Y : Type 0} (f : X → Y) (xs ys : List X) → map f (xs ++ ys) ≡ map f xs ++ map f ys
map_append f [] ys = refl
map_append f (x ∷ xs) ys = ap (λ l. f x ∷ l) (map_append f xs ys)

-- an element more of a list that is made of another
pub map_more : {X Y : Type 0} (f : X → Y) (xs : List X) (i : ℕ) (x : X) (now new : List Y) (y : Y) → slice_get xs i ≡ Some x → now ≡ map f (take i xs) → y ≡ f x → new ≡ now ++ y ∷ [] → new ≡ map f (take (i + 1) xs)
map_more f xs i x now new y e was is added =
    added ∙ ap (λ l. l ++ y ∷ []) was ∙ ap (λ z. map f (take i xs) ++ z ∷ []) is ∙ sym (map_append f (take i xs) (x ∷ [])) ∙ ap (map f) (sym (take_next xs i x e))

all_push : {X : Type 0} (P : X → Type 0) (xs : List X) (x : X) → AllByRecursion P xs → P x → AllByRecursion P (xs ++ x ∷ [])
all_push P [] x f g = (g, tt)
all_push P (y ∷ xs) x f g = (f.0, all_push P xs x f.1 g)

pub take_all : {X : Type 0} (xs : List X) (n : ℕ) → length xs ≤ n → take n xs ≡ xs
take_all [] zero le = refl
take_all [] (suc n) le = refl
take_all (x ∷ xs) zero le = absurd (omega (arith, le))
take_all (x ∷ xs) (suc n) le = ap (λ l. x ∷ l) (take_all xs n (omega (arith, le)))

-- a list that a loop makes, with its next element
pub listed_next : {X : Type 0} (now new rest more all : List X) (x : X) → now ++ rest ≡ all → new ≡ now ++ x ∷ [] → rest ≡ x ∷ more → new ++ more ≡ all
listed_next now new rest more all x was is next = ap (λ l. l ++ more) is ∙ append_assoc now (x ∷ []) more ∙ ap (λ l. now ++ l) (sym next) ∙ was

-- ---- operations at places

-- they are the operations at these places
abbrev pub AreAt : Given → List CodePlace → List (Operation CodePlace) → Type 0
AreAt given ps ops = map (operation_at given) ps ≡ map (λ (op : Operation CodePlace). Some op) ops

module _ (given : Given) (ps : List CodePlace) (ops : List (Operation CodePlace)) (are : AreAt given ps ops) where
  targets_are : filter_map (target_at given) ps ≡ filter_map target_of ops
  targets_are =
      sym (filter_map-map target_in (operation_at given) ps) ∙ ap (filter_map target_in) are
      ∙ filter_map-map target_in (λ (op : Operation CodePlace). Some op) ops

  pub count : length ps ≡ length ops
  count = sym (length-map ps (operation_at given)) ∙ ap length are ∙ length-map ops (λ (op : Operation CodePlace). Some op)

  pub operation_is : (i : ℕ) (p : CodePlace) (op : Operation CodePlace) → slice_get ps i ≡ Some p → slice_get ops i ≡ Some op → operation_at given p ≡ Some op
  operation_is i p op e f =
      let left : slice_get (map (operation_at given) ps) i ≡ Some (operation_at given p) = slice_get-map (operation_at given) ps i ∙ ap (option_map (operation_at given)) e in
      let right : slice_get (map (λ (op : Operation CodePlace). Some op) ops) i ≡ Some (Some op) = slice_get-map (λ (op : Operation CodePlace). Some op) ops i ∙ ap (option_map (λ (op : Operation CodePlace). Some op)) f in
      let both = sym left ∙ ap (λ l. slice_get l i) are ∙ right in
      cc

-- operations with numbers are as many as those with places
pub count_places : (places : List CodePlace) (ops : List SourceOp) → length (at_places places ops) ≡ length ops
count_places places ops = length-map (map operation_of ops) (rename (place places)) ∙ length-map ops operation_of

pub count_ops : (given : Given) (places these : List CodePlace) (ops : List SourceOp) → AreOperations given places these ops → length these ≡ length ops
count_ops given places these ops are = count given these (at_places places ops) are.are ∙ count_places places ops

-- an operation of the list
pub at_place : (places : List CodePlace) (ops : List SourceOp) (i : ℕ) (o : SourceOp) → slice_get ops i ≡ Some o → slice_get (at_places places ops) i ≡ Some (rename (place places) (operation_of o))
at_place places ops i o e =
    slice_get-map (rename (place places)) (map operation_of ops) i
    ∙ ap (option_map (rename (place places))) (slice_get-map operation_of ops i ∙ ap (option_map operation_of) e)

-- operations with numbers, one after another
pub operations_next :
    (given : Given) (places these more : List CodePlace) (now new : List SourceOp) (p : CodePlace) (op : Operation CodePlace) (numbered_op : SourceOp) → AreOperations given places these now → operation_at given p ≡ Some op
    → IsNumbered places op (operation_of numbered_op) → new ≡ now ++ numbered_op ∷ [] → more ≡ these ++ p ∷ [] → AreOperations given places more new
operations_next given places these more now new p op numbered_op was is numbered added next =
    let listed : map operation_of new ≡ map operation_of now ++ operation_of numbered_op ∷ [] = ap (map operation_of) added ∙ map_append operation_of now (numbered_op ∷ []) in
    let with_last : at_places places new ≡ at_places places now ++ op ∷ [] =
    ap (map (rename (place places))) listed ∙ map_append (rename (place places)) (map operation_of now) (operation_of numbered_op ∷ []) ∙ ap (λ o. at_places places now ++ o ∷ []) numbered.is in
    record {
      are =
          ap (map (operation_at given)) next ∙ map_append (operation_at given) these (p ∷ []) ∙ ap (λ l. l ++ operation_at given p ∷ []) was.are
          ∙ ap (λ o. map (λ (op : Operation CodePlace). Some op) (at_places places now) ++ o ∷ []) is ∙ sym (map_append (λ (op : Operation CodePlace). Some op) (at_places places now) (op ∷ []))
          ∙ ap (map (λ (op : Operation CodePlace). Some op)) (sym with_last);
      fit = rw listed (all_push FitsInstructions (map operation_of now) (operation_of numbered_op) was.fit numbered.fits);
      targets = rw listed (all_push (HasTargetIn (length places)) (map operation_of now) (operation_of numbered_op) was.targets numbered.target);
    }

-- the needed places, as they are chosen by their marks
pub needed_chosen : (given : Given) (places : List Site) (needed : List Bool) → map site_of places ≡ all_places given → needed ≡ map (has (named_places given)) (all_places given) → map site_of (chosen needed places) ≡ needed_places given
unfolding needed_places
needed_chosen given places needed are marked =
    sym (chosen_map site_of needed places) ∙ ap (chosen needed) are ∙ ap (λ bs. chosen bs (all_places given)) marked ∙ chosen_filter (has (named_places given)) (all_places given)

-- entries, targets and needed places
pub targeted_are : (given : Given) (ops : List (Operation CodePlace)) (entries needed : List CodePlace) → AreAt given (all_places given) ops → entries ≡ entry_places given → needed ≡ needed_places given
    → entries ++ filter_map target_of ops ++ needed ≡ targeted_places given
targeted_are given ops entries needed are entries_are needed_are =
    let targets = filter_map target_of ops in
    ap (λ l. l ++ targets ++ needed) entries_are ∙ ap (λ l. entry_places given ++ l ++ needed) (sym (targets_are given (all_places given) ops are))
    ∙ ap (λ l. entry_places given ++ filter_map (target_at given) (all_places given) ++ l) needed_are

-- with the places that operations go on to
pub reached_are : (given : Given) (marks new : List Bool) → marks ≡ map (has (targeted_places given)) (all_places given) → new ≡ with_marks (all_places given) marks (successor_places given) → new ≡ map (has (targeted_places given ++ successor_places given)) (all_places given)
reached_are given marks new was is = is ∙ ap (λ m. with_marks (all_places given) m (successor_places given)) was ∙ has_these (all_places given) (targeted_places given) (successor_places given)

-- the place with a number is listed
pub emitted_more : (given : Given) (ps : List CodePlace) (reached now new : List Bool) (i : ℕ) (p : CodePlace) (end mark : Bool) → slice_get ps i ≡ Some p → reached ≡ map (has (targeted_places given ++ successor_places given)) ps
    → slice_get reached i ≡ Some mark → end ≡ is_end given p → now ≡ map (is_emitted given) (take i ps) → new ≡ now ++ (not end || mark) ∷ [] → new ≡ map (is_emitted given) (take (i + 1) ps)
emitted_more given ps reached now new i p end mark e are marked ends was added =
    let here : slice_get (map (has (targeted_places given ++ successor_places given)) ps) i ≡ Some (has (targeted_places given ++ successor_places given) p) = slice_get-map (has (targeted_places given ++ successor_places given)) ps i ∙ ap (option_map (has (targeted_places given ++ successor_places given))) e in
    let both : Some mark ≡ Some (has (targeted_places given ++ successor_places given) p) = sym marked ∙ ap (λ l. slice_get l i) are ∙ here in
    let mark_is : mark ≡ has (targeted_places given ++ successor_places given) p = cc in
    let is : (not end || mark) ≡ is_emitted given p = rw (ends, mark_is) (ap (λ b. not (is_end given p) || b) (has_swap (targeted_places given) (successor_places given) p)) in
    map_more (is_emitted given) ps i p now new (not end || mark) e was is added

-- ---- blocks

-- which operations begin a block, from an index on
pub begins_step : (ended : Bool) (targeted : List Bool) (ops : List SourceOp) (i : ℕ) (d : SourceOp) → i < length ops → length targeted ≡ length ops
    → begins_from ended (drop i targeted) (map operation_of (drop i ops)) ≡ (ended || get_or targeted i false) ∷ begins_from (ends_block (operation_of (get_or ops i d))) (drop (i + 1) targeted) (map operation_of (drop (i + 1) ops))
begins_step ended targeted ops i d lt same =
    let within : i < length targeted = omega (arith, lt, same) in
    rw (add-one, drop-cons targeted i false within, drop-cons ops i d lt) refl

-- the same, with what the code finds there
pub begins_more : (ended begins next : Bool) (targeted : List Bool) (ops : List SourceOp) (i : ℕ) (o : SourceOp) → slice_get ops i ≡ Some o → length targeted ≡ length ops → begins ≡ (ended || get_or targeted i false) → next ≡ ends_block (operation_of o)
    → begins_from ended (drop i targeted) (map operation_of (drop i ops)) ≡ begins ∷ begins_from next (drop (i + 1) targeted) (map operation_of (drop (i + 1) ops))
begins_more ended begins next targeted ops i o e same is after =
    let more = drop (i + 1) targeted in
    let rest = map operation_of (drop (i + 1) ops) in
    begins_step ended targeted ops i o (slice_get_within ops i o e) same
    ∙ ap (λ b. b ∷ begins_from (ends_block (operation_of (get_or ops i o))) more rest) (sym is)
    ∙ ap (λ b. begins ∷ begins_from b more rest) (ap (λ x. ends_block (operation_of x)) (get_or_from_slice_get ops i o o e) ∙ sym after)

-- names of targets don't matter for it
ends_renamed : (f : ℕ → CodePlace) (op : Operation ℕ) → ends_block (rename f op) ≡ ends_block op
ends_renamed f (Plain op) = refl
ends_renamed f (Branch cond rs1 rs2 target) = refl
ends_renamed f (Jal rd link target) = refl
ends_renamed f (Jalr rd rs1 imm link) = refl
ends_renamed f (Pair temp rd link target) = refl
ends_renamed f (HostCall number) = refl
ends_renamed f Sbrk = refl

begins_renamed : (f : ℕ → CodePlace) (ended : Bool) (bs : List Bool) (ops : List (Operation ℕ)) → begins_from ended bs (map (rename f) ops) ≡ begins_from ended bs ops
begins_renamed f ended [] ops = refl
begins_renamed f ended (b ∷ bs) [] = refl
begins_renamed f ended (b ∷ bs) (op ∷ ops) = rw (ends_renamed f op) (ap (λ l. (ended || b) ∷ l) (begins_renamed f (ends_block op) bs ops))

starts_are : (given : Given) (ended : Bool) (ps : List CodePlace) (ops : List (Operation CodePlace)) → AreAt given ps ops → begins_from ended (map (has (targeted_places given)) ps) ops ≡ starts given ended ps
starts_are given ended [] [] e = refl
starts_are given ended [] (op ∷ ops) e = absurd cc
starts_are given ended (p ∷ ps) [] e = absurd cc
starts_are given ended (p ∷ ps) (op ∷ ops) e =
    let here : operation_at given p ≡ Some op = cc in
    let rest : map (operation_at given) ps ≡ map (λ (op : Operation CodePlace). Some op) ops = cc in
    let after : ends_at (operation_at given p) ≡ ends_block op = ap ends_at here in
    rw (after, starts_are given (ends_block op) ps ops rest) refl

-- ---- numbers

-- where a place is found it is that
pub found_there : (p : CodePlace) (places : List CodePlace) (at : ℕ) → position (same_place p) places ≡ Some at → slice_get places at ≡ Some p
found_there p places at e = by_test (nat_lt (position_or_len (same_place p) places) (length places)) refl e
  where
    by_test : (b : Bool) → nat_lt (position_or_len (same_place p) places) (length places) ≡ b → cond b (Some (position_or_len (same_place p) places)) None ≡ Some at → slice_get places at ≡ Some p
    by_test true s e =
        let n = position_or_len (same_place p) places in
        let within : n < length places = ltb-true n (length places) s in
        let same : n ≡ at = cc in
        let is : p ≡ get_or places n p = place_same p (get_or places n p) (passes_at_first (same_place p) places p within) in
        subst (λ k. slice_get places k ≡ Some p) same (slice_get-get_or places n p within ∙ ap Some (sym is))
    by_test false s e = absurd cc

-- and its number is where it is found
pub number_found : (places : List CodePlace) (p : CodePlace) (at : ℕ) → position (same_place p) places ≡ Some at → IsNumberOf places p at
number_found places p at e =
    let there = found_there p places at e in
    record { is = ap or_nowhere there; exists = slice_get_within places at p there }

-- what is chosen of places in code order is in code order
ascends_chosen : (bs : List Bool) (ps : List CodePlace) → Ascends ps → Ascends (chosen bs ps)
ascends_chosen [] ps a = record { rises = λ i j p q lt e f. absurd cc }
ascends_chosen (b ∷ bs) [] a = record { rises = λ i j p q lt e f. absurd cc }
ascends_chosen (false ∷ bs) (x ∷ ps) a = ascends_chosen bs ps (tail x ps a)
ascends_chosen (true ∷ bs) (x ∷ ps) a = record { rises = rises (ascends_chosen bs ps (tail x ps a)) }
  where
    rises : Ascends (chosen bs ps) → (i j : ℕ) (p q : CodePlace) → i < j → slice_get (x ∷ chosen bs ps) i ≡ Some p → slice_get (x ∷ chosen bs ps) j ≡ Some q → rank_of p < rank_of q
    rises rest i zero p q lt e f = absurd (omega (arith, lt))
    rises rest zero (suc j) p q lt e f = (let r = chosen_member bs ps j q f in a.rises 0 (suc r.0) p q (omega arith) e r.1)
    rises rest (suc i) (suc j) p q lt e f = rest.rises i j p q (omega (arith, lt)) e f

pub are_listed : (places listed : List Site) (emitted : List Bool) → Ascends (map site_of places) → length places ≤ 2 ^ 28 → listed ≡ chosen emitted places → AreListed (map site_of listed)
are_listed places listed emitted ordered few are =
    let same : map site_of listed ≡ chosen emitted (map site_of places) = ap (map site_of) are ∙ sym (chosen_map site_of emitted places) in
    record {
      ascend = subst Ascends (sym same) (ascends_chosen emitted (map site_of places) ordered);
      few = omega (arith, length-map listed site_of, ap length are, chosen_at_most emitted places, few);
    }

-- numbers of places, one after another
pub numbers_more : (places these : List CodePlace) (now new : List ℕ) (i : ℕ) (p : CodePlace) (number : ℕ) → slice_get these i ≡ Some p → AreNumbersOf places (take i these) now → IsNumberOf places p number → new ≡ now ++ number ∷ [] → AreNumbersOf places (take (i + 1) these) new
numbers_more places these now new i p number e was is added =
    rw (added, take_next these i p e) (record {
      are = map_append (place places) now (number ∷ []) ∙ ap (λ l. l ++ place places number ∷ []) was.are ∙ ap (λ q. take i these ++ q ∷ []) is.is;
      exist = all_push (λ number. number < length places) now number was.exist is.exists;
    })

pub numbers_none : (places these : List CodePlace) → AreNumbersOf places (take 0 these) []
numbers_none places these = record { are = refl; exist = tt }

-- operations with numbers, one after another
pub chosen_next : {X : Type 0} (bs : List Bool) (xs : List X) (i : ℕ) (b : Bool) (x : X) → slice_get bs i ≡ Some b → slice_get xs i ≡ Some x → chosen (take (i + 1) bs) (take (i + 1) xs) ≡ chosen (take i bs) (take i xs) ++ cond b (x ∷ []) []
chosen_next {X = X} bs xs i b x e f = ap (λ n. chosen (take n bs) (take n xs)) (add-one i) ∙ by_suc bs xs i e f
  where
    by_mark : (c : Bool) (y : X) (more rest last : List X) → more ≡ rest ++ last → cond c (y ∷ more) more ≡ cond c (y ∷ rest) rest ++ last
    by_mark true y more rest last is = ap (λ l. y ∷ l) is
    by_mark false y more rest last is = is

    one : (c : Bool) (y : X) → cond c (y ∷ []) [] ≡ [] ++ cond c (y ∷ []) []
    one c y = refl

    by_suc : (bs : List Bool) (xs : List X) (i : ℕ) → slice_get bs i ≡ Some b → slice_get xs i ≡ Some x → chosen (take (suc i) bs) (take (suc i) xs) ≡ chosen (take i bs) (take i xs) ++ cond b (x ∷ []) []
    by_suc [] xs i e f = absurd cc
    by_suc (c ∷ bs) [] i e f = absurd cc
    by_suc (c ∷ bs) (y ∷ xs) zero e f = (let mark : c ≡ b = cc in let same : y ≡ x = cc in rw (mark, same) (one b x))
    by_suc (c ∷ bs) (y ∷ xs) (suc i) e f = by_mark c y (chosen (take (suc i) bs) (take (suc i) xs)) (chosen (take i bs) (take i xs)) (cond b (x ∷ []) []) (by_suc bs xs i e f)

-- an operation that isn't listed changes nothing
pub numbered_skip :
    (places : List CodePlace) (listed : List Bool) (ops : List (Operation CodePlace)) (i : ℕ) (op : Operation CodePlace) (now : List (Operation ℕ)) → slice_get listed i ≡ Some false → slice_get ops i ≡ Some op
    → AreNumbered places (chosen (take i listed) (take i ops)) now → AreNumbered places (chosen (take (i + 1) listed) (take (i + 1) ops)) now
numbered_skip places listed ops i op now mark e was =
    subst (λ l. AreNumbered places l now) (sym (append-nil (chosen (take i listed) (take i ops))) ∙ sym (chosen_next listed ops i false op mark e)) was

-- and one that is listed comes with its number
pub numbered_next :
    (places : List CodePlace) (listed : List Bool) (ops : List (Operation CodePlace)) (i : ℕ) (op : Operation CodePlace) (now new : List SourceOp) (numbered_op : SourceOp) → slice_get listed i ≡ Some true → slice_get ops i ≡ Some op
    → AreNumbered places (chosen (take i listed) (take i ops)) (map operation_of now) → IsNumbered places op (operation_of numbered_op) → new ≡ now ++ numbered_op ∷ []
    → AreNumbered places (chosen (take (i + 1) listed) (take (i + 1) ops)) (map operation_of new)
numbered_next places listed ops i op now new numbered_op mark e was is added =
    let front = chosen (take i listed) (take i ops) in
    let more : map operation_of new ≡ map operation_of now ++ operation_of numbered_op ∷ [] = ap (map operation_of) added ∙ map_append operation_of now (numbered_op ∷ []) in
    rw (more, chosen_next listed ops i true op mark e) (record {
      are = map_append (rename (place places)) (map operation_of now) (operation_of numbered_op ∷ []) ∙ ap (λ l. l ++ rename (place places) (operation_of numbered_op) ∷ []) was.are ∙ ap (λ q. front ++ q ∷ []) is.is;
      fit = all_push FitsInstructions (map operation_of now) (operation_of numbered_op) was.fit is.fits;
      targets = all_push (HasTargetIn (length places)) (map operation_of now) (operation_of numbered_op) was.targets is.target;
    })

pub numbered_all : (places : List CodePlace) (listed : List Bool) (ops : List (Operation CodePlace)) (i : ℕ) (found : List (Operation ℕ)) → length ops ≤ i → length listed ≡ length ops
    → AreNumbered places (chosen (take i listed) (take i ops)) found → AreNumbered places (chosen listed ops) found
numbered_all places listed ops i found past same are =
    let a = take_all listed i (omega (arith, past, same)) in
    let b = take_all ops i past in
    subst (λ l. AreNumbered places l found) (ap (λ m. chosen m (take i ops)) a ∙ ap (chosen listed) b) are

pub operations_none : (places : List CodePlace) → AreNumbered places [] []
operations_none places = record { are = refl; fit = tt; targets = tt }

pub all_at : {X : Type 0} (P : X → Type 0) (xs : List X) (i : ℕ) (x : X) → AllByRecursion P xs → slice_get xs i ≡ Some x → P x
all_at P [] i x f e = absurd cc
all_at P (y ∷ xs) zero x f e = (let same : y ≡ x = cc in subst P same f.0)
all_at P (y ∷ xs) (suc i) x f e = all_at P xs i x f.1 e

-- ---- all together

pub record IsList (given : Given) (emitted : List Bool) (ops : List (Operation CodePlace)) (lifted : Lifted) : Type 0 where
  pub places : lifted.places ≡ chosen emitted (all_places given)
  pub operations : AreNumbered lifted.places (chosen emitted ops) lifted.ops
  pub begins : lifted.begins ≡ begins_from true (chosen emitted (map (has (targeted_places given)) (all_places given))) lifted.ops
  pub entries : AreNumbersOf lifted.places (entry_places given) lifted.entries
  pub needed : AreNumbersOf lifted.places (needed_places given) lifted.needed
  pub map_is : lifted.map ≡ needed_places given
  pub imports_are : lifted.imports ≡ length given.wanted.imports

pub is_lifted : (given : Given) (emitted : List Bool) (ops : List (Operation CodePlace)) (lifted : Lifted) → emitted ≡ map (is_emitted given) (all_places given) → AreAt given (all_places given) ops → IsList given emitted ops lifted → IsLifted given lifted
unfolding code_places
is_lifted given emitted ops lifted marked are list =
    let ps = all_places given in
    let out = chosen emitted ps in
    let chosen_ops = chosen emitted ops in
    let code : out ≡ code_places given = ap (λ bs. chosen bs ps) marked ∙ chosen_filter (is_emitted given) ps in
    let same : AreAt given out chosen_ops =
    sym (chosen_map (operation_at given) emitted ps) ∙ ap (chosen emitted) are ∙ chosen_map (λ (op : Operation CodePlace). Some op) emitted ops in
    let count_out : length out ≡ length chosen_ops = sym (length-map out (operation_at given)) ∙ ap length same ∙ length-map chosen_ops (λ (op : Operation CodePlace). Some op) in
    let count_found : length lifted.ops ≡ length chosen_ops = sym (length-map lifted.ops (rename (place lifted.places))) ∙ ap length list.operations.are in
    record {
      places_are = list.places ∙ code;
      count = count_found ∙ sym count_out ∙ sym (ap length list.places);
      ops_are = λ q op e.
          let renamed : slice_get (map (rename (place lifted.places)) lifted.ops) q ≡ Some (rename (place lifted.places) op) = slice_get-map (rename (place lifted.places)) lifted.ops q ∙ ap (option_map (rename (place lifted.places))) e in
          let there : slice_get chosen_ops q ≡ Some (rename (place lifted.places) op) = sym (ap (λ l. slice_get l q) list.operations.are) ∙ renamed in
          by_place given lifted.places out chosen_ops q (rename (place lifted.places) op) list.places same there;
      ops_fit = λ q op e. all_at FitsInstructions lifted.ops q op list.operations.fit e;
      targets_exist = λ q t op e f. all_at (HasTargetIn (length lifted.places)) lifted.ops q op list.operations.targets e t f;
      begins_are = list.begins ∙ sym (begins_renamed (place lifted.places) true (chosen emitted (map (has (targeted_places given)) ps)) lifted.ops) ∙ ap (begins_from true (chosen emitted (map (has (targeted_places given)) ps))) list.operations.are
          ∙ ap (λ l. begins_from true l chosen_ops) (chosen_map (has (targeted_places given)) emitted ps) ∙ starts_are given true out chosen_ops same ∙ sym (ap (starts given true) list.places);
      map_is = list.map_is;
      imports_are = list.imports_are;
      entries_are = list.entries.are;
      entries_exist = λ entry t e. all_at (λ number. number < length lifted.places) lifted.entries entry t list.entries.exist e;
      needed_are = list.needed.are ∙ sym list.map_is;
      needed_exist = λ i t e. all_at (λ number. number < length lifted.places) lifted.needed i t list.needed.exist e;
    }
  where
    by_place : (given : Given) (places out : List CodePlace) (ops : List (Operation CodePlace)) (q : ℕ) (op : Operation CodePlace) → places ≡ out → AreAt given out ops → slice_get ops q ≡ Some op → operation_at given (place places q) ≡ Some op
    by_place given places out ops q op are same e = rw are (by_list out ops q same e)
      where
        by_list : (out : List CodePlace) (ops : List (Operation CodePlace)) (q : ℕ) → AreAt given out ops → slice_get ops q ≡ Some op → operation_at given (place out q) ≡ Some op
        by_list [] [] q same e = absurd cc
        by_list [] (o ∷ ops) q same e = absurd cc
        by_list (p ∷ out) [] q same e = absurd cc
        by_list (p ∷ out) (o ∷ ops) zero same e =
            let here : operation_at given p ≡ Some o = cc in
            let is : o ≡ op = cc in
            here ∙ ap Some is
        by_list (p ∷ out) (o ∷ ops) (suc q) same e = (let rest : map (operation_at given) out ≡ map (λ (op : Operation CodePlace). Some op) ops = cc in by_list out ops q rest e)

length_starts : (given : Given) (ended : Bool) (ps : List CodePlace) → length (starts given ended ps) ≡ length ps
length_starts given ended [] = refl
length_starts given ended (p ∷ ps) = ap suc (length_starts given (ends_at (operation_at given p)) ps)

-- few operations are in the ranges that are kept of them
pub in_range : (given : Given) (lifted : Lifted) → IsLifted given lifted → length lifted.places ≤ 2 ^ 28 → length lifted.map ≤ 2 ^ 28 → length lifted.entries ≤ 1000 → IsInRange lifted
in_range given lifted is few few_needed few_entries = record {
  count = is.count;
  marks = ap length is.begins_are ∙ length_starts given true lifted.places;
  few = few;
  few_entries = few_entries;
  few_needed = few_needed;
  needed_count = sym (length-map lifted.needed (place lifted.places)) ∙ ap length is.needed_are;
  fits = is.ops_fit;
  targets = λ q op t e f. omega (arith, is.targets_exist q t op e f, is.count);
  entries_are = λ entry t e. omega (arith, is.entries_exist entry t e, is.count);
  needed_are = λ i t e. omega (arith, is.needed_exist i t e, is.count);
}

-- the numbers of places are as many as these
pub numbers_len : (places these : List CodePlace) (numbers : List ℕ) → AreNumbersOf places these numbers → length numbers ≡ length these
numbers_len places these numbers are = sym (length-map numbers (place places)) ∙ ap length are.are

-- the list of these parts
pub is_list :
    (given : Given) (places listed needed : List Site) (ops : List (Operation CodePlace)) (emitted targeted named : List Bool) (entries : List CodePlace) (lifted : Lifted)
    → map site_of places ≡ all_places given → emitted ≡ map (is_emitted given) (all_places given) → AreAt given (all_places given) ops
    → named ≡ map (has (named_places given)) (all_places given) → targeted ≡ chosen emitted (map (has (targeted_places given)) (all_places given)) → entries ≡ entry_places given
    → listed ≡ chosen emitted places → needed ≡ chosen named places
    → lifted.places ≡ map site_of listed → AreNumbered (map site_of listed) (chosen emitted ops) lifted.ops → lifted.begins ≡ begins_from true targeted lifted.ops
    → AreNumbersOf (map site_of listed) entries lifted.entries → AreNumbersOf (map site_of listed) (map site_of needed) lifted.needed
    → lifted.map ≡ needed_places given → lifted.imports ≡ length given.wanted.imports → IsLifted given lifted
is_list given places listed needed ops emitted targeted named entries lifted all marked are named_are targeted_are_these entries_are listed_are needed_are places_are numbered begins_are entry_numbers needed_numbers map_is imports_are =
    is_lifted given emitted ops lifted marked are (record {
      places = places_are ∙ ap (map site_of) listed_are ∙ sym (chosen_map site_of emitted places) ∙ ap (chosen emitted) all;
      operations = subst (λ q. AreNumbered q (chosen emitted ops) lifted.ops) (sym places_are) numbered;
      begins = begins_are ∙ ap (λ a. begins_from true a lifted.ops) targeted_are_these;
      entries = subst (λ q. AreNumbersOf q (entry_places given) lifted.entries) (sym places_are) (subst (λ t. AreNumbersOf (map site_of listed) t lifted.entries) entries_are entry_numbers);
      needed = subst (λ q. AreNumbersOf q (needed_places given) lifted.needed) (sym places_are)
          (subst (λ t. AreNumbersOf (map site_of listed) t lifted.needed) (ap (map site_of) needed_are ∙ needed_chosen given places named all named_are) needed_numbers);
      map_is = map_is;
      imports_are = imports_are;
    })

-- there are as many marks as operations that are listed
pub marks_count : (given : Given) (places : List CodePlace) (emitted : List Bool) (ops : List (Operation CodePlace)) (found : List SourceOp) → AreAt given (all_places given) ops → AreNumbered places (chosen emitted ops) (map operation_of found)
    → length (chosen emitted (map (has (targeted_places given)) (all_places given))) ≡ length found
marks_count given places emitted ops found are numbered =
    length_chosen emitted (map (has (targeted_places given)) (all_places given)) ops (length-map (all_places given) (has (targeted_places given)) ∙ count given (all_places given) ops are)
    ∙ sym (ap length numbered.are) ∙ length-map (map operation_of found) (rename (place places)) ∙ length-map found operation_of
