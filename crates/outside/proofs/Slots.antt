-- Entries in a list, seen as the map from names to slots.
use Rattle.std.proofs.Common.{◌≡◌, ◌≢◌, ℕ, zero, suc, ◌+◌, ◌<◌, List, [], ◌∷◌, ◌++◌, length, get_or, Bool, true, false, cond, Option, Some, None, Result, Ok, Err, refl, sym, ap, ◌∙◌, arith}
use Rattle.std.proofs.Math.ListN.{set}
use Rattle.std.specs.Prelude.{OnOk, OnErr}
use Rattle.std.specs.Option.{option_and_then}
use Rattle.std.specs.List.{position, position_from}
use Rattle.std.specs.Str.{bytes_eq}
use Rattle.std.specs.Ordering.{nat_cmp, eq_by_cmp}
use Rattle.std.specs.Cmp.Lexicographic.{slice_cmp, texts_ties}
use Rattle.std.specs.FinMap.{find, get, insert, from_entries, get-from_entries, get-insert, from_entries_push, same_map, nat_cmp-IsAntisymmetric, slice_cmp-IsAntisymmetric}
use Rattle.std.proofs.lemmas.Cmp.{nat_list_cmp_total}
use Rattle.std.proofs.lemmas.Iterator.Adapters.{position_from-zero}
use Rattle.std.proofs.lemmas.List.Quantifiers.{position-Some}
use Rattle.std.proofs.lemmas.Slice.Eq.{bytes_eq-Decides}
use Rattle.outside.specs.Memory.{Slot, FolderState, content_of, room_of, with_slot, with_content, with_room}

-- a name with its slot, as a list of files holds it
abbrev Entry : Type 0
Entry = List ℕ × Slot

-- whether an entry is the name's
abbrev is_named : List ℕ → Entry → Bool
is_named name entry = bytes_eq name entry.0

-- the slot of the first entry that is the name's
abbrev found : List ℕ → List Entry → Option Slot
found = find (slice_cmp nat_cmp)

-- a test that fails leaves the second value
kept : {A : Type 0} (b : Bool) (x y : A) → b ≡ false → cond b x y ≡ y
kept true x y e = absurd cc
kept false x y e = refl

-- a test that passes leaves the first value
taken : {A : Type 0} (b : Bool) (x y : A) → b ≡ true → cond b x y ≡ x
taken true x y e = refl
taken false x y e = absurd cc

-- a test that is repeated decides at once
shadowed : {A : Type 0} (b : Bool) (x y z : A) → cond b x z ≡ cond b x (cond b y z)
shadowed true x y z = refl
shadowed false x y z = refl

-- two tests of which at most one passes may be asked in either order
swapped : {A : Type 0} (a b : Bool) (x y z : A) → (a ≡ true → b ≡ true → ⊥) → cond a x (cond b y z) ≡ cond b y (cond a x z)
swapped true true x y z apart = absurd (apart refl refl)
swapped true false x y z apart = refl
swapped false b x y z apart = refl

-- only equal names tie
tie : (xs ys : List ℕ) → eq_by_cmp (slice_cmp nat_cmp) xs ys ≡ true → xs ≡ ys
tie xs ys e = (bytes_eq-Decides xs ys).0 (texts_ties xs ys ∙ e)

-- where no entry is the name's, none is found
found_none : (name : List ℕ) (files : List Entry) (i : ℕ) → position_from (is_named name) i files ≡ None → found name files ≡ None
found_none name [] i e = refl
found_none name (x ∷ xs) i e =
    elim (bytes_eq name x.0) as (λ b. bytes_eq name x.0 ≡ b → cond b (Some i) (position_from (is_named name) (i + 1) xs) ≡ None → found name (x ∷ xs) ≡ None) [
      | true ↦ λ b e. absurd cc
      | false ↦ λ b e. kept _ _ _ (sym (texts_ties name x.0) ∙ b) ∙ found_none name xs (i + 1) e
    ] refl e

-- the first entry that is the name's is found
found_here : (name : List ℕ) (files : List Entry) (at : ℕ) (d : Entry) → at < length files → is_named name (get_or files at d) ≡ true → ((k : ℕ) → k < at → is_named name (get_or files k d) ≡ false) → found name files ≡ Some (get_or files at d).1
found_here name [] at d within here before = absurd (omega arith)
found_here name (x ∷ xs) zero d within here before = taken _ _ _ (sym (texts_ties name x.0) ∙ here)
found_here name (x ∷ xs) (suc at) d within here before =
    kept _ _ _ (sym (texts_ties name x.0) ∙ before zero (omega arith)) ∙ found_here name xs at d (omega arith) here (λ k lt. before (suc k) (omega arith))

-- where the first entry that is the name's is set, the name finds it, and another name what it found
found_set : (name : List ℕ) (files : List Entry) (at : ℕ) (d new : Entry) → at < length files → is_named name (get_or files at d) ≡ true → ((k : ℕ) → k < at → is_named name (get_or files k d) ≡ false) → new.0 ≡ name → (q : List ℕ) → found q (set files at new) ≡ cond (eq_by_cmp (slice_cmp nat_cmp) q name) (Some new.1) (found q files)
found_set name [] at d new within here before same q = absurd (omega arith)
found_set name (x ∷ xs) zero d new within here before same q =
    let old : x.0 ≡ name = sym ((bytes_eq-Decides name x.0).0 here) in
    ap (λ n. cond (eq_by_cmp (slice_cmp nat_cmp) q n) (Some new.1) (found q xs)) same
    ∙ shadowed (eq_by_cmp (slice_cmp nat_cmp) q name) (Some new.1) (Some x.1) (found q xs)
    ∙ ap (λ n. cond (eq_by_cmp (slice_cmp nat_cmp) q name) (Some new.1) (cond (eq_by_cmp (slice_cmp nat_cmp) q n) (Some x.1) (found q xs))) (sym old)
found_set name (x ∷ xs) (suc at) d new within here before same q =
    let other : is_named name x ≡ false = before zero (omega arith) in
    ap (cond (eq_by_cmp (slice_cmp nat_cmp) q x.0) (Some x.1)) (found_set name xs at d new (omega arith) here (λ k lt. before (suc k) (omega arith)) same q)
    ∙ swapped _ _ _ _ _ (λ a b. absurd (let e : name ≡ x.0 = sym (tie q name b) ∙ tie q x.0 a in let t : is_named name x ≡ true = (bytes_eq-Decides name x.0).1 e in cc))

-- a position in a borrowed list is one in the list
pub located : (borrowed files : List Entry) (name : List ℕ) (r at : Option ℕ) → borrowed ≡ files → r ≡ position (is_named name) borrowed → r ≡ at → position (is_named name) files ≡ at
located borrowed files name r at same is e = ap (position (is_named name)) (sym same) ∙ sym is ∙ e

-- where no entry is the name's, the folder has no slot for it
get-none : (folder : FolderState) (files : List Entry) (name : List ℕ) → folder.slots ≡ from_entries files → position (is_named name) files ≡ None → get folder.slots name ≡ None
get-none folder files name e none =
    ap (λ slots. get slots name) e ∙ get-from_entries nat_list_cmp_total files name ∙ found_none name files 0 (sym (position_from-zero (is_named name) files) ∙ none)

-- the first entry that is the name's has its slot
get-first : (folder : FolderState) (files : List Entry) (name : List ℕ) (at : ℕ) (old : Entry) → folder.slots ≡ from_entries files → position (is_named name) files ≡ Some at → old ≡ get_or files at old → get folder.slots name ≡ Some old.1
get-first folder files name at old e some is =
    let first = position-Some (is_named name) files at old some in
    ap (λ slots. get slots name) e ∙ get-from_entries nat_list_cmp_total files name ∙ found_here name files at old first.0 first.1 first.2 ∙ ap (λ entry. Some entry.1) (sym is)

-- to set the first entry that is the name's is to give the name its slot
with_slot-set : (folder : FolderState) (files : List Entry) (name : List ℕ) (at : ℕ) (old new : Entry) (slot : Slot) → folder.slots ≡ from_entries files → position (is_named name) files ≡ Some at → old ≡ get_or files at old → new ≡ (old.0, slot) → record folder { slots = from_entries (set files at new) } ≡ with_slot folder name slot
with_slot-set folder files name at old new slot e some is same =
    let first = position-Some (is_named name) files at old some in
    let named : new.0 ≡ name = ap (λ entry. entry.0) same ∙ ap (λ entry. entry.0) is ∙ sym ((bytes_eq-Decides name (get_or files at old).0).0 first.1) in
    let inserted : from_entries (set files at new) ≡ insert (from_entries files) name new.1 =
    same_map nat_list_cmp_total (slice_cmp-IsAntisymmetric nat_cmp-IsAntisymmetric) _ _ (λ q.
    get-from_entries nat_list_cmp_total _ q
    ∙ found_set name files at old new first.0 first.1 first.2 named q
    ∙ sym (get-insert nat_list_cmp_total _ name new.1 q ∙ ap (cond (eq_by_cmp (slice_cmp nat_cmp) q name) (Some new.1)) (get-from_entries nat_list_cmp_total files q))) in
    ap (λ slots. record folder { slots = slots }) (inserted ∙ ap (λ entry. insert (from_entries files) name entry.1) same ∙ ap (λ slots. insert slots name slot) (sym e))

-- to push an entry for a name that has none is to give the name its slot
with_slot-push : (folder : FolderState) (files : List Entry) (name : List ℕ) (new : Entry) (slot : Slot) → folder.slots ≡ from_entries files → position (is_named name) files ≡ None → new ≡ (name, slot) → record folder { slots = from_entries (files ++ new ∷ []) } ≡ with_slot folder name slot
with_slot-push folder files name new slot e none same =
    let pushed = from_entries_push nat_list_cmp_total (slice_cmp-IsAntisymmetric nat_cmp-IsAntisymmetric) files name slot (found_none name files 0 (sym (position_from-zero (is_named name) files) ∙ none)) in
    ap (λ slots. record folder { slots = slots }) (ap (λ entry. from_entries (files ++ entry ∷ [])) same ∙ pushed ∙ ap (λ slots. insert slots name slot) (sym e))

-- what follows from a fact about an `Ok` holds of it too
pub OnOk-map : {T E P Q : Type 0} (r : Result T E) → (P → Q) → OnOk r P → OnOk r Q
OnOk-map (Ok v) f p = f p
OnOk-map (Err e) f p = p

-- what follows from a fact about an `Ok` and from one about an `Err` holds
pub OnOk-or_OnErr : {T E P Q X : Type 0} (r : Result T E) → (P → X) → (Q → X) → OnOk r P → OnErr r Q → X
OnOk-or_OnErr (Ok v) f g p q = f p
OnOk-or_OnErr (Err e) f g p q = g q

-- where no entry is the name's, it has no room
pub room_of-none : (seen folder : FolderState) (files : List Entry) (name : List ℕ) → seen ≡ folder → seen.slots ≡ from_entries files → position (is_named name) files ≡ None → room_of folder name ≡ None
room_of-none seen folder files name view e none = ap (λ f. room_of f name) (sym view) ∙ ap (option_and_then (λ slot. slot.room)) (get-none seen files name e none)

-- the first entry that is the name's has its room
pub room_of-first : (seen folder : FolderState) (files : List Entry) (name : List ℕ) (at : ℕ) (old : Entry) → seen ≡ folder → seen.slots ≡ from_entries files → position (is_named name) files ≡ Some at → old ≡ get_or files at old → room_of folder name ≡ old.1.room
room_of-first seen folder files name at old view e some is = ap (λ f. room_of f name) (sym view) ∙ ap (option_and_then (λ slot. slot.room)) (get-first seen files name at old e some is)

-- where no entry is the name's, it holds nothing
pub content_of-none : (seen folder : FolderState) (files : List Entry) (name : List ℕ) → seen ≡ folder → seen.slots ≡ from_entries files → position (is_named name) files ≡ None → content_of folder name ≡ None
content_of-none seen folder files name view e none = ap (λ f. content_of f name) (sym view) ∙ ap (option_and_then (λ slot. slot.content)) (get-none seen files name e none)

-- the first entry that is the name's has what it holds
pub content_of-first : (seen folder : FolderState) (files : List Entry) (name : List ℕ) (at : ℕ) (old : Entry) → seen ≡ folder → seen.slots ≡ from_entries files → position (is_named name) files ≡ Some at → old ≡ get_or files at old → content_of folder name ≡ old.1.content
content_of-first seen folder files name at old view e some is = ap (λ f. content_of f name) (sym view) ∙ ap (option_and_then (λ slot. slot.content)) (get-first seen files name at old e some is)

-- to set the content of the first entry that is the name's is to give the name this content
pub with_content-set : (seen folder : FolderState) (files : List Entry) (name : List ℕ) (at : ℕ) (old new : Entry) (bytes : List ℕ) → seen ≡ folder → seen.slots ≡ from_entries files → position (is_named name) files ≡ Some at → old ≡ get_or files at old → new ≡ (old.0, record { content = Some bytes; room = old.1.room }) → record seen { slots = from_entries (set files at new) } ≡ with_content folder name bytes
with_content-set seen folder files name at old new bytes view e some is same =
    with_slot-set seen files name at old new _ e some is same
    ∙ ap (λ f. with_slot f name (record { content = Some bytes; room = old.1.room })) view
    ∙ ap (λ room. with_slot folder name (record { content = Some bytes; room = room })) (sym (room_of-first seen folder files name at old view e some is))

-- to set the room of the first entry that is the name's is to give the name this room
pub with_room-set : (seen folder : FolderState) (files : List Entry) (name : List ℕ) (at : ℕ) (old new : Entry) (len : ℕ) → seen ≡ folder → seen.slots ≡ from_entries files → position (is_named name) files ≡ Some at → old ≡ get_or files at old → new ≡ (old.0, record { content = old.1.content; room = Some len }) → record seen { slots = from_entries (set files at new) } ≡ with_room folder name len
with_room-set seen folder files name at old new len view e some is same =
    with_slot-set seen files name at old new _ e some is same
    ∙ ap (λ f. with_slot f name (record { content = old.1.content; room = Some len })) view
    ∙ ap (λ content. with_slot folder name (record { content = content; room = Some len })) (sym (content_of-first seen folder files name at old view e some is))

-- to push an entry that has this content, for a name that has none, is to give the name this content
pub with_content-push : (seen folder : FolderState) (files items : List Entry) (name : List ℕ) (old new : Entry) (bytes : List ℕ) → seen ≡ folder → seen.slots ≡ from_entries files → position (is_named name) files ≡ None → old ≡ (name, record { content = None; room = None }) → new ≡ (old.0, record { content = Some bytes; room = old.1.room }) → items ≡ files ++ new ∷ [] → record seen { slots = from_entries items } ≡ with_content folder name bytes
with_content-push seen folder files items name old new bytes view e none is same pushed =
    let fresh : new ≡ (name, record { content = Some bytes; room = None }) = same ∙ ap (λ entry. (entry.0, record { content = Some bytes; room = entry.1.room })) is in
    ap (λ list. record seen { slots = from_entries list }) pushed
    ∙ with_slot-push seen files name new _ e none fresh
    ∙ ap (λ f. with_slot f name (record { content = Some bytes; room = None })) view
    ∙ ap (λ room. with_slot folder name (record { content = Some bytes; room = room })) (sym (room_of-none seen folder files name view e none))

-- to push an entry that has this room, for a name that has none, is to give the name this room
pub with_room-push : (seen folder : FolderState) (files items : List Entry) (name : List ℕ) (old new : Entry) (len : ℕ) → seen ≡ folder → seen.slots ≡ from_entries files → position (is_named name) files ≡ None → old ≡ (name, record { content = None; room = None }) → new ≡ (old.0, record { content = old.1.content; room = Some len }) → items ≡ files ++ new ∷ [] → record seen { slots = from_entries items } ≡ with_room folder name len
with_room-push seen folder files items name old new len view e none is same pushed =
    let fresh : new ≡ (name, record { content = None; room = Some len }) = same ∙ ap (λ entry. (entry.0, record { content = entry.1.content; room = Some len })) is in
    ap (λ list. record seen { slots = from_entries list }) pushed
    ∙ with_slot-push seen files name new _ e none fresh
    ∙ ap (λ f. with_slot f name (record { content = None; room = Some len })) view
    ∙ ap (λ content. with_slot folder name (record { content = content; room = Some len })) (sym (content_of-none seen folder files name view e none))

-- a test that can't pass fails
not_true : (b : Bool) → (b ≡ true → ⊥) → b ≡ false
not_true true h = absurd (h refl)
not_true false h = refl

-- the name holds what it was given
pub content_of-with_content : (folder : FolderState) (name bytes : List ℕ) → content_of (with_content folder name bytes) name ≡ Some bytes
content_of-with_content folder name bytes =
    let tied = sym (texts_ties name name) ∙ (bytes_eq-Decides name name).1 refl in
    ap (option_and_then (λ slot. slot.content)) (get-insert nat_list_cmp_total folder.slots name _ name ∙ taken _ _ _ tied)

-- another name holds what it held
pub content_of-with_content-other : (folder : FolderState) (name bytes other : List ℕ) → other ≢ name → content_of (with_content folder name bytes) other ≡ content_of folder other
content_of-with_content-other folder name bytes other apart =
    ap (option_and_then (λ slot. slot.content)) (get-insert nat_list_cmp_total folder.slots name _ other ∙ kept _ _ _ (not_true _ (λ e. apart (tie other name e))))
