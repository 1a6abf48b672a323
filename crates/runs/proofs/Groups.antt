-- Segments that come in groups, as those of a block do: where a group begins among operations and instructions is known
-- from the groups alone.
use Rattle.std.proofs.Common.{◌≡◌, ℕ, zero, suc, ◌+◌, Bool, true, false, List, [], ◌∷◌, ◌++◌, length, map, refl, sym, ap, ◌∙◌, arith, length-append, append_assoc}
use Rattle.std.proofs.lemmas.List.{map-append, length-map, append-nil}
use Rattle.std.specs.List.{AllByRecursion}
use Rattle.runs.specs.Joined.{joined, position}
use Rattle.runs.specs.Machine.{Outcome, Next, Jump, Call, Ends, and_then, does, one_more, begun}
use Rattle.runs.specs.Segments.{Segment, all_ops, all_instrs, op_place, instr_place, Whole, GoodOutcome, Implements}
use Rattle.runs.specs.Groups.{parts, segments_of}
use Rattle.runs.proofs.HasAt.{position_first}
use Rattle.runs.proofs.Blocks.{joined_first}

-- the parts of a list have all its elements, in their order
pub joined_parts : {A : Type 0} (ends : A → Bool) (xs : List A) → joined (parts ends xs) ≡ xs
joined_parts ends [] = refl
joined_parts ends (x ∷ xs) = joined_first (ends x) x (parts ends xs) ∙ ap (λ l. x ∷ l) (joined_parts ends xs)

-- and where none of it ends a part, it is one
pub one_part : {A : Type 0} (ends : A → Bool) (x : A) (xs : List A) → AllByRecursion (λ y. ends y ≡ false) (x ∷ xs) → parts ends (x ∷ xs) ≡ (x ∷ xs) ∷ []
one_part ends x [] h = rw h.0 refl
one_part ends x (y ∷ xs) h = rw (h.0, one_part ends y xs h.1) refl

module _ {A : Type 0} where
  joined_append : (ws vs : List (List A)) → joined (ws ++ vs) ≡ joined ws ++ joined vs
  joined_append [] vs = refl
  joined_append (w ∷ ws) vs = ap (λ l. w ++ l) (joined_append ws vs) ∙ sym (append_assoc w (joined ws) (joined vs))

  -- lists of lists, joined in either order
  pub joined_joined : (groups : List (List (List A))) → joined (joined groups) ≡ joined (map joined groups)
  joined_joined [] = refl
  joined_joined (g ∷ groups) = joined_append g (joined groups) ∙ ap (λ l. joined g ++ l) (joined_joined groups)

  -- positions after other lists count on from what these hold
  position_after : (ws vs : List (List A)) (k : ℕ) → position (ws ++ vs) (length ws + k) ≡ length (joined ws) + position vs k
  position_after [] vs k = let n : 0 + k ≡ k = omega arith in let m : 0 + position vs k ≡ position vs k = omega arith in rw (n, m) refl
  position_after (w ∷ ws) vs k =
      let n : suc (length ws) + k ≡ suc (length ws + k) = omega arith in
      let rest = position_after ws vs k in
      rw n (omega (arith, rest, length-append w (joined ws)))

  -- a group begins where its first list does
  pub position_joined : (groups : List (List (List A))) (k : ℕ) → position (joined groups) (position groups k) ≡ position (map joined groups) k
  position_joined [] k = refl
  position_joined (g ∷ groups) zero = position_first (g ++ joined groups)
  position_joined (g ∷ groups) (suc k) = position_after g (joined groups) (position groups k) ∙ ap (λ n. length (joined g) + n) (position_joined groups k)

module _ {A B : Type 0} (f : A → B) where
  pub map_joined : (ws : List (List A)) → map f (joined ws) ≡ joined (map (λ w. map f w) ws)
  map_joined [] = refl
  map_joined (w ∷ ws) = map-append f w (joined ws) ∙ ap (λ l. map f w ++ l) (map_joined ws)

  pub position_map : (ws : List (List A)) (k : ℕ) → position (map (λ w. map f w) ws) k ≡ position ws k
  position_map [] k = refl
  position_map (w ∷ ws) zero = refl
  position_map (w ∷ ws) (suc k) = ap (λ n. n + position (map (λ w. map f w) ws) k) (length-map w f) ∙ ap (λ n. length w + n) (position_map ws k)

map_map : {A B C : Type 0} (f : A → B) (g : B → C) (xs : List A) → map g (map f xs) ≡ map (λ x. g (f x)) xs
map_map f g [] = refl
map_map f g (x ∷ xs) = ap (λ l. g (f x) ∷ l) (map_map f g xs)

-- the lists of all elements in groups, and where the k-th group begins among them
grouped : {A B : Type 0} (f : A → List B) (groups : List (List A)) → joined (map f (joined groups)) ≡ joined (map (λ g. joined (map f g)) groups)
grouped f groups = ap joined (map_joined f groups) ∙ joined_joined (map (λ g. map f g) groups) ∙ ap joined (map_map (λ g. map f g) joined groups)

grouped_position : {A B : Type 0} (f : A → List B) (groups : List (List A)) (k : ℕ) → position (map f (joined groups)) (position groups k) ≡ position (map (λ g. joined (map f g)) groups) k
grouped_position f groups k =
    ap (λ ws. position ws (position groups k)) (map_joined f groups)
    ∙ ap (λ n. position (joined (map (λ g. map f g) groups)) n) (sym (position_map f groups k))
    ∙ position_joined (map (λ g. map f g) groups) k
    ∙ ap (λ ws. position ws k) (map_map (λ g. map f g) joined groups)

module _ {Op Instr : Type 0} (groups : List (List (Segment Op Instr))) where
  -- all groups have the operations and the instructions of each
  pub group_ops : all_ops (joined groups) ≡ joined (map all_ops groups)
  group_ops = grouped (λ (p : Segment Op Instr). p.ops) groups

  pub group_instrs : all_instrs (joined groups) ≡ joined (map all_instrs groups)
  group_instrs = grouped (λ (p : Segment Op Instr). p.instrs) groups

  -- and the first segment of the k-th group begins where the group does
  pub group_op_place : (k : ℕ) → op_place (joined groups) (position groups k) ≡ position (map all_ops groups) k
  group_op_place k = grouped_position (λ (p : Segment Op Instr). p.ops) groups k

  pub group_instr_place : (k : ℕ) → instr_place (joined groups) (position groups k) ≡ position (map all_instrs groups) k
  group_instr_place k = grouped_position (λ (p : Segment Op Instr). p.instrs) groups k

-- the segments of parts have their operations; their instructions are those of the parts and then the tail
module _ {Op Instr : Type 0} (lower : List Op → List Instr) (tail : List Instr) where
  pub segments_ops : (ps : List (List Op)) → all_ops (segments_of lower tail ps) ≡ joined ps
  segments_ops [] = refl
  segments_ops (ops ∷ []) = refl
  segments_ops (ops ∷ next ∷ rest) = ap (λ l. ops ++ l) (segments_ops (next ∷ rest))

  pub segments_instrs : (ps : List (List Op)) → all_instrs (segments_of lower tail ps) ≡ joined (map lower ps) ++ tail
  segments_instrs [] = append-nil tail
  segments_instrs (ops ∷ []) = append-nil (lower ops ++ tail) ∙ ap (λ l. l ++ tail) (sym (append-nil (lower ops)))
  segments_instrs (ops ∷ next ∷ rest) = ap (λ l. lower ops ++ l) (segments_instrs (next ∷ rest)) ∙ sym (append_assoc (lower ops) (joined (map lower (next ∷ rest))) tail)

-- one, and then nothing
module _ {I Target Data End : Type 0} (act : I → Data → Outcome Target Data End) where
  then_none : (o : Outcome Target Data End) → and_then o (does act []) ≡ o
  then_none (Next d) = refl
  then_none (Jump target d) = refl
  then_none (Call number d) = refl
  then_none (Ends f) = refl

  one_begun : (o : Outcome Target Data End) → one_more o (begun act []) ≡ 1
  one_begun (Next d) = refl
  one_begun (Jump target d) = refl
  one_begun (Call number d) = refl
  one_begun (Ends f) = refl

whole_one : {Target Data End : Type 0} (o : Outcome Target Data End) → Whole o 1 1
whole_one (Next d) = refl
whole_one (Jump target d) = tt
whole_one (Call number d) = refl
whole_one (Ends f) = tt

-- an operation with one instruction that does the same is a segment, also where it calls the host
pub implements_one : {Op Instr Target Data End : Type 0} (op_does : Op → Data → Outcome Target Data End) (instr_does : Instr → Data → Outcome Target Data End) (good : Data → Type 0) (op : Op) (i : Instr)
    → ((d : Data) → good d → instr_does i d ≡ op_does op d) → ((d : Data) → good d → GoodOutcome good (op_does op d))
    → Implements op_does instr_does good (record { ops = op ∷ []; instrs = i ∷ [] })
implements_one op_does instr_does good op i same stays = record {
  some = omega arith;
  same = λ d g. then_none instr_does (instr_does i d) ∙ same d g ∙ sym (then_none op_does (op_does op d));
  bound = λ d g. rw (one_begun instr_does (instr_does i d), one_begun op_does (op_does op d)) (omega arith);
  whole_ops = λ d g. rw (then_none op_does (op_does op d), one_begun op_does (op_does op d)) (whole_one (op_does op d));
  whole_instrs = λ d g. rw (then_none op_does (op_does op d), one_begun instr_does (instr_does i d)) (whole_one (op_does op d));
  stays = λ d g. rw (then_none op_does (op_does op d)) (stays d g);
}

-- A block that begins with a call, as the stub of a host call does: the call is a segment, and what is after it
-- another.
pub call_then : {Op Instr Target Data End : Type 0} (op_does : Op → Data → Outcome Target Data End) (instr_does : Instr → Data → Outcome Target Data End) (good : Data → Type 0) (lower : List Op → List Instr) (tail : List Instr) (ends : Op → Bool)
    (op : Op) (i : Instr) (rest : List Op) → ends op ≡ true → lower (op ∷ []) ≡ i ∷ [] → parts ends rest ≡ rest ∷ []
    → ((d : Data) → good d → instr_does i d ≡ op_does op d) → ((d : Data) → good d → GoodOutcome good (op_does op d))
    → Implements op_does instr_does good (record { ops = rest; instrs = lower rest ++ tail })
    → AllByRecursion (Implements op_does instr_does good) (segments_of lower tail (parts ends (op ∷ rest)))
call_then op_does instr_does good lower tail ends op i rest call is one same stays implemented =
    let cut : parts ends (op ∷ rest) ≡ (op ∷ []) ∷ rest ∷ [] = rw (call, one) refl in
    rw (cut, is) (implements_one op_does instr_does good op i same stays, (implemented, tt))
