-- A link's input has one list of operations.
use Rattle.std.proofs.Common.{◌≡◌, ℕ, zero, suc, ◌<◌, List, [], ◌∷◌, length, map, Some, refl, sym, ap, ◌∙◌, arith, subst, true}
use Rattle.std.specs.Prelude.{slice_get}
use Rattle.relocs.specs.Places.{CodePlace}
use Rattle.lift_blocks.specs.Operations.{Operation, Plain, Branch, Jal, Jalr, Pair, HostCall, Sbrk, rename, operation_at}
use Rattle.lift_blocks.specs.Listed.{place, or_nowhere, starts, target_of}
use Rattle.lift_blocks.specs.Laws.{LiftedIsOne}
use Rattle.lift_blocks.proofs.OnePlaces.{IsOnce, once_code, one_index}

record There {A : Type 0} (xs : List A) (i : ℕ) : Type 0 where
  x : A
  is : slice_get xs i ≡ Some x

there : {A : Type 0} (xs : List A) (i : ℕ) → i < length xs → There xs i
there [] i lt = absurd (omega (arith, lt))
there (x ∷ xs) zero lt = record { x = x; is = refl }
there (x ∷ xs) (suc i) lt = (let more = there xs i (omega (arith, lt)) in record { x = more.x; is = more.is })

-- two numbers of one place are one
module _ (ps : List CodePlace) (once : IsOnce ps) where
  one_number : (t u : ℕ) → t < length ps → u < length ps → place ps t ≡ place ps u → t ≡ u
  one_number t u lt gt e =
      let a = there ps t lt in
      let b = there ps u gt in
      let same : a.x ≡ b.x = sym (ap or_nowhere a.is) ∙ e ∙ ap or_nowhere b.is in
      one_index ps a.x t u once a.is (b.is ∙ ap Some (sym same))

  one_list : (ts us : List ℕ) → ((i t : ℕ) → slice_get ts i ≡ Some t → t < length ps) → ((i u : ℕ) → slice_get us i ≡ Some u → u < length ps) → map (place ps) ts ≡ map (place ps) us → ts ≡ us
  one_list [] [] f g e = refl
  one_list [] (u ∷ us) f g e = absurd cc
  one_list (t ∷ ts) [] f g e = absurd cc
  one_list (t ∷ ts) (u ∷ us) f g e =
      let first : place ps t ≡ place ps u = cc in
      let rest : map (place ps) ts ≡ map (place ps) us = cc in
      let head : t ≡ u = one_number t u (f 0 t refl) (g 0 u refl) first in
      let tail : ts ≡ us = one_list ts us (λ i. f (suc i)) (λ i. g (suc i)) rest in
      rw (head, tail) refl

  -- an operation is known by its names
  one_operation : (a b : Operation ℕ) → ((t : ℕ) → target_of a ≡ Some t → t < length ps) → ((u : ℕ) → target_of b ≡ Some u → u < length ps) → rename (place ps) a ≡ rename (place ps) b → a ≡ b
  one_operation (Plain op) (Plain other) f g e = cc
  one_operation (Plain op) (Branch cond rs1 rs2 target) f g e = absurd cc
  one_operation (Plain op) (Jal rd link target) f g e = absurd cc
  one_operation (Plain op) (Jalr rd rs1 imm link) f g e = absurd cc
  one_operation (Plain op) (Pair temp rd link target) f g e = absurd cc
  one_operation (Plain op) (HostCall number) f g e = absurd cc
  one_operation (Plain op) Sbrk f g e = absurd cc
  one_operation (Branch cond rs1 rs2 target) (Plain op) f g e = absurd cc
  one_operation (Branch cond rs1 rs2 t) (Branch cond' rs1' rs2' u) f g e =
      let same : place ps t ≡ place ps u = cc in
      let number : t ≡ u = one_number t u (f t refl) (g u refl) same in
      cc
  one_operation (Branch cond rs1 rs2 t) (Jal rd link target) f g e = absurd cc
  one_operation (Branch cond rs1 rs2 t) (Jalr rd rs imm link) f g e = absurd cc
  one_operation (Branch cond rs1 rs2 t) (Pair temp rd link target) f g e = absurd cc
  one_operation (Branch cond rs1 rs2 t) (HostCall number) f g e = absurd cc
  one_operation (Branch cond rs1 rs2 t) Sbrk f g e = absurd cc
  one_operation (Jal rd link t) (Plain op) f g e = absurd cc
  one_operation (Jal rd link t) (Branch cond rs1 rs2 target) f g e = absurd cc
  one_operation (Jal rd link t) (Jal rd' link' u) f g e =
      let same : place ps t ≡ place ps u = cc in
      let number : t ≡ u = one_number t u (f t refl) (g u refl) same in
      cc
  one_operation (Jal rd link t) (Jalr rd' rs1 imm link') f g e = absurd cc
  one_operation (Jal rd link t) (Pair temp rd' link' target) f g e = absurd cc
  one_operation (Jal rd link t) (HostCall number) f g e = absurd cc
  one_operation (Jal rd link t) Sbrk f g e = absurd cc
  one_operation (Jalr rd rs1 imm link) (Plain op) f g e = absurd cc
  one_operation (Jalr rd rs1 imm link) (Branch cond rs rs2 target) f g e = absurd cc
  one_operation (Jalr rd rs1 imm link) (Jal rd' link' target) f g e = absurd cc
  one_operation (Jalr rd rs1 imm link) (Jalr rd' rs1' imm' link') f g e = cc
  one_operation (Jalr rd rs1 imm link) (Pair temp rd' link' target) f g e = absurd cc
  one_operation (Jalr rd rs1 imm link) (HostCall number) f g e = absurd cc
  one_operation (Jalr rd rs1 imm link) Sbrk f g e = absurd cc
  one_operation (Pair temp rd link t) (Plain op) f g e = absurd cc
  one_operation (Pair temp rd link t) (Branch cond rs1 rs2 target) f g e = absurd cc
  one_operation (Pair temp rd link t) (Jal rd' link' target) f g e = absurd cc
  one_operation (Pair temp rd link t) (Jalr rd' rs1 imm link') f g e = absurd cc
  one_operation (Pair temp rd link t) (Pair temp' rd' link' u) f g e =
      let same : place ps t ≡ place ps u = cc in
      let number : t ≡ u = one_number t u (f t refl) (g u refl) same in
      cc
  one_operation (Pair temp rd link t) (HostCall number) f g e = absurd cc
  one_operation (Pair temp rd link t) Sbrk f g e = absurd cc
  one_operation (HostCall n) (Plain op) f g e = absurd cc
  one_operation (HostCall n) (Branch cond rs1 rs2 target) f g e = absurd cc
  one_operation (HostCall n) (Jal rd link target) f g e = absurd cc
  one_operation (HostCall n) (Jalr rd rs1 imm link) f g e = absurd cc
  one_operation (HostCall n) (Pair temp rd link target) f g e = absurd cc
  one_operation (HostCall n) (HostCall m) f g e = cc
  one_operation (HostCall n) Sbrk f g e = absurd cc
  one_operation Sbrk (Plain op) f g e = absurd cc
  one_operation Sbrk (Branch cond rs1 rs2 target) f g e = absurd cc
  one_operation Sbrk (Jal rd link target) f g e = absurd cc
  one_operation Sbrk (Jalr rd rs1 imm link) f g e = absurd cc
  one_operation Sbrk (Pair temp rd link target) f g e = absurd cc
  one_operation Sbrk (HostCall number) f g e = absurd cc
  one_operation Sbrk Sbrk f g e = refl

-- lists with the same elements at the same indexes
same_elements : {A : Type 0} (xs ys : List A) → length xs ≡ length ys → ((i : ℕ) (x y : A) → slice_get xs i ≡ Some x → slice_get ys i ≡ Some y → x ≡ y) → xs ≡ ys
same_elements [] [] e f = refl
same_elements [] (y ∷ ys) e f = absurd (omega (arith, e))
same_elements (x ∷ xs) [] e f = absurd (omega (arith, e))
same_elements (x ∷ xs) (y ∷ ys) e f =
    let head : x ≡ y = f 0 x y refl refl in
    let tail : xs ≡ ys = same_elements xs ys (omega (arith, e)) (λ i. f (suc i)) in
    rw (head, tail) refl

pub lifted_is_one : LiftedIsOne
lifted_is_one given a b f g =
    let places : a.places ≡ b.places = f.places_are ∙ sym g.places_are in
    let count : length a.places ≡ length b.places = ap length places in
    let once : IsOnce b.places = subst IsOnce (sym g.places_are) (once_code given) in
    let begins : a.begins ≡ b.begins = f.begins_are ∙ ap (starts given true) places ∙ sym g.begins_are in
    let map_same : a.map ≡ b.map = f.map_is ∙ sym g.map_is in
    let imports : a.imports ≡ b.imports = f.imports_are ∙ sym g.imports_are in
    let entries : a.entries ≡ b.entries =
    one_list b.places once a.entries b.entries (λ i t e. (let lt = f.entries_exist i t e in omega (arith, lt, count))) g.entries_exist (ap (λ ps. map (place ps) a.entries) (sym places) ∙ f.entries_are ∙ sym g.entries_are) in
    let needed : a.needed ≡ b.needed =
    one_list b.places once a.needed b.needed (λ i t e. (let lt = f.needed_exist i t e in omega (arith, lt, count))) g.needed_exist (ap (λ ps. map (place ps) a.needed) (sym places) ∙ f.needed_are ∙ map_same ∙ sym g.needed_are) in
    let ops : a.ops ≡ b.ops =
    same_elements a.ops b.ops (f.count ∙ count ∙ sym g.count) (λ q x y e h.
    one_operation b.places once x y (λ t i. (let lt = f.targets_exist q t x e i in omega (arith, lt, count))) (λ u i. g.targets_exist q u y h i)
    (let left : operation_at given (place b.places q) ≡ Some (rename (place b.places) x) = subst (λ ps. operation_at given (place ps q) ≡ Some (rename (place ps) x)) places (f.ops_are q x e) in
    let right = g.ops_are q y h in
    cc)) in
    rw (places, ops, begins, entries, needed, map_same, imports) refl
