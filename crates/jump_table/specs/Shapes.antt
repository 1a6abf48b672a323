-- The blocks of a list by how many bytes they take, and where they begin with offsets of some lengths.
use Rattle.std.specs.Prelude.{◌≡◌, ℕ, zero, suc, ◌+◌, ◌-◌, ◌≤◌, ◌<◌, List, [], ◌∷◌, length, map, take, get_or, Option, Some, None, slice_get, slice_index}
use Rattle.runs.specs.Joined.{joined}
use Rattle.pvm_ops.specs.Fetch.{trap}
use Rattle.pvm_ops.specs.Spelling.{spelling}
use Rattle.pvm_ops.specs.BlockList.{Block, BlockList}
use Rattle.jump_table.specs.Assembly.{offset_len}
use Rattle.jump_table.specs.Assembling.{spelled}
use Rattle.jump_table.specs.Lengths.{FitsIn, Below}
use Rattle.jump_table.specs.declared.shapes.Shape.{Shape}

-- the bytes of the offset of a block that may have a target
abbrev pub offset_bytes : Option ℕ → ℕ → ℕ
offset_bytes None len = 0
offset_bytes (Some target) len = len

-- how many bytes a block takes with an offset of a length
abbrev pub size_with : Shape → ℕ → ℕ
size_with s len = s.front + s.last + offset_bytes s.target len

-- where a block begins, after those before it
abbrev pub start : List Shape → List ℕ → ℕ → ℕ
start [] lens t = 0
start (s ∷ shapes) lens zero = 0
start (s ∷ shapes) [] (suc t) = size_with s 0 + start shapes [] t
start (s ∷ shapes) (l ∷ lens) (suc t) = size_with s l + start shapes lens t

-- the shape of a block
abbrev pub shape_of : Block → Shape
shape_of b =
    let front = length b.instrs - 1 in record {
      front = length (joined (spelled offset_len (take front b.instrs)));
      last = length (spelling (get_or b.instrs front trap) offset_len) - offset_bytes b.target offset_len;
      target = b.target;
    }

-- those of all blocks
abbrev pub shapes_of : BlockList → List Shape
shapes_of list = map shape_of list.blocks

-- each distance fits its length
pub record Wide (shapes : List Shape) (lens : List ℕ) : Type 0 where
  pub most : (i : ℕ) → slice_index lens i ≤ 4
  pub fits : (i t : ℕ) (s : Shape) → slice_get shapes i ≡ Some s → s.target ≡ Some t → FitsIn (slice_index lens i) (start shapes lens i + s.front) (start shapes lens t)

-- where each block begins, if the first begins somewhere
pub record AreShapeStarts (base : ℕ) (shapes : List Shape) (lens starts : List ℕ) : Type 0 where
  pub starts_count : length starts ≡ length shapes
  pub are : (t : ℕ) → t < length shapes → slice_index starts t ≡ base + start shapes lens t

-- each target is a block
abbrev pub TargetsWithin : List Shape → Type 0
TargetsWithin shapes = (i t : ℕ) (s : Shape) → slice_get shapes i ≡ Some s → s.target ≡ Some t → t < length shapes

-- the distances of the first n blocks fit
abbrev pub FitBefore : List Shape → List ℕ → ℕ → Type 0
FitBefore shapes lens n = (i t : ℕ) (s : Shape) → i < n → slice_get shapes i ≡ Some s → s.target ≡ Some t → FitsIn (slice_index lens i) (start shapes lens i + s.front) (start shapes lens t)

abbrev pub AtMost4 : List ℕ → Type 0
AtMost4 lens = (i : ℕ) → slice_index lens i ≤ 4

-- what is no longer than any wide enough lengths
abbrev pub NoLonger : List Shape → List ℕ → List ℕ → Type 0
NoLonger shapes from lens = (other : List ℕ) → Wide shapes other → Below from other → Below lens other

-- the least length that a distance fits
pub record IsLeastLen (len from to : ℕ) : Type 0 where
  pub most : len ≤ 4
  pub fits : FitsIn len from to
  pub shorter : (other : ℕ) → other < len → FitsIn other from to → ⊥

-- a length is the least that an offset from a position to a block fits; 0 where there is none
abbrev pub Wanted : Option ℕ → ℕ → List ℕ → ℕ → Type 0
Wanted None from starts len = len ≡ 0
Wanted (Some target) from starts len = IsLeastLen len from (slice_index starts target)

-- and of the offset of a block
abbrev pub IsWanted : Shape → ℕ → List ℕ → ℕ → Type 0
IsWanted s at starts len = Wanted s.target (slice_index starts at + s.front) starts len
