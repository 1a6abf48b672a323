-- Where blocks begin while their offsets get longer one after the other.
use Rattle.std.specs.Prelude.{◌≡◌, ℕ, ◌+◌, ◌*◌, ◌/◌, ◌≤◌, ◌<◌, List, length, sum, Some, slice_get, slice_index}
use Rattle.jump_table.specs.Assembling.{most_bytes}
use Rattle.jump_table.specs.Shapes.{start, TargetsWithin, AtMost4, NoLonger}
use Rattle.jump_table.specs.declared.shapes.Shape.{Shape}
use Rattle.jump_table.specs.declared.settling.Places.{Places}
use Rattle.jump_table.specs.declared.settling.Span.{Span}

-- where a block begins: its start and the shift of the blocks around it
abbrev pub place_of : Places → ℕ → ℕ
place_of p t = slice_index p.starts.items t + slice_index p.shifts.items (t / 2048)

-- each block begins where it does with offsets of these lengths, if the first begins somewhere
pub record ArePlaced (shapes : List Shape) (lens : List ℕ) (p : Places) : Type 0 where
  pub base : ℕ
  pub count : length lens ≡ length shapes
  pub starts_count : length p.starts.items ≡ length shapes
  pub shifts_enough : length shapes ≤ 2048 * length p.shifts.items
  pub shifts_few : 2048 * length p.shifts.items < length shapes + 2048
  pub are : (t : ℕ) → t < length shapes → place_of p t ≡ base + start shapes lens t
  pub is_end : p.end ≡ base + start shapes lens (length shapes)
  pub small : p.end ≤ most_bytes
  pub targets : TargetsWithin shapes

-- lengths that grew from others, and are no longer than any wide enough ones
pub record Grown (shapes : List Shape) (from lens : List ℕ) : Type 0 where
  pub count : length lens ≡ length from
  pub most : AtMost4 from → AtMost4 lens
  pub least : NoLonger shapes from lens
  pub more : sum from ≤ sum lens

-- from where to where the offset of a block leads
pub record IsSpan (shapes : List Shape) (p : Places) (block : ℕ) (span : Span) : Type 0 where
  pub target : ℕ
  pub shape : Shape
  pub there : slice_get shapes block ≡ Some shape
  pub is_target : shape.target ≡ Some target
  pub from : span.from ≡ place_of p block + shape.front
  pub to : span.to ≡ place_of p target
  pub from_small : span.from ≤ most_bytes
  pub to_small : span.to ≤ most_bytes
