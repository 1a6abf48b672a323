-- A block is a group of segments: one, unless it calls the host, since a call ends its segment. The number of a block's
-- first segment is its position among the groups.
use Rattle.std.specs.Prelude.{Bool, List, [], ◌∷◌, ◌++◌}
use Rattle.runs.specs.Blocks.{with_first}
use Rattle.runs.specs.Segments.{Segment}

-- a list cut after each element that ends a part
abbrev pub parts : {A : Type 0} → (A → Bool) → List A → List (List A)
parts ends [] = []
parts ends (x ∷ xs) = with_first (ends x) x (parts ends xs)

-- the segments of parts, each lowered as a whole; only the last has instructions after it
abbrev pub segments_of : {Op Instr : Type 0} → (List Op → List Instr) → List Instr → List (List Op) → List (Segment Op Instr)
segments_of lower tail [] = record { ops = []; instrs = tail } ∷ []
segments_of lower tail (ops ∷ []) = record { ops = ops; instrs = lower ops ++ tail } ∷ []
segments_of lower tail (ops ∷ next ∷ rest) = record { ops = ops; instrs = lower ops } ∷ segments_of lower tail (next ∷ rest)
