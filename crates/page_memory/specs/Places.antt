-- What a page table is after a part of it was borrowed to be changed.
use Rattle.std.specs.Prelude.{ℕ, ◌/◌, List, Option, Some, slice_set}
use Rattle.std.specs.Borrow.{LendsIf, MutBor, Fml}
use Rattle.page_memory.specs.Pages.{Kept, Leaf, with_place}
use Rattle.page_memory.specs.contracts.page.Page as page
use Rattle.page_memory.specs.contracts.tables.LeafTable as leaf
use Rattle.page_memory.specs.contracts.tables.PageTable as table

-- the leaf ends with the last page of the reference at the place
abbrev pub LendsPlace : MutBor (List (Option Kept)) → ℕ → Option (MutBor Kept) → Fml
LendsPlace s at r = LendsIf leaf.the_row page.the_row s r (λ w. slice_set s.now at (Some w)) s.now

-- the page table ends with the last leaf of the reference
abbrev pub LendsLeaf : MutBor (List Leaf) → ℕ → Option (MutBor (List (Option Kept))) → Fml
LendsLeaf t number r = LendsIf table.the_row leaf.the_row t r (λ w. slice_set t.now (number / 1024) (Some w)) t.now

-- the page table ends with the last page of the reference
abbrev pub LendsPage : MutBor (List Leaf) → ℕ → Option (MutBor Kept) → Fml
LendsPage t number r = LendsIf table.the_row page.the_row t r (λ w. with_place t.now number (Some w)) t.now
