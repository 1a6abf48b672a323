use Rattle.std.proofs.Common.{ℕ, ◌≡◌, ◌<◌, ◌≤◌, ◌-◌, map}
use Rattle.std.specs.Prelude.{slice_get, Some}
use Rattle.relocs.specs.Places.{CodePlace}
use Rattle.lift_blocks.specs.Kept.{site_of}
use Rattle.lift_blocks.specs.Rank.{rank_of}
use Rattle.lift_blocks.proofs.search.first_from.Given as goal

abbrev pub invariant-loop-low : goal.invariant-loop-low
invariant-loop-low l = record {
  within : l.high ≤ l.to;
  below : (k : ℕ) (p : CodePlace) → l.from ≤ k → k < l.low → slice_get (map site_of l.places) k ≡ Some p → rank_of p < rank_of (site_of l.place);
  above : (k : ℕ) (p : CodePlace) → l.high ≤ k → k < l.to → slice_get (map site_of l.places) k ≡ Some p → rank_of (site_of l.place) ≤ rank_of p;
}

abbrev pub decreases-loop-low : goal.decreases-loop-low
decreases-loop-low l = l.high - l.low
