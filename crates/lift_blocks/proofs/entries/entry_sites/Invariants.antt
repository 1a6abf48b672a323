use Rattle.std.proofs.Common.{◌≡◌, map}
use Rattle.std.specs.List.{range_with_len}
use Rattle.symbols.specs.Resolution.{entry_place}
use Rattle.relocs.specs.CodeMap.{place_of}
use Rattle.lift_blocks.specs.Kept.{site_of}
use Rattle.lift_blocks.proofs.entries.entry_sites.Given as goal

abbrev pub invariant-loop-entry : goal.invariant-loop-entry
invariant-loop-entry g l = map site_of l.sites.items ≡ map (λ at. place_of (entry_place g.given at)) (range_with_len 0 l.entry)
