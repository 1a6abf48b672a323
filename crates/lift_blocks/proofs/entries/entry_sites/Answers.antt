use Rattle.std.proofs.Common.{◌<◌, ◌∙◌, ap, sym, subst, length, arith}
use Rattle.relocs.specs.CodeMap.{place_of}
use Rattle.lift_blocks.specs.Known.{IsCodePlace}
use Rattle.lift_blocks.proofs.EntrySites.{entry_is_code, sites_next}
use Rattle.lift_blocks.proofs.FirstFault.{entry_is, entry_within}
use Rattle.lift_blocks.proofs.entries.entry_sites.Goals as goal

pub entry-requires : goal.entry-requires
entry-requires g c = entry_within g.given c.args.resolved.now c.loop-entry.entry c.requires.0 (omega (arith, c.loop-entry-test.true, c.requires.1.0))

pub code_site-requires : goal.code_site-requires
code_site-requires g c =
    let lt : c.loop-entry.entry < length g.given.wanted.entries = omega (arith, c.loop-entry-test.true, c.requires.1.0) in
    let is = entry_is g.given c.args.resolved.now c.loop-entry.entry c.entry.result c.requires.0 lt c.entry.ensures in
    subst IsCodePlace (sym is) (entry_is_code g.given c.loop-entry.entry c.requires.1.1 lt)

pub loop-entry-preserved : goal.loop-entry-preserved
loop-entry-preserved g c =
    let lt : c.loop-entry.entry < length g.given.wanted.entries = omega (arith, c.loop-entry-test.true, c.requires.1.0) in
    let is = entry_is g.given c.args.resolved.now c.loop-entry.entry c.entry.result c.requires.0 lt c.entry.ensures in
    sites_next g.given c.loop-entry.entry c.loop-entry.sites.items c.push.new.self.items c.code_site.result c.loop-entry.invariant c.in_ok-push.ensures.items (c.code_site.ensures ∙ ap place_of is)
