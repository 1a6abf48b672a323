use Rattle.std.proofs.Common.{sym, ◌∙◌, ap, ◌≡◌, ℕ, ◌-◌, ◌++◌, take, replicate, length, rules}
use Rattle.std.specs.Vec.{vec_len}
use Rattle.std.specs.Prelude.{slice_get, unwrap_or}
use Rattle.symbols.specs.Parts.{no_object}
use Rattle.relocs.specs.Images.{holds}
use Rattle.relocs.proofs.ImageParts.{section_added, on_ok, section_viewed}
use Rattle.relocs.proofs.sources.Sources.add_section.Goals as goal

pub returns : goal.returns
returns g c =
    let the_object = ap (λ objects. unwrap_or (slice_get objects c.args.object) no_object) (sym c.requires.0.objects_are) ∙ ap (λ x. unwrap_or x no_object) c.object.ensures in
    let x = section_viewed (slice_get c.object.result.now.sections c.args.section) c.section-view.result c.section-view.ensures.shows in
    let len : vec_len c.args.bytes.now ≡ length c.args.bytes.now.items = search rules in
    on_ok c.add_bytes.result
    (section_added c.aligned_is_least.ensures g.given c.args.part c.args.object c.args.section c.args.bytes.now.items c.resize.new.self.items _ c.section-view.result.content.now x.0 c.base.result c.start.result
    (ap (λ object. slice_get object.sections c.args.section) the_object ∙ x.1)
    (ap (holds c.args.part) (sym x.2.kind) ∙ sym c.holds.ensures ∙ c.if-not-holds.false)
    c.requires.1.1 c.base.ensures c.start.ensures
    (c.in_ok-resize.ensures.items ∙ ap (λ (n : ℕ). take (c.base.result - c.start.result) c.args.bytes.now.items ++ replicate (c.base.result - c.start.result - n) 0) len) x.2.content)
    c.add_bytes.ensures
