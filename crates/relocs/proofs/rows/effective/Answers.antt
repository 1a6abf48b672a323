use Rattle.std.proofs.Common.{◌∙◌, ◌++◌, ◌∷◌, [], if◌then◌else◌, ap, add-one}
use Rattle.elf_objects.specs.Objects.{relocations_of}
use Rattle.relocs.specs.ByOffset.{changes_something}
use Rattle.relocs.proofs.ByOffset.{filter_next, named_none, named_more}
use Rattle.relocs.proofs.rows.effective.Goals as goal

pub loop-at-init : goal.loop-at-init
loop-at-init c = (c.in_ok-found.ensures.items, named_none c.args.object.now (relocations_of c.args.object.now c.args.section))

pub loop-at-preserved : goal.loop-at-preserved
loop-at-preserved c = (
  rw add-one
      (c.in_ok-push_if.ensures ∙ ap (λ b. c.loop-at.found.items ++ (if b then c.relocation-relocation.result ∷ [] else [])) c.has_effect.ensures ∙ ap (λ l. l ++ (if changes_something c.relocation-relocation.result then c.relocation-relocation.result ∷ [] else [])) c.loop-at.invariant.0
      ∙ filter_next changes_something (relocations_of c.args.object.now c.args.section) c.loop-at.at c.relocation-relocation.result c.relocation-relocation.ensures.entry),
  named_more c.args.object.now (relocations_of c.args.object.now c.args.section) c.loop-at.at c.relocation-relocation.result c.loop-at.invariant.1 c.relocation-relocation.ensures.entry c.relocation-relocation.ensures.keeps.named,
)
