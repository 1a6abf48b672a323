use Rattle.std.proofs.Common.{sym, ◌∙◌, refl}
use Rattle.outside.proofs.Slots.{located, content_of-first, content_of-none}
use Rattle.outside.proofs.memory_folder.MemoryFolder.file.Goals as goal

pub returns-in-Some : goal.returns-in-Some
returns-in-Some c =
    let files = c.self.inside.files.items in
    let at = located _ files _ _ _ c.deref.ensures.value c.position.ensures c.in-Some.is in
    c.content.ensures ∙ sym (content_of-first _ _ files _ _ _ c.self.view_is refl at c.index.ensures)

pub returns-in-None : goal.returns-in-None
returns-in-None c =
    let files = c.self.inside.files.items in
    let none = located _ files _ _ _ c.deref.ensures.value c.position.ensures c.in-None.is in
    sym (content_of-none _ _ files _ c.self.view_is refl none)
