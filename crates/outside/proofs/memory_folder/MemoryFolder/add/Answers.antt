use Rattle.std.proofs.Common.{refl}
use Rattle.outside.proofs.Slots.{located, with_content-set, with_content-push, OnOk-map}
use Rattle.outside.proofs.memory_folder.MemoryFolder.add.Goals as goal

pub returns-in-Some-clause-ok : goal.returns-in-Some-clause-ok
returns-in-Some-clause-ok c =
    let files = c.self.inside.files.items in
    let at = located _ files _ _ _ c.deref.ensures.value c.position.ensures c.in-Some.is in
    OnOk-map c.set_content.result (with_content-set _ _ files _ _ _ _ _ c.self.view_is refl at c.index_mut.ensures.value) c.set_content.ensures.ok

pub returns-clause-ok : goal.returns-clause-ok
returns-clause-ok c =
    let files = c.self.inside.files.items in
    let none = located _ files _ _ _ c.deref.ensures.value c.position.ensures c.in_default.is in
    with_content-push _ _ files _ _ _ _ _ c.self.view_is refl none c.in_ok-file.ensures c.in_ok-set_content.ensures.ok c.in_ok-push.ensures.items
