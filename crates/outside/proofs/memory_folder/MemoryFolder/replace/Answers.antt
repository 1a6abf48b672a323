use Rattle.std.proofs.Common.{◌↔◌, IsErr, length, refl, sym, subst}
use Rattle.outside.specs.Memory.{LacksRoom}
use Rattle.outside.proofs.Slots.{located, room_of-first, room_of-none, with_content-set, OnOk-map}
use Rattle.outside.proofs.memory_folder.MemoryFolder.replace.Goals as goal

pub returns-in-Some-clause-fails : goal.returns-in-Some-clause-fails
returns-in-Some-clause-fails c =
    let files = c.self.inside.files.items in
    let at = located _ files _ _ _ c.deref.ensures.value c.position.ensures c.in-Some.is in
    let room = room_of-first _ _ files _ _ _ c.self.view_is refl at c.index_mut.ensures.value in
    subst (λ room. IsErr c.write.result ↔ LacksRoom room (length c.args.bytes.now)) (sym room) c.write.ensures.fails

pub returns-in-Some-clause-ok : goal.returns-in-Some-clause-ok
returns-in-Some-clause-ok c =
    let files = c.self.inside.files.items in
    let at = located _ files _ _ _ c.deref.ensures.value c.position.ensures c.in-Some.is in
    OnOk-map c.write.result (with_content-set _ _ files _ _ _ _ _ c.self.view_is refl at c.index_mut.ensures.value) c.write.ensures.ok

pub returns-in-None-clause-fails : goal.returns-in-None-clause-fails
returns-in-None-clause-fails c =
    let files = c.self.inside.files.items in
    let none = located _ files _ _ _ c.deref.ensures.value c.position.ensures c.in-None.is in
    let room = room_of-none _ _ files _ c.self.view_is refl none in
    (λ _. subst (λ room. LacksRoom room (length c.args.bytes.now)) (sym room) tt, λ _. refl)
