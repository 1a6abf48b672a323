use Rattle.std.proofs.Common.{ap, ◌∙◌}
use Rattle.outside.specs.Memory.{content_of}
use Rattle.outside.proofs.Slots.{OnOk-map, OnOk-or_OnErr, content_of-with_content, content_of-with_content-other}
use Rattle.outside.proofs.memory_folder.MemoryFolderFolder.TheImpl.Goals as goal

pub write-tells : goal.write-tells
write-tells c =
    let name = c.args.name.now in
    let old = c.args.self.now in
    record {
      answer = OnOk-map c.result (λ new. ap (λ folder. content_of folder name) new ∙ content_of-with_content old name _) c.ensures.ok;
      others = λ other apart. OnOk-or_OnErr c.result (λ new. ap (λ folder. content_of folder other) new ∙ content_of-with_content-other old name _ other apart) (λ new. ap (λ folder. content_of folder other) new) c.ensures.ok c.ensures.err;
      cause = c.ensures.cause;
      reads = OnOk-or_OnErr c.result (λ new. ap (λ folder. folder.read_faults) new) (λ new. ap (λ folder. folder.read_faults) new) c.ensures.ok c.ensures.err;
    }
