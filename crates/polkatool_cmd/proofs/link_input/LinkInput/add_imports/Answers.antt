use Rattle.std.proofs.Common.{◌≡◌, ◌∷◌, ◌++◌, arith}
use Rattle.std.proofs.lemmas.Grind.{common_steps}
use Rattle.polkatool_cmd.specs.LinkRead.{read_import}
use Rattle.polkatool_cmd.specs.Items.{items}
use Rattle.polkatool_cmd.specs.LinkWords.{imports}
use Rattle.polkatool_cmd.proofs.Importing.{repeats_import-named, import_of-next}
use Rattle.polkatool_cmd.proofs.link_input.LinkInput.add_imports.Goals as goal

pub import-requires-in-Some-import-clause-new_name : goal.import-requires-in-Some-import-clause-new_name
import-requires-in-Some-import-clause-new_name c =
    let next : c.loop-item.wanted.imports ++ read_import c.in-Some-import.import ∷ imports (items c.in-Some.after.now) ≡ imports (items c.args.self.now.words.now) = grind (arith, common_steps) in
    import_of-next c.loop-item.wanted (read_import c.in-Some-import.import) _ _ next (repeats_import-named (items c.args.self.now.words.now) c.args.self.now.named)
