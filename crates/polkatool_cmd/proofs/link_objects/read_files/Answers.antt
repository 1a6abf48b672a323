use Rattle.std.proofs.Common.{refl, rules, ap, ◌∙◌, ◌++◌, ◌∷◌, []}
use Rattle.polkatool_cmd.proofs.Reading.{none_read, read_more, fails_to_read, name_there}
use Rattle.polkatool_cmd.proofs.link_objects.read_files.Goals as goal

pub loop-at-init : goal.loop-at-init
loop-at-init g c = record { read = none_read _ _ _ c.new-bundle.ensures; files = refl; reads = refl; writes = refl }

pub returns-in-Err-clause-read : goal.returns-in-Err-clause-read
returns-in-Err-clause-read g c =
    let fails = rw (c.loop-at.invariant.files, c.loop-at.invariant.reads) at c.in-Err.ensures.read in
    fails_to_read _ _ _ c.loop-at.at c.loop-at.left _ _ _ _ c.loop-at.invariant.read (name_there c.args.names.now c.loop-at.at _ c.loop-at-test.true) fails

pub loop-at-preserved : goal.loop-at-preserved
loop-at-preserved g c =
    let held = rw c.loop-at.invariant.files at c.in-Ok.ensures.read.0 in
    record {
      read = read_more _ _ _ _ c.loop-at.at c.loop-at.left c.len.result _ _ c.loop-at.invariant.read (name_there c.args.names.now c.loop-at.at _ c.loop-at-test.true)
          held c.in-Ok.ensures.read.1 (c.in-Ok-add.ensures.ok ∙ ap (λ f. c.loop-at.bundle ++ (f ∷ [])) c.as_slice.ensures) c.len.ensures;
      files = search rules;
      reads = search rules;
      writes = search rules;
    }
