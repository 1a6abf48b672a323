use Rattle.std.proofs.Common.{◌≡◌, map}
use Rattle.polkatool_cmd.proofs.Reading.{HasReadSoFar}
use Rattle.polkatool_cmd.proofs.link_objects.read_files.Given as goal

abbrev pub invariant-loop-at : goal.invariant-loop-at
invariant-loop-at g l = record {
  read : HasReadSoFar (g.F.Folder.files l.initial.files) (map (λ name. name.now) l.names) l.bundle l.at l.left;
  files : g.F.Folder.files l.files ≡ g.F.Folder.files l.initial.files;
  reads : g.F.Folder.read_faults l.files ≡ g.F.Folder.read_faults l.initial.files;
  writes : g.F.Folder.write_faults l.files ≡ g.F.Folder.write_faults l.initial.files;
}
