use Rattle.std.proofs.Common.{◌≡◌, length}
use Rattle.std.specs.List.{slice_get}
use Rattle.std.specs.Option.{option_map, option_or, option_copied}
use Rattle.polkatool_cmd.specs.Items.{items}
use Rattle.polkatool_cmd.specs.RunWords.{run_entries, gas_amounts, arguments, reply_files, blobs}
use Rattle.polkatool_cmd.specs.RunRead.{argument_bytes}
use Rattle.polkatool_cmd.proofs.run_words.first_values.Given as goal

abbrev pub invariant-loop-item : goal.invariant-loop-item
invariant-loop-item l = record {
  entry : option_or l.values.entry (slice_get (run_entries (items l.rest)) 0) ≡ slice_get (run_entries (items l.words)) 0;
  gas : option_or l.values.gas (slice_get (gas_amounts (items l.rest)) 0) ≡ slice_get (gas_amounts (items l.words)) 0;
  argument : option_or (option_map argument_bytes l.values.argument) (slice_get (arguments (items l.rest)) 0) ≡ slice_get (arguments (items l.words)) 0;
  replies : option_or (option_copied l.values.replies) (slice_get (reply_files (items l.rest)) 0) ≡ slice_get (reply_files (items l.words)) 0;
  blob : option_or (option_copied l.values.blob) (slice_get (blobs (items l.rest)) 0) ≡ slice_get (blobs (items l.words)) 0;
}

abbrev pub decreases-loop-item : goal.decreases-loop-item
decreases-loop-item l = length l.rest
