use Rattle.std.proofs.Common.{◌≡◌, ◌+◌, length}
use Rattle.polkatool_cmd.specs.Items.{items}
use Rattle.polkatool_cmd.specs.RunWords.{run_entries, gas_amounts, arguments, reply_files}
use Rattle.polkatool_cmd.proofs.run_words.setting_counts.Given as goal

abbrev pub invariant-loop-item : goal.invariant-loop-item
invariant-loop-item l = record {
  entries : l.counts.entries + length (run_entries (items l.rest)) ≡ length (run_entries (items l.words));
  gas_amounts : l.counts.gas_amounts + length (gas_amounts (items l.rest)) ≡ length (gas_amounts (items l.words));
  arguments : l.counts.arguments + length (arguments (items l.rest)) ≡ length (arguments (items l.words));
  reply_files : l.counts.reply_files + length (reply_files (items l.rest)) ≡ length (reply_files (items l.words));
}

abbrev pub decreases-loop-item : goal.decreases-loop-item
decreases-loop-item l = length l.rest
