use Rattle.std.proofs.Common.{◌-◌, arith}
use Rattle.link_core.proofs.MapLines.{digits-more}
use Rattle.link_core.proofs.map_text.+push_digits.Goals as goal

pub returns-in_ok-push : goal.returns-in_ok-push
returns-in_ok-push t c = digits-more c.args.count (c.args.count - 1) c.args.number _ _ _ _ (omega arith) c.in_ok-push_digits.ensures c.hex_digit.ensures c.in_ok-push.ensures.items
