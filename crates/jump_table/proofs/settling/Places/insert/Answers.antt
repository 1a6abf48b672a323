use Rattle.std.proofs.Common.{◌≡◌, ℕ, ◌*◌, ◌/◌, ◌<◌, ◌≤◌, length, arith}
use Rattle.jump_table.proofs.settling.Places.insert.Goals as goal

pub add-requires-2-clause-small : goal.add-requires-2-clause-small
add-requires-2-clause-small c k from to =
    let there : 2048 * k < length c.args.self.now.starts.items = omega (arith, to, c.len-count.ensures) in
    let is : 2048 * k / 2048 ≡ k = omega arith in
    let small = rw is at (c.requires.small (2048 * k) there) in
    omega (arith, small, c.requires.by)
