use Rattle.std.proofs.Common.{rules, length, ◌≤◌}
use Rattle.sets_bench.proofs.Rising.{right_wanted}
use Rattle.sets_bench.proofs.limits.are_wanted.Goals as goal

pub returns : goal.returns
returns c t =
    let some : 1 ≤ length c.args.wanted.now = search rules in
    let most : length c.args.wanted.now ≤ 8 = search rules in
    right_wanted c.args.points.now.members c.args.states c.current_corners-corners.result c.args.wanted.now c.current_corners-corners.ensures some most
    (c.are_rising.ensures c.if-not-are_rising.false) (c.are_inside.ensures c.if-not-are_inside.false) (c.are_weights.ensures t)
