use Rattle.std.proofs.Common.{arith, ◌^◌}
use Rattle.std.proofs.lemmas.Int.{ints}
use Rattle.scaled_num.proofs.Sums.{sum-most}
use Rattle.game_model.proofs.limits.is_belief.Goals as goal

pub sum-total-requires-clause-most : goal.sum-total-requires-clause-most
sum-total-requires-clause-most c = omega (arith, ints, sum-most (2 ^ 20) c.args.weights.now (c.are_weights.ensures.0 c.if-not-are_weights.false))
