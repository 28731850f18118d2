use Rattle.std.proofs.Common.{arith}
use Rattle.point_set.proofs.MostTimes.{some-weight}
use Rattle.point_set.proofs.times.first_weight.Goals as goal

pub returns-clause-weight : goal.returns-clause-weight
returns-clause-weight c = absurd (some-weight c.args.belief.now c.requires (λ s l. c.loop-s.invariant s (omega arith)))
