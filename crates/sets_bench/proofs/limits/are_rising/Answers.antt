use Rattle.std.proofs.Common.{arith}
use Rattle.sets_bench.proofs.Rising.{rising-from}
use Rattle.sets_bench.proofs.limits.are_rising.Goals as goal

pub returns : goal.returns
returns c t = rising-from c.args.wanted.now (λ k l. c.loop-place.invariant k (omega arith))
