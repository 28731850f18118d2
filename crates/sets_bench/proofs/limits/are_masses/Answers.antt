use Rattle.std.proofs.Common.{[], arith}
use Rattle.game_model.specs.Game.{IsMass}
use Rattle.sets_bench.proofs.limits.are_masses.Goals as goal
use Rattle.scaled_num.proofs.Each.{each-by-place}

pub returns : goal.returns
returns c t = each-by-place (IsMass c.args.game.now) [] c.args.masses.now (λ k l. c.loop-mass.invariant k (omega arith))
