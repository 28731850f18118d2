use Rattle.std.proofs.Common.{arith, sym}
use Rattle.hsvi_draw.proofs.Positions.{after_draws-zero}
use Rattle.simulate.proofs.stages.draw_point.Goals as goal

pub returns-in-None-clause-moved : goal.returns-in-None-clause-moved
returns-in-None-clause-moved c = grind (arith, sym (after_draws-zero c.args.draw.now))
