use Rattle.std.proofs.Common.{arith, sym}
use Rattle.hsvi_draw.proofs.Positions.{after_draws-zero}
use Rattle.simulate.proofs.starts.draw_member.Goals as goal

pub returns-then-starts-eq1-clause-moved : goal.returns-then-starts-eq1-clause-moved
returns-then-starts-eq1-clause-moved c = grind (arith, sym (after_draws-zero c.args.draw.now))
