use Rattle.std.proofs.Common.{arith}
use Rattle.simulate.proofs.Lengths.{has-limits}
use Rattle.simulate.proofs.gains.denominator.Goals as goal

pub returns-clause-some : goal.returns-clause-some
returns-clause-some c = let limits = has-limits c.args.game.now c.law_game.ensures.accepted in let some = limits.some in grind (arith, some)

pub returns-clause-small : goal.returns-clause-small
returns-clause-small c = let limits = has-limits c.args.game.now c.law_game.ensures.accepted in let small = limits.under in grind (arith, small)
