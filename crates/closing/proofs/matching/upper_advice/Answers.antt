use Rattle.closing.proofs.ForPairs.{upper-fits}
use Rattle.closing.proofs.matching.upper_advice.Goals as goal

pub returns : goal.returns
returns c = upper-fits c.args.game.now c.args.points.now.members _ c.in_ok-own.ensures c.in_ok-wanted.ensures c.in_ok-informed.ensures
