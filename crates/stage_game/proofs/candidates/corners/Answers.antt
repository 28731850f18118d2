use Rattle.std.proofs.Common.{arith, rules}
use Rattle.stage_game.proofs.MadeCandidates.{corners-pushed}
use Rattle.stage_game.proofs.candidates.corners.Goals as goal

pub returns : goal.returns
returns c =
    corners-pushed c.args.game.now c.args.points.now.members c.loop-s.made.items c.loop-s.s c.loop-s.invariant.0 (search (rules, arith)) c.loop-s.invariant.1
