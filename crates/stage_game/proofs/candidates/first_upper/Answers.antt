use Rattle.std.proofs.Common.{[]}
use Rattle.scaled_num.proofs.Places.{IfOk-then}
use Rattle.stage_game.proofs.UpperEnds.{upper-serves}
use Rattle.stage_game.proofs.candidates.first_upper.Goals as goal

pub returns-clause-serve : goal.returns-clause-serve
returns-clause-serve c =
    IfOk-then c.corners_and.result (c.corners_and.ensures [] c.in_ok-others.ensures.items) (λ found are. upper-serves c.args.game.now c.args.points.now.members [] found.items tt are)
