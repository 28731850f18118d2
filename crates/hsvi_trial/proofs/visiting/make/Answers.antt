use Rattle.backup.proofs.Rooms.{lower-rooms, upper-moved, upper-rooms}
use Rattle.hsvi_trial.proofs.visiting.make.Goals as goal

pub upper_side-requires-clause-room : goal.upper_side-requires-clause-room
upper_side-requires-clause-room c =
    upper-rooms c.lower_side.new.solver c.args.game.now c.args.points.now.members c.law_game.ensures.accepted
    (upper-moved c.args.solver.now c.lower_side.new.solver c.args.game.now c.lower_side.ensures.rows c.lower_side.ensures.variables c.requires.upper)

pub lower_side-requires-clause-room : goal.lower_side-requires-clause-room
lower_side-requires-clause-room c = lower-rooms c.args.solver.now c.args.game.now c.args.nodes.now.members c.law_game.ensures.accepted c.requires.lower
