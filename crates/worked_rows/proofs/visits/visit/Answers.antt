use Rattle.std.proofs.Common.{subst, sym}
use Rattle.alpha_set.specs.Members.{node_data}
use Rattle.point_set.specs.Members.{point_data}
use Rattle.backup.proofs.Rooms.{lower-rooms, rooms-moved, upper-moved, upper-rooms}
use Rattle.stage_game.specs.Asked.{BeliefFits, NodesServe, PointsServe}
use Rattle.worked_rows.proofs.SeedsServe.{first-fits, nodes-kept, points-kept}
use Rattle.worked_rows.proofs.visits.visit.Goals as goal

pub lower_visit-requires-clause-belief : goal.lower_visit-requires-clause-belief
lower_visit-requires-clause-belief c =
    subst (BeliefFits c.args.game.now) (sym c.first_of-belief.ensures) (first-fits c.args.game.now c.law_game.ensures.accepted)

pub upper_visit-requires-clause-belief : goal.upper_visit-requires-clause-belief
upper_visit-requires-clause-belief c =
    subst (BeliefFits c.args.game.now) (sym c.first_of-belief.ensures) (first-fits c.args.game.now c.law_game.ensures.accepted)

pub lower_visit-requires-clause-room : goal.lower_visit-requires-clause-room
lower_visit-requires-clause-room c =
    lower-rooms c.args.solver.now c.args.game.now c.args.nodes.now.members c.law_game.ensures.accepted c.requires.room.lower

pub upper_visit-requires-clause-room : goal.upper_visit-requires-clause-room
upper_visit-requires-clause-room c =
    upper-rooms c.lower_visit.new.solver c.args.game.now c.args.points.now.members c.law_game.ensures.accepted
    (upper-moved c.args.solver.now c.lower_visit.new.solver c.args.game.now
    c.lower_visit.ensures.rows c.lower_visit.ensures.variables c.requires.room.upper)

pub returns-clause-room : goal.returns-clause-room
returns-clause-room c =
    rooms-moved c.lower_visit.new.solver c.upper_visit.new.solver c.args.game.now
    c.upper_visit.ensures.rows c.upper_visit.ensures.variables
    (rooms-moved c.args.solver.now c.lower_visit.new.solver c.args.game.now
    c.lower_visit.ensures.rows c.lower_visit.ensures.variables c.requires.room)

pub returns-clause-nodes : goal.returns-clause-nodes
returns-clause-nodes c =
    subst (NodesServe c.args.game.now) (sym c.in-Ok.ensures.added)
    (nodes-kept c.args.game.now c.args.nodes.now.members (node_data c.in_ok-lower.node) c.len.ensures.few c.requires.nodes c.in_ok-lower.ensures.fits)

pub returns-clause-points : goal.returns-clause-points
returns-clause-points c =
    subst (PointsServe c.args.game.now) (sym c.in-Ok-push.ensures.added)
    (points-kept c.args.game.now c.args.points.now.members (point_data c.in_ok-upper.point) c.len-2.ensures.few c.requires.points c.in_ok-upper.ensures.fits)
