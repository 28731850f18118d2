use Rattle.backup.specs.Rooms.{HasRooms}
use Rattle.stage_game.specs.Asked.{NodesServe, PointsServe}
use Rattle.worked_rows.proofs.visits.visited.Given as goal

abbrev pub invariant-loop : goal.invariant-loop
invariant-loop l = record {
  room : HasRooms l.game l.solver;
  nodes : NodesServe l.game l.nodes.members;
  points : PointsServe l.game l.points.members;
}
