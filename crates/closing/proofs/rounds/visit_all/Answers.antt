use Rattle.closing.proofs.GoOn.{nodes-through, points-through}
use Rattle.closing.proofs.rounds.visit_all.Goals as goal

pub loop-s-preserved : goal.loop-s-preserved
loop-s-preserved c = (
  nodes-through c.args.game.now c.args.nodes.now.members c.loop-s.nodes.members c.visit_corner.new.nodes.members c.loop-s.invariant.0 c.in_ok-visit_corner.ensures.nodes,
  points-through c.args.game.now c.args.points.now.members c.loop-s.points.members c.visit_corner.new.points.members c.loop-s.invariant.1 c.in_ok-visit_corner.ensures.points,
)
