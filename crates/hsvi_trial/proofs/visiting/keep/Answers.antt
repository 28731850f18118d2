use Rattle.std.specs.Prelude.{IsTrue}
use Rattle.alpha_set.specs.Members.{node_data}
use Rattle.point_set.specs.Members.{point_data}
use Rattle.stage_game.proofs.LowerEnds.{belief-mass}
use Rattle.hsvi_trial.proofs.Holding.{nodes-go-on, points-go-on}
use Rattle.hsvi_trial.proofs.visiting.keep.Goals as goal

pub keep_point-left_point-requires-clause-measured : goal.keep_point-left_point-requires-clause-measured
keep_point-left_point-requires-clause-measured c = record {
  game = c.args.game.now;
  accepted = c.law_game.ensures.accepted;
  fit = c.requires.points.fit;
  corners = c.requires.points.corners;
  right = belief-mass c.args.game.now c.law_game.ensures.accepted c.args.belief.now c.requires.belief.right;
}

pub returns-clause-nodes : goal.returns-clause-nodes
returns-clause-nodes c =
    nodes-go-on c.args.game.now c.args.nodes.now.members c.keep_node-left_node.new.nodes.members c.args.belief.now (node_data c.args.node) c.keep_node-left_node.result.0.number c.requires.nodes c.keep_node-left_node.ensures.kept c.requires.node

pub returns-clause-points : goal.returns-clause-points
returns-clause-points c =
    points-go-on (IsTrue c.keep_node-left_node.result.0.refused) c.args.game.now c.args.points.now.members c.keep_point-left_point.new.points.members c.args.belief.now (point_data c.args.point) c.keep_point-left_point.result.0.number c.requires.points c.keep_point-left_point.ensures.kept c.requires.point
