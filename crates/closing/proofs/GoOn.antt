-- Members that go on from others, step by step.
use Rattle.std.proofs.Common.{◌≡◌, ℕ, ◌<◌, List, length, arith, refl, ◌∙◌}
use Rattle.std.specs.Prelude.{ℤ, ◌≤ℤ◌}
use Rattle.std.specs.List.{AllByRecursion}
use Rattle.std.proofs.lemmas.Int.{ints}
use Rattle.alpha_set.specs.Nodes.{NodeData, NodeFits, NodeStands, nodes_of}
use Rattle.game_model.specs.Game.{GameData, numbers}
use Rattle.point_set.specs.Corners.{point_at}
use Rattle.point_set.specs.Points.{PointData, PointFits, PointStands, points_of}
use Rattle.closing.specs.Better.{AreNodes, ArePoints, NodesGoOn, PointsGoOn}

through : {a b c : ℤ} → a ≤ℤ b → b ≤ℤ c → a ≤ℤ c
through l m = omega (arith, ints)

itself : (a : ℤ) → a ≤ℤ a
itself a = omega (arith, ints)

-- ---- nodes
pub nodes-same : (g : GameData) (nodes : List NodeData) → AreNodes g nodes → NodesGoOn g nodes nodes
nodes-same g nodes are = record {
  are = are;
  raised = record { count = omega arith; higher = λ i s li ls. itself ((nodes_of nodes i).vector s) };
}

pub nodes-through : (g : GameData) (first next last : List NodeData) → NodesGoOn g first next → NodesGoOn g next last → NodesGoOn g first last
nodes-through g first next last one other = record {
  are = other.are;
  raised = record {
    count = omega (arith, one.raised.count, other.raised.count);
    higher = λ i s li ls. through (one.raised.higher i s li ls) (other.raised.higher i s (omega (arith, li, one.raised.count)) ls);
  };
}

-- nodes that fit and stand, as many as before and none lower
pub nodes-lifted : (g : GameData) (before after : List NodeData) → AreNodes g before → length after ≡ length before →
    ((k s : ℕ) → s < g.shape.states → ((nodes_of before k).vector s) ≤ℤ ((nodes_of after k).vector s)) → AllByRecursion (NodeFits g (length after)) after →
    ((i : ℕ) → i < length after → NodeStands (numbers g) (nodes_of after) (nodes_of after i)) → NodesGoOn g before after
nodes-lifted g before after are count higher fit stand =
    let some = are.some in
    let few = are.few in
    record {
      are = record { some = omega (arith, count); few = omega (arith, count); sound = record { fit = fit; stand = stand } };
      raised = record { count = omega (arith, count); higher = λ i s li ls. higher i s ls };
    }

-- ---- points
pub points-same : (g : GameData) (points : List PointData) → ArePoints g points → PointsGoOn g points points
points-same g points are = record {
  are = are;
  lowered = record { count = omega arith; beliefs = λ j lj. refl; values = λ j lj. itself (point_at points j).value };
}

pub points-through : (g : GameData) (first next last : List PointData) → PointsGoOn g first next → PointsGoOn g next last → PointsGoOn g first last
points-through g first next last one other = record {
  are = other.are;
  lowered = record {
    count = omega (arith, one.lowered.count, other.lowered.count);
    beliefs = λ j lj. other.lowered.beliefs j (omega (arith, lj, one.lowered.count)) ∙ one.lowered.beliefs j lj;
    values = λ j lj. through (other.lowered.values j (omega (arith, lj, one.lowered.count))) (one.lowered.values j lj);
  };
}

pub points-settled : (g : GameData) (before after : List PointData) → ArePoints g before → length after ≡ length before →
    ((j : ℕ) → (point_at after j).value ≤ℤ (point_at before j).value) → ((j : ℕ) → (point_at after j).belief ≡ (point_at before j).belief) →
    AllByRecursion (PointFits g (length after)) after → ((j : ℕ) → j < length after → PointStands (numbers g) (points_of after) (points_of after j)) → PointsGoOn g before after
points-settled g before after are count lower same fit stand =
    let some = are.some in
    let few = are.few in
    record {
      are = record {
        some = omega (arith, count);
        few = omega (arith, count);
        sound = record { fit = fit; stand = stand };
        corners = λ s ls. same s ∙ are.corners s ls;
      };
      lowered = record { count = omega (arith, count); beliefs = λ j lj. same j; values = λ j lj. lower j };
    }
