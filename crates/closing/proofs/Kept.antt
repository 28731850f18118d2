-- Members that are kept, in another's place or behind the others, and what the sets are then good for.
use Rattle.std.proofs.Common.{◌≡◌, ℕ, ◌+◌, ◌<◌, ◌≤◌, List, [], ◌∷◌, ◌++◌, length, inl, inr, arith, ap, sym, subst, ◌∙◌, length-append}
use Rattle.std.proofs.lemmas.List.{append-nil, get_or_append_left, length-set}
use Rattle.std.proofs.lemmas.Int.{ints}
use Rattle.std.specs.Prelude.{ℤ, slice_index_or, slice_set, ◌≤ℤ◌}
use Rattle.alpha_set.specs.Changes.{IsNowhereLower}
use Rattle.alpha_set.specs.Members.{most_nodes}
use Rattle.alpha_set.specs.Nodes.{NodeData, NodeFits, NodeStands, no_node, node_of, nodes_of}
use Rattle.alpha_set.specs.Worth.{AreWeighed}
use Rattle.alpha_set.proofs.Changing.{raised-stand, replaced-fit as node-replaced-fit, replaced-rise}
use Rattle.backup.proofs.GrownSets.{long-corner, node-fits-more, nodes-with, points-with}
use Rattle.belief.specs.Beliefs.{corner_of}
use Rattle.game_model.specs.Game.{GameData, IsBelief, IsGame, IsMass, numbers}
use Rattle.game_model.proofs.Pay.{each-from}
use Rattle.point_set.specs.Changes.{IsLower}
use Rattle.point_set.specs.Corners.{point_at}
use Rattle.point_set.specs.Members.{most_points}
use Rattle.point_set.specs.Points.{PointData, PointFits, PointStands, no_point, point_of, points_of}
use Rattle.point_set.specs.Sawtooth.{AreMeasured}
use Rattle.point_set.proofs.Fitting.{fits-more}
use Rattle.point_set.proofs.Lowering.{lowered-stand, replaced-fit as point-replaced-fit, replaced-lower}
use Rattle.stage_game.specs.Asked.{BeliefFits, NodesServe, PointsServe}
use Rattle.stage_game.proofs.LowerEnds.{belief-mass}
use Rattle.closing.specs.Better.{AreNodes, ArePoints, IsAddedOrNot, NodesGoOn, PointsGoOn}
use Rattle.closing.proofs.GoOn.{nodes-same, points-same}

itself : (a : ℤ) → a ≤ℤ a
itself a = omega (arith, ints)

-- ---- nodes
pub nodes-replaced : (g : GameData) (nodes : List NodeData) (number : ℕ) (node : NodeData) → AreNodes g nodes → number < length nodes → IsNowhereLower g.shape.states (slice_index_or nodes number no_node).vector node.vector → NodeFits g (length nodes) node →
    ((more : List NodeData) → NodeStands (numbers g) (nodes_of (nodes ++ more)) (node_of node)) → NodesGoOn g nodes (slice_set nodes number node)
nodes-replaced g nodes number node are inside lower fits stays =
    let long : length (slice_set nodes number node) ≡ length nodes = length-set nodes number node in
    let stands : NodeStands (numbers g) (nodes_of nodes) (node_of node) = subst (λ (xs : List NodeData). NodeStands (numbers g) (nodes_of xs) (node_of node)) (append-nil nodes) (stays []) in
    let some = are.some in
    let few = are.few in
    record {
      are = record {
        some = omega (arith, long);
        few = omega (arith, long);
        sound = record {
          fit = node-replaced-fit g nodes number node are.sound.fit fits;
          stand = raised-stand (numbers g) nodes number node are.sound.stand inside lower stands;
        };
      };
      raised = record { count = omega (arith, long); higher = λ i s li ls. replaced-rise (numbers g) nodes number node inside lower i s ls };
    }

pub nodes-added : (g : GameData) (nodes : List NodeData) (node : NodeData) (after : List NodeData) → AreNodes g nodes → length after ≤ most_nodes → NodeFits g (length nodes) node →
    ((more : List NodeData) → NodeStands (numbers g) (nodes_of (nodes ++ more)) (node_of node)) → IsAddedOrNot nodes node after → NodesGoOn g nodes after
nodes-added g nodes node after are few fits stays (inl e) = subst (NodesGoOn g nodes) (sym e) (nodes-same g nodes are)
nodes-added g nodes node after are few fits stays (inr e) = subst (NodesGoOn g nodes) (sym e) (grown (subst (λ (xs : List NodeData). length xs ≤ most_nodes) e few))
  where
    grown : length (nodes ++ node ∷ []) ≤ most_nodes → NodesGoOn g nodes (nodes ++ node ∷ [])
    grown l =
        let long : length (nodes ++ node ∷ []) ≡ length nodes + 1 = length-append nodes (node ∷ []) in
        let some = are.some in
        record {
          are = record { some = omega (arith, long); few = l; sound = nodes-with g nodes node are.sound fits (stays (node ∷ [])) };
          raised = record {
            count = omega (arith, long);
            higher = λ i s li ls. subst (λ (x : NodeData). ((nodes_of nodes i).vector s) ≤ℤ ((node_of x).vector s)) (sym (get_or_append_left nodes (node ∷ []) no_node i li)) (itself ((nodes_of nodes i).vector s));
          };
        }

pub nodes-serve : (g : GameData) (nodes : List NodeData) → AreNodes g nodes → NodesServe g nodes
nodes-serve g nodes are = record {
  some = are.some;
  fit = each-from (NodeFits g (length nodes)) (NodeFits g most_nodes) nodes (λ x h. node-fits-more g (length nodes) most_nodes x are.few h) are.sound.fit;
}

-- ---- points
pub points-replaced : (g : GameData) (points : List PointData) (number : ℕ) (point : PointData) → ArePoints g points → number < length points → IsLower (point_at points number) point → PointFits g (length points) point →
    ((more : List PointData) → PointStands (numbers g) (points_of (points ++ more)) (point_of point)) → PointsGoOn g points (slice_set points number point)
points-replaced g points number point are inside lower fits stays =
    let long : length (slice_set points number point) ≡ length points = length-set points number point in
    let stands : PointStands (numbers g) (points_of points) (point_of point) = subst (λ (xs : List PointData). PointStands (numbers g) (points_of xs) (point_of point)) (append-nil points) (stays []) in
    let some = are.some in
    let few = are.few in
    record {
      are = record {
        some = omega (arith, long);
        few = omega (arith, long);
        sound = record {
          fit = point-replaced-fit g points number point are.sound.fit fits;
          stand = lowered-stand (numbers g) points number point are.sound.stand inside lower stands;
        };
        corners = λ s ls. (replaced-lower points number point inside lower s).belief ∙ are.corners s ls;
      };
      lowered = record {
        count = omega (arith, long);
        beliefs = λ j lj. (replaced-lower points number point inside lower j).belief;
        values = λ j lj. (replaced-lower points number point inside lower j).value;
      };
    }

pub points-added : (g : GameData) (points : List PointData) (point : PointData) (after : List PointData) → ArePoints g points → length after ≤ most_points → PointFits g (length points) point →
    ((more : List PointData) → PointStands (numbers g) (points_of (points ++ more)) (point_of point)) → IsAddedOrNot points point after → PointsGoOn g points after
points-added g points point after are few fits stays (inl e) = subst (PointsGoOn g points) (sym e) (points-same g points are)
points-added g points point after are few fits stays (inr e) = subst (PointsGoOn g points) (sym e) (grown (subst (λ (xs : List PointData). length xs ≤ most_points) e few))
  where
    same : (j : ℕ) → j < length points → point_at (points ++ point ∷ []) j ≡ point_at points j
    same j lj = get_or_append_left points (point ∷ []) no_point j lj

    grown : length (points ++ point ∷ []) ≤ most_points → PointsGoOn g points (points ++ point ∷ [])
    grown l =
        let long : length (points ++ point ∷ []) ≡ length points + 1 = length-append points (point ∷ []) in
        let some = are.some in
        record {
          are = record {
            some = omega (arith, long);
            few = l;
            sound = points-with g points point are.sound fits (stays (point ∷ []));
            corners = λ s ls. ap (λ (x : PointData). x.belief) (same s (omega (arith, ls, some))) ∙ are.corners s ls;
          };
          lowered = record {
            count = omega (arith, long);
            beliefs = λ j lj. ap (λ (x : PointData). x.belief) (same j lj);
            values = λ j lj. subst (λ (x : PointData). x.value ≤ℤ (point_at points j).value) (sym (same j lj)) (itself (point_at points j).value);
          };
        }

pub points-serve : (g : GameData) (points : List PointData) → ArePoints g points → PointsServe g points
points-serve g points are = record {
  corners = λ s ls.
      let there = are.corners s ls in
      let some = are.some in
      let long : length (point_at points s).belief ≡ g.shape.states = ap length there ∙ long-corner g.shape.states s in
      record {
        number = s;
        inside = omega (arith, ls, some);
        corner = record {
          state = subst (λ (n : ℕ). s < n) (sym long) ls;
          belief = there ∙ ap (λ (n : ℕ). corner_of n s) (sym long);
        };
      };
  fit = each-from (PointFits g (length points)) (PointFits g most_points) points (λ x h. fits-more g (length points) most_points x are.few h) are.sound.fit;
}

-- ---- what sets are worth at a mass may be asked
pub nodes-asked : (g : GameData) (nodes : List NodeData) (mass : List ℤ) → IsGame g → AreNodes g nodes → IsMass g mass → AreWeighed nodes mass
nodes-asked g nodes mass game are right = record { game = g; accepted = game; fit = (nodes-serve g nodes are).fit; right = right }

pub nodes-weighed : (g : GameData) (nodes : List NodeData) (belief : List ℤ) → IsGame g → AreNodes g nodes → BeliefFits g belief → AreWeighed nodes belief
nodes-weighed g nodes belief game are fits = nodes-asked g nodes belief game are (belief-mass g game belief fits.right)

pub points-asked : (g : GameData) (points : List PointData) (mass : List ℤ) → IsGame g → ArePoints g points → IsMass g mass → AreMeasured points mass
points-asked g points mass game are right = record {
  game = g;
  accepted = game;
  fit = (points-serve g points are).fit;
  corners = (points-serve g points are).corners;
  right = right;
}

pub points-measured : (g : GameData) (points : List PointData) (belief : List ℤ) → IsGame g → ArePoints g points → IsBelief g.shape.states belief → AreMeasured points belief
points-measured g points belief game are fits = points-asked g points belief game are (belief-mass g game belief fits)
