-- Sets whose members stand, with what a visit keeps.
use Rattle.std.proofs.Common.{◌≡◌, ◌⊎◌, ℕ, ◌<◌, ◌≤◌, Option, Some, None, List, [], ◌∷◌, ◌++◌, length, inl, inr, ap, sym, subst, ◌∙◌, arith}
use Rattle.std.proofs.Math.ListN.{get_or-eq_default}
use Rattle.std.proofs.lemmas.List.{get_or_append_left}
use Rattle.std.specs.Prelude.{ℤ, slice_index_or}
use Rattle.belief.specs.Beliefs.{corner_of}
use Rattle.game_model.specs.Game.{GameData, IsGame, numbers}
use Rattle.game_model.proofs.Pay.{each-from}
use Rattle.alpha_set.specs.Members.{most_nodes}
use Rattle.alpha_set.specs.Nodes.{NodeData, NodeFits, NodeStands, node_of, nodes_of}
use Rattle.point_set.specs.Corners.{point_at}
use Rattle.point_set.specs.Members.{most_points}
use Rattle.point_set.specs.Points.{PointData, PointFits, PointStands, no_point, point_of, points_of}
use Rattle.point_set.proofs.Fitting.{fits-more}
use Rattle.stage_game.specs.Asked.{NodesServe, PointsServe}
use Rattle.hsvi_trial.specs.Due.{KeepsNode, KeepsPoint}
use Rattle.hsvi_trial.specs.Sets.{AreStanding, Sets}
use Rattle.backup.specs.Standing.{NodesFitAndStand, PointsFitAndStand}
use Rattle.backup.proofs.GrownSets.{long-corner, node-fits-more, nodes-with, points-with}

-- ---- the corners are among the points
pub some-corner : (g : GameData) (sets : Sets) → IsGame g → AreStanding g sets → (s : ℕ) → s < g.shape.states → s < length sets.points
some-corner g sets game old s l = elim (either s (length sets.points)) [ inl k ↦ k | inr k ↦ absurd (none k) ]
  where
    either : (n m : ℕ) → (n < m) ⊎ (m ≤ n)
    either n m = grind arith

    none : length sets.points ≤ s → ⊥
    none k =
        let empty : no_point.belief ≡ corner_of g.shape.states s = ap (λ (p : PointData). p.belief) (sym (get_or-eq_default sets.points no_point {n = s} k)) ∙ old.corners s l in
        omega (arith, ap length empty, long-corner g.shape.states s)

-- ---- what a visit keeps leaves sets that stand
kept-nodes : (g : GameData) (before after : List NodeData) (belief : List ℤ) (node : NodeData) (number : Option ℕ) → NodesFitAndStand g before → KeepsNode before after belief node number → NodeFits g (length before) node →
    ((more : List NodeData) → NodeStands (numbers g) (nodes_of (before ++ more)) (node_of node)) → NodesFitAndStand g after
kept-nodes g before after belief node None old k fits stays = subst (NodesFitAndStand g) (sym k.1) old
kept-nodes g before after belief node (Some n) old k fits stays = subst (NodesFitAndStand g) (sym k.3) (nodes-with g before node old fits (stays (node ∷ [])))

kept-points : (Refused : Type 0) (g : GameData) (before after : List PointData) (belief : List ℤ) (point : PointData) (number : Option ℕ) → PointsFitAndStand g before → KeepsPoint Refused before after belief point number → PointFits g (length before) point →
    ((more : List PointData) → PointStands (numbers g) (points_of (before ++ more)) (point_of point)) → PointsFitAndStand g after
kept-points Refused g before after belief point None old k fits stays = subst (PointsFitAndStand g) (sym k.1) old
kept-points Refused g before after belief point (Some n) old k fits stays = subst (PointsFitAndStand g) (sym k.4) (points-with g before point old fits (stays (point ∷ [])))

kept-corners : (Refused : Type 0) (before after : List PointData) (belief corner : List ℤ) (point : PointData) (number : Option ℕ) (s : ℕ) → KeepsPoint Refused before after belief point number → s < length before →
    (slice_index_or before s no_point).belief ≡ corner → (slice_index_or after s no_point).belief ≡ corner
kept-corners Refused before after belief corner point None s k l h = ap (λ (ps : List PointData). (slice_index_or ps s no_point).belief) k.1 ∙ h
kept-corners Refused before after belief corner point (Some n) s k l h =
    ap (λ (ps : List PointData). (slice_index_or ps s no_point).belief) k.4 ∙ ap (λ (p : PointData). p.belief) (get_or_append_left before (point ∷ []) no_point s l) ∙ h

pub standing-kept : (Refused : Type 0) (g : GameData) → IsGame g → (before after : Sets) (belief : List ℤ) (node : NodeData) (point : PointData) (node_number point_number : Option ℕ) → AreStanding g before →
    KeepsNode before.nodes after.nodes belief node node_number → KeepsPoint Refused before.points after.points belief point point_number → NodeFits g (length before.nodes) node → PointFits g (length before.points) point →
    ((more : List NodeData) → NodeStands (numbers g) (nodes_of (before.nodes ++ more)) (node_of node)) → ((more : List PointData) → PointStands (numbers g) (points_of (before.points ++ more)) (point_of point)) →
    AreStanding g after
standing-kept Refused g game before after belief node point node_number point_number old keeps_node keeps_point node_fits point_fits node_stays point_stays =
    let ns = kept-nodes g before.nodes after.nodes belief node node_number (record { fit = old.nodes_fit; stand = old.nodes_stand }) keeps_node node_fits node_stays in
    let ps = kept-points Refused g before.points after.points belief point point_number (record { fit = old.points_fit; stand = old.points_stand }) keeps_point point_fits point_stays in
    record {
      nodes_fit = ns.fit;
      points_fit = ps.fit;
      nodes_stand = ns.stand;
      points_stand = ps.stand;
      corners = λ s l. kept-corners Refused before.points after.points belief (corner_of g.shape.states s) point point_number s keeps_point (some-corner g before game old s l) (old.corners s l);
    }

-- ---- such sets serve
pub nodes-serve : (g : GameData) (sets : Sets) → AreStanding g sets → 1 ≤ length sets.nodes → length sets.nodes ≤ most_nodes → NodesServe g sets.nodes
nodes-serve g sets old some few = record {
  some = some;
  fit = each-from (NodeFits g (length sets.nodes)) (NodeFits g most_nodes) sets.nodes (λ x h. node-fits-more g (length sets.nodes) most_nodes x few h) old.nodes_fit;
}

pub points-serve : (g : GameData) (sets : Sets) → IsGame g → AreStanding g sets → length sets.points ≤ most_points → PointsServe g sets.points
points-serve g sets game old few = record {
  corners = λ s l.
      let there = old.corners s l in
      let long : length (point_at sets.points s).belief ≡ g.shape.states = ap length there ∙ long-corner g.shape.states s in
      record {
        number = s;
        inside = some-corner g sets game old s l;
        corner = record {
          state = subst (λ (n : ℕ). s < n) (sym long) l;
          belief = there ∙ ap (λ (n : ℕ). corner_of n s) (sym long);
        };
      };
  fit = each-from (PointFits g (length sets.points)) (PointFits g most_points) sets.points (λ x h. fits-more g (length sets.points) most_points x few h) old.points_fit;
}
