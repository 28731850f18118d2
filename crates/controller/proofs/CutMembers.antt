-- Members that are closed under steps or shares stand under new numbers.
use Rattle.std.proofs.Common.{ℕ, Bool, List, get_or, length, subst, sym}
use Rattle.std.specs.List.{AllByRecursion}
use Rattle.scaled_num.proofs.Sums.{each-at}
use Rattle.alpha_set.specs.Changes.{NodesStand}
use Rattle.alpha_set.specs.Nodes.{NodeData, NodeFits, NodeHolds, no_node, node_of, nodes_of}
use Rattle.controller.specs.Cuts.{IsClosed}
use Rattle.controller.specs.Export.{new_number, nodes_kept, points_kept, renumbered_node, renumbered_point, shares_of, steps_of}
use Rattle.game_model.specs.Game.{GameData}
use Rattle.game_model.specs.Numbers.{Numbers}
use Rattle.point_set.specs.Changes.{PointsStand}
use Rattle.point_set.specs.Points.{PointData, PointFits, SplitHolds, ValueHolds, no_point, point_of, points_of}
use Rattle.controller.proofs.KeptParts.{node-too, point-too}
use Rattle.controller.proofs.KeptRules.{node-rule, split-rule, value-rule}
use Rattle.controller.proofs.Renumbering.{Old, each-member, members-long, old-of}

pub cut-nodes-stand : (g : Numbers) (nodes : List NodeData) (kept : ℕ → Bool) → IsClosed (steps_of nodes) (length nodes) kept → NodesStand g nodes → NodesStand g (nodes_kept kept nodes)
cut-nodes-stand g nodes kept closed stand i li s c ls lc =
    let old : Old (renumbered_node kept) no_node kept nodes i = old-of (renumbered_node kept) no_node kept nodes i li in
    subst (λ (node : NodeData). NodeHolds g (nodes_of (nodes_kept kept nodes)) (node_of node) s c) (sym old.is)
    (node-rule g kept nodes (get_or nodes old.number no_node) (closed old.number old.is_kept) s c (stand old.number old.inside s c ls lc))

pub cut-nodes-fit : (g : GameData) (nodes : List NodeData) (kept : ℕ → Bool) → IsClosed (steps_of nodes) (length nodes) kept → AllByRecursion (NodeFits g (length nodes)) nodes →
    AllByRecursion (NodeFits g (length (nodes_kept kept nodes))) (nodes_kept kept nodes)
cut-nodes-fit g nodes kept closed fits =
    subst (λ (n : ℕ). AllByRecursion (NodeFits g n) (nodes_kept kept nodes)) (sym (members-long (renumbered_node kept) no_node kept nodes))
    (each-member (NodeFits g (new_number kept (length nodes))) (renumbered_node kept) no_node kept nodes
    (λ i l t. node-too g kept (length nodes) (get_or nodes i no_node) (closed i t) (each-at (NodeFits g (length nodes)) no_node nodes i fits l)))

pub cut-points-stand : (g : Numbers) (points : List PointData) (kept : ℕ → Bool) → IsClosed (shares_of points) (length points) kept → PointsStand g points → PointsStand g (points_kept kept points)
cut-points-stand g points kept closed stand j lj =
    let old : Old (renumbered_point kept) no_point kept points j = old-of (renumbered_point kept) no_point kept points j lj in
    let point : PointData = get_or points old.number no_point in
    let stands = stand old.number old.inside in
    record {
      split = λ a o t la lo lt. subst (λ (p : PointData). SplitHolds g (points_of (points_kept kept points)) (point_of p) a o t) (sym old.is)
          (split-rule g kept points point (closed old.number old.is_kept) a o t (stands.split a o t la lo lt));
      value = λ a la. subst (λ (p : PointData). ValueHolds g (points_of (points_kept kept points)) (point_of p) a) (sym old.is)
          (value-rule g kept points point (closed old.number old.is_kept) a (stands.value a la));
    }

pub cut-points-fit : (g : GameData) (points : List PointData) (kept : ℕ → Bool) → IsClosed (shares_of points) (length points) kept → AllByRecursion (PointFits g (length points)) points →
    AllByRecursion (PointFits g (length (points_kept kept points))) (points_kept kept points)
cut-points-fit g points kept closed fits =
    subst (λ (n : ℕ). AllByRecursion (PointFits g n) (points_kept kept points)) (sym (members-long (renumbered_point kept) no_point kept points))
    (each-member (PointFits g (new_number kept (length points))) (renumbered_point kept) no_point kept points
    (λ j l t. point-too g kept (length points) (get_or points j no_point) (closed j t) (each-at (PointFits g (length points)) no_point points j fits l)))
