-- The rules of kept members under their new numbers are those that they had.
use Rattle.std.proofs.Common.{◌≡◌, ℕ, ◌*◌, ◌<◌, Bool, List, length, get_or, refl, ap, sym, subst, ◌∙◌}
use Rattle.std.specs.Prelude.{ℤ, pos, ◌+ℤ◌, ◌*ℤ◌, ◌≤ℤ◌, IsTrue}
use Rattle.scaled_num.specs.Sums.{below, total}
use Rattle.scaled_num.proofs.Sums.{total-below}
use Rattle.alpha_set.specs.Nodes.{NodeData, NodeHolds, no_node, node_of, node_worth, nodes_of, steps_worth}
use Rattle.game_model.specs.Branches.{Branch, mix_total}
use Rattle.game_model.specs.Game.{unit}
use Rattle.game_model.specs.Numbers.{Numbers}
use Rattle.game_model.proofs.Pay.{each-from}
use Rattle.point_set.specs.Points.{PointData, SplitHolds, ValueHolds, no_point, point_of, points_of, shares_at}
use Rattle.controller.specs.Export.{new_number, nodes_kept, points_kept, renumbered_node, renumbered_point}
use Rattle.controller.proofs.KeptBranches.{NameAlike, NameKept, sum-too, total-too}
use Rattle.controller.proofs.Renumbering.{member-at}

-- ---- what branches name, under new numbers
pub nodes-alike : {Y : Type 0} (of : NodeData → Y) (kept : ℕ → Bool) (nodes : List NodeData) (branches : List Branch) → ((node : NodeData) → of (renumbered_node kept node) ≡ of node) → NameKept kept (length nodes) branches →
    NameAlike kept (λ i. of (get_or (nodes_kept kept nodes) i no_node)) (λ i. of (get_or nodes i no_node)) branches
nodes-alike of kept nodes branches same named =
    each-from (λ (b : Branch). (b.member < length nodes) × IsTrue (kept b.member)) (λ (b : Branch). of (get_or (nodes_kept kept nodes) (new_number kept b.member) no_node) ≡ of (get_or nodes b.member no_node)) branches
    (λ b k. ap of (member-at (renumbered_node kept) no_node kept nodes b.member k.0 k.1) ∙ same (get_or nodes b.member no_node)) named

pub points-alike : {Y : Type 0} (of : PointData → Y) (kept : ℕ → Bool) (points : List PointData) (branches : List Branch) → ((point : PointData) → of (renumbered_point kept point) ≡ of point) → NameKept kept (length points) branches →
    NameAlike kept (λ j. of (get_or (points_kept kept points) j no_point)) (λ j. of (get_or points j no_point)) branches
points-alike of kept points branches same named =
    each-from (λ (b : Branch). (b.member < length points) × IsTrue (kept b.member)) (λ (b : Branch). of (get_or (points_kept kept points) (new_number kept b.member) no_point) ≡ of (get_or points b.member no_point)) branches
    (λ b k. ap of (member-at (renumbered_point kept) no_point kept points b.member k.0 k.1) ∙ same (get_or points b.member no_point)) named

-- ---- the node rule
worth-too : (kept : ℕ → Bool) (nodes : List NodeData) (node : NodeData) → NameKept kept (length nodes) node.next → (a o t : ℕ) →
    steps_worth (nodes_of (nodes_kept kept nodes)) (node_of (renumbered_node kept node)) a o t ≡ steps_worth (nodes_of nodes) (node_of node) a o t
worth-too kept nodes node named a o t =
    total-too kept (λ (w : ℕ) (z : ℤ). pos w *ℤ z) (λ i. (nodes_of (nodes_kept kept nodes) i).vector t) (λ i. (nodes_of nodes i).vector t) node.next a o
    (nodes-alike (λ (node : NodeData). (node_of node).vector t) kept nodes node.next (λ node. refl) named)

stage-too : (g : Numbers) (kept : ℕ → Bool) (nodes : List NodeData) (node : NodeData) → NameKept kept (length nodes) node.next → (s c : ℕ) →
    node_worth g (nodes_of (nodes_kept kept nodes)) (node_of (renumbered_node kept node)) s c ≡ node_worth g (nodes_of nodes) (node_of node) s c
stage-too g kept nodes node named s c =
    ap (λ (z : ℤ). total (λ a. pos ((node_of node).mix a) *ℤ g.reward s a c *ℤ pos (unit * g.row_total * g.discount_under)) (below g.own_actions) +ℤ pos g.discount_over *ℤ z)
    (total-below g.own_actions _ _ (λ a la.
    total-below g.observations _ _ (λ o lo.
    total-below g.states _ _ (λ t lt.
    ap (λ (z : ℤ). pos (g.weight s a c o t) *ℤ z) (worth-too kept nodes node named a o t)))))

pub node-rule : (g : Numbers) (kept : ℕ → Bool) (nodes : List NodeData) (node : NodeData) → NameKept kept (length nodes) node.next → (s c : ℕ) →
    NodeHolds g (nodes_of nodes) (node_of node) s c → NodeHolds g (nodes_of (nodes_kept kept nodes)) (node_of (renumbered_node kept node)) s c
node-rule g kept nodes node named s c h =
    subst (λ (z : ℤ). ((node_of node).vector s *ℤ pos (mix_total * g.row_total * g.discount_under)) ≤ℤ z) (sym (stage-too g kept nodes node named s c)) h

-- ---- the rules of a point
pub split-rule : (g : Numbers) (kept : ℕ → Bool) (points : List PointData) (point : PointData) → NameKept kept (length points) point.splits → (a o t : ℕ) →
    SplitHolds g (points_of points) (point_of point) a o t → SplitHolds g (points_of (points_kept kept points)) (point_of (renumbered_point kept point)) a o t
split-rule g kept points point named a o t h =
    sum-too kept (λ (w z : ℕ). w * z) (λ j. (points_of (points_kept kept points) j).belief t) (λ j. (points_of points j).belief t) point.splits a o
    (points-alike (λ (point : PointData). (point_of point).belief t) kept points point.splits (λ point. refl) named)
    ∙ h

value-too : (kept : ℕ → Bool) (points : List PointData) (point : PointData) → NameKept kept (length points) point.splits → (a o : ℕ) →
    total (λ share. pos share.weight *ℤ (points_of (points_kept kept points) share.member).value) (shares_at (point_of (renumbered_point kept point)) a o)
    ≡ total (λ share. pos share.weight *ℤ (points_of points share.member).value) (shares_at (point_of point) a o)
value-too kept points point named a o =
    total-too kept (λ (w : ℕ) (z : ℤ). pos w *ℤ z) (λ j. (points_of (points_kept kept points) j).value) (λ j. (points_of points j).value) point.splits a o
    (points-alike (λ (point : PointData). point.value) kept points point.splits (λ point. refl) named)

pub value-rule : (g : Numbers) (kept : ℕ → Bool) (points : List PointData) (point : PointData) → NameKept kept (length points) point.splits → (a : ℕ) →
    ValueHolds g (points_of points) (point_of point) a → ValueHolds g (points_of (points_kept kept points)) (point_of (renumbered_point kept point)) a
value-rule g kept points point named a h =
    subst (λ (z : ℤ). z ≤ℤ (point.value *ℤ pos (mix_total * g.row_total * g.discount_under)))
    (ap
    (λ (z : ℤ). total (λ s. total (λ c. pos ((point_of point).belief s * (point_of point).mixes s c) *ℤ g.reward s a c *ℤ pos (unit * g.row_total * g.discount_under)) (below g.informed_actions)) (below g.states) +ℤ pos g.discount_over *ℤ z)
    (sym (total-below g.observations _ _ (λ o lo. value-too kept points point named a o)))) h
