-- Where the parts stand, what an export answers stands.
use Rattle.std.proofs.Common.{◌≡◌, ℕ, ◌*◌, ◌<◌, Bool, List, length, get_or, refl, ap, arith, sym, subst, ◌∙◌, ◌==◌, cond}
use Rattle.std.specs.Prelude.{ℤ, pos, IsTrue, ◌*ℤ◌}
use Rattle.scaled_num.specs.Share.{at}
use Rattle.scaled_num.specs.Sums.{below, total}
use Rattle.alpha_set.specs.Nodes.{NodeData, NodeHolds, no_node, node_of, nodes_of}
use Rattle.game_model.specs.Game.{GameData, first_at, numbers}
use Rattle.game_model.proofs.Pay.{each-from}
use Rattle.point_set.specs.Points.{PointData, SplitHolds, ValueHolds, no_point, point_of, points_of}
use Rattle.controller.specs.Certificates.{BoundAt, CertificateData, CertificateFits, CertificateStands, CornerAt, Holds, NodeAt, SplitAt, StartAt, ValueAt, first_total, lower_sum, upper_sum}
use Rattle.controller.specs.Export.{IsExport, new_number, nodes_kept, parts_kept, points_kept, renumbered_node, renumbered_point, renumbered_starts}
use Rattle.controller.specs.Members.{Rules}
use Rattle.controller.specs.Parts.{Parts, PartsFit, PartsStand, certificate_of, proved_lower, proved_tail, proved_upper, unbounded, with_bounds}
use Rattle.controller.specs.Starts.{weighted}
use Rattle.controller.proofs.KeptBranches.{StartKept, weighted-too, weights_sum-too}
use Rattle.controller.proofs.KeptParts.{AreClosed, are-closed}
use Rattle.controller.proofs.KeptRules.{node-rule, split-rule, value-rule}
use Rattle.controller.proofs.Places.{rules, stands}
use Rattle.controller.proofs.Renumbering.{Old, member-at, number-same, old-of}

-- the kept parts as a certificate, with the bounds of all parts
abbrev kept_certificate : GameData → Parts → (ℕ → Bool) → (ℕ → Bool) → CertificateData
kept_certificate g parts nodes points = with_bounds (parts_kept nodes points parts) (proved_lower g parts) (proved_upper g parts) (proved_tail g)

-- ---- sums over starts
nodes-weighted : (of : NodeData → ℤ) (kept : ℕ → Bool) (nodes : List NodeData) (starts : List (ℕ × ℤ)) → ((node : NodeData) → of (renumbered_node kept node) ≡ of node) → StartKept kept (length nodes) starts →
    weighted (renumbered_starts kept starts) (λ i. of (get_or (nodes_kept kept nodes) i no_node)) ≡ weighted starts (λ i. of (get_or nodes i no_node))
nodes-weighted of kept nodes starts same named =
    weighted-too kept (λ i. of (get_or (nodes_kept kept nodes) i no_node)) (λ i. of (get_or nodes i no_node)) starts
    (each-from (λ (start : ℕ × ℤ). (start.0 < length nodes) × IsTrue (kept start.0)) (λ (start : ℕ × ℤ). of (get_or (nodes_kept kept nodes) (new_number kept start.0) no_node) ≡ of (get_or nodes start.0 no_node)) starts
    (λ start k. ap of (member-at (renumbered_node kept) no_node kept nodes start.0 k.0 k.1) ∙ same (get_or nodes start.0 no_node)) named)

points-weighted : (of : PointData → ℤ) (kept : ℕ → Bool) (points : List PointData) (starts : List (ℕ × ℤ)) → ((point : PointData) → of (renumbered_point kept point) ≡ of point) → StartKept kept (length points) starts →
    weighted (renumbered_starts kept starts) (λ j. of (get_or (points_kept kept points) j no_point)) ≡ weighted starts (λ j. of (get_or points j no_point))
points-weighted of kept points starts same named =
    weighted-too kept (λ j. of (get_or (points_kept kept points) j no_point)) (λ j. of (get_or points j no_point)) starts
    (each-from (λ (start : ℕ × ℤ). (start.0 < length points) × IsTrue (kept start.0)) (λ (start : ℕ × ℤ). of (get_or (points_kept kept points) (new_number kept start.0) no_point) ≡ of (get_or points start.0 no_point)) starts
    (λ start k. ap of (member-at (renumbered_point kept) no_point kept points start.0 k.0 k.1) ∙ same (get_or points start.0 no_point)) named)

-- the product of a node's vector with the first belief
abbrev product : GameData → NodeData → ℤ
product g node = total (λ s. pos (first_at g s) *ℤ (node_of node).vector s) (below g.shape.states)

lower-too : (g : GameData) (parts : Parts) (nodes points : ℕ → Bool) → AreClosed g parts nodes points → lower_sum g (kept_certificate g parts nodes points) ≡ lower_sum g (unbounded parts)
lower-too g parts nodes points closed = nodes-weighted (product g) nodes parts.nodes parts.start_nodes (λ node. refl) closed.from

upper-too : (g : GameData) (parts : Parts) (nodes points : ℕ → Bool) → AreClosed g parts nodes points → upper_sum (kept_certificate g parts nodes points) ≡ upper_sum (unbounded parts)
upper-too g parts nodes points closed = points-weighted (λ (point : PointData). point.value) points parts.points parts.start_points (λ point. refl) closed.over

-- ---- the rule of each place
node-holds : (g : GameData) (parts : Parts) (nodes points : ℕ → Bool) → AreClosed g parts nodes points → Rules g (certificate_of g parts) → (i s c : ℕ) → i < length (nodes_kept nodes parts.nodes) → s < g.shape.states → c < g.shape.informed_actions →
    Holds g (kept_certificate g parts nodes points) (NodeAt i s c)
node-holds g parts nodes points closed r i s c li ls lc =
    let old : Old (renumbered_node nodes) no_node nodes parts.nodes i = old-of (renumbered_node nodes) no_node nodes parts.nodes i li in
    subst (λ (node : NodeData). NodeHolds (numbers g) (nodes_of (nodes_kept nodes parts.nodes)) (node_of node) s c) (sym old.is)
    (node-rule (numbers g) nodes parts.nodes (get_or parts.nodes old.number no_node) (closed.steps old.number old.is_kept) s c (r.node old.number s c old.inside ls lc))

corner-holds : (g : GameData) (parts : Parts) (nodes points : ℕ → Bool) → PartsFit g parts → AreClosed g parts nodes points → Rules g (certificate_of g parts) → (j : ℕ) → j < g.shape.states →
    Holds g (kept_certificate g parts nodes points) (CornerAt j)
corner-holds g parts nodes points fits closed r j lj =
    let some_points = fits.some_points in
    let inside : j < length parts.points = omega arith in
    let same : new_number points j ≡ j = number-same points j (λ k l. closed.corners k (omega arith)) in
    let here : get_or (points_kept points parts.points) j no_point ≡ renumbered_point points (get_or parts.points j no_point) =
    ap (λ (k : ℕ). get_or (points_kept points parts.points) k no_point) (sym same) ∙ member-at (renumbered_point points) no_point points parts.points j inside (closed.corners j lj) in
    subst (λ (point : PointData). (s : ℕ) → s < g.shape.states → (point_of point).belief s ≡ cond (s == j) 1 0) (sym here) (r.corner j inside lj)

split-holds : (g : GameData) (parts : Parts) (nodes points : ℕ → Bool) → AreClosed g parts nodes points → Rules g (certificate_of g parts) → (j a o s : ℕ) → j < length (points_kept points parts.points) → a < g.shape.own_actions → o < g.shape.observations → s < g.shape.states →
    Holds g (kept_certificate g parts nodes points) (SplitAt j a o s)
split-holds g parts nodes points closed r j a o s lj la lo ls =
    let old : Old (renumbered_point points) no_point points parts.points j = old-of (renumbered_point points) no_point points parts.points j lj in
    subst (λ (point : PointData). SplitHolds (numbers g) (points_of (points_kept points parts.points)) (point_of point) a o s) (sym old.is)
    (split-rule (numbers g) points parts.points (get_or parts.points old.number no_point) (closed.shares old.number old.is_kept) a o s (r.split old.number a o s old.inside la lo ls))

value-holds : (g : GameData) (parts : Parts) (nodes points : ℕ → Bool) → AreClosed g parts nodes points → Rules g (certificate_of g parts) → (j a : ℕ) → j < length (points_kept points parts.points) → a < g.shape.own_actions →
    Holds g (kept_certificate g parts nodes points) (ValueAt j a)
value-holds g parts nodes points closed r j a lj la =
    let old : Old (renumbered_point points) no_point points parts.points j = old-of (renumbered_point points) no_point points parts.points j lj in
    subst (λ (point : PointData). ValueHolds (numbers g) (points_of (points_kept points parts.points)) (point_of point) a) (sym old.is)
    (value-rule (numbers g) points parts.points (get_or parts.points old.number no_point) (closed.shares old.number old.is_kept) a (r.value old.number a old.inside la))

start-holds : (g : GameData) (parts : Parts) (nodes points : ℕ → Bool) → AreClosed g parts nodes points → Rules g (certificate_of g parts) → Holds g (kept_certificate g parts nodes points) StartAt
start-holds g parts nodes points closed r s ls =
    points-weighted (λ (point : PointData). at point.belief s) points parts.points parts.start_points (λ point. refl) closed.over ∙ r.start s ls

bound-holds : (g : GameData) (parts : Parts) (nodes points : ℕ → Bool) → AreClosed g parts nodes points → Holds g (kept_certificate g parts nodes points) BoundAt
bound-holds g parts nodes points closed = (
  (sym (lower-too g parts nodes points closed), ap (λ (z : ℤ). z *ℤ pos (first_total g * 65536)) (sym (weights_sum-too nodes parts.start_nodes))),
  (sym (upper-too g parts nodes points closed), refl),
  (refl, refl),
)

kept-rules : (g : GameData) (parts : Parts) (nodes points : ℕ → Bool) → PartsFit g parts → AreClosed g parts nodes points → Rules g (certificate_of g parts) → Rules g (kept_certificate g parts nodes points)
kept-rules g parts nodes points fits closed r = record {
  node = node-holds g parts nodes points closed r;
  corner = λ j l ls. corner-holds g parts nodes points fits closed r j ls;
  split = split-holds g parts nodes points closed r;
  value = value-holds g parts nodes points closed r;
  start = start-holds g parts nodes points closed r;
  bound = bound-holds g parts nodes points closed;
  outcome = r.outcome;
}

pub export-stands : (g : GameData) (parts : Parts) (k : CertificateData) → PartsFit g parts → PartsStand g parts → IsExport g parts k → CertificateFits g k → CertificateStands g k
export-stands g parts k fits standing h kept_fits =
    let closed = are-closed g parts h.nodes h.points fits h.nodes_reached h.points_reached in
    let kept = kept-rules g parts h.nodes h.points fits closed (rules g (certificate_of g parts) standing) in
    stands g k kept_fits (subst (Rules g) (sym h.same) kept)
