-- What the reached members of parts that fit are, and the parts under their new numbers.
use Rattle.std.proofs.Common.{ℕ, ◌<◌, Bool, List, length, get_or, arith, sym, subst, ◌∙◌, inl, inr}
use Rattle.std.specs.Prelude.{ℤ, pos, IsTrue}
use Rattle.std.specs.List.{AllByRecursion}
use Rattle.scaled_num.proofs.Sums.{each-at}
use Rattle.alpha_set.specs.Nodes.{NodeData, NodeFits, no_node}
use Rattle.game_model.specs.Branches.{Branch, IsBranch, mix_total}
use Rattle.game_model.specs.Game.{GameData, numbers}
use Rattle.game_model.proofs.Pay.{each-from}
use Rattle.point_set.specs.Points.{PointData, PointFits, most_share, no_point}
use Rattle.controller.specs.Export.{AreKept, IsAtCornerOrStart, IsAtStart, nodes_kept, new_number, points_kept, renumbered_node, renumbered_point, shares_of, steps_of}
use Rattle.controller.specs.Parts.{Parts, PartsFit}
use Rattle.controller.specs.Reached.{NameMembers}
use Rattle.controller.specs.Starts.{IsStart, most_from, most_over}
use Rattle.controller.proofs.KeptBranches.{NameKept, StartKept, branches-too, weights-too}
use Rattle.controller.proofs.Listed.{each-led, each-start, start-one}
use Rattle.controller.proofs.Reaching.{closed, first-kept}
use Rattle.controller.proofs.Renumbering.{each-member, members-long}

-- each step of a node, and each share of a point, names a member
pub steps-inside : (g : GameData) (nodes : List NodeData) → AllByRecursion (NodeFits g (length nodes)) nodes → NameMembers (length nodes) (steps_of nodes)
steps-inside g nodes h i l =
    let node : NodeData = get_or nodes i no_node in
    let fits : NodeFits g (length nodes) node = each-at (NodeFits g (length nodes)) no_node nodes i h l in
    each-from (IsBranch (numbers g) (length nodes) (pos mix_total)) (λ (b : Branch). b.member < length nodes) node.next (λ b k. k.member) fits.next.each

pub shares-inside : (g : GameData) (points : List PointData) → AllByRecursion (PointFits g (length points)) points → NameMembers (length points) (shares_of points)
shares-inside g points h j l =
    let point : PointData = get_or points j no_point in
    let fits : PointFits g (length points) point = each-at (PointFits g (length points)) no_point points j h l in
    each-from (IsBranch (numbers g) (length points) most_share) (λ (b : Branch). b.member < length points) point.splits (λ b k. k.member) fits.splits.each

pub starts-inside : (count : ℕ) (most : ℤ) (starts : List (ℕ × ℤ)) → AllByRecursion (IsStart count most) starts → AllByRecursion (λ (start : ℕ × ℤ). start.0 < count) starts
starts-inside count most starts h = each-from (IsStart count most) (λ (start : ℕ × ℤ). start.0 < count) starts (λ start k. k.0) h

-- ---- members that are kept, with all that they name
pub record AreClosed (g : GameData) (parts : Parts) (nodes points : ℕ → Bool) : Type 0 where
  pub steps : (i : ℕ) → IsTrue (nodes i) → NameKept nodes (length parts.nodes) (steps_of parts.nodes i)
  pub shares : (j : ℕ) → IsTrue (points j) → NameKept points (length parts.points) (shares_of parts.points j)
  pub from : StartKept nodes (length parts.nodes) parts.start_nodes
  pub over : StartKept points (length parts.points) parts.start_points
  pub corners : (j : ℕ) → j < g.shape.states → IsTrue (points j)

pub are-closed : (g : GameData) (parts : Parts) (nodes points : ℕ → Bool) → PartsFit g parts →
    AreKept (steps_of parts.nodes) (IsAtStart parts.start_nodes) (length parts.nodes) nodes →
    AreKept (shares_of parts.points) (IsAtCornerOrStart g.shape.states parts.start_points) (length parts.points) points → AreClosed g parts nodes points
are-closed g parts nodes points fits from over =
    let n : ℕ = length parts.nodes in
    let p : ℕ = length parts.points in
    let First : ℕ → Type 0 = IsAtCornerOrStart g.shape.states parts.start_points in
    let some_points = fits.some_points in
    record {
      steps = λ i t. each-led (λ (k : ℕ). (k < n) × IsTrue (nodes k)) (steps_of parts.nodes i) (λ k lead. closed (steps_of parts.nodes) (IsAtStart parts.start_nodes) n nodes from (steps-inside g parts.nodes fits.nodes) i k t lead);
      shares = λ j t. each-led (λ (k : ℕ). (k < p) × IsTrue (points k)) (shares_of parts.points j) (λ k lead. closed (shares_of parts.points) First p points over (shares-inside g parts.points fits.points) j k t lead);
      from = each-start (λ (k : ℕ). (k < n) × IsTrue (nodes k)) parts.start_nodes
          (λ k at.
          let l = start-one (λ (m : ℕ). m < n) parts.start_nodes k (starts-inside n (pos most_from) parts.start_nodes fits.starts.from.each) at in
          (l, first-kept (steps_of parts.nodes) (IsAtStart parts.start_nodes) n nodes from k l at));
      over = each-start (λ (k : ℕ). (k < p) × IsTrue (points k)) parts.start_points
          (λ k at.
          let l = start-one (λ (m : ℕ). m < p) parts.start_points k (starts-inside p (pos most_over) parts.start_points fits.starts.over.each) at in
          (l, first-kept (shares_of parts.points) First p points over k l (inr at)));
      corners = λ j l. first-kept (shares_of parts.points) First p points over j (omega arith) (inl l);
    }

-- ---- they fit
pub node-too : (g : GameData) (kept : ℕ → Bool) (count : ℕ) (node : NodeData) → NameKept kept count node.next → NodeFits g count node → NodeFits g (new_number kept count) (renumbered_node kept node)
node-too g kept count node named fits = record {
  long = fits.long;
  entries = fits.entries;
  mix = fits.mix;
  next = branches-too (numbers g) kept count (pos mix_total) node.next named fits.next;
  sums = λ a o la lo. weights-too kept node.next a o ∙ fits.sums a o la lo;
}

pub nodes-too : (g : GameData) (parts : Parts) (kept : ℕ → Bool) → AllByRecursion (NodeFits g (length parts.nodes)) parts.nodes →
    ((i : ℕ) → IsTrue (kept i) → NameKept kept (length parts.nodes) (steps_of parts.nodes i)) → AllByRecursion (NodeFits g (length (nodes_kept kept parts.nodes))) (nodes_kept kept parts.nodes)
nodes-too g parts kept fits named =
    subst (λ (n : ℕ). AllByRecursion (NodeFits g n) (nodes_kept kept parts.nodes)) (sym (members-long (renumbered_node kept) no_node kept parts.nodes))
    (each-member (NodeFits g (new_number kept (length parts.nodes))) (renumbered_node kept) no_node kept parts.nodes
    (λ i l t. node-too g kept (length parts.nodes) (get_or parts.nodes i no_node) (named i t) (each-at (NodeFits g (length parts.nodes)) no_node parts.nodes i fits l)))

pub point-too : (g : GameData) (kept : ℕ → Bool) (count : ℕ) (point : PointData) → NameKept kept count point.splits → PointFits g count point → PointFits g (new_number kept count) (renumbered_point kept point)
point-too g kept count point named fits = record {
  belief = fits.belief;
  coprime = fits.coprime;
  value = fits.value;
  states = fits.states;
  actions = fits.actions;
  mixes = fits.mixes;
  splits = branches-too (numbers g) kept count most_share point.splits named fits.splits;
}

pub points-too : (g : GameData) (parts : Parts) (kept : ℕ → Bool) → AllByRecursion (PointFits g (length parts.points)) parts.points →
    ((j : ℕ) → IsTrue (kept j) → NameKept kept (length parts.points) (shares_of parts.points j)) → AllByRecursion (PointFits g (length (points_kept kept parts.points))) (points_kept kept parts.points)
points-too g parts kept fits named =
    subst (λ (n : ℕ). AllByRecursion (PointFits g n) (points_kept kept parts.points)) (sym (members-long (renumbered_point kept) no_point kept parts.points))
    (each-member (PointFits g (new_number kept (length parts.points))) (renumbered_point kept) no_point kept parts.points
    (λ j l t. point-too g kept (length parts.points) (get_or parts.points j no_point) (named j t) (each-at (PointFits g (length parts.points)) no_point parts.points j fits l)))
