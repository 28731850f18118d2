-- What a certificate that fits gives to the tests of its members.
use Rattle.game_model.specs.Limits.{most_members}
use Rattle.std.proofs.Common.{ℕ, ◌<◌, ◌≤◌, List, length, get_or, arith}
use Rattle.std.specs.Prelude.{ℤ}
use Rattle.std.specs.List.{AllByRecursion}
use Rattle.scaled_num.proofs.Sums.{each-at}
use Rattle.game_model.specs.Branches.{AreBranches, Branch, IsBranch}
use Rattle.game_model.specs.Game.{GameData}
use Rattle.game_model.specs.Numbers.{Numbers}
use Rattle.game_model.proofs.Pay.{each-from}
use Rattle.alpha_set.specs.Nodes.{NodeFits, no_node}
use Rattle.point_set.specs.Points.{PointFits, no_point}
use Rattle.controller.specs.Certificates.{CertificateData, CertificateFits}

branches-more : (g : Numbers) (n m : ℕ) (most : ℤ) (bs : List Branch) → n ≤ m → AreBranches g n most bs → AreBranches g m most bs
branches-more g n m most bs l h =
    record {
      rising = h.rising;
      each = each-from (IsBranch g n most) (IsBranch g m most) bs (λ b i. record { own = i.own; seen = i.seen; member = omega (arith, i.member); weight = i.weight }) h.each;
    }

branches-named : (g : Numbers) (n : ℕ) (most : ℤ) (bs : List Branch) → AreBranches g n most bs → AllByRecursion (λ b. b.member < n) bs
branches-named g n most bs h = each-from (IsBranch g n most) (λ (b : Branch). b.member < n) bs (λ b i. i.member) h.each

pub nodes-in-sets : (g : GameData) (k : CertificateData) → CertificateFits g k → AllByRecursion (NodeFits g most_members) k.nodes
nodes-in-sets g k h =
    each-from (NodeFits g (length k.nodes)) (NodeFits g most_members) k.nodes
    (λ node f. record { long = f.long; entries = f.entries; mix = f.mix; next = branches-more _ (length k.nodes) most_members _ _ h.most_nodes f.next; sums = f.sums }) h.nodes

pub points-in-sets : (g : GameData) (k : CertificateData) → CertificateFits g k → AllByRecursion (PointFits g most_members) k.points
points-in-sets g k h =
    each-from (PointFits g (length k.points)) (PointFits g most_members) k.points
    (λ point f. record {
      belief = f.belief;
      coprime = f.coprime;
      value = f.value;
      states = f.states;
      actions = f.actions;
      mixes = f.mixes;
      splits = branches-more _ (length k.points) most_members _ _ h.most_points f.splits;
    }) h.points

pub node-in : (g : GameData) (k : CertificateData) → CertificateFits g k → (i : ℕ) → i < length k.nodes → NodeFits g (length k.nodes) (get_or k.nodes i no_node)
node-in g k h i l = each-at (NodeFits g (length k.nodes)) no_node k.nodes i h.nodes l

pub point-in : (g : GameData) (k : CertificateData) → CertificateFits g k → (j : ℕ) → j < length k.points → PointFits g (length k.points) (get_or k.points j no_point)
point-in g k h j l = each-at (PointFits g (length k.points)) no_point k.points j h.points l

pub steps-named : (g : GameData) (k : CertificateData) → CertificateFits g k → (i : ℕ) → i < length k.nodes → AllByRecursion (λ (b : Branch). b.member < length k.nodes) (get_or k.nodes i no_node).next
steps-named g k h i l = branches-named _ (length k.nodes) _ _ (node-in g k h i l).next

pub shares-named : (g : GameData) (k : CertificateData) → CertificateFits g k → (j : ℕ) → j < length k.points → AllByRecursion (λ (b : Branch). b.member < length k.points) (get_or k.points j no_point).splits
shares-named g k h j l = branches-named _ (length k.points) _ _ (point-in g k h j l).splits
