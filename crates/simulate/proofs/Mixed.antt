-- The mixes of the program, as what a node and a point draw over.
use Rattle.std.proofs.Common.{◌≡◌, ℕ, ◌<◌, List, length, get_or, map, ap, ◌∙◌}
use Rattle.std.specs.Prelude.{ℤ, pos, unsigned_abs}
use Rattle.std.specs.List.{sum}
use Rattle.std.proofs.lemmas.List.Sums.{sum-map}
use Rattle.scaled_num.specs.Sums.{below}
use Rattle.scaled_num.proofs.Sums.{each-at}
use Rattle.belief.specs.Mixes.{mix_at}
use Rattle.game_model.specs.Branches.{mix_total}
use Rattle.game_model.specs.Game.{GameData}
use Rattle.alpha_set.specs.Nodes.{NodeData, NodeFits, no_node, nodes_of}
use Rattle.point_set.specs.Points.{PointData, PointFits, no_point, points_of}
use Rattle.controller.specs.Certificates.{CertificateData, CertificateFits}
use Rattle.simulate.proofs.Moments.{mix-sum, mixes-sum}

pub own-weights : (g : GameData) (k : CertificateData) (i : ℕ) (mix : List ℤ) (node : NodeData) → CertificateFits g k → i < length k.nodes → mix ≡ node.mix → node ≡ get_or k.nodes i no_node →
    map (λ (a : ℕ). unsigned_abs (get_or mix a (pos 0))) (below (length mix)) ≡ map (nodes_of k.nodes i).mix (below g.shape.own_actions)
own-weights g k i mix node fits l is at =
    let weights : List ℤ → List ℕ = λ (xs : List ℤ). map (λ (a : ℕ). unsigned_abs (get_or xs a (pos 0))) (below (length xs)) in
    ap weights is ∙ ap (λ (n : NodeData). weights n.mix) at
    ∙ ap (λ (n : ℕ). map (nodes_of k.nodes i).mix (below n)) (each-at (NodeFits g (length k.nodes)) no_node k.nodes i fits.nodes l).mix.long

pub own-total : (g : GameData) (k : CertificateData) (i : ℕ) → CertificateFits g k → i < length k.nodes → sum (map (nodes_of k.nodes i).mix (below g.shape.own_actions)) ≡ mix_total
own-total g k i fits l = sum-map (nodes_of k.nodes i).mix (below g.shape.own_actions) ∙ mix-sum g k i fits l

pub point-weights : (g : GameData) (k : CertificateData) (j s : ℕ) (point : PointData) → CertificateFits g k → j < length k.points → point ≡ get_or k.points j no_point →
    map (λ (c : ℕ). unsigned_abs (mix_at point.mixes s c)) (below point.mixes.actions) ≡ map ((points_of k.points j).mixes s) (below g.shape.informed_actions)
point-weights g k j s point fits l at =
    ap (λ (p : PointData). map (λ (c : ℕ). unsigned_abs (mix_at p.mixes s c)) (below p.mixes.actions)) at
    ∙ ap (λ (n : ℕ). map ((points_of k.points j).mixes s) (below n)) (each-at (PointFits g (length k.points)) no_point k.points j fits.points l).actions

pub point-total : (g : GameData) (k : CertificateData) (j s : ℕ) → CertificateFits g k → j < length k.points → s < g.shape.states → sum (map ((points_of k.points j).mixes s) (below g.shape.informed_actions)) ≡ mix_total
point-total g k j s fits l m = sum-map ((points_of k.points j).mixes s) (below g.shape.informed_actions) ∙ mixes-sum g k j s fits l m
