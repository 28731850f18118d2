-- The seed nodes, as a list, fit the game and stand.
use Rattle.std.proofs.Common.{ℕ, ◌<◌, List, length, ap, sym, subst}
use Rattle.std.specs.List.{AllByRecursion}
use Rattle.scaled_num.specs.Share.{at}
use Rattle.game_model.specs.Game.{GameData, IsGame, numbers}
use Rattle.alpha_set.specs.Nodes.{NodeData, NodeFits, NodeStands, no_node, node_of, nodes_of}
use Rattle.backup.specs.Seeds.{AreSeedNodes}
use Rattle.backup.proofs.AlwaysNodes.{always-fits, always-stands}
use Rattle.scaled_num.proofs.Each.{each-by-place}

pub seed-nodes-fit : (g : GameData) → IsGame g → (nodes : List NodeData) → AreSeedNodes g nodes → AllByRecursion (NodeFits g (length nodes)) nodes
seed-nodes-fit g h nodes seeds =
    each-by-place (NodeFits g (length nodes)) no_node nodes (λ a l.
    let la : a < g.shape.own_actions = subst (λ (n : ℕ). a < n) seeds.count l in
    let node = seeds.each a la in
    subst (NodeFits g (length nodes)) (sym node.same) (always-fits g h a (length nodes) node.vector la l node.long node.seed))

pub seed-nodes-stand : (g : GameData) → IsGame g → (nodes : List NodeData) → AreSeedNodes g nodes → (a : ℕ) → a < length nodes → NodeStands (numbers g) (nodes_of nodes) (nodes_of nodes a)
seed-nodes-stand g h nodes seeds a l =
    let la : a < g.shape.own_actions = subst (λ (n : ℕ). a < n) seeds.count l in
    let node = seeds.each a la in
    subst (λ (x : NodeData). NodeStands (numbers g) (nodes_of nodes) (node_of x)) (sym node.same)
    (always-stands g h a node.vector (nodes_of nodes) la node.seed (λ t. ap (λ (x : NodeData). at x.vector t) node.same))
