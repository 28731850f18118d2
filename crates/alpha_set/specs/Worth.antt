-- What nodes are worth at a mass, and the first node that is worth the most.
use Rattle.std.specs.Prelude.{ℕ, ℤ, List, length, ◌≡◌, ◌<◌, ◌*ℤ◌, ◌≤ℤ◌, ◌<ℤ◌, slice_index_or}
use Rattle.std.specs.List.{AllByRecursion}
use Rattle.scaled_num.specs.Share.{at}
use Rattle.scaled_num.specs.Sums.{below, total}
use Rattle.game_model.specs.Game.{GameData, IsGame, IsMass}
use Rattle.alpha_set.specs.Members.{most_nodes}
use Rattle.alpha_set.specs.Nodes.{NodeData, NodeFits, no_node}

-- the product of a vector with a mass: the sum over the states of the mass times the entry
abbrev pub worth_at : List ℤ → List ℤ → ℤ
worth_at mass vector = total (λ s. at mass s *ℤ at vector s) (below (length mass))

-- the product of a node's vector with a mass
abbrev pub node_worth_at : List NodeData → List ℤ → ℕ → ℤ
node_worth_at nodes mass i = worth_at mass (slice_index_or nodes i no_node).vector

-- nodes that fit one game, and a mass over its states
pub record AreWeighed (nodes : List NodeData) (mass : List ℤ) : Type 0 where
  pub game : GameData
  pub accepted : IsGame game
  pub fit : AllByRecursion (NodeFits game most_nodes) nodes
  pub right : IsMass game mass

-- the greatest product of a node's vector with a mass, and the first node that has it
pub record IsWorth (nodes : List NodeData) (mass : List ℤ) (value : ℤ) (number : ℕ) : Type 0 where
  pub inside : number < length nodes
  pub has : value ≡ node_worth_at nodes mass number
  pub greatest : (i : ℕ) → i < length nodes → (node_worth_at nodes mass i) ≤ℤ value
  pub first : (i : ℕ) → i < number → (node_worth_at nodes mass i) <ℤ value
