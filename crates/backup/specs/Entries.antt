-- The entries of a node in the making.
use Rattle.std.specs.Prelude.{ℕ, ℤ, pos, neg_ℤ, List, length, ◌<◌, ◌≡◌}
use Rattle.std.specs.List.{AllByRecursion}
use Rattle.scaled_num.specs.Share.{at}
use Rattle.alpha_set.specs.Nodes.{NodeData, node_of, nodes_of}
use Rattle.game_model.specs.Game.{GameData, IsWithin, numbers, span}
use Rattle.backup.specs.Evaluation.{IsEntry}

-- for each state what a node may be worth there among others; all of them are within the span
pub record AreEntries (g : GameData) (nodes : List NodeData) (node : NodeData) (entries : List ℤ) : Type 0 where
  pub long : length entries ≡ g.shape.states
  pub each : (s : ℕ) → s < g.shape.states → IsEntry (numbers g) (nodes_of nodes) (node_of node) s (at entries s)
  pub within : AllByRecursion (IsWithin (neg_ℤ (pos (span g))) (pos (span g))) entries
