-- Members that as the one start of their side prove no worse a bound than the starts of a certificate.
use Rattle.std.specs.Prelude.{ℕ, pos, length, ◌*ℤ◌, ◌≤ℤ◌, ◌<◌, ◌≡◌}
use Rattle.controller.specs.Certificates.{CertificateData, lower_sum, node_product, upper_sum}
use Rattle.controller.specs.Starts.{weights_sum}
use Rattle.game_model.specs.Game.{GameData}
use Rattle.point_set.specs.Corners.{point_at}

-- a node whose product with the first belief is at least the mean of those of the start nodes; where there is one start
-- point, the multiple must be 1 for one start node
pub record IsStartNode (g : GameData) (k : CertificateData) (number : ℕ) : Type 0 where
  pub inside : number < length k.nodes
  pub higher : lower_sum g k ≤ℤ (node_product g k.nodes number *ℤ weights_sum k.start_nodes)
  pub single : length k.start_points ≡ 1 → k.multiple ≡ pos 1

-- a point of the first belief whose value is at most the sum of those of the start points over the multiple
pub record IsStartPoint (g : GameData) (k : CertificateData) (number : ℕ) : Type 0 where
  pub inside : number < length k.points
  pub here : (point_at k.points number).belief ≡ g.first
  pub lower : ((point_at k.points number).value *ℤ k.multiple) ≤ℤ upper_sum k
