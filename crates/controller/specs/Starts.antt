-- Starts over several members: each a number and a weight.
use Rattle.std.specs.Prelude.{ℕ, ℤ, pos, List, length, map, ◌*ℤ◌, ◌≤ℤ◌, ◌<◌, ◌≤◌, ◌^◌, ◌≡◌}
use Rattle.std.specs.List.{AllByRecursion}
use Rattle.scaled_num.specs.Share.{at}
use Rattle.scaled_num.specs.Sums.{total}
use Rattle.game_model.specs.Game.{AreCoprime, IsWithin}
use Rattle.point_set.specs.Corners.{point_at}
use Rattle.point_set.specs.Points.{PointData}
use Rattle.point_set.specs.Split.{AreRisingPairs}

-- the greatest weight of a start node, the greatest sum of these weights, and the greatest multiple of the first belief
abbrev pub most_from : ℕ
most_from = 65536

-- the greatest weight of a start point
abbrev pub most_over : ℕ
most_over = 2 ^ 36

-- the sum of the weights
abbrev pub weights_sum : List (ℕ × ℤ) → ℤ
weights_sum starts = total (λ start. start.1) starts

-- a sum over starts: the weight of each times f of its member
abbrev pub weighted : List (ℕ × ℤ) → (ℕ → ℤ) → ℤ
weighted starts f = total (λ start. start.1 *ℤ f start.0) starts

-- a start: one of so many members, with a weight of 1 to the most
abbrev pub IsStart : ℕ → ℤ → ℕ × ℤ → Type 0
IsStart count most start = (start.0 < count) × IsWithin (pos 1) most start.1

-- starts: at least one, rising by number, with coprime weights
pub record AreStarts (count : ℕ) (most : ℤ) (starts : List (ℕ × ℤ)) : Type 0 where
  pub some : 1 ≤ length starts
  pub rising : AreRisingPairs starts
  pub each : AllByRecursion (IsStart count most) starts
  pub coprime : AreCoprime (map (λ start. start.1) starts)

-- start nodes, start points and a multiple fit sets of so many nodes and points
pub record StartsFit (nodes points : ℕ) (start_nodes start_points : List (ℕ × ℤ)) (times : ℤ) : Type 0 where
  pub from : AreStarts nodes (pos most_from) start_nodes
  pub from_sum : weights_sum start_nodes ≤ℤ pos most_from
  pub over : AreStarts points (pos most_over) start_points
  pub multiple : IsWithin (pos 1) (pos most_from) times
  pub single : length start_nodes ≡ 1 → length start_points ≡ 1 → times ≡ pos 1

-- start points make up a multiple of a belief: in every place weight times belief sums to it
abbrev pub MakesUpMultiple : List PointData → List (ℕ × ℤ) → ℤ → List ℤ → ℕ → Type 0
MakesUpMultiple points starts multiple first states =
    (s : ℕ) → s < states → weighted starts (λ j. at (point_at points j).belief s) ≡ multiple *ℤ at first s
