-- The start of sets, before its weights are brought to lowest terms.
use Rattle.std.specs.Prelude.{ℕ, ℤ, pos, List, length, map, unsigned_abs, ◌/◌, ◌≡◌, ◌*ℤ◌, ◌≤ℤ◌, ◌<ℤ◌}
use Rattle.game_model.specs.Branches.{mix_total}
use Rattle.game_model.specs.Game.{GameData}
use Rattle.point_set.specs.Corners.{point_at}
use Rattle.point_set.specs.Points.{PointData}
use Rattle.point_set.specs.Sawtooth.{IsSawtooth}
use Rattle.point_set.specs.Split.{MakesUp}
use Rattle.point_set.specs.Tooth.{IsToothSplit, items_cost}
use Rattle.stage_game.specs.Asked.{NodesServe, PointsServe}
use Rattle.hsvi_trial.specs.Least.{IsLeastAt, NoneIsAt}
use Rattle.hsvi_trial.specs.Sets.{Sets}
use Rattle.hsvi_trial.specs.Starts.{whole_first}
use Rattle.hsvi_trial.specs.declared.starts.Upper.{Upper}
use Rattle.hsvi_trial.specs.declared.starts.Upper.TheVariants.{Root, Tooth}

-- sets of a game with a node, a point at each corner and one at the first belief
pub record HasStart (g : GameData) (sets : Sets) : Type 0 where
  pub nodes : NodesServe g sets.nodes
  pub points : PointsServe g sets.points
  pub first : NoneIsAt sets.points g.first (length sets.points) → ⊥

-- the first point of least value at the first belief is the upper part of a start
pub record IsRootPart (points : List PointData) (root : ℕ) (sawtooth : ℤ) (number : ℕ) (high : ℤ) : Type 0 where
  pub same : number ≡ root
  pub least : (pos mix_total *ℤ (point_at points root).value) ≤ℤ sawtooth
  pub is_high : high ≡ pos mix_total *ℤ (point_at points root).value

-- what the sawtooth is made of is
pub record IsToothPart (g : GameData) (points : List PointData) (root : ℕ) (sawtooth : ℤ) (items : List (ℕ × ℤ)) (high : ℤ) : Type 0 where
  pub least : sawtooth <ℤ (pos mix_total *ℤ (point_at points root).value)
  pub split : IsToothSplit points (whole_first g) items
  pub made : MakesUp points items (whole_first g)
  pub cost : IsSawtooth points (whole_first g) (items_cost points items)
  pub is_high : high ≡ sawtooth

abbrev pub IsUpperPart : GameData → List PointData → ℕ → ℤ → Upper → ℤ → Type 0
IsUpperPart g points root sawtooth (Root number) high = IsRootPart points root sawtooth number high
IsUpperPart g points root sawtooth (Tooth items) high = IsToothPart g points root sawtooth items high

-- the upper part of the start of points, and what they cost at the first belief, times the mix total
pub record IsUpperFound (g : GameData) (points : List PointData) (upper : Upper) (high : ℤ) : Type 0 where
  pub root : ℕ
  pub is_root : IsLeastAt points g.first (length points) root
  pub sawtooth : ℤ
  pub is_sawtooth : IsSawtooth points (whole_first g) sawtooth
  pub part : IsUpperPart g points root sawtooth upper high

-- items with their weights divided
abbrev pub lowest_items : ℕ → List (ℕ × ℤ) → List (ℕ × ℤ)
lowest_items divisor items = map (λ item. (item.0, pos (unsigned_abs item.1 / divisor))) items
