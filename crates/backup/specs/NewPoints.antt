-- How the splits of a new point are made, by own action and observation.
use Rattle.std.specs.Prelude.{ℕ, ℤ, pos, List, [], flat_map, length, ◌≡◌, ◌<◌, ◌<ℤ◌, ◌++◌}
use Rattle.std.specs.List.{AllByRecursion}
use Rattle.scaled_num.specs.Sums.{below, sum_of}
use Rattle.belief.specs.After.{mass_after}
use Rattle.belief.specs.Mixes.{MixesData}
use Rattle.game_model.specs.Branches.{Branch}
use Rattle.game_model.specs.Game.{GameData, IsWithin}
use Rattle.point_set.specs.Points.{PointData, most_share}
use Rattle.point_set.specs.Split.{AreRisingPairs, IsSplit, MakesUp}
use Rattle.stage_game.specs.AdviceData.{UpperAdviceData}
use Rattle.stage_game.specs.Fits.{wanted_at}
use Rattle.stage_game.specs.Masses.{over_pairs}
use Rattle.backup.specs.Evaluation.{split_branches}

-- items that make up a mass: those of its split by the wanted points, and none where it is zero
pub record AreItemsOf (points : List PointData) (wanted : List (ℕ × ℤ)) (mass : List ℤ) (items : List (ℕ × ℤ)) : Type 0 where
  pub none : sum_of mass ≡ pos 0 → items ≡ []
  pub some : pos 0 <ℤ sum_of mass → IsSplit points wanted mass items
  pub made : MakesUp points items mass
  pub rising : AreRisingPairs items
  pub inside : AllByRecursion (λ item. item.0 < length points) items
  pub weights : AllByRecursion (λ item. IsWithin (pos 1) most_share item.1) items

-- the shares after an own action and an observation
pub record AreSharesAfter (g : GameData) (belief : List ℤ) (mixes : MixesData) (wanted : List Branch) (points : List PointData) (a o : ℕ) (shares : List Branch) : Type 0 where
  pub items : List (ℕ × ℤ)
  pub right : AreItemsOf points (wanted_at wanted a o) (mass_after g belief mixes a o) items
  pub same : shares ≡ split_branches a o items

-- the shares after an own action and an observation stand behind those before
pub record AddsSharesAfter (g : GameData) (belief : List ℤ) (mixes : MixesData) (wanted : List Branch) (points : List PointData) (a o : ℕ) (old new : List Branch) : Type 0 where
  pub shares : List Branch
  pub right : AreSharesAfter g belief mixes wanted points a o shares
  pub same : new ≡ old ++ shares

-- the shares after an own action, by observation in order, stand behind those before
pub record AddsShares (g : GameData) (belief : List ℤ) (mixes : MixesData) (wanted : List Branch) (points : List PointData) (a : ℕ) (old new : List Branch) : Type 0 where
  pub after : ℕ → List Branch
  pub right : (o : ℕ) → o < g.shape.observations → AreSharesAfter g belief mixes wanted points a o (after o)
  pub same : new ≡ old ++ flat_map after (below g.shape.observations)

-- the shares of all masses
pub record AreShares (g : GameData) (belief : List ℤ) (mixes : MixesData) (wanted : List Branch) (points : List PointData) (shares : List Branch) : Type 0 where
  pub after : ℕ → ℕ → List Branch
  pub right : (a o : ℕ) → a < g.shape.own_actions → o < g.shape.observations → AreSharesAfter g belief mixes wanted points a o (after a o)
  pub same : shares ≡ over_pairs g after

-- a point of this value with the mixes of an advice, whose masses are split by what it wants
pub record IsSplitBy (g : GameData) (belief : List ℤ) (advice : UpperAdviceData) (points : List PointData) (value : ℤ) (point : PointData) : Type 0 where
  pub belief_is : point.belief ≡ belief
  pub value_is : point.value ≡ value
  pub mixes_are : point.mixes ≡ advice.informed
  pub shares : AreShares g belief advice.informed advice.wanted points point.splits
