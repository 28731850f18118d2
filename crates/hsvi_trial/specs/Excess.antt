-- Where a search goes on from a belief: the excess of what may be seen next over its threshold.
use Rattle.std.specs.Prelude.{ℕ, ℤ, pos, IsTrue, List, Option, Some, None, ◌≡◌, ◌<◌, ◌⊎◌, ◌-ℤ◌, ◌*ℤ◌, ◌≤ℤ◌, ◌<ℤ◌}
use Rattle.scaled_num.specs.Share.{IsFloor, at}
use Rattle.scaled_num.specs.Sums.{sum_of}
use Rattle.alpha_set.specs.Worth.{IsWorth}
use Rattle.belief.specs.After.{mass_after}
use Rattle.belief.specs.Mixes.{MixesData}
use Rattle.game_model.specs.Game.{GameData, unit}
use Rattle.point_set.specs.Sawtooth.{IsSawtooth}
use Rattle.stage_game.specs.Masses.{is_some_mass}
use Rattle.hsvi_trial.specs.Sets.{Sets}

-- what a choice looks at: the sets as they are after what was kept, the belief, the lower advice's mixes of the
-- informed player, the upper advice's mix of player one, and the threshold of the next depth
pub record View : Type 0 where
  pub sets : Sets
  pub belief : List ℤ
  pub informed : MixesData
  pub own : List ℤ
  pub threshold : ℤ

-- The excess of a mass that is reached by an own action of this weight: the weight times what the bounds are apart
-- there beyond the threshold, over the units of one and rounded down.
pub record IsExcess (view : View) (weight : ℤ) (mass : List ℤ) (excess : ℤ) : Type 0 where
  pub high : ℤ
  pub low : ℤ
  pub node : ℕ
  pub sawtooth : IsSawtooth view.sets.points mass high
  pub worth : IsWorth view.sets.nodes mass low node
  pub whole : ℤ
  pub floor : IsFloor whole (high -ℤ low -ℤ view.threshold *ℤ sum_of mass) (pos unit)
  pub same : excess ≡ weight *ℤ whole

-- an own action and an observation of the game with a mass that is not zero, and its excess
pub record HasExcess (g : GameData) (view : View) (a o : ℕ) (excess : ℤ) : Type 0 where
  pub own : a < g.shape.own_actions
  pub seen : o < g.shape.observations
  pub some : IsTrue (is_some_mass (mass_after g view.belief view.informed a o))
  pub here : IsExcess view (at view.own a) (mass_after g view.belief view.informed a o) excess

-- one pair of an own action and an observation comes before another
abbrev pub IsPairBefore : ℕ → ℕ → ℕ → ℕ → Type 0
IsPairBefore a o b p = (a < b) ⊎ ((a ≡ b) × (o < p))

-- the first pair of greatest excess, which is positive
pub record IsGreatest (g : GameData) (view : View) (a o : ℕ) : Type 0 where
  pub excess : ℤ
  pub has : HasExcess g view a o excess
  pub positive : pos 0 <ℤ excess
  pub greatest : (b p : ℕ) (other : ℤ) → HasExcess g view b p other → other ≤ℤ excess
  pub first : (b p : ℕ) (other : ℤ) → IsPairBefore b p a o → HasExcess g view b p other → other <ℤ excess

-- what is chosen: that pair, and none where no excess is positive
abbrev pub IsChoice : GameData → View → Option (ℕ × ℕ) → Type 0
IsChoice g view None = (b p : ℕ) (other : ℤ) → HasExcess g view b p other → other ≤ℤ pos 0
IsChoice g view (Some pair) = IsGreatest g view pair.0 pair.1
