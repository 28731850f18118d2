-- The first pair of greatest excess among those looked at so far.
use Rattle.std.specs.Prelude.{ℕ, ℤ, pos, Option, Some, None, ◌*◌, ◌≤ℤ◌, ◌<ℤ◌}
use Rattle.alpha_set.specs.Nodes.{IsMix}
use Rattle.game_model.specs.Game.{GameData, IsWithin, span}
use Rattle.stage_game.specs.Asked.{BeliefFits, NodesServe, PointsServe}
use Rattle.stage_game.specs.Fits.{MixesFit}
use Rattle.hsvi_trial.specs.Excess.{HasExcess, IsPairBefore, View}
use Rattle.hsvi_trial.specs.declared.choices.Best.{Best}

-- a view of sets, advice and a threshold of one game
pub record IsView (g : GameData) (view : View) : Type 0 where
  pub nodes : NodesServe g view.sets.nodes
  pub points : PointsServe g view.sets.points
  pub belief : BeliefFits g view.belief
  pub informed : MixesFit g view.informed
  pub own : IsMix g.shape.own_actions view.own
  pub threshold : IsWithin (pos 0) (pos (2 * span g)) view.threshold

-- of the pairs before an own action and an observation the first one of greatest excess, which is positive
pub record IsBestPair (g : GameData) (view : View) (a o : ℕ) (best : Best) : Type 0 where
  pub has : HasExcess g view best.own best.seen best.excess
  pub positive : pos 0 <ℤ best.excess
  pub greatest : (b p : ℕ) (other : ℤ) → IsPairBefore b p a o → HasExcess g view b p other → other ≤ℤ best.excess
  pub first : (b p : ℕ) (other : ℤ) → IsPairBefore b p best.own best.seen → HasExcess g view b p other → other <ℤ best.excess

-- that pair, and none where none of them has a positive excess
abbrev pub IsBestBefore : GameData → View → ℕ → ℕ → Option Best → Type 0
IsBestBefore g view a o None = (b p : ℕ) (other : ℤ) → IsPairBefore b p a o → HasExcess g view b p other → other ≤ℤ pos 0
IsBestBefore g view a o (Some best) = IsBestPair g view a o best

-- the excess that another one has to be above, to be the best
abbrev pub best_excess : Option Best → ℤ
best_excess None = pos 0
best_excess (Some best) = best.excess
