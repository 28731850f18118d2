-- Where a visit looks on, and the belief that it goes on to.
use Rattle.std.specs.Prelude.{ℕ, ℤ, Bool, IsFalse, IsTrue, List, Option, Some, None, ltb, ◌&&◌, ◌≡◌}
use Rattle.belief.specs.After.{mass_after}
use Rattle.belief.specs.Reduced.{IsReduced}
use Rattle.game_model.specs.Game.{GameData, numbers}
use Rattle.hsvi_trial.specs.Excess.{IsChoice, View}
use Rattle.hsvi_trial.specs.Thresholds.{most_depth}

-- whether a visit at a depth that may go down looks on: with a discount, and above the greatest depth
abbrev pub looks_from : GameData → ℕ → Bool → Bool
looks_from g depth down = down && (ltb 0 (numbers g).discount_over && ltb depth most_depth)

-- the belief after a chosen pair; none where none is chosen
abbrev pub LeadsTo : GameData → View → Option (ℕ × ℕ) → Option (List ℤ) → Type 0
LeadsTo g view None None = Unit {0}
LeadsTo g view None (Some next) = ⊥
LeadsTo g view (Some pair) None = ⊥
LeadsTo g view (Some pair) (Some next) = IsReduced (mass_after g view.belief view.informed pair.0 pair.1) next

-- what a visit chooses, where it looks on, and the belief that it goes on to
pub record IsLook (g : GameData) (goes : Bool) (view : View) (chosen : Option (ℕ × ℕ)) (next : Option (List ℤ)) : Type 0 where
  pub looks : IsTrue goes → IsChoice g view chosen
  pub stays : IsFalse goes → chosen ≡ None
  pub leads : LeadsTo g view chosen next
