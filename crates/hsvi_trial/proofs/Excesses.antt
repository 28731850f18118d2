-- A pair has one excess, or none where its mass is zero.
use Rattle.std.proofs.Common.{◌≡◌, ◌<◌, ℕ, false, List, ap, ap₂, sym, subst, ◌∙◌, arith}
use Rattle.std.proofs.lemmas.Bool.{false≢true}
use Rattle.std.proofs.lemmas.Int.{ints}
use Rattle.std.specs.Prelude.{ℤ, pos, IsTrue, ◌-ℤ◌, ◌*ℤ◌, ◌≤ℤ◌}
use Rattle.scaled_num.specs.Share.{IsFloor, at}
use Rattle.scaled_num.specs.Sums.{sum_of}
use Rattle.scaled_num.proofs.OneShare.{floor-one}
use Rattle.alpha_set.proofs.One.{worth-one}
use Rattle.belief.specs.After.{mass_after}
use Rattle.game_model.specs.Game.{GameData, IsGame, IsMass, unit}
use Rattle.point_set.proofs.One.{sawtooth-one}
use Rattle.stage_game.specs.Masses.{is_some_mass}
use Rattle.stage_game.proofs.RightMasses.{mass-right}
use Rattle.hsvi_trial.specs.Choices.{IsView}
use Rattle.hsvi_trial.specs.Excess.{HasExcess, IsExcess, View}

pub excess-one : (view : View) (weight : ℤ) (mass : List ℤ) (x y : ℤ) → IsExcess view weight mass x → IsExcess view weight mass y → x ≡ y
excess-one view weight mass x y p q =
    p.same
    ∙ ap (λ (z : ℤ). weight *ℤ z)
    (floor-one p.whole q.whole (p.high -ℤ p.low -ℤ view.threshold *ℤ sum_of mass) (pos unit) (omega (arith, ints)) p.floor
    (subst (λ (z : ℤ). IsFloor q.whole (z -ℤ view.threshold *ℤ sum_of mass) (pos unit))
    (ap₂ (λ (a b : ℤ). a -ℤ b)
    (sawtooth-one view.sets.points mass q.high p.high q.sawtooth p.sawtooth)
    (worth-one view.sets.nodes mass q.low p.low q.node p.node q.worth p.worth).0)
    q.floor))
    ∙ sym q.same

-- masses under the mixes of a view are masses of the game
pub view-mass : (g : GameData) (view : View) → IsGame g → IsView g view → (a o : ℕ) → a < g.shape.own_actions → o < g.shape.observations → IsMass g (mass_after g view.belief view.informed a o)
view-mass g view game is a o la lo = mass-right g game view.belief is.belief.right view.informed is.informed a o la lo

-- a pair with this mass has this excess
pub has-here : (g : GameData) (view : View) (a o : ℕ) (mass : List ℤ) (excess : ℤ) → a < g.shape.own_actions → o < g.shape.observations → mass ≡ mass_after g view.belief view.informed a o →
    IsTrue (is_some_mass mass) → IsExcess view (at view.own a) mass excess → HasExcess g view a o excess
has-here g view a o mass excess la lo same some is = record {
  own = la;
  seen = lo;
  some = subst (λ (m : List ℤ). IsTrue (is_some_mass m)) same some;
  here = subst (λ (m : List ℤ). IsExcess view (at view.own a) m excess) same is;
}

-- and no other
pub same-there : (g : GameData) (view : View) (a o : ℕ) (excess other : ℤ) → HasExcess g view a o excess → HasExcess g view a o other → other ≡ excess
same-there g view a o excess other p q = excess-one view (at view.own a) (mass_after g view.belief view.informed a o) other excess q.here p.here

-- a pair without a mass has none
pub none-there : (g : GameData) (view : View) (a o : ℕ) (mass : List ℤ) (most : ℤ) → mass ≡ mass_after g view.belief view.informed a o → is_some_mass mass ≡ false →
    (other : ℤ) → HasExcess g view a o other → other ≤ℤ most
none-there g view a o mass most same none other has = absurd (false≢true (sym none ∙ subst (λ (m : List ℤ). IsTrue (is_some_mass m)) (sym same) has.some))
