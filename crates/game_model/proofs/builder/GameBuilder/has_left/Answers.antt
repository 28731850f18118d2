use Rattle.std.proofs.Common.{rules, subst, sym}
use Rattle.std.specs.Prelude.{ℤ, pos, FitsSigned, ◌+ℤ◌, ◌≤ℤ◌}
use Rattle.std.specs.Bool.{IsTrue}
use Rattle.std.specs.Int.{w128}
use Rattle.std.specs.Int.Signed.{le_z}
use Rattle.std.proofs.lemmas.Int.{to_z-of_z}
use Rattle.game_model.specs.Build.{HasWeightLeft}
use Rattle.game_model.specs.Game.{GameData}
use Rattle.game_model.proofs.Games.{row-sum-low}
use Rattle.game_model.proofs.Width.{at_most, filled_fits}
use Rattle.game_model.proofs.builder.GameBuilder.has_left.Goals as goal

pub returns : goal.returns
returns c =
    let filled : ℤ = c.self.inside.filled in
    let weight : ℤ = c.args.weight in
    let most : ℤ = c.self.inside.shape.row_total in
    let front = c.self.invariant.front in
    let f_fits : FitsSigned w128 filled = search rules in
    let w_fits : FitsSigned w128 weight = c.ranges.weight in
    let m_fits : FitsSigned w128 most = search rules in
    let low : pos 0 ≤ℤ filled = subst (λ (z : ℤ). pos 0 ≤ℤ z) (sym c.self.invariant.sum) (row-sum-low _ _ front.last.each) in
    let high : weight ≤ℤ most = subst (λ (g : GameData). weight ≤ℤ g.shape.row_total) (sym c.self.view_is) c.requires.high in
    let fits : FitsSigned w128 (filled +ℤ weight) = filled_fits filled weight most low c.requires.low high (subst (λ (z : ℤ). z ≤ℤ most) (sym c.self.invariant.sum) front.last.most) front.shape.row_total.1 in
    let answer : (IsTrue (le_z (filled +ℤ weight) most) → HasWeightLeft c.args.self.now weight) × (HasWeightLeft c.args.self.now weight → IsTrue (le_z (filled +ℤ weight) most)) =
    subst (λ (g : GameData). (IsTrue (le_z (filled +ℤ weight) most) → HasWeightLeft g weight) × (HasWeightLeft g weight → IsTrue (le_z (filled +ℤ weight) most))) c.self.view_is
    (subst (λ (z : ℤ). (IsTrue (le_z (filled +ℤ weight) most) → (z +ℤ weight) ≤ℤ most) × ((z +ℤ weight) ≤ℤ most → IsTrue (le_z (filled +ℤ weight) most))) c.self.invariant.sum (at_most (filled +ℤ weight) most)) in
    simp to_z-of_z (search rules)
