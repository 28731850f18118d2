use Rattle.std.proofs.Common.{rules, ◌≡◌, ◌+◌, ℕ, subst, sym}
use Rattle.std.specs.Prelude.{ℤ, FitsSigned}
use Rattle.std.specs.Int.{int_max, w128}
use Rattle.std.proofs.lemmas.Int.{to_z-of_z}
use Rattle.point_set.specs.Changes.{IsGreatestOf}
use Rattle.point_set.specs.Members.{worth_among}
use Rattle.point_set.proofs.Settling.{greatest-more}
use Rattle.point_set.proofs.settles.greatest_worth.Goals as goal

pub loop-a-preserved : goal.loop-a-preserved
loop-a-preserved c =
    let f : ℕ → ℤ = worth_among c.args.game.now c.args.points.now c.args.point.now in
    let x : ℤ = c.loop-a.most in
    let y : ℤ = c.worth_after.result in
    let x_fits : FitsSigned w128 x = search rules in
    let y_fits : FitsSigned w128 y = search rules in
    let m_fits : FitsSigned w128 c.max-most.result = search rules in
    let value = simp (to_z-of_z, c.loop-a.most-is) at c.max-most.ensures.value in
    let is : c.max-most.result ≡ int_max x y = cc value in
    simp to_z-of_z (subst (IsGreatestOf f (c.loop-a.a + 1)) (sym is) (greatest-more f c.loop-a.a x y (subst (IsGreatestOf f c.loop-a.a) c.loop-a.most-is c.loop-a.invariant) c.worth_after.ensures.exact))
