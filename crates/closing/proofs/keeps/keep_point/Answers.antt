use Rattle.std.proofs.Common.{rules, ◌≡◌, ap, arith, sym, subst}
use Rattle.std.specs.Prelude.{FitsSigned, ℤ, ◌≤ℤ◌}
use Rattle.std.specs.Int.{w128}
use Rattle.std.proofs.lemmas.Int.{ints, to_z-of_z}
use Rattle.point_set.specs.Corners.{point_at}
use Rattle.point_set.specs.Members.{point_data}
use Rattle.point_set.specs.Points.{PointData}
use Rattle.point_set.specs.Sawtooth.{AreMeasured}
use Rattle.closing.specs.Better.{PointsGoOn}
use Rattle.closing.proofs.Kept.{points-added, points-measured, points-replaced}
use Rattle.closing.proofs.keeps.keep_point.Goals as goal

pub sawtooth-requires : goal.sawtooth-requires
sawtooth-requires c =
    subst (AreMeasured c.args.points.now.members) (sym c.parts.ensures.parts) (points-measured c.args.game.now c.args.points.now.members _ c.law_game.ensures.accepted c.requires.points c.requires.fits.belief)

pub returns-else-point : goal.returns-else-point
returns-else-point c =
    let found = rw c.in-Some.is at c.least_at.ensures in
    let old : ℤ = c.point.result.now.value in
    let new : ℤ = c.args.point.value in
    let old_fits : FitsSigned w128 old = search rules in
    let new_fits : FitsSigned w128 new = search rules in
    let told = simp to_z-of_z at c.if-point.false in
    let lower : new ≤ℤ old = omega (arith, ints, told) in
    let value : old ≡ (point_at c.args.points.now.members c.in-Some.number).value = ap (λ (x : PointData). x.value) c.point.ensures in
    subst (PointsGoOn c.args.game.now c.args.points.now.members) (sym c.replace.ensures.members)
    (points-replaced c.args.game.now c.args.points.now.members c.in-Some.number (point_data c.args.point) c.requires.points found.0
    (record { belief = sym found.1; value = subst (λ (z : ℤ). new ≤ℤ z) value lower }) c.requires.fits c.requires.stays)

pub returns-else-sawtooth-point : goal.returns-else-sawtooth-point
returns-else-sawtooth-point c =
    points-added c.args.game.now c.args.points.now.members (point_data c.args.point) c.add_point.new.points.members c.requires.points c.add_point.ensures.few c.requires.fits c.requires.stays c.add_point.ensures.added
