use Rattle.std.proofs.Common.{◌≡◌, ◌∙◌, ap, false, of_z, refl, rules, subst, sym, to_z, true}
use Rattle.std.specs.Prelude.{ℤ, pos, FitsSigned, int_le}
use Rattle.std.specs.Int.{w128}
use Rattle.std.proofs.lemmas.Int.{to_z-of_z}
use Rattle.std.proofs.lemmas.Result.{on_ok_weaker}
use Rattle.scaled_num.specs.Sums.{sum_of}
use Rattle.point_set.specs.Best.{IsBest}
use Rattle.stage_game.specs.Masses.{is_some_mass}
use Rattle.stage_game.proofs.Preferring.{best-here, best-nowhere, best-zero, no-mass, some-mass}
use Rattle.stage_game.proofs.RightMasses.{mass-light}
use Rattle.stage_game.proofs.preferred.prefer_best_at.Goals as goal

pub sum-requires-clause-each : goal.sum-requires-clause-each
sum-requires-clause-each c = c.requires.measured.right.each

pub sum-requires-clause-most : goal.sum-requires-clause-most
sum-requires-clause-most c = let h = c.requires.measured in mass-light h.game h.accepted c.args.mass.now h.right

pub returns-then-sum-le0 : goal.returns-then-sum-le0
returns-then-sum-le0 c =
    let fits : FitsSigned w128 c.sum.result = search rules in
    let plain : to_z w128 (of_z w128 c.sum.result) ≡ c.sum.result = simp to_z-of_z refl in
    let none : is_some_mass c.args.mass.now ≡ false = no-mass (sum_of c.args.mass.now) (sym (ap (λ (z : ℤ). int_le z (pos 0)) (plain ∙ c.sum.ensures)) ∙ c.if-sum-le0.true) in
    best-zero c.args.points.now.members c.args.mass.now c.args.others.now.items none

pub returns-in-None : goal.returns-in-None
returns-in-None c =
    let fits : FitsSigned w128 c.sum.result = search rules in
    let plain : to_z w128 (of_z w128 c.sum.result) ≡ c.sum.result = simp to_z-of_z refl in
    let some : is_some_mass c.args.mass.now ≡ true = some-mass (sum_of c.args.mass.now) (sym (ap (λ (z : ℤ). int_le z (pos 0)) (plain ∙ c.sum.ensures)) ∙ c.if-sum-le0.false) in
    best-nowhere c.args.points.now.members c.args.mass.now c.args.others.now.items some
    (subst (IsBest c.args.points.now.members c.args.mass.now) c.in-None.is c.best.ensures)

pub returns-in-Some : goal.returns-in-Some
returns-in-Some c =
    let fits : FitsSigned w128 c.sum.result = search rules in
    let plain : to_z w128 (of_z w128 c.sum.result) ≡ c.sum.result = simp to_z-of_z refl in
    let some : is_some_mass c.args.mass.now ≡ true = some-mass (sum_of c.args.mass.now) (sym (ap (λ (z : ℤ). int_le z (pos 0)) (plain ∙ c.sum.ensures)) ∙ c.if-sum-le0.false) in
    on_ok_weaker c.prefer.result
    (best-here c.args.points.now.members c.args.mass.now c.in-Some.k c.args.others.now.items c.prefer.new.kept.items some (subst (IsBest c.args.points.now.members c.args.mass.now) c.in-Some.is c.best.ensures))
    c.prefer.ensures
