use Rattle.std.proofs.Common.{◌≡◌, ◌∙◌, ap, false, of_z, refl, rules, sym, to_z, true}
use Rattle.std.specs.Prelude.{ℤ, pos, FitsSigned, int_le}
use Rattle.std.specs.Int.{w128}
use Rattle.std.proofs.lemmas.Int.{to_z-of_z}
use Rattle.std.proofs.lemmas.Result.{on_ok_weaker}
use Rattle.scaled_num.specs.Sums.{sum_of}
use Rattle.stage_game.specs.Masses.{is_some_mass}
use Rattle.stage_game.proofs.Preferring.{no-mass, some-mass, worthy-here, worthy-zero}
use Rattle.stage_game.proofs.RightMasses.{mass-light}
use Rattle.stage_game.proofs.preferred.prefer_worthy_at.Goals as goal

pub sum-requires-clause-each : goal.sum-requires-clause-each
sum-requires-clause-each c = c.requires.weighed.right.each

pub sum-requires-clause-most : goal.sum-requires-clause-most
sum-requires-clause-most c = let h = c.requires.weighed in mass-light h.game h.accepted c.args.mass.now h.right

pub returns-then-sum-le0 : goal.returns-then-sum-le0
returns-then-sum-le0 c =
    let fits : FitsSigned w128 c.sum.result = search rules in
    let plain : to_z w128 (of_z w128 c.sum.result) ≡ c.sum.result = simp to_z-of_z refl in
    let none : is_some_mass c.args.mass.now ≡ false = no-mass (sum_of c.args.mass.now) (sym (ap (λ (z : ℤ). int_le z (pos 0)) (plain ∙ c.sum.ensures)) ∙ c.if-sum-le0.true) in
    worthy-zero c.args.nodes.now.members c.args.mass.now c.args.kept.now.items none

pub returns : goal.returns
returns c =
    let fits : FitsSigned w128 c.sum.result = search rules in
    let plain : to_z w128 (of_z w128 c.sum.result) ≡ c.sum.result = simp to_z-of_z refl in
    let some : is_some_mass c.args.mass.now ≡ true = some-mass (sum_of c.args.mass.now) (sym (ap (λ (z : ℤ). int_le z (pos 0)) (plain ∙ c.sum.ensures)) ∙ c.if-sum-le0.false) in
    on_ok_weaker c.prefer.result
    (worthy-here c.args.nodes.now.members c.args.mass.now c.worth-k.result.0 c.worth-k.result.1 c.args.kept.now.items c.prefer.new.kept.items some c.worth-k.ensures.worth)
    c.prefer.ensures
