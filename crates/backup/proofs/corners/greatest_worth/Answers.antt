use Rattle.std.proofs.Common.{rules, arith, ◌≡◌, ◌*◌, ◌+◌, ℕ, subst, sym}
use Rattle.std.specs.Prelude.{ℤ, unsigned_abs, FitsSigned}
use Rattle.std.specs.Int.{w128, int_max, cast_signed}
use Rattle.std.proofs.lemmas.Int.{to_z-of_z}
use Rattle.scaled_num.specs.Share.{at}
use Rattle.game_model.specs.Bounds.{IsWorthWithin}
use Rattle.game_model.specs.Game.{GameData, numbers, span}
use Rattle.game_model.specs.Seeds.{stage_worth}
use Rattle.backup.specs.Rounds.{IsGreatestOf}
use Rattle.backup.proofs.Greatest.{greatest-one, greatest-more, max-within}
use Rattle.backup.proofs.corners.greatest_worth.Goals as goal

pub loop-a-init : goal.loop-a-init
loop-a-init c =
    let w_fits : FitsSigned w128 c.stage_worth-most.result = search rules in
    let f : ℕ → ℤ = λ a. stage_worth (numbers c.args.game.now) a (at c.args.old.now) c.args.s c.args.c in
    simp to_z-of_z (record { greatest = greatest-one f c.stage_worth-most.result c.stage_worth-most.ensures.exact; bounded = c.stage_worth-most.ensures.bounded })

pub loop-a-preserved : goal.loop-a-preserved
loop-a-preserved c =
    let g : GameData = c.args.game.now in
    let f : ℕ → ℤ = λ a. stage_worth (numbers g) a (at c.args.old.now) c.args.s c.args.c in
    let x : ℤ = c.loop-a.most in
    let y : ℤ = c.stage_worth.result in
    let x_fits : FitsSigned w128 x = search rules in
    let y_fits : FitsSigned w128 y = search rules in
    let m_fits : FitsSigned w128 c.max-most.result = search rules in
    let value = simp (to_z-of_z, c.loop-a.most-is) at c.max-most.ensures.value in
    let is : c.max-most.result ≡ int_max x y = cc value in
    simp to_z-of_z (record {
      greatest = subst (IsGreatestOf f (c.loop-a.a + 1)) (sym is) (greatest-more f c.loop-a.a x y (subst (IsGreatestOf f c.loop-a.a) c.loop-a.most-is c.loop-a.invariant.greatest) c.stage_worth.ensures.exact);
      bounded = subst (IsWorthWithin g) (sym is)
          (max-within x y (span g * unsigned_abs g.shape.row_total * unsigned_abs g.shape.discount.1) (subst (IsWorthWithin g) c.loop-a.most-is c.loop-a.invariant.bounded) c.stage_worth.ensures.bounded);
    })

pub returns-clause-greatest : goal.returns-clause-greatest
returns-clause-greatest c =
    let g : GameData = c.args.game.now in
    let f : ℕ → ℤ = λ a. stage_worth (numbers g) a (at c.args.old.now) c.args.s c.args.c in
    let some = c.law_game.ensures.accepted.shape.own_actions.0 in
    let all : c.loop-a.a ≡ g.shape.own_actions = omega arith in
    subst (λ (n : ℕ). IsGreatestOf f n (cast_signed w128 c.loop-a.most-bits)) all c.loop-a.invariant.greatest
