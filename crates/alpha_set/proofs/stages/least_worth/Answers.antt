use Rattle.std.proofs.Common.{rules, arith, ◌≡◌, ◌+◌, ℕ, subst, sym}
use Rattle.std.specs.Prelude.{ℤ, FitsSigned}
use Rattle.std.specs.Int.{w128, int_min, cast_signed}
use Rattle.std.proofs.lemmas.Int.{to_z-of_z}
use Rattle.game_model.specs.Bounds.{IsLeastOf}
use Rattle.game_model.specs.Game.{GameData, numbers}
use Rattle.game_model.proofs.Least.{least-one, least-more}
use Rattle.alpha_set.specs.Members.{mix_of, worth_by}
use Rattle.alpha_set.proofs.stages.least_worth.Goals as goal

pub loop-c-init : goal.loop-c-init
loop-c-init c =
    let w_fits : FitsSigned w128 c.stage_worth-least.result = search rules in
    let f : ℕ → ℤ = worth_by (numbers c.args.game.now) (mix_of c.args.mix.now) c.args.table.now c.args.s in
    simp to_z-of_z (least-one f c.stage_worth-least.result c.stage_worth-least.ensures)

pub loop-c-preserved : goal.loop-c-preserved
loop-c-preserved c =
    let f : ℕ → ℤ = worth_by (numbers c.args.game.now) (mix_of c.args.mix.now) c.args.table.now c.args.s in
    let x : ℤ = c.loop-c.least in
    let y : ℤ = c.stage_worth.result in
    let x_fits : FitsSigned w128 x = search rules in
    let y_fits : FitsSigned w128 y = search rules in
    let m_fits : FitsSigned w128 c.min-least.result = search rules in
    let is : c.min-least.result ≡ int_min x y = simp (to_z-of_z, c.loop-c.least-is) at c.min-least.ensures.value in
    let exact : y ≡ f c.loop-c.c = search rules in
    simp to_z-of_z (subst (IsLeastOf f (c.loop-c.c + 1)) (sym is) (least-more f c.loop-c.c x y (subst (IsLeastOf f c.loop-c.c) c.loop-c.least-is c.loop-c.invariant) exact))

pub returns : goal.returns
returns c =
    let g : GameData = c.args.game.now in
    let f : ℕ → ℤ = worth_by (numbers g) (mix_of c.args.mix.now) c.args.table.now c.args.s in
    let some = c.law_game.ensures.accepted.shape.informed_actions.0 in
    let all : c.loop-c.c ≡ g.shape.informed_actions = omega arith in
    subst (λ (n : ℕ). IsLeastOf f n (cast_signed w128 c.loop-c.least-bits)) all c.loop-c.invariant
