use Rattle.std.proofs.Common.{rules, arith, ◌≡◌, ◌*◌, ◌+◌, ℕ, subst, sym}
use Rattle.std.specs.Prelude.{ℤ, pos, unsigned_abs, FitsSigned, slice_index_or}
use Rattle.std.specs.Int.{w128, int_min, cast_signed}
use Rattle.std.proofs.lemmas.Int.{to_z-of_z}
use Rattle.game_model.specs.Bounds.{IsLeastOf, IsWorthWithin}
use Rattle.game_model.specs.Game.{GameData, numbers, span}
use Rattle.game_model.specs.Seeds.{stage_worth}
use Rattle.game_model.proofs.Least.{least-one, least-more, min-within}
use Rattle.game_model.proofs.seeds.least_worth.Goals as goal

pub loop-c-init : goal.loop-c-init
loop-c-init c =
    let w_fits : FitsSigned w128 c.stage_worth-least.result = search rules in
    let f : ℕ → ℤ = stage_worth (numbers c.args.game.now) c.args.a (λ t. slice_index_or c.args.old.now t (pos 0)) c.args.s in
    simp to_z-of_z (record { least = least-one f c.stage_worth-least.result c.stage_worth-least.ensures.exact; bounded = c.stage_worth-least.ensures.bounded })

pub loop-c-preserved : goal.loop-c-preserved
loop-c-preserved c =
    let g : GameData = c.args.game.now in
    let f : ℕ → ℤ = stage_worth (numbers g) c.args.a (λ t. slice_index_or c.args.old.now t (pos 0)) c.args.s in
    let x : ℤ = c.loop-c.least in
    let y : ℤ = c.stage_worth.result in
    let x_fits : FitsSigned w128 x = search rules in
    let y_fits : FitsSigned w128 y = search rules in
    let m_fits : FitsSigned w128 c.min-least.result = search rules in
    let is : c.min-least.result ≡ int_min x y = simp (to_z-of_z, c.loop-c.least-is) at c.min-least.ensures.value in
    let exact : y ≡ f c.loop-c.c = search rules in
    simp to_z-of_z (record {
      least = subst (IsLeastOf f (c.loop-c.c + 1)) (sym is) (least-more f c.loop-c.c x y (subst (IsLeastOf f c.loop-c.c) c.loop-c.least-is c.loop-c.invariant.least) exact);
      bounded = subst (IsWorthWithin g) (sym is)
          (min-within x y (span g * unsigned_abs g.shape.row_total * unsigned_abs g.shape.discount.1) (subst (IsWorthWithin g) c.loop-c.least-is c.loop-c.invariant.bounded) c.stage_worth.ensures.bounded);
    })

pub returns-clause-least : goal.returns-clause-least
returns-clause-least c =
    let g : GameData = c.args.game.now in
    let f : ℕ → ℤ = stage_worth (numbers g) c.args.a (λ t. slice_index_or c.args.old.now t (pos 0)) c.args.s in
    let some = c.law_game.ensures.accepted.shape.informed_actions.0 in
    let all : c.loop-c.c ≡ g.shape.informed_actions = omega arith in
    subst (λ (n : ℕ). IsLeastOf f n (cast_signed w128 c.loop-c.least-bits)) all c.loop-c.invariant.least
