use Rattle.std.proofs.Common.{◌≡◌, ◌∙◌, ◌++◌, ◌∷◌, [], List, ap, rules, arith, subst, sym}
use Rattle.std.specs.Prelude.{ℤ, pos, neg_ℤ, FitsSigned, ◌<ℤ◌, ◌≤ℤ◌}
use Rattle.std.specs.Int.{w128}
use Rattle.std.proofs.lemmas.Int.{to_z-of_z}
use Rattle.game_model.specs.Game.{GameData}
use Rattle.stage_game.specs.Scaling.{floor_of, paid_above, pay_width}
use Rattle.stage_game.proofs.Appends.{number-more}
use Rattle.stage_game.proofs.LowerNumbers.{bits-few}
use Rattle.stage_game.proofs.Sizes.{paid-quotient}
use Rattle.stage_game.proofs.lower.push_pays.Goals as goal

pub minus_down-requires-clause-divisor : goal.minus_down-requires-clause-divisor
minus_down-requires-clause-divisor c =
    let w_fits : FitsSigned w128 c.paid_over-whole.result = search rules in
    let q = paid-quotient c.args.game.now c.law_game.ensures.accepted c.args.bits c.args.s c.loop-a.a c.args.c (bits-few c.args.bits c.requires.bits) c.requires.state (search (rules, arith)) c.requires.informed in
    simp to_z-of_z (subst (λ (z : ℤ). pos 0 <ℤ z) (sym c.paid_over-whole.ensures) q.divisor)

pub minus_down-requires-clause-part : goal.minus_down-requires-clause-part
minus_down-requires-clause-part c =
    let p_fits : FitsSigned w128 c.paid.result = search rules in
    let q = paid-quotient c.args.game.now c.law_game.ensures.accepted c.args.bits c.args.s c.loop-a.a c.args.c (bits-few c.args.bits c.requires.bits) c.requires.state (search (rules, arith)) c.requires.informed in
    simp to_z-of_z (subst (λ (z : ℤ). pos 0 ≤ℤ z) (sym c.paid.ensures) q.low)

pub loop-a-preserved : goal.loop-a-preserved
loop-a-preserved c =
    let g : GameData = c.args.game.now in
    let w_fits : FitsSigned w128 c.paid_over-whole.result = search rules in
    let p_fits : FitsSigned w128 c.paid.result = search rules in
    let m_fits : FitsSigned w128 c.minus_down.result = search rules in
    let pushed : c.push.new.self.items ≡ c.loop-a.row.items ++ c.minus_down.result ∷ [] = simp to_z-of_z at c.in_ok-push.ensures.items in
    let found : c.minus_down.result ≡ neg_ℤ (floor_of c.paid.result c.paid_over-whole.result) = simp to_z-of_z at c.minus_down.ensures in
    pushed
    ∙ ap (λ (x : ℤ). c.loop-a.row.items ++ x ∷ []) (found ∙ ap (λ (x : ℤ). neg_ℤ (floor_of x c.paid_over-whole.result)) c.paid.ensures ∙ ap (λ (x : ℤ). neg_ℤ (floor_of (paid_above g c.args.bits c.args.s c.loop-a.a c.args.c) x)) c.paid_over-whole.ensures)
    ∙ ap (λ (xs : List ℤ). xs ++ neg_ℤ (floor_of (paid_above g c.args.bits c.args.s c.loop-a.a c.args.c) (pay_width g)) ∷ []) c.loop-a.invariant
    ∙ number-more (λ a. neg_ℤ (floor_of (paid_above g c.args.bits c.args.s a c.args.c) (pay_width g))) c.args.row.now.items c.loop-a.a
