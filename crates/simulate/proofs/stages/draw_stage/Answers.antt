use Rattle.std.proofs.Common.{◌≡◌, ℕ, ◌<◌, List, ap, arith, sym, subst, ◌∙◌}
use Rattle.std.specs.Prelude.{unsigned_abs}
use Rattle.std.specs.List.{sum}
use Rattle.std.proofs.lemmas.List.Sums.{sum-map}
use Rattle.rand_pcg.specs.Lcg.{Lcg}
use Rattle.hsvi_draw.specs.Draws.{after_draws}
use Rattle.hsvi_draw.proofs.Positions.{after_draws-after_draws}
use Rattle.game_model.specs.declared.parts.Landing.{Landing}
use Rattle.game_model.specs.Game.{GameData, row_at}
use Rattle.simulate.specs.Plays.{informed_drawn, landing_drawn, own_drawn, row_weights}
use Rattle.simulate.specs.declared.parts.Played.{Played}
use Rattle.simulate.proofs.Moments.{informed-right, own-right, row-some, row-sum}
use Rattle.simulate.proofs.stages.draw_stage.Goals as goal

pub row-requires-clause-own : goal.row-requires-clause-own
row-requires-clause-own c =
    rw c.in_ok-own.ensures.own (own-right c.args.game.now c.args.certificate.now c.args.at.now.node c.args.draw.now c.requires.stands.fits c.requires.at.node).within

pub row-requires-clause-informed : goal.row-requires-clause-informed
row-requires-clause-informed c =
    rw c.in_ok-informed.ensures.informed (informed-right c.args.game.now c.args.certificate.now c.args.at.now.point c.args.at.now.state c.draw_own.new.draw
    c.law_game.ensures.accepted c.requires.stands.fits c.requires.at.point c.requires.at.state)

total : (c : goal.After-row) → sum (row_weights c.row.result.now) ≡ unsigned_abs c.args.game.now.shape.row_total
total c =
    let g : GameData = c.args.game.now in
    ap (λ (row : List Landing). sum (row_weights row)) c.row.ensures
    ∙ sum-map (λ (l : Landing). unsigned_abs l.weight) (row_at g c.args.at.now.state c.in_ok-own.own c.in_ok-informed.informed)
    ∙ row-sum g c.args.at.now.state c.in_ok-own.own c.in_ok-informed.informed c.law_game.ensures.accepted c.requires.at.state
    (subst (λ (n : ℕ). n < g.shape.own_actions) (sym c.in_ok-own.ensures.own) (own-right g c.args.certificate.now c.args.at.now.node c.args.draw.now c.requires.stands.fits c.requires.at.node).within)
    (subst (λ (n : ℕ). n < g.shape.informed_actions) (sym c.in_ok-informed.ensures.informed)
    (informed-right g c.args.certificate.now c.args.at.now.point c.args.at.now.state c.draw_own.new.draw c.law_game.ensures.accepted c.requires.stands.fits c.requires.at.point c.requires.at.state))

pub draw_landing-requires-clause-some : goal.draw_landing-requires-clause-some
draw_landing-requires-clause-some c = let some = (row-some c.args.game.now c.law_game.ensures.accepted).0 in omega (arith, total c, some)

pub draw_landing-requires-clause-most : goal.draw_landing-requires-clause-most
draw_landing-requires-clause-most c = let most = (row-some c.args.game.now c.law_game.ensures.accepted).1 in omega (arith, total c, most)

pub returns-clause-played : goal.returns-clause-played
returns-clause-played c =
    let g : GameData = c.args.game.now in
    let k = c.args.certificate.now in
    let at = c.args.at.now in
    let draws : Lcg = c.args.draw.now in
    let second = c.in_ok-own.ensures.moved in
    let third : c.draw_informed.new.draw ≡ after_draws 2 draws = c.in_ok-informed.ensures.moved ∙ ap (after_draws 1) second ∙ after_draws-after_draws 1 1 draws in
    let informed : c.in_ok-informed.informed ≡ informed_drawn g k at.point at.state (after_draws 1 draws) = c.in_ok-informed.ensures.informed ∙ ap (informed_drawn g k at.point at.state) second in
    let landing : c.in_ok-landing.landing ≡ landing_drawn (row_at g at.state (own_drawn g k at.node draws) (informed_drawn g k at.point at.state (after_draws 1 draws))) (after_draws 2 draws) =
    c.in_ok-landing.ensures.landing
    ∙ ap (λ (row : List Landing). landing_drawn row c.draw_informed.new.draw)
    (c.row.ensures ∙ ap (λ (a : ℕ). row_at g at.state a c.in_ok-informed.informed) c.in_ok-own.ensures.own ∙ ap (λ (n : ℕ). row_at g at.state (own_drawn g k at.node draws) n) informed)
    ∙ ap (landing_drawn (row_at g at.state (own_drawn g k at.node draws) (informed_drawn g k at.point at.state (after_draws 1 draws)))) third in
    let played : ℕ → ℕ → Landing → Played = λ (a n : ℕ) (l : Landing). record { state = at.state; own = a; informed = n; seen = l.seen; to = l.to } in
    ap (λ (a : ℕ). played a c.in_ok-informed.informed c.in_ok-landing.landing) c.in_ok-own.ensures.own
    ∙ ap (λ (n : ℕ). played (own_drawn g k at.node draws) n c.in_ok-landing.landing) informed
    ∙ ap (λ (l : Landing). played (own_drawn g k at.node draws) (informed_drawn g k at.point at.state (after_draws 1 draws)) l) landing

pub returns-clause-moved : goal.returns-clause-moved
returns-clause-moved c =
    let draws : Lcg = c.args.draw.now in
    c.in_ok-landing.ensures.moved ∙ ap (after_draws 1) (c.in_ok-informed.ensures.moved ∙ ap (after_draws 1) c.in_ok-own.ensures.moved ∙ after_draws-after_draws 1 1 draws)
    ∙ after_draws-after_draws 2 1 draws
