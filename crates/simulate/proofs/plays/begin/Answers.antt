use Rattle.std.proofs.Common.{◌≡◌, ℕ, ◌+◌, ◌<◌, ◌≤◌, Option, ap, sym, subst, ◌∙◌}
use Rattle.rand_pcg.specs.Lcg.{Lcg}
use Rattle.hsvi_draw.specs.Draws.{after_draws}
use Rattle.hsvi_draw.proofs.Positions.{after_draws-after_draws}
use Rattle.game_model.specs.Game.{GameData, first_at}
use Rattle.controller.specs.Certificates.{CertificateData}
use Rattle.simulate.specs.Plays.{CanStand, begun, draws_over, from_weights, member_drawn, point_draws, start_point, state_drawn}
use Rattle.simulate.specs.declared.parts.Standing.{Standing}
use Rattle.simulate.proofs.Begun.{begun-right, state-right}
use Rattle.simulate.proofs.plays.begin.Goals as goal

pub draw_start_point-requires-clause-state : goal.draw_start_point-requires-clause-state
draw_start_point-requires-clause-state c =
    let g : GameData = c.args.game.now in
    subst (λ (n : ℕ). n < g.shape.states) (sym c.in_ok-state.ensures.state) (state-right g c.args.draw.now c.law_game.ensures.accepted).within

pub draw_start_point-requires-clause-weight : goal.draw_start_point-requires-clause-weight
draw_start_point-requires-clause-weight c =
    let g : GameData = c.args.game.now in
    subst (λ (n : ℕ). 1 ≤ first_at g n) (sym c.in_ok-state.ensures.state) (state-right g c.args.draw.now c.law_game.ensures.accepted).weight

-- where the play begins
begins : (c : goal.In_ok-point) → record { state = c.in_ok-state.state; node = c.in_ok-node.node; point = c.in_ok-point.point } ≡ begun c.args.game.now c.args.certificate.now c.args.against c.args.draw.now
begins c =
    let g : GameData = c.args.game.now in
    let k : CertificateData = c.args.certificate.now in
    let draws : Lcg = c.args.draw.now in
    let second = c.in_ok-node.ensures.moved ∙ ap (after_draws (draws_over k.start_nodes)) c.in_ok-state.ensures.moved ∙ after_draws-after_draws 1 (draws_over k.start_nodes) draws in
    let node = c.in_ok-node.ensures.node ∙ ap (member_drawn k.start_nodes (from_weights k)) c.in_ok-state.ensures.moved in
    let point = c.in_ok-point.ensures.point ∙ ap (λ (s : ℕ). start_point k c.args.against s c.draw_start_node.new.draw) c.in_ok-state.ensures.state
    ∙ ap (start_point k c.args.against (state_drawn g draws)) second in
    let standing : ℕ → ℕ → Option ℕ → Standing = λ (s i : ℕ) (p : Option ℕ). record { state = s; node = i; point = p } in
    ap (λ (s : ℕ). standing s c.in_ok-node.node c.in_ok-point.point) c.in_ok-state.ensures.state
    ∙ ap (λ (i : ℕ). standing (state_drawn g draws) i c.in_ok-point.point) node
    ∙ ap (λ (p : Option ℕ). standing (state_drawn g draws) (member_drawn k.start_nodes (from_weights k) (after_draws 1 draws)) p) point

pub returns-clause-begun : goal.returns-clause-begun
returns-clause-begun c = begins c

pub returns-clause-moved : goal.returns-clause-moved
returns-clause-moved c =
    let k : CertificateData = c.args.certificate.now in
    let draws : Lcg = c.args.draw.now in
    let second = c.in_ok-node.ensures.moved ∙ ap (after_draws (draws_over k.start_nodes)) c.in_ok-state.ensures.moved ∙ after_draws-after_draws 1 (draws_over k.start_nodes) draws in
    c.in_ok-point.ensures.moved ∙ ap (after_draws (point_draws k c.args.against)) second ∙ after_draws-after_draws (1 + draws_over k.start_nodes) (point_draws k c.args.against) draws

pub returns-clause-stands : goal.returns-clause-stands
returns-clause-stands c =
    subst (CanStand c.args.game.now c.args.certificate.now) (sym (begins c)) (begun-right c.args.game.now c.args.certificate.now c.args.against c.args.draw.now c.law_game.ensures.accepted c.requires)
