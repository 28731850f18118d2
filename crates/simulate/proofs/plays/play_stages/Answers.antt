use Rattle.std.proofs.Common.{◌≡◌, ℕ, suc, ◌+◌, ◌-◌, List, [], ◌∷◌, ◌++◌, append_assoc, ap, arith, sym, subst, ◌∙◌}
use Rattle.game_model.specs.Game.{GameData}
use Rattle.controller.specs.Certificates.{CertificateData}
use Rattle.simulate.specs.Plays.{CanPlay, CanStand, steps_from}
use Rattle.simulate.specs.declared.parts.Played.{Played}
use Rattle.simulate.proofs.Moments.{moved-right, played-right}
use Rattle.simulate.proofs.Shapes.{steps-next}
use Rattle.simulate.proofs.plays.play_stages.Goals as goal

pub move_on-requires-clause-played : goal.move_on-requires-clause-played
move_on-requires-clause-played c =
    let g : GameData = c.args.game.now in
    let k : CertificateData = c.args.certificate.now in
    subst (CanPlay g k c.loop.at) (sym c.in_ok-played.ensures.played) (played-right g k c.loop.at c.loop.draw c.law_game.ensures.accepted c.requires.stands.fits c.loop.invariant.stands)

pub loop-preserved : goal.loop-preserved
loop-preserved c =
    let g : GameData = c.args.game.now in
    let k : CertificateData = c.args.certificate.now in
    let left : ℕ = c.args.stages - (c.loop.counter + 1) in
    let played : Played = c.in_ok-played.played in
    let more : c.args.stages - c.loop.counter ≡ suc left = omega arith in
    let next = steps-next g k (c.args.stages - c.loop.counter) left c.loop.at c.in_ok-at.at c.loop.draw c.draw_stage.new.draw c.move_on.new.draw played more c.in_ok-played.ensures.played
    c.in_ok-played.ensures.moved c.in_ok-at.ensures.standing c.in_ok-at.ensures.moved in
    let rest : List Played = steps_from g k left c.in_ok-at.at c.move_on.new.draw in
    let can : CanPlay g k c.loop.at played =
    subst (CanPlay g k c.loop.at) (sym c.in_ok-played.ensures.played) (played-right g k c.loop.at c.loop.draw c.law_game.ensures.accepted c.requires.stands.fits c.loop.invariant.stands) in
    let assoc : (c.loop.steps.items ++ (played ∷ [])) ++ rest ≡ c.loop.steps.items ++ (played ∷ rest) = simp append_assoc in
    record {
      steps = ap (λ (xs : List Played). xs ++ rest) c.in_ok-push.ensures.items ∙ assoc ∙ ap (λ (ys : List Played). c.loop.steps.items ++ ys) next
          ∙ c.loop.invariant.steps;
      stands = subst (CanStand g k) (sym c.in_ok-at.ensures.standing) (moved-right g k c.loop.at played c.draw_stage.new.draw c.requires.stands.fits c.loop.invariant.stands can);
    }
