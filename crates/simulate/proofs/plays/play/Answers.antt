use Rattle.std.proofs.Common.{ℕ, ◌^◌, length, ap, sym, subst, ◌∙◌}
use Rattle.std.specs.Prelude.{pos}
use Rattle.std.specs.List.{AllByRecursion}
use Rattle.game_model.specs.Game.{GameData, numbers}
use Rattle.simulate.specs.Lengths.{IsInGame, IsShortPlay}
use Rattle.simulate.proofs.Shapes.{simulated-in_game, simulated-long}
use Rattle.simulate.proofs.plays.play.Goals as goal

pub gain_of-gain-requires-clause-each : goal.gain_of-gain-requires-clause-each
gain_of-gain-requires-clause-each c =
    let g : GameData = c.args.game.now in
    subst (AllByRecursion (IsInGame g)) (sym (c.deref.ensures.value ∙ c.in_ok-steps.ensures))
    (simulated-in_game g c.args.certificate.now c.args.seed c.args.stages c.args.against c.law_game.ensures.accepted c.requires.stands)

pub gain_of-gain-requires-clause-short : goal.gain_of-gain-requires-clause-short
gain_of-gain-requires-clause-short c =
    let g : GameData = c.args.game.now in
    subst (IsShortPlay g) (sym (ap length (c.deref.ensures.value ∙ c.in_ok-steps.ensures) ∙ simulated-long g c.args.certificate.now c.args.seed c.args.stages c.args.against)) c.requires.short

pub returns-clause-scale : goal.returns-clause-scale
returns-clause-scale c =
    let g : GameData = c.args.game.now in
    c.gain_of-gain.ensures.scale
    ∙ ap (λ (n : ℕ). pos ((numbers g).discount_under ^ n)) (ap length (c.deref.ensures.value ∙ c.in_ok-steps.ensures) ∙ simulated-long g c.args.certificate.now c.args.seed c.args.stages c.args.against)
