use Rattle.simulate.proofs.StartPlays.{even-is_plan}
use Rattle.simulate.proofs.laws.law_play.Goals as goal

pub returns-clause-even : goal.returns-clause-even
returns-clause-even c = even-is_plan c.args.game.now c.law_game.ensures.accepted

pub returns-clause-play : goal.returns-clause-play
returns-clause-play c =
    c.law_plays.ensures.own c.args.game.now c.args.certificate.now c.args.seed c.args.stages c.args.against c.law_game.ensures.accepted c.requires
