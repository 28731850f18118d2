use Rattle.std.proofs.Common.{ap, ◌∙◌}
use Rattle.hsvi_draw.specs.Draws.{after_draws}
use Rattle.hsvi_draw.proofs.Positions.{after_draws-after_draws}
use Rattle.simulate.specs.Plays.{share_draws}
use Rattle.simulate.proofs.stages.move_on.Goals as goal

pub returns-clause-moved : goal.returns-clause-moved
returns-clause-moved c =
    c.in_ok-point.ensures.moved ∙ ap (after_draws (share_draws c.args.certificate.now c.args.at.now.point c.args.played.now)) c.in_ok-node.ensures.moved
    ∙ after_draws-after_draws 1 (share_draws c.args.certificate.now c.args.at.now.point c.args.played.now) c.args.draw.now
