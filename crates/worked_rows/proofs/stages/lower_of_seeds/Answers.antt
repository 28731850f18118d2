use Rattle.std.proofs.Common.{subst, sym}
use Rattle.stage_game.specs.Asked.{BeliefFits}
use Rattle.worked_rows.proofs.SeedsServe.{first-fits}
use Rattle.worked_rows.proofs.stages.lower_of_seeds.Goals as goal

pub lower_program-requires-clause-belief : goal.lower_program-requires-clause-belief
lower_program-requires-clause-belief c = subst (BeliefFits c.args.game.now) (sym c.first_of.ensures) (first-fits c.args.game.now c.law_game.ensures.accepted)
