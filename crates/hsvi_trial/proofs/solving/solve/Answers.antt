use Rattle.std.proofs.Common.{◌≡◌, subst, ◌∙◌}
use Rattle.controller.specs.Data.{fraction_data}
use Rattle.hsvi_trial.specs.Data.{solved_data}
use Rattle.hsvi_trial.specs.Run.{IsSolveRun, IsWithinLimits, Task}
use Rattle.hsvi_trial.specs.Sets.{AreStanding}
use Rattle.hsvi_trial.proofs.SolvedStands.{solved-fit, solved-stand, solved-start}
use Rattle.hsvi_trial.proofs.solving.solve.Goals as goal

abbrev the-task : goal.After-take → Task
the-task c = record { game = c.args.game.now; trials = c.args.trials; gap = fraction_data c.args.gap.now }

within : (c : goal.After-take) → IsWithinLimits (the-task c)
within c = record { trials = c.requires.trials; gap = c.requires.gap }

same-task : (c : goal.After-take) → c.make_visits.new.search.task ≡ the-task c
same-task c = c.make_visits.ensures.task ∙ c.in_ok-search.ensures.task

run-of : (c : goal.After-take) → IsSolveRun (the-task c) (solved_data c.take.result)
run-of c = subst (λ (task : Task). IsSolveRun task (solved_data c.take.result)) (same-task c) c.take.ensures.run

standing-of : (c : goal.After-take) → AreStanding c.args.game.now (solved_data c.take.result).sets
standing-of c = subst (λ (task : Task). AreStanding task.game (solved_data c.take.result).sets) (same-task c) c.take.ensures.standing

pub returns-clause-fit : goal.returns-clause-fit
returns-clause-fit c = solved-fit (the-task c) (solved_data c.take.result) c.law_game.ensures.accepted (within c) (standing-of c) (run-of c)

pub returns-clause-start : goal.returns-clause-start
returns-clause-start c = solved-start (the-task c) (solved_data c.take.result) c.law_game.ensures.accepted (within c) (standing-of c) (run-of c)

pub returns-clause-stand : goal.returns-clause-stand
returns-clause-stand c = solved-stand (the-task c) (solved_data c.take.result) c.law_game.ensures.accepted (within c) (standing-of c) (run-of c)
