use Rattle.std.proofs.Common.{length, ◌*◌, ◌+◌, ◌-◌, ◌≡◌}
use Rattle.hsvi_trial.specs.Laws.{most_visits}
use Rattle.hsvi_trial.proofs.solving.make_visits.Given as goal

abbrev pub invariant-loop : goal.invariant-loop
invariant-loop l = l.search.task ≡ l.fn.search.task

abbrev pub decreases-loop : goal.decreases-loop
decreases-loop l = l.search.task.trials * most_visits + 1 - length l.search.journal
