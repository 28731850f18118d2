-- Whether a run has a further visit, and how it ended.
use Rattle.std.specs.Prelude.{ℕ, Bool, false, IsTrue, ◌≡◌, ◌<◌, ◌⊎◌}
use Rattle.controller.specs.Certificates.{Ending}
use Rattle.hsvi_trial.specs.Run.{IsOutcome, Task}
use Rattle.hsvi_trial.specs.Sets.{Sets}
use Rattle.hsvi_trial.specs.Starts.{AreClosed, AreOpen}

-- A run has ended: its last visit is cut, or a trial of this number would begin, and the bounds are closed or the budget
-- is used.
pub record IsEnd (task : Task) (sets : Sets) (cut begins : Bool) (trial : ℕ) (outcome : Ending) : Type 0 where
  pub ended : IsTrue cut ⊎ (IsTrue begins × (AreClosed task.game task.gap sets ⊎ (trial ≡ task.trials)))
  pub outcome_is : IsOutcome task sets cut outcome

-- it has not
pub record IsOnward (task : Task) (sets : Sets) (cut begins : Bool) (trial : ℕ) : Type 0 where
  pub uncut : cut ≡ false
  pub opened : IsTrue begins → AreOpen task.game task.gap sets × (trial < task.trials)
