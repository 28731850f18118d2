-- The run of solve: trials from the seeds on, until the bounds are near, the budget is used or a set is full.
use Rattle.std.specs.Prelude.{ℕ, Bool, true, false, IsTrue, List, [], ◌∷◌, ◌++◌, length, ◌≡◌, ◌<◌, ◌≤◌, ◌⊎◌}
use Rattle.controller.specs.Certificates.{Closed, Ending, FractionData, Full, IsGap, Trials}
use Rattle.game_model.specs.Game.{GameData}
use Rattle.hsvi_trial.specs.Journal.{AreHeld, AreLinked, AreRightVisits}
use Rattle.hsvi_trial.specs.Sets.{Sets, sets_after}
use Rattle.hsvi_trial.specs.Starts.{AreClosed, AreOpen, IsStart, StartData}
use Rattle.hsvi_trial.specs.Trials.{AreTrialsSoFar}
use Rattle.hsvi_trial.specs.declared.visits.Visit.{Visit}

-- what a search is given: a game, how many trials it may make, and how near the bounds are to come
pub record Task : Type 0 where
  pub game : GameData
  pub trials : ℕ
  pub gap : FractionData

-- the most trials of a search
abbrev pub most_trials : ℕ
most_trials = 10000

-- a task is within its limits
pub record IsWithinLimits (task : Task) : Type 0 where
  pub trials : task.trials ≤ most_trials
  pub gap : IsGap task.gap

-- before each trial the bounds are open and the trial's number is below the budget
abbrev pub AreOpened : Task → Sets → Sets → List Visit → Type 0
AreOpened task seeds sets journal =
    (earlier : List Visit) (visit : Visit) (later : List Visit) → journal ≡ earlier ++ visit ∷ later →
    visit.depth ≡ 0 → IsTrue visit.down →
    AreOpen task.game task.gap (sets_after seeds sets earlier) × (visit.trial < task.trials)

-- A run so far, with its whole trials and the visits of one more: right visits by the rules of trials, each trial
-- opened, and the sets as the visits left them. `cut` tells whether the last visit is cut.
pub record IsRunSoFar (task : Task) (seeds sets : Sets) (journal : List Visit) (cut : Bool) : Type 0 where
  pub held : AreHeld task.game seeds sets journal
  pub right : AreRightVisits task.game task.gap seeds sets cut journal
  pub linked : AreLinked task.game seeds sets journal
  pub trials : List (List Visit)
  pub last : List Visit
  pub shaped : AreTrialsSoFar task.game journal trials last
  pub opened : AreOpened task seeds sets journal
  pub some : IsTrue cut → 0 < length last

-- A run has ended: its last visit is cut; or no trial is under way, and the bounds are closed or the budget is used.
abbrev pub HasEnded : (task : Task) (seeds sets : Sets) (journal : List Visit) (cut : Bool) → IsRunSoFar task seeds sets journal cut → Type 0
HasEnded task seeds sets journal cut run =
    IsTrue cut ⊎ ((run.last ≡ []) × (AreClosed task.game task.gap sets ⊎ (length run.trials ≡ task.trials)))

-- the outcome: Closed where the bounds are; else Full where the last visit is cut; else Trials
abbrev pub IsOutcome : Task → Sets → Bool → Ending → Type 0
IsOutcome task sets cut Closed = AreClosed task.game task.gap sets
IsOutcome task sets cut Full = AreOpen task.game task.gap sets × (cut ≡ true)
IsOutcome task sets cut Trials = AreOpen task.game task.gap sets × (cut ≡ false)

-- what solve answers
pub record SolvedData : Type 0 where
  pub sets : Sets
  pub start : StartData
  pub outcome : Ending
  pub journal : List Visit

-- the run of solve
pub record IsSolveRun (task : Task) (solved : SolvedData) : Type 0 where
  pub seeds : Sets
  pub cut : Bool
  pub run : IsRunSoFar task seeds solved.sets solved.journal cut
  pub ended : HasEnded task seeds solved.sets solved.journal cut run
  pub start : IsStart task.game solved.sets solved.start
  pub outcome : IsOutcome task solved.sets cut solved.outcome
