-- What a search holds is the first visits of the run of solve.
use Rattle.std.proofs.Common.{◌≡◌, ◌<◌, List, [], Bool, length, inl, inr, ap, subst, arith, length-append}
use Rattle.std.proofs.lemmas.Bool.{cases_lt}
use Rattle.backup.proofs.OneLowerVisits.{visits-one as lowers-one}
use Rattle.backup.proofs.OneUpperVisits.{visits-one as uppers-one}
use Rattle.game_model.specs.Game.{GameData, IsGame}
use Rattle.hsvi_trial.specs.Laws.{Begins, EndsThere, IsRunFront, OneBeginning}
use Rattle.hsvi_trial.specs.Run.{IsRunSoFar, IsSolveRun, SolvedData, Task}
use Rattle.hsvi_trial.specs.Sets.{Sets}
use Rattle.hsvi_trial.specs.declared.visits.Visit.{Visit}
use Rattle.hsvi_trial.proofs.OneRuns.{ends-there, one-beginning}
use Rattle.hsvi_trial.proofs.OneVisits.{VisitsAreOne}

-- lower and upper visits of a game are one
pub visits-are_one : (g : GameData) → VisitsAreOne g
visits-are_one g = record { lower = lowers-one g; upper = uppers-one g }

pub beginnings-one : OneBeginning
beginnings-one task seeds sets other_seeds other_sets journal other cut other_cut game run run_other l =
    one-beginning task seeds sets other_seeds other_sets journal other cut other_cut (visits-are_one task.game) game run run_other l

pub ends-one : EndsThere
ends-one task seeds sets more_seeds more_sets journal later cut more_cut game run ended more =
    ends-there task seeds sets more_seeds more_sets journal later cut more_cut (visits-are_one task.game) game run ended more

-- a journal is not longer than that of solve
not-longer : (task : Task) (seeds sets : Sets) (journal : List Visit) (cut : Bool) (solved : SolvedData) → IsGame task.game → IsRunSoFar task seeds sets journal cut → IsSolveRun task solved →
    length solved.journal < length journal → ⊥
not-longer task seeds sets journal cut solved game run solve l =
    let begins : Begins solve.seeds solved.sets solved.journal sets journal =
    beginnings-one task solve.seeds solved.sets seeds sets solved.journal journal solve.cut cut game solve.run run (omega arith) in
    let nothing : begins.later ≡ [] =
    ends-one task solve.seeds solved.sets seeds sets solved.journal begins.later solve.cut cut game solve.run solve.ended
    (subst (λ (vs : List Visit). IsRunSoFar task seeds sets vs cut) begins.longer run) in
    omega (arith, ap length begins.longer, length-append solved.journal begins.later, ap length nothing)

-- a run so far is a front of the run of solve
pub run-front : (task : Task) (seeds sets : Sets) (journal : List Visit) (cut : Bool) → IsGame task.game → IsRunSoFar task seeds sets journal cut → IsRunFront task sets journal
run-front task seeds sets journal cut game run solved solve = (
  seeds,
  run.held.are_seeds,
  beginnings-one task seeds sets solve.seeds solved.sets journal solved.journal cut solve.cut game run solve.run (elim (cases_lt (length solved.journal) (length journal)) [
    | inl l ↦ absurd (not-longer task seeds sets journal cut solved game run solve l)
    | inr l ↦ l
  ]),
)
