-- What a search and solve answer, as the data that the rules speak of.
use Rattle.controller.specs.Data.{ending_of}
use Rattle.std.specs.Prelude.{ℕ, pos, Bool, List, [], ◌∷◌}
use Rattle.alpha_set.specs.Nodes.{NodeData}
use Rattle.controller.specs.Certificates.{Ending, FractionData}
use Rattle.controller.specs.Parts.{Parts}
use Rattle.game_model.specs.Game.{GameData}
use Rattle.game_model.specs.Sets.{SetData}
use Rattle.point_set.specs.Points.{PointData}
use Rattle.hsvi_trial.specs.Run.{HasEnded, IsOutcome, IsRunSoFar, IsWithinLimits, SolvedData, Task}
use Rattle.hsvi_trial.specs.Sets.{AreStanding, Sets}
use Rattle.hsvi_trial.specs.Starts.{StartData}
use Rattle.hsvi_trial.specs.declared.solving.Solved.{Solved}
use Rattle.hsvi_trial.specs.declared.starts.StartOf.{StartOf}
use Rattle.hsvi_trial.specs.declared.visits.Visit.{Visit}

-- a start as data
abbrev pub start_data : StartOf → StartData
start_data start = record { node = start.start_node; points = start.start_points.items; multiple = start.multiple }

-- an answer of solve as data
abbrev pub solved_data : Solved → SolvedData
solved_data solved = record {
  sets = record { nodes = solved.nodes.members; points = solved.points.members };
  start = record { node = solved.start_node; points = solved.start_points.items; multiple = solved.multiple };
  outcome = ending_of solved.outcome;
  journal = solved.journal.items;
}

-- what a run found, with its start and outcome, as the parts of a certificate
abbrev pub solved_parts : FractionData → SolvedData → Parts
solved_parts gap solved = record {
  nodes = solved.sets.nodes;
  points = solved.sets.points;
  start_nodes = (solved.start.node, pos 1) ∷ [];
  start_points = solved.start.points;
  multiple = solved.start.multiple;
  gap = gap;
  outcome = solved.outcome;
}

-- what clauses see of a search: its task, sets and journal, and whether the last visit was cut
pub record SearchState : Type 0 where
  pub task : Task
  pub sets : Sets
  pub journal : List Visit
  pub cut : Bool

abbrev pub search_state : GameData → ℕ → FractionData → SetData NodeData → SetData PointData → List Visit → Bool → SearchState
search_state game trials gap nodes points journal cut = record {
  task = record { game = game; trials = trials; gap = gap };
  sets = record { nodes = nodes.members; points = points.members };
  journal = journal;
  cut = cut;
}

-- at any moment a search holds a run so far of a task within its limits, and all members stand
pub record IsSearch (state : SearchState) : Type 0 where
  pub limits : IsWithinLimits state.task
  pub standing : AreStanding state.task.game state.sets
  pub seeds : Sets
  pub run : IsRunSoFar state.task seeds state.sets state.journal state.cut

-- the run has no further visit, and this outcome
pub record EndsWith (state : SearchState) (outcome : Ending) : Type 0 where
  pub seeds : Sets
  pub run : IsRunSoFar state.task seeds state.sets state.journal state.cut
  pub ended : HasEnded state.task seeds state.sets state.journal state.cut run
  pub outcome_is : IsOutcome state.task state.sets state.cut outcome

-- the run has no further visit
abbrev pub IsFinished : SearchState → Type 0
IsFinished state = (outcome : Ending) × EndsWith state outcome
