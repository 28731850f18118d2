-- What a search keeps beside what clauses see of it.
use Rattle.std.specs.List.{AllByRecursion}
use Rattle.game_model.specs.Game.{GameData}
use Rattle.simplex.specs.Solver.{State}
use Rattle.backup.specs.Rooms.{HasRooms}
use Rattle.stage_game.specs.Asked.{BeliefFits, NodesServe, PointsServe}
use Rattle.hsvi_trial.specs.Courses.{GoesOn}
use Rattle.hsvi_trial.specs.Data.{SearchState}
use Rattle.hsvi_trial.specs.Run.{IsRunSoFar, IsWithinLimits}
use Rattle.hsvi_trial.specs.Sets.{AreStanding, Sets}
use Rattle.hsvi_trial.specs.declared.courses.Course.{Course}
use Rattle.hsvi_trial.specs.declared.courses.Next.{Next}
use Rattle.hsvi_trial.specs.declared.courses.Next.TheVariants.{Back, Down}
use Rattle.hsvi_trial.specs.declared.visits.Visit.{Visit}

-- beliefs of visits are beliefs of the game, and the next one is
abbrev pub VisitFits : GameData → Visit → Type 0
VisitFits g visit = BeliefFits g visit.belief

abbrev pub NextFits : GameData → Next → Type 0
NextFits g (Down belief) = BeliefFits g belief
NextFits g (Back ahead) = Unit {0}

-- a search, where it goes on, and a solver with room for the programs of every visit
pub record IsHeld (state : SearchState) (course : Course) (solver : State) : Type 0 where
  pub limits : IsWithinLimits state.task
  pub standing : AreStanding state.task.game state.sets
  pub nodes : NodesServe state.task.game state.sets.nodes
  pub points : PointsServe state.task.game state.sets.points
  pub seeds : Sets
  pub run : IsRunSoFar state.task seeds state.sets state.journal state.cut
  pub goes : GoesOn state.task.game seeds state.sets state.journal course.trial course.first course.next
  pub beliefs : AllByRecursion (VisitFits state.task.game) state.journal
  pub next : NextFits state.task.game course.next
  pub rooms : HasRooms state.task.game solver
