-- What the calls that make the runs of a lower visit pass on.
use Rattle.std.specs.Prelude.{ℕ, ℤ, List, ◌∷◌, ◌++◌, None, length, slice_index_or, ◌≡◌}
use Rattle.alpha_set.specs.Members.{node_data}
use Rattle.alpha_set.specs.Nodes.{NodeData, NodeFits, NodeStands, node_of, nodes_of}
use Rattle.alpha_set.specs.Worth.{worth_at}
use Rattle.game_model.specs.Game.{GameData, numbers}
use Rattle.simplex.specs.declared.End.TheVariants.{Unbounded}
use Rattle.stage_game.specs.Data.{lower_data}
use Rattle.stage_game.specs.Fits.{LowerFits}
use Rattle.stage_game.specs.LowerCandidates.{AreLowerCandidates}
use Rattle.backup.specs.LowerVisits.{IsLowerRun, LowerRun, product_at}
use Rattle.backup.specs.Tries.{AreTries, IsFirstMost, first_bits, tried_bits}
use Rattle.backup.specs.declared.lower_visits.Run.{Run}

-- a run of the program as data
abbrev pub run_data : Run → LowerRun
run_data run = record { advice = lower_data run.advice; node = node_data run.node }

-- a run has the product of the belief with its node
abbrev pub HasWorth : List ℤ → Run → Type 0
HasWorth belief run = run.worth ≡ worth_at belief (node_data run.node).vector

-- the advice of a run fits, and its node fits and stands, also where other nodes come behind
pub record IsSound (g : GameData) (nodes : List NodeData) (run : LowerRun) : Type 0 where
  pub advice : LowerFits g (length nodes) run.advice
  pub bounded : (col : ℕ) → run.advice.end ≡ Unbounded col → ⊥
  pub fits : NodeFits g (length nodes) run.node
  pub stands : NodeStands (numbers g) (nodes_of nodes) (node_of run.node)
  pub stays : (more : List NodeData) → NodeStands (numbers g) (nodes_of (nodes ++ more)) (node_of run.node)

-- the run with the first candidates
pub record IsFirstRun (g : GameData) (belief : List ℤ) (nodes : List NodeData) (run : LowerRun) : Type 0 where
  pub candidates : List ℕ
  pub are_first : AreLowerCandidates g belief nodes None candidates
  pub is_run : IsLowerRun g belief nodes candidates first_bits run

-- the first of a first run and those with the priced candidates whose node has the greatest product with the belief
pub record IsBestRun (g : GameData) (belief : List ℤ) (nodes : List NodeData) (priced : List ℕ) (first run : LowerRun) : Type 0 where
  pub tries : List LowerRun
  pub are_tries : AreTries (λ (run : LowerRun). run.advice.end) (IsLowerRun g belief nodes priced) tried_bits tries
  pub place : ℕ
  pub best : IsFirstMost (product_at belief first (first ∷ tries)) (length (first ∷ tries)) place
  pub same : slice_index_or (first ∷ tries) place first ≡ run
