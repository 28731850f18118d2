-- What holds of all advice, and of the runs that it is read from.
use Rattle.std.specs.Prelude.{ℕ, ℤ, List, ◌≡◌, ◌<◌}
use Rattle.alpha_set.specs.Nodes.{NodeData}
use Rattle.game_model.specs.Game.{GameData}
use Rattle.point_set.specs.Points.{PointData}
use Rattle.simplex.specs.Dictionary.{Dictionary}
use Rattle.simplex.specs.Run.{RunEnds}
use Rattle.simplex.specs.declared.End.{End}
use Rattle.simplex.specs.declared.End.TheVariants.{Unbounded}
use Rattle.simplex.specs.declared.Program.{Program}
use Rattle.stage_game.specs.Advice.{IsLowerAdvice, IsUpperAdvice}
use Rattle.stage_game.specs.AdviceData.{LowerAdviceData, UpperAdviceData}
use Rattle.stage_game.specs.Asked.{AreUpperEnds}
use Rattle.stage_game.specs.LowerProgram.{lower_program}
use Rattle.stage_game.specs.UpperProgram.{upper_program}
use Rattle.stage_game.specs.Variables.{program_data}

-- two lower advices of one program are equal
abbrev pub OneLowerAdvice : Type 0
OneLowerAdvice =
    (g : GameData) (belief : List ℤ) (nodes : List NodeData) (candidates : List ℕ) (bits : ℕ) (advice other : LowerAdviceData) →
    IsLowerAdvice g belief nodes candidates bits advice → IsLowerAdvice g belief nodes candidates bits other → advice ≡ other

-- two upper advices of one program are equal
abbrev pub OneUpperAdvice : Type 0
OneUpperAdvice =
    (g : GameData) (belief : List ℤ) (points : List PointData) (candidates : List ℕ) (bits : ℕ) (advice other : UpperAdviceData) →
    IsUpperAdvice g belief points candidates bits advice → IsUpperAdvice g belief points candidates bits other → advice ≡ other

-- no run of a lower program ends unbounded
abbrev pub LowerIsBounded : Type 0
LowerIsBounded =
    (g : GameData) (belief : List ℤ) (nodes : List NodeData) (candidates : List ℕ) (bits : ℕ) (p : Program) (pivots : ℕ) (d : Dictionary) (end : End) →
    0 < g.shape.informed_actions → program_data p ≡ lower_program g belief nodes candidates bits → RunEnds p pivots d end → (col : ℕ) → end ≡ Unbounded col → ⊥

-- no run of an upper program ends unbounded, where its candidates have a corner for each state
abbrev pub UpperIsBounded : Type 0
UpperIsBounded =
    (g : GameData) (belief : List ℤ) (points : List PointData) (candidates : List ℕ) (bits : ℕ) (p : Program) (pivots : ℕ) (d : Dictionary) (end : End) →
    0 < g.shape.informed_actions → AreUpperEnds g points candidates → program_data p ≡ upper_program g belief points candidates bits → RunEnds p pivots d end →
    (col : ℕ) → end ≡ Unbounded col → ⊥
