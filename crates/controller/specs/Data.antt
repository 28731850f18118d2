-- Fractions and outcomes of the program as the data that the rules speak of.
use Rattle.std.specs.Prelude.{ℕ, ℤ, List}
use Rattle.alpha_set.specs.Nodes.{NodeData}
use Rattle.controller.specs.Parts.{Parts}
use Rattle.game_model.specs.Sets.{SetData}
use Rattle.point_set.specs.Points.{PointData}
use Rattle.scaled_num.specs.declared.fractions.Fraction.{Fraction}
use Rattle.controller.specs.Certificates.{Closed, Ending, FractionData, Full, Trials}
use Rattle.controller.specs.declared.certificates.Outcome.{Outcome}
use Rattle.controller.specs.declared.certificates.Outcome.TheVariants.{Closed as ClosedRun, Full as FullRun, Trials as TrialsRun}

-- a fraction as data
abbrev pub fraction_data : Fraction → FractionData
fraction_data f = record { num = f.num; den = f.den }

-- an outcome as data
abbrev pub ending_of : Outcome → Ending
ending_of ClosedRun = Closed
ending_of TrialsRun = Trials
ending_of FullRun = Full

-- members, starts and how a run ended as parts
abbrev pub parts : SetData NodeData → SetData PointData → List (ℕ × ℤ) → List (ℕ × ℤ) → ℤ → FractionData → Ending → Parts
parts nodes points start_nodes start_points multiple gap outcome = record {
  nodes = nodes.members;
  points = points.members;
  start_nodes = start_nodes;
  start_points = start_points;
  multiple = multiple;
  gap = gap;
  outcome = outcome;
}
