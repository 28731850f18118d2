use Rattle.controller.specs.Certificates.{CertificateData}
use Rattle.game_model.specs.Game.{GameData, numbers}
use Rattle.history_model.specs.Halves.{MassesDivide}
use Rattle.history_model.proofs.Splitting.{masses-divide}
use Rattle.history_model.proofs.Standing.{points-are_plans, points-hold}
use Rattle.history_model.proofs.UpperHalves.{hold-is_plan, upper-half}
use Rattle.history_model.proofs.law_splittings.Goals as goal
use Rattle.point_set.specs.Points.{points_of}
use Rattle.std.proofs.Common.{length}

divide : (g : GameData) (k : CertificateData) → MassesDivide g k
divide g k = masses-divide (numbers g) (points_of k.points) (length k.points)

pub returns : goal.returns
returns c = record {
  divide = divide;
  plans = points-are_plans;
  points = λ g k keeps. points-hold g k keeps.full;
  plan = hold-is_plan;
  half = upper-half;
}
