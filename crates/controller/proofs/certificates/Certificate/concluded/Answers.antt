use Rattle.std.proofs.Common.{rules}
use Rattle.std.proofs.lemmas.Int.{to_z-of_z}
use Rattle.std.specs.Prelude.{FitsSigned}
use Rattle.std.specs.Int.{w128}
use Rattle.controller.specs.Certificates.{BoundAt, CertificateData, Ending, Holds}
use Rattle.controller.specs.Concluded.{EndsByGap, HasSameMembers, IsConcluded, with_outcome}
use Rattle.controller.specs.Data.{ending_of}
use Rattle.game_model.specs.Game.{GameData}
use Rattle.controller.proofs.certificates.Certificate.concluded.Goals as goal

conclude : (g : GameData) (given k : CertificateData) (outcome : Ending) → HasSameMembers given k → Holds g k BoundAt → EndsByGap (with_outcome outcome k) → IsConcluded g given (with_outcome outcome k)
conclude g given k outcome same bound ends = record {
  same = record {
    gap = same.gap;
    nodes = same.nodes;
    points = same.points;
    start_nodes = same.start_nodes;
    start_points = same.start_points;
    multiple = same.multiple;
  };
  bound = bound;
  ends = ends;
}

pub returns-clause-concluded : goal.returns-clause-concluded
returns-clause-concluded c =
    let range : FitsSigned w128 c.bounded.inside.multiple = search rules in
    let whole : IsConcluded c.args.game.now c.args.self (with_outcome (ending_of c.outcome_by_gap-outcome.result) c.bounded-bounded.result) =
    conclude c.args.game.now c.args.self c.bounded-bounded.result (ending_of c.outcome_by_gap-outcome.result) c.bounded-bounded.ensures.same c.bounded-bounded.ensures.bound c.outcome_by_gap-outcome.ensures in
    simp to_z-of_z (rw (← c.bounded.view_is) at whole)
