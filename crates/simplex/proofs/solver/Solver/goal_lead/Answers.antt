use Rattle.std.proofs.Common.{ap}
use Rattle.simplex.specs.Solver.{State}
use Rattle.simplex.proofs.Standing.{has_run_of}
use Rattle.simplex.proofs.solver.Solver.goal_lead.Goals as goal

pub goal_lead-requires : goal.goal_lead-requires
goal_lead-requires c = c.self.invariant.standing (has_run_of _ _ _ (ap (λ (s : State). s.last) c.self.view_is) c.requires)
