use Rattle.std.proofs.Common.{ap}
use Rattle.simplex.specs.Solver.{State}
use Rattle.simplex.proofs.Standing.{has_run_of}
use Rattle.simplex.proofs.solver.Solver.primal.Goals as goal

pub value-requires : goal.value-requires
value-requires c = c.self.invariant.standing (has_run_of _ _ _ (ap (λ (s : State). s.last) c.self.view_is) c.requires.last)
