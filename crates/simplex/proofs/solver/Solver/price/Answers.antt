use Rattle.std.proofs.Common.{ap}
use Rattle.simplex.specs.Solver.{State}
use Rattle.simplex.proofs.Standing.{has_run_of}
use Rattle.simplex.proofs.solver.Solver.price.Goals as goal

pub price-requires-clause-standing : goal.price-requires-clause-standing
price-requires-clause-standing c = c.self.invariant.standing (has_run_of _ _ _ (ap (λ (s : State). s.last) c.self.view_is) c.requires.last)
