use Rattle.std.proofs.Common.{arith}
use Rattle.controller.specs.Data.{fraction_data}
use Rattle.hsvi_trial.proofs.Beginning.{held-new}
use Rattle.hsvi_trial.proofs.Remembering.{memory-new}
use Rattle.hsvi_trial.proofs.search.Search.new.Goals as goal

pub invariant_of-result : goal.invariant_of-result
invariant_of-result c = (
  held-new (record { game = c.args.game.now; trials = c.args.trials; gap = fraction_data c.args.gap.now }) (record { nodes = c.in_ok-nodes.nodes.members; points = c.in_ok-nodes.points.members })
      c.new-2.result.items c.new-3.result c.reserve_solver.new.solver c.law_game.ensures.accepted (record { trials = c.requires.trials; gap = c.requires.gap })
      (record { first_nodes = c.in_ok-nodes.ensures.nodes; first_points = c.in_ok-nodes.ensures.points })
      c.in_ok-nodes.ensures.nodes_fit c.in_ok-nodes.ensures.points_fit c.in_ok-nodes.ensures.nodes_stand c.in_ok-nodes.ensures.points_stand
      c.len.ensures.few c.len-2.ensures.few c.in_ok-reserve_solver.ensures.room c.new-2.ensures.items c.new-3.ensures.trial c.new-3.ensures.first c.new-3.ensures.next,
  memory-new c.args.game.now c.in_ok-nodes.nodes.members c.in_ok-nodes.points.members c.in_ok-memory.memory c.in_ok-memory.ensures.lower c.in_ok-memory.ensures.upper,
  λ some. absurd (omega (arith, some)),
)
