use Rattle.game_model.specs.Branches.{branch_of}
use Rattle.controller.proofs.Lists.{SoFar, weight_at}
use Rattle.controller.proofs.nodes.weight_after.Given as goal

abbrev pub invariant-loop-step : goal.invariant-loop-step
invariant-loop-step l = SoFar (weight_at branch_of l.a l.o) l.next l.step-index l.sum
