use Rattle.std.proofs.Common.{◌≡◌}
use Rattle.std.specs.Prelude.{map}
use Rattle.game_model.specs.Branches.{branch_of}
use Rattle.backup.specs.Steps.{always_steps}
use Rattle.backup.proofs.nodes.steps_after.Given as goal

abbrev pub invariant-loop-o : goal.invariant-loop-o
invariant-loop-o l = map branch_of l.steps.items ≡ always_steps l.fn.a l.o
