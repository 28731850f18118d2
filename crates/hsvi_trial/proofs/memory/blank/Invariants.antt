use Rattle.std.specs.List.{All}
use Rattle.std.specs.Prelude.{None, ◌≡◌}
use Rattle.hsvi_trial.proofs.memory.blank.Given as goal

abbrev pub invariant-loop-depth : goal.invariant-loop-depth
invariant-loop-depth T l = All (λ side. side ≡ None) l.sides.items
