use Rattle.std.proofs.Common.{◌≡◌, map, take}
use Rattle.std.specs.Prelude.{int_div}
use Rattle.game_model.proofs.limits.quotients.Given as goal

abbrev pub invariant-loop-weight : goal.invariant-loop-weight
invariant-loop-weight l = l.kept.items ≡ map (λ x. int_div x l.fn.divisor) (take l.weight-index l.weights)
