use Rattle.std.proofs.Common.{◌≡◌, map, take}
use Rattle.std.specs.Prelude.{unsigned_abs}
use Rattle.simulate.proofs.weights.branch_weights.Given as goal

abbrev pub invariant-loop-branch : goal.invariant-loop-branch
invariant-loop-branch l = l.weights.items ≡ map (λ branch. unsigned_abs branch.weight) (take l.branch-index l.branches)
