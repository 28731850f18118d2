use Rattle.std.proofs.Common.{◌≤◌, take}
use Rattle.alpha_set.specs.Products.{IsGathered}
use Rattle.alpha_set.proofs.worth.gather.Given as goal

abbrev pub invariant-loop-state : goal.invariant-loop-state
invariant-loop-state l = record {
  inside : l.count ≤ l.state;
  gathered : IsGathered l.mass l.state (take l.count l.portions);
}
