use Rattle.std.proofs.Common.{ℕ, ◌<◌, ◌≤◌, ◌<ℤ◌, ◌≤ℤ◌, length}
use Rattle.scaled_num.specs.Share.{at}
use Rattle.scaled_num.proofs.shares.first_greatest.Given as goal

abbrev pub invariant-loop-place : goal.invariant-loop-place
invariant-loop-place l = record {
  inside : l.best < length l.weights;
  passed : l.best ≤ l.place;
  greatest : (i : ℕ) → i < l.place → (at l.weights i) ≤ℤ (at l.weights l.best);
  first : (i : ℕ) → i < l.best → (at l.weights i) <ℤ (at l.weights l.best);
}
