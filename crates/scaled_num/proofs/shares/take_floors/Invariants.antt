use Rattle.std.proofs.Common.{◌≡◌, ℕ, ◌<◌, ◌*ℤ◌, length}
use Rattle.scaled_num.specs.Share.{at, IsFloor}
use Rattle.scaled_num.proofs.shares.take_floors.Given as goal

abbrev pub invariant-loop-place : goal.invariant-loop-place
invariant-loop-place l = record {
  same_length : length l.out ≡ length l.weights;
  floor : (i : ℕ) → i < l.place → IsFloor (at l.out i) ((at l.weights i) *ℤ l.total) l.sum;
}
