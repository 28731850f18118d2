use Rattle.std.proofs.Common.{◌≡◌, pos, ◌+ℤ◌, ◌≤ℤ◌, drop}
use Rattle.scaled_num.specs.Sums.{sum_of}
use Rattle.scaled_num.proofs.lists.sum.Given as goal

abbrev pub invariant-loop-number : goal.invariant-loop-number
invariant-loop-number l = record {
  added : l.sum +ℤ sum_of (drop l.number-index l.numbers) ≡ sum_of l.numbers;
  positive : pos 0 ≤ℤ l.sum;
}
