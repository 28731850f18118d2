use Rattle.std.specs.Prelude.{ℕ, ℤ, pos, ◌≤ℤ◌, map}
use Rattle.scaled_num.proofs.Floors.{All-from_recursion}
use Rattle.scaled_num.proofs.Sums.{each-map}
use Rattle.point_set.proofs.OneSplit.{tooth-one}
use Rattle.point_set.proofs.OneTakes.{split-one}
use Rattle.point_set.proofs.laws.law_splits.Goals as goal

pub returns : goal.returns
returns c = record {
  split = λ points wanted mass items others low p q.
      split-one points wanted mass items others
      (All-from_recursion (λ (x : ℤ). pos 0 ≤ℤ x) (map (λ (want : ℕ × ℤ). want.1) wanted) (each-map (λ (x : ℤ). pos 0 ≤ℤ x) (λ (want : ℕ × ℤ). want.1) wanted low)) p q;
  tooth = tooth-one;
}
