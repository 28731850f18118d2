use Rattle.std.proofs.Common.{◌≡◌, ◌≤◌, ◌*◌, ◌^◌}
use Rattle.std.specs.Prelude.{pos, ◌*ℤ◌, unsigned_abs}
use Rattle.scaled_num.specs.Sums.{below, total}
use Rattle.belief.specs.Beliefs.{weight_at}
use Rattle.point_set.specs.Members.{row_rewards}
use Rattle.point_set.proofs.values.rewards.Given as goal

abbrev pub invariant-loop-s : goal.invariant-loop-s
invariant-loop-s l = record {
  is : l.sum ≡ total (λ s. pos (weight_at l.fn.belief s) *ℤ row_rewards l.fn.game l.fn.mixes l.fn.a s) (below l.s);
  small : unsigned_abs l.sum ≤ l.s * 2 ^ 69;
}
