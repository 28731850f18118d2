use Rattle.std.proofs.Common.{◌≡◌, ◌≤◌, ◌*◌, ◌^◌}
use Rattle.std.specs.Prelude.{pos, ◌*ℤ◌, unsigned_abs}
use Rattle.scaled_num.specs.Sums.{below, total}
use Rattle.belief.specs.Beliefs.{mix_weight}
use Rattle.game_model.specs.Game.{reward_at}
use Rattle.point_set.proofs.values.mixed_reward.Given as goal

abbrev pub invariant-loop-c : goal.invariant-loop-c
invariant-loop-c l = record {
  is : l.sum ≡ total (λ c. pos (mix_weight l.fn.mixes l.fn.s c) *ℤ reward_at l.fn.game l.fn.s l.fn.a c) (below l.c);
  small : unsigned_abs l.sum ≤ l.c * 2 ^ 46;
}
