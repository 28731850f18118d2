use Rattle.std.proofs.Common.{ℕ, ◌%◌, ap}
use Rattle.hsvi_draw.proofs.Positions.{after_draws-zero, after_draws-after_draws, number_at-after_draws}
use Rattle.hsvi_draw.proofs.law_draws.Goals as goal

pub returns : goal.returns
returns c = record {
  none = after_draws-zero;
  more = λ g k n. after_draws-after_draws k n g;
  later = λ g k n total. ap (λ (x : ℕ). x % total) (number_at-after_draws k n g);
}
