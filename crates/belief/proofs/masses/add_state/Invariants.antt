use Rattle.std.proofs.Common.{ℕ, ◌≡◌, ◌<◌, ◌*◌, length}
use Rattle.std.specs.Prelude.{pos, ◌+ℤ◌, slice_index_or, sum_by, unsigned_abs}
use Rattle.scaled_num.specs.Sums.{below}
use Rattle.game_model.specs.Game.{row_at, weight_in}
use Rattle.belief.specs.Beliefs.{mix_weight}
use Rattle.belief.proofs.masses.add_state.Given as goal

abbrev pub invariant-loop-c : goal.invariant-loop-c
invariant-loop-c l = (t : ℕ) → t < length l.out → slice_index_or l.out t (pos 0) ≡ (slice_index_or l.fn.out t (pos 0)) +ℤ pos (sum_by (λ c. unsigned_abs l.weight * mix_weight l.fn.mixes l.s c * weight_in (row_at l.fn.game l.s l.a c) l.o t) (below l.c))
