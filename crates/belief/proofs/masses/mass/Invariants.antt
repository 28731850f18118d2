use Rattle.std.proofs.Common.{ℕ, ◌≡◌, ◌<◌, length}
use Rattle.std.specs.Prelude.{pos, slice_index_or, sum_by}
use Rattle.scaled_num.specs.Sums.{below}
use Rattle.belief.specs.Beliefs.{weight_at}
use Rattle.belief.specs.Masses.{from_state}
use Rattle.belief.proofs.masses.mass.Given as goal

abbrev pub invariant-loop-s : goal.invariant-loop-s
invariant-loop-s l = (t : ℕ) → t < length l.out → slice_index_or l.out t (pos 0) ≡ pos (sum_by (λ s. from_state l.fn.game l.fn.mixes (weight_at l.fn.belief s) s l.fn.a l.fn.o t) (below l.s))
