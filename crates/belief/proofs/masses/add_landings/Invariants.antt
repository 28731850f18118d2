use Rattle.std.proofs.Common.{ℕ, ◌≡◌, ◌<◌, ◌*◌, take, length}
use Rattle.std.specs.Prelude.{pos, ◌+ℤ◌, slice_index_or, unsigned_abs}
use Rattle.belief.specs.Masses.{landed}
use Rattle.belief.proofs.masses.add_landings.Given as goal

abbrev pub invariant-loop-landing : goal.invariant-loop-landing
invariant-loop-landing l = (t : ℕ) → t < length l.out → slice_index_or l.out t (pos 0) ≡ (slice_index_or l.fn.out t (pos 0)) +ℤ pos (unsigned_abs l.factor * landed (take l.landing-index l.landings) t)
