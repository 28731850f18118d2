use Rattle.std.proofs.Common.{ℕ, ◌<◌}
use Rattle.std.specs.Prelude.{◌*ℤ◌, ◌≤ℤ◌}
use Rattle.scaled_num.specs.Share.{at}
use Rattle.point_set.proofs.times.fits_times.Given as goal

abbrev pub invariant-loop-s : goal.invariant-loop-s
invariant-loop-s l = (t : ℕ) → t < l.s → (l.times *ℤ at l.belief t) ≤ℤ at l.mass t
