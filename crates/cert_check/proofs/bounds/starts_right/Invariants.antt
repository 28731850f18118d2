use Rattle.std.specs.Prelude.{ℕ, ◌*ℤ◌, ◌<◌, ◌≡◌}
use Rattle.scaled_num.specs.Share.{at}
use Rattle.point_set.specs.Corners.{point_at}
use Rattle.controller.specs.Starts.{weighted}
use Rattle.cert_check.proofs.bounds.starts_right.Given as goal

abbrev pub invariant-loop-s : goal.invariant-loop-s
invariant-loop-s l = (t : ℕ) → t < l.s → weighted l.certificate.start_points (λ j. at (point_at l.certificate.points j).belief t) ≡ l.certificate.multiple *ℤ at l.game.first t
