use Rattle.std.specs.Prelude.{ℕ, ◌<◌}
use Rattle.std.specs.List.{AllByRecursion}
use Rattle.controller.specs.Certificates.{Holds, point_places}
use Rattle.cert_check.proofs.members.first_point.Given as goal

abbrev pub invariant-loop-j : goal.invariant-loop-j
invariant-loop-j l = (m : ℕ) → m < l.j → AllByRecursion (Holds l.game l.certificate) (point_places l.game m)
