use Rattle.std.proofs.Common.{map, ◌≡◌}
use Rattle.std.specs.Prelude.{slice_index_or}
use Rattle.point_set.specs.Points.{no_point}
use Rattle.controller.specs.Export.{kept_below, renumbered_point}
use Rattle.controller.specs.Reached.{flag_at}
use Rattle.controller.proofs.kept.keep_points.Given as goal

abbrev pub invariant-loop-j : goal.invariant-loop-j
invariant-loop-j l = l.kept.members ≡ map (λ j. renumbered_point (flag_at l.numbering) (slice_index_or l.points.members j no_point)) (kept_below (flag_at l.numbering) l.j)
