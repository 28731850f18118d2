use Rattle.std.proofs.Common.{◌≡◌, ◌++◌, flat_map, slice_index_or}
use Rattle.std.specs.String.{string_bytes}
use Rattle.scaled_num.specs.Sums.{below}
use Rattle.point_set.specs.Points.{no_point}
use Rattle.cert_text.specs.Text.{point_text}
use Rattle.cert_text.proofs.printing.points_lines.Given as goal

abbrev pub invariant-loop-j : goal.invariant-loop-j
invariant-loop-j l = string_bytes l.text ≡ string_bytes l.initial.text ++ flat_map (λ j. point_text j (slice_index_or l.points.members j no_point)) (below l.j)
