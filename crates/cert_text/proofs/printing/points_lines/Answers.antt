use Rattle.std.proofs.Common.{◌++◌, ◌∙◌, ap}
use Rattle.std.specs.Prelude.{slice_index_or}
use Rattle.std.specs.String.{string_bytes}
use Rattle.point_set.specs.Points.{PointData, no_point}
use Rattle.cert_text.specs.Text.{point_text}
use Rattle.text_words.proofs.Grown.{grown-numbered}
use Rattle.cert_text.proofs.printing.points_lines.Goals as goal

pub loop-j-preserved : goal.loop-j-preserved
loop-j-preserved c =
    let now = string_bytes c.loop-j.text in
    let step = c.in_ok-point_lines.ensures ∙ ap (λ (point : PointData). now ++ point_text c.loop-j.j point) c.point.ensures in
    grown-numbered (λ j. point_text j (slice_index_or c.args.points.now.members j no_point)) c.loop-j.j (string_bytes c.args.text.now) now (string_bytes c.point_lines.new.text) c.loop-j.invariant step
