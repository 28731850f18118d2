use Rattle.std.proofs.Common.{◌≡◌, refl, length, rules}
use Rattle.std.specs.Vec.{vec_len}
use Rattle.point_set.specs.Points.{PointData}
use Rattle.cert_text.specs.Draft.{spot_data}
use Rattle.cert_text.proofs.Last.{last_set}
use Rattle.cert_text.proofs.draft.set_belief.Goals as goal

pub returns-in-Some : goal.returns-in-Some
returns-in-Some c =
    let counted : vec_len c.args.points.now ≡ length c.args.points.now.items = search rules in
    last_set spot_data (λ (p : PointData). record p { belief = c.args.belief.items }) c.args.points.now.items _ c.in-Some.point.now _ counted c.in-Some.ensures.item.3.0 c.in-Some.ensures.item.3.1 refl
