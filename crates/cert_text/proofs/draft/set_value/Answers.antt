use Rattle.std.proofs.Common.{◌≡◌, ℤ, ap, length, rules}
use mir.Syntax.{w128}
use mir.Val.{SFits}
use Rattle.std.specs.Vec.{vec_len}
use Rattle.std.proofs.lemmas.Int.{to_z-of_z}
use Rattle.point_set.specs.Points.{PointData}
use Rattle.cert_text.specs.Draft.{spot_data}
use Rattle.cert_text.proofs.Last.{last_set}
use Rattle.cert_text.proofs.draft.set_value.Goals as goal

pub returns-in-Some : goal.returns-in-Some
returns-in-Some c =
    let counted : vec_len c.args.points.now ≡ length c.args.points.now.items = search rules in
    let fits : SFits w128 c.args.value = search rules in
    let old : PointData = spot_data c.in-Some.point.now in
    last_set spot_data (λ (p : PointData). record p { value = c.args.value }) c.args.points.now.items _ c.in-Some.point.now _ counted c.in-Some.ensures.item.3.0 c.in-Some.ensures.item.3.1
    (ap (λ (v : ℤ). record old { value = v }) (to_z-of_z w128 c.args.value fits))
