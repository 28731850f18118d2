use Rattle.std.proofs.Common.{◌≡◌, List, ℤ, ap, length, rules}
use Rattle.std.specs.Vec.{vec_len}
use Rattle.belief.specs.Mixes.{MixesData}
use Rattle.point_set.specs.Points.{PointData}
use Rattle.cert_text.specs.Draft.{spot_data}
use Rattle.cert_text.specs.Made.{with_mixes}
use Rattle.cert_text.proofs.Last.{last_set}
use Rattle.cert_text.proofs.draft.add_weights.Goals as goal

pub returns-in_ok-extend_from_slice : goal.returns-in_ok-extend_from_slice
returns-in_ok-extend_from_slice c =
    let counted : vec_len c.args.points.now ≡ length c.args.points.now.items = search rules in
    let old : PointData = spot_data c.in-Some.point.now in
    let m : MixesData = old.mixes in
    last_set spot_data (λ (p : PointData). record p { mixes = with_mixes c.args.weights.now p.mixes }) c.args.points.now.items _ c.in-Some.point.now _ counted c.in-Some.ensures.item.3.0 c.in-Some.ensures.item.3.1
    (ap (λ (ws : List ℤ). record old { mixes = record m { weights = ws } }) c.in_ok-extend_from_slice.ensures.items)
