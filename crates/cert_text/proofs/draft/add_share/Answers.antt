use Rattle.std.proofs.Common.{◌≡◌, List, ap, length, map, rules, ◌∙◌}
use Rattle.std.specs.Vec.{vec_len}
use Rattle.game_model.specs.Branches.{Branch, branch_of}
use Rattle.point_set.specs.Points.{PointData}
use Rattle.std.specs.Prelude.{◌++◌, ◌∷◌, []}
use Rattle.cert_text.specs.Draft.{spot_data}
use Rattle.cert_text.proofs.Last.{last_set, mapped_push}
use Rattle.cert_text.proofs.draft.add_share.Goals as goal

pub returns-in_ok-push : goal.returns-in_ok-push
returns-in_ok-push c =
    let counted : vec_len c.args.points.now ≡ length c.args.points.now.items = search rules in
    let old : PointData = spot_data c.in-Some.point.now in
    last_set spot_data (λ (p : PointData). record p { splits = p.splits ++ branch_of c.args.b ∷ [] }) c.args.points.now.items _ c.in-Some.point.now _ counted c.in-Some.ensures.item.3.0 c.in-Some.ensures.item.3.1
    (ap (λ (bs : List Branch). record old { splits = bs }) (ap (map branch_of) c.in_ok-push.ensures.items ∙ mapped_push branch_of _ _))
