use Rattle.std.proofs.Common.{rules, arith, ◌≡◌, ◌∙◌, ◌<◌, ◌++◌, ◌∷◌, [], ap, length, length-append, List, subst, sym, vec_len}
use Rattle.std.specs.Prelude.{ℤ, pos}
use Rattle.std.proofs.lemmas.List.{length-map, map-append}
use Rattle.point_set.specs.Kept.{AreGapsOf}
use Rattle.point_set.specs.Members.{data_of, most_points, point_data}
use Rattle.point_set.specs.Points.{PointData}
use Rattle.point_set.specs.declared.points.Point.{Point}
use Rattle.point_set.proofs.KeptGaps.{more-points}
use Rattle.point_set.proofs.sets.PointSet.push.Goals as goal

pub renew_gaps-requires-clause-old : goal.renew_gaps-requires-clause-old
renew_gaps-requires-clause-old c n e =
    let points : List Point = c.self.inside.points.items in
    let gaps : List ℤ = c.self.inside.gaps.items in
    let old : List PointData = data_of points in
    let point : PointData = point_data c.args.point in
    let pushed : c.deref-2.result.now ≡ points ++ c.args.point ∷ [] =
    c.deref-2.ensures.value ∙ c.push_reserved-2.ensures.items ∙ ap (λ (ps : List Point). ps ++ c.args.point ∷ []) c.make_room.ensures.points in
    let new_points : data_of c.deref-2.result.now ≡ old ++ point ∷ [] = ap data_of pushed ∙ map-append point_data points (c.args.point ∷ []) in
    let new_gaps : c.deref_mut.result.now ≡ gaps ++ pos 0 ∷ [] =
    c.deref_mut.ensures.value ∙ c.push_reserved.ensures.items ∙ ap (λ (gs : List ℤ). gs ++ pos 0 ∷ []) c.make_room.ensures.gaps in
    let counted : vec_len c.self.inside.points ≡ length points = search rules in
    let long : length old ≡ length points = length-map points point_data in
    let room : length old < most_points = omega (arith, c.self.invariant.0.corners_kept.few, c.len.ensures, c.if-len-eq-MOST_POINTS.false, counted, long) in
    let count : n ≡ length old = omega (arith, e, ap length pushed, length-append points (c.args.point ∷ []), long) in
    subst (λ (ps : List PointData). AreGapsOf n ps c.self.inside.corners c.deref_mut.result.now) (sym new_points)
    (subst (AreGapsOf n (old ++ point ∷ []) c.self.inside.corners) (sym new_gaps) (more-points old point c.self.inside.corners gaps c.self.invariant.0 room n count))
