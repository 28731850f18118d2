use Rattle.std.proofs.Common.{rules, ◌≡◌, ◌<◌, ◌++◌, ◌∷◌, [], FitsSigned, length, get_or, List, set, subst, sym, refl, ℕ, ℤ}
use Rattle.std.specs.Bool.{IsTrue}
use Rattle.std.specs.Int.{w128}
use Rattle.std.proofs.lemmas.Int.{to_z-of_z}
use Rattle.game_model.proofs.Front.{length-map}
use Rattle.point_set.specs.Kept.{AreKept, IsAbove}
use Rattle.point_set.specs.Members.{data_of, most_points, point_data}
use Rattle.point_set.specs.Points.{PointData}
use Rattle.point_set.proofs.CornerNumbers.{kept-new, kept-same, kept-unsure}
use Rattle.point_set.proofs.corners.corners_with.Goals as goal

pub returns-then-is_above : goal.returns-then-is_above
returns-then-is_above c =
    let points : List PointData = data_of c.args.points.now in
    let point : PointData = point_data c.args.point.now in
    let count : length points ≡ length c.args.points.now = length-map point_data c.args.points.now in
    let room : length points < most_points = subst (λ (n : ℕ). n < most_points) (sym count) c.requires.room in
    let value : ℤ = c.args.point.now.value in
    let fits : FitsSigned w128 value = search rules in
    let above : IsAbove points (get_or c.args.corners c.in-Some.s 0) value = simp to_z-of_z at (c.is_above.ensures.0 c.if-is_above.true) in
    subst (λ (n : ℕ). AreKept (points ++ point ∷ []) (set c.args.corners c.in-Some.s n)) count
    (kept-new points c.args.corners point c.in-Some.s c.requires.kept room c.sure_state.ensures.few c.in-Some.ensures.sure above)

pub returns-else-is_above : goal.returns-else-is_above
returns-else-is_above c =
    let points : List PointData = data_of c.args.points.now in
    let count : length points ≡ length c.args.points.now = length-map point_data c.args.points.now in
    let room : length points < most_points = subst (λ (n : ℕ). n < most_points) (sym count) c.requires.room in
    let value : ℤ = c.args.point.now.value in
    let fits : FitsSigned w128 value = search rules in
    let told : IsAbove points (get_or c.args.corners c.in-Some.s 0) value → IsTrue c.is_above.result = simp to_z-of_z at c.is_above.ensures.1 in
    kept-same points c.args.corners (point_data c.args.point.now) c.in-Some.s c.requires.kept room c.sure_state.ensures.few c.in-Some.ensures.sure
    (λ above. let yes = told above in let no = c.if-is_above.false in cc (yes, no))

pub returns-in_default : goal.returns-in_default
returns-in_default c =
    let points : List PointData = data_of c.args.points.now in
    let count : length points ≡ length c.args.points.now = length-map point_data c.args.points.now in
    let room : length points < most_points = subst (λ (n : ℕ). n < most_points) (sym count) c.requires.room in
    kept-unsure points c.args.corners (point_data c.args.point.now) c.requires.kept room c.sure_state.ensures.few (c.in_default.ensures.unsure refl)
