use Rattle.std.proofs.Common.{arith, ◌≡◌, ◌<◌, ◌≤◌, ◌+◌, ◌∙◌, length, List, ℕ, ℤ, sym, subst}
use Rattle.std.proofs.lemmas.Bool.{eq-eqb, eqb-true}
use Rattle.std.proofs.lemmas.Slice.Eq.{slice_eq-Decides}
use Rattle.game_model.proofs.Front.{length-map}
use Rattle.scaled_num.specs.Share.{at}
use Rattle.point_set.specs.Corners.{point_at}
use Rattle.point_set.specs.Kept.{AreGapsOf, AreValuesOf, IsGap}
use Rattle.point_set.specs.Members.{data_of, point_data}
use Rattle.point_set.specs.Points.{PointData}
use Rattle.point_set.proofs.KeptGaps.{gaps-stay}
use Rattle.point_set.proofs.gaps.renew_gaps.Goals as goal
use Rattle.point_set.proofs.gaps.renew_gaps.Goals.{then-eq, else-eq}

pub returns : goal.returns
returns c =
    let points : List PointData = data_of c.args.points.now in
    let corners : List ℕ = c.args.corners.now in
    let news : List ℤ = c.write_gaps.new.gaps in
    let count : length points ≡ length c.args.points.now = length-map point_data c.args.points.now in
    let values : List ℤ = c.corner_values-values.result in
    let are : AreValuesOf points corners values = c.corner_values-values.ensures in
    let each : (i : ℕ) → c.if-eq.first ≤ i → i < length points → IsGap values (point_at points i) (at news i) =
    λ i k l. c.write_gaps.ensures.each i k (subst (λ (n : ℕ). i < n) count l) in
    record {
      count = c.write_gaps.ensures.count ∙ c.requires.count ∙ sym count;
      all = elim c.if-eq.branch [
        | then-eq w ↦
            let same : c.args.before.now ≡ corners = (slice_eq-Decides (λ (a b : ℕ). (eqb-true a b, eq-eqb a b)) c.args.before.now corners c.eq.result c.eq.ensures).0 w.if-eq.true in
            let n : ℕ = c.if-eq.first in
            let last : n + 1 ≡ length c.args.points.now = omega (arith, w.first-is, c.requires.some) in
            let old : AreGapsOf n points corners c.args.gaps.now = subst (λ (cs : List ℕ). AreGapsOf n points cs c.args.gaps.now) same (c.requires.old n last) in
            gaps-stay points corners c.args.gaps.now news values n c.requires.kept (last ∙ sym count) old are c.write_gaps.ensures.before each
        | else-eq w ↦ record {
          values = values;
          are = are;
          each = λ i l. each i (omega (arith, w.first-is)) l;
        }
      ];
    }
