use Rattle.std.proofs.Common.{rules, arith, ◌≡◌, ℕ, List, FitsSigned, ap, get_or, refl, set, subst, sym}
use Rattle.std.specs.Prelude.{ℤ, ◌<ℤ◌, ◌≤ℤ◌}
use Rattle.std.specs.Int.{w128}
use Rattle.std.proofs.lemmas.Int.{ints, to_z-of_z}
use Rattle.point_set.specs.Changes.{IsLoweredValue, IsSettled, WasKept, with_value}
use Rattle.point_set.specs.Corners.{point_at}
use Rattle.point_set.specs.Kept.{IsKept}
use Rattle.point_set.specs.Members.{data_of}
use Rattle.point_set.specs.Points.{PointData}
use Rattle.point_set.proofs.Settling.{data-here, inside-data, lowered-lower, value-at_written, value-back, value-stays, value-written}
use Rattle.point_set.proofs.settles.settle_point.Goals as goal

pub returns-then-points-number-clause-settled : goal.returns-then-points-number-clause-settled
returns-then-points-number-clause-settled c =
    let points : List PointData = data_of c.args.points.now in
    let number : ℕ = c.args.number in
    let v : ℤ = c.value_at-value.result in
    let old : ℤ = (get_or c.args.points.now number c.index-points-number.result).value in
    let v_fits : FitsSigned w128 v = search rules in
    let old_fits : FitsSigned w128 old = search rules in
    let told = simp to_z-of_z at c.if-points-number.true in
    let lowered : IsLoweredValue c.args.game.now points (point_at points number) v = c.value_at-value.ensures in
    let here : old ≡ (point_at points number).value = ap (λ (p : PointData). p.value) (data-here c.args.points.now number c.index-points-number.result c.requires.member) in
    let low : v ≤ℤ (point_at points number).value = (lowered-lower c.args.game.now points (point_at points number) v lowered).value in
    let same : v ≡ (point_at points number).value = omega (arith, ints, told, here, low) in
    record { value = v; lowered = lowered; members = value-stays points number v same }

pub renew_lower-requires-clause-was : goal.renew_lower-requires-clause-was
renew_lower-requires-clause-was c =
    let points : List PointData = data_of c.args.points.now in
    let number : ℕ = c.args.number in
    let v : ℤ = c.value_at-value.result in
    let v_fits : FitsSigned w128 v = search rules in
    let was : WasKept (set points number (with_value (point_at points number) v)) number c.args.corners.now c.args.gaps.now = record {
      value = (point_at points number).value;
      kept = subst (λ (ps : List PointData). IsKept ps c.args.corners.now c.args.gaps.now) (sym (value-back points number v (inside-data c.args.points.now number c.requires.member))) c.requires.kept;
    } in
    simp to_z-of_z (subst (λ (ps : List PointData). WasKept ps number c.args.corners.now c.args.gaps.now) (sym (value-written c.args.points.now number c.index-points-number-2.result v c.requires.member)) was)

pub returns-clause-settled : goal.returns-clause-settled
returns-clause-settled c =
    let points : List PointData = data_of c.args.points.now in
    let number : ℕ = c.args.number in
    let v : ℤ = c.value_at-value.result in
    let v_fits : FitsSigned w128 v = search rules in
    let lowered : IsLoweredValue c.args.game.now points (point_at points number) v = c.value_at-value.ensures in
    let settled : IsSettled c.args.game.now points number (set points number (with_value (point_at points number) v)) = record { value = v; lowered = lowered; members = refl } in
    simp to_z-of_z (subst (IsSettled c.args.game.now points number) (sym (value-written c.args.points.now number c.index-points-number-2.result v c.requires.member)) settled)

pub returns-clause-told : goal.returns-clause-told
returns-clause-told c =
    let points : List PointData = data_of c.args.points.now in
    let number : ℕ = c.args.number in
    let v : ℤ = c.value_at-value.result in
    let old : ℤ = (get_or c.args.points.now number c.index-points-number.result).value in
    let v_fits : FitsSigned w128 v = search rules in
    let old_fits : FitsSigned w128 old = search rules in
    let told = simp to_z-of_z at c.if-points-number.false in
    let here : old ≡ (point_at points number).value = ap (λ (p : PointData). p.value) (data-here c.args.points.now number c.index-points-number.result c.requires.member) in
    let lower : v <ℤ (point_at points number).value = omega (arith, ints, told, here) in
    let fell = subst (λ (z : ℤ). z <ℤ (point_at points number).value) (sym (value-at_written c.args.points.now number c.index-points-number-2.result v c.requires.member)) lower in
    (λ _. simp to_z-of_z fell, λ _. refl)
