use Rattle.std.proofs.Common.{rules, ◌≡◌, ◌∙◌, ℕ, List, ap, get_or, subst, sym, FitsSigned}
use Rattle.std.specs.Prelude.{ℤ}
use Rattle.std.specs.Int.{w128}
use Rattle.std.specs.Option.{IsNone}
use Rattle.std.proofs.lemmas.Int.{to_z-of_z}
use Rattle.point_set.specs.Corners.{point_at}
use Rattle.point_set.specs.Kept.{IsGap, IsSure}
use Rattle.point_set.specs.Members.{data_of, point_data}
use Rattle.point_set.specs.Points.{PointData}
use Rattle.point_set.specs.declared.points.Point.{Point}
use Rattle.point_set.proofs.Renewed.{none-some, unsure-kept}
use Rattle.point_set.proofs.Settling.{data-here, inside-data}
use Rattle.point_set.proofs.renewing.renew_lower.Goals as goal

pub returns : goal.returns
returns c =
    let points : List Point = c.args.points.now in
    let number : ℕ = c.args.number in
    let gap : ℤ = c.gap_of.result in
    let values : List ℤ = c.corner_values-values.result in
    let gap_fits : FitsSigned w128 gap = search rules in
    let first : point_data (get_or points number c.index-points-number.result) ≡ point_at (data_of points) number = data-here points number c.index-points-number.result c.requires.member in
    let second : point_data c.index-points-number-2.result ≡ point_at (data_of points) number = ap point_data c.index-points-number-2.is ∙ data-here points number c.index-points-number-2.result c.requires.member in
    let none : IsNone c.sure_state.result = none-some c.sure_state.result (sym c.is_some.ensures ∙ c.if-is_some.false) in
    let unsure : (t : ℕ) → IsSure (point_at (data_of points) number).belief t → ⊥ = subst (λ (p : PointData). (t : ℕ) → IsSure p.belief t → ⊥) first (c.sure_state.ensures.unsure none) in
    let here : IsGap values (point_at (data_of points) number) gap = subst (λ (p : PointData). IsGap values p gap) second c.gap_of.ensures in
    simp to_z-of_z (unsure-kept (data_of points) number c.args.corners.now c.args.gaps.now values gap (inside-data points number c.requires.member) c.requires.was unsure c.corner_values-values.ensures here)
