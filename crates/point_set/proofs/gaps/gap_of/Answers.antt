use Rattle.std.proofs.Common.{rules, FitsSigned, ◌≡◌, ◌≤◌, ◌^◌, List, ℤ, ap, subst, sym, ◌∙◌}
use Rattle.std.specs.Int.{w128}
use Rattle.point_set.specs.Bounds.{cost_at, cost_size}
use Rattle.point_set.proofs.KeptGaps.{wrap-gap}
use Rattle.point_set.proofs.gaps.gap_of.Goals as goal

pub returns : goal.returns
returns c small fits =
    let belief : List ℤ = c.args.point.now.belief in
    let values : List ℤ = c.args.values.now in
    let parts : c.parts.result.now ≡ belief = c.parts.ensures.parts in
    let cost : c.wrapping_cost.result ≡ cost_at belief values =
    c.wrapping_cost.ensures (subst (λ (b : List ℤ). cost_size b values ≤ 2 ^ 124) (sym parts) small) ∙ ap (λ (b : List ℤ). cost_at b values) parts in
    let value_fits : FitsSigned w128 c.args.point.now.value = search rules in
    let cost_fits : FitsSigned w128 c.wrapping_cost.result = search rules in
    wrap-gap c.args.point.now.value c.wrapping_cost.result (cost_at belief values) value_fits cost_fits cost fits
