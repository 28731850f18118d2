use Rattle.std.proofs.Common.{rules, ◌≡◌, ◌<◌, ◌∙◌, List, ap, length, of_z, subst, sym, FitsSigned, ℕ, ℤ, pos, ◌≤ℤ◌}
use Rattle.std.specs.Int.{w128}
use Rattle.scaled_num.specs.Share.{at}
use Rattle.point_set.proofs.CornerNumbers.{is-sure, sure-sum}
use Rattle.point_set.proofs.Named.{same-bits}
use Rattle.point_set.proofs.corners.sure_state.Goals as goal

pub returns-then-total-eq1-clause-sure : goal.returns-then-total-eq1-clause-sure
returns-then-total-eq1-clause-sure c =
    let first : ℕ = c.first_weight-first.result in
    let e = c.first_weight-first.ensures in
    let parts : c.parts.result.now ≡ c.args.belief.now = c.parts.ensures.parts in
    let inside : first < length c.args.belief.now = subst (λ (xs : List ℤ). first < length xs) parts e.inside in
    let weight : pos 1 ≤ℤ at c.args.belief.now first = subst (λ (xs : List ℤ). pos 1 ≤ℤ at xs first) parts e.weight in
    let total_fits : FitsSigned w128 c.total.result = search rules in
    let one_fits : FitsSigned w128 (pos 1) = search rules in
    let one : c.total.result ≡ pos 1 = same-bits c.total.result (pos 1) total_fits one_fits c.if-total-eq1.true in
    is-sure c.args.belief.now first c.parts.ensures.kept.belief inside weight (sym c.total.ensures ∙ one)

pub returns-else-total-eq1-clause-unsure : goal.returns-else-total-eq1-clause-unsure
returns-else-total-eq1-clause-unsure c =
    λ _ s h. c.if-total-eq1.false (ap (of_z w128) (c.total.ensures ∙ sure-sum c.args.belief.now s h))
