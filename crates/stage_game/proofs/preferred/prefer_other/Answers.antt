use Rattle.std.proofs.Common.{◌≡◌, ◌∙◌, ◌∷◌, [], ℕ, Bool, List, ap, arith, cond, not, of_z, subst, sym}
use Rattle.std.specs.Prelude.{ℤ, pos, OnOk, ◌≤ℤ◌, ◌^◌}
use Rattle.std.specs.Int.{w128}
use Rattle.std.specs.List.{AllByRecursion}
use Rattle.std.proofs.lemmas.Int.{ints}
use Rattle.scaled_num.specs.Sums.{sum_of}
use Rattle.point_set.specs.Corners.{point_at}
use Rattle.point_set.specs.Points.{PointData}
use Rattle.stage_game.specs.Preferred.{GoesOn}
use Rattle.stage_game.specs.UpperCandidates.{most_others}
use Rattle.stage_game.proofs.BeliefShares.{low-each}
use Rattle.stage_game.proofs.UpperEnds.{IsElsewhere, elsewhere-one}
use Rattle.stage_game.proofs.preferred.prefer_other.Goals as goal

pub sum-requires-clause-each : goal.sum-requires-clause-each
sum-requires-clause-each c = subst (AllByRecursion (λ x. pos 0 ≤ℤ x)) (sym c.parts.ensures.parts) (low-each _ c.parts.ensures.kept.belief.each)

pub sum-requires-clause-most : goal.sum-requires-clause-most
sum-requires-clause-most c =
    subst (λ (xs : List ℤ). sum_of xs ≤ℤ pos (2 ^ 126)) (sym c.parts.ensures.parts) (let most = c.parts.ensures.kept.belief.sums.1 in omega (arith, ints))

pub returns : goal.returns
returns c =
    let points : List PointData = c.args.points.now.members in
    let k : ℕ = c.args.k in
    let belief : List ℤ = c.parts.result.now in
    let same : (point_at points k).belief ≡ belief = sym (ap (λ (p : PointData). p.belief) c.point.ensures) ∙ sym c.parts.ensures.parts in
    let least : pos 1 ≤ℤ sum_of belief = subst (λ (xs : List ℤ). pos 1 ≤ℤ sum_of xs) (sym c.parts.ensures.parts) c.parts.ensures.kept.belief.sums.0 in
    let other : IsElsewhere points k = elsewhere-one points k belief same least (λ e. c.if-sum-eq1.false (ap (of_z w128) (c.sum.ensures ∙ e))) in
    subst (λ (b : Bool). OnOk c.prefer.result (GoesOn most_others (cond (not b) (k ∷ []) []) c.args.others.now.items c.prefer.new.kept.items)) (sym other) c.prefer.ensures
