use Rattle.std.proofs.Common.{rules, ◌≡◌, ◌<◌, ◌≤◌, ◌^◌, ◌∙◌, List, ap, filter, sym, subst, arith, ℕ}
use Rattle.std.specs.Prelude.{ℤ, FitsSigned, unsigned_abs}
use Rattle.std.specs.Int.{w128}
use Rattle.std.specs.List.{AllByRecursion}
use Rattle.std.proofs.lemmas.Int.{to_z-of_z}
use Rattle.scaled_num.specs.Sums.{total}
use Rattle.belief.proofs.Landings.{each-filter}
use Rattle.point_set.specs.Members.{IsAfter, IsNamed, counted, counted_size, data_of}
use Rattle.point_set.specs.Points.{points_of}
use Rattle.game_model.specs.declared.branches.Branch.{Branch as ShareParts}
use Rattle.point_set.proofs.Running.{at-most-sum, next-sum, total-size}
use Rattle.point_set.proofs.values.counted.Goals as goal

pub counted_shares-sum-requires-clause-named : goal.counted_shares-sum-requires-clause-named
counted_shares-sum-requires-clause-named c =
    subst (AllByRecursion (IsNamed c.args.points.now)) (sym c.shares_after.ensures) (each-filter (IsNamed c.args.points.now) (IsAfter c.args.a c.loop-o.o) c.args.splits.now c.requires.named)

pub counted_shares-sum-requires-clause-small : goal.counted_shares-sum-requires-clause-small
counted_shares-sum-requires-clause-small c =
    let h : ℕ → ℕ = λ o. counted_size (points_of (data_of c.args.points.now)) (filter (IsAfter c.args.a o) c.args.splits.now) in
    let inside : c.loop-o.o < c.args.game.now.shape.observations = search (rules, arith) in
    let one = at-most-sum h c.loop-o.o c.args.game.now.shape.observations inside in
    let all = c.requires.small in
    subst (λ (xs : List ShareParts). counted_size (points_of (data_of c.args.points.now)) xs ≤ 2 ^ 124) (sym c.shares_after.ensures) (omega arith)

pub overflow_add-sum : goal.overflow_add-sum
overflow_add-sum c =
    let points = points_of (data_of c.args.points.now) in
    let f : ℕ → ℤ = λ o. total (counted points) (filter (IsAfter c.args.a o) c.args.splits.now) in
    let h : ℕ → ℕ = λ o. counted_size points (filter (IsAfter c.args.a o) c.args.splits.now) in
    let inside : c.loop-o.o < c.args.game.now.shape.observations = search (rules, arith) in
    let is : f c.loop-o.o ≡ c.counted_shares-sum.result = sym (c.counted_shares-sum.ensures ∙ ap (total (counted points)) c.shares_after.ensures) in
    let small : unsigned_abs c.counted_shares-sum.result ≤ h c.loop-o.o = subst (λ (z : ℤ). unsigned_abs z ≤ h c.loop-o.o) is (total-size (counted points) (filter (IsAfter c.args.a c.loop-o.o) c.args.splits.now)) in
    let fits : FitsSigned w128 c.counted_shares-sum.result = search rules in
    let n = next-sum f h c.loop-o.o c.args.game.now.shape.observations c.counted_shares-sum.result _ inside is small c.requires.small c.loop-o.invariant.is c.loop-o.invariant.small in
    simp to_z-of_z n.sum_fits

pub loop-o-preserved : goal.loop-o-preserved
loop-o-preserved c =
    let points = points_of (data_of c.args.points.now) in
    let f : ℕ → ℤ = λ o. total (counted points) (filter (IsAfter c.args.a o) c.args.splits.now) in
    let h : ℕ → ℕ = λ o. counted_size points (filter (IsAfter c.args.a o) c.args.splits.now) in
    let inside : c.loop-o.o < c.args.game.now.shape.observations = search (rules, arith) in
    let is : f c.loop-o.o ≡ c.counted_shares-sum.result = sym (c.counted_shares-sum.ensures ∙ ap (total (counted points)) c.shares_after.ensures) in
    let small : unsigned_abs c.counted_shares-sum.result ≤ h c.loop-o.o = subst (λ (z : ℤ). unsigned_abs z ≤ h c.loop-o.o) is (total-size (counted points) (filter (IsAfter c.args.a c.loop-o.o) c.args.splits.now)) in
    let fits : FitsSigned w128 c.counted_shares-sum.result = search rules in
    let n = next-sum f h c.loop-o.o c.args.game.now.shape.observations c.counted_shares-sum.result _ inside is small c.requires.small c.loop-o.invariant.is c.loop-o.invariant.small in
    let fact_0 = n.sum_fits in
    simp to_z-of_z (record { is = n.is; small = n.small })
