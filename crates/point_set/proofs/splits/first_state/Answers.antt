use Rattle.std.proofs.Common.{rules, ◌≡◌, ◌<◌, ◌≤◌, ◌∙◌, List, ap, filter, get_or, length, of_z, sym, subst, arith, ℕ}
use Rattle.std.specs.Prelude.{ℤ, pos, FitsSigned}
use Rattle.std.specs.Int.{w128}
use Rattle.std.specs.List.{AllByRecursion}
use Rattle.game_model.specs.Game.{IsWithin, numbers}
use Rattle.point_set.specs.Members.{IsAfter, IsNamed, data_of, point_data}
use Rattle.point_set.specs.Points.{SplitHolds, most_share, point_of, points_of}
use Rattle.game_model.specs.declared.branches.Branch.{Branch as ShareParts}
use Rattle.scaled_num.proofs.First.{all-map, first-map}
use Rattle.point_set.specs.Faults.{split_place}
use Rattle.point_set.proofs.Failing.{HoldsHere}
use Rattle.point_set.proofs.Named.{same-bits, shares-fit, split-holds, split-same}
use borrow.Author.Count.{below_more}
use Rattle.point_set.proofs.splits.first_state.Goals as goal

pub shared-requires-clause-named : goal.shared-requires-clause-named
shared-requires-clause-named c =
    let window : c.shares_after-shares.result.now ≡ filter (IsAfter c.args.a c.args.o) c.args.point.now.splits.items = c.shares_after-shares.ensures ∙ ap (filter (IsAfter c.args.a c.args.o)) c.deref.ensures.value in
    let fit = shares-fit c.args.game.now c.args.points.now c.args.point.now c.requires.member c.args.a c.args.o in
    subst (AllByRecursion (IsNamed c.args.points.now)) (sym window) fit.named

pub shared-requires-clause-few : goal.shared-requires-clause-few
shared-requires-clause-few c =
    let window : c.shares_after-shares.result.now ≡ filter (IsAfter c.args.a c.args.o) c.args.point.now.splits.items = c.shares_after-shares.ensures ∙ ap (filter (IsAfter c.args.a c.args.o)) c.deref.ensures.value in
    let fit = shares-fit c.args.game.now c.args.points.now c.args.point.now c.requires.member c.args.a c.args.o in
    subst (λ (xs : List ShareParts). length xs ≤ 1024) (sym window) fit.few

pub shared-requires-clause-weights : goal.shared-requires-clause-weights
shared-requires-clause-weights c =
    let window : c.shares_after-shares.result.now ≡ filter (IsAfter c.args.a c.args.o) c.args.point.now.splits.items = c.shares_after-shares.ensures ∙ ap (filter (IsAfter c.args.a c.args.o)) c.deref.ensures.value in
    let fit = shares-fit c.args.game.now c.args.points.now c.args.point.now c.requires.member c.args.a c.args.o in
    subst (AllByRecursion (λ (x : ShareParts). IsWithin (pos 1) most_share x.weight)) (sym window) fit.weights

pub returns-then-shared-masses-clause-first : goal.returns-then-shared-masses-clause-first
returns-then-shared-masses-clause-first c =
    let g = numbers c.args.game.now in
    let points = points_of (data_of c.args.points.now) in
    let s : ℕ = c.loop-s.s in
    let window : c.shares_after-shares.result.now ≡ filter (IsAfter c.args.a c.args.o) c.args.point.now.splits.items = c.shares_after-shares.ensures ∙ ap (filter (IsAfter c.args.a c.args.o)) c.deref.ensures.value in
    let inside : s < c.args.game.now.shape.states = search (rules, arith) in
    let m : ℤ = get_or c.mass.new.out s (pos 0) in
    let here = c.mass.ensures.exact s inside in
    first-map (HoldsHere c.args.game.now c.args.points.now c.args.point.now) (λ (t : ℕ). split_place (c.args.a, c.args.o, t)) c.args.game.now.shape.states s inside c.loop-s.invariant
    (λ h. c.if-shared-masses.true (ap (of_z w128) (split-same g points c.args.point.now c.args.a c.args.o s c.shares_after-shares.result.now c.shared.result m window c.shared.ensures here h)))

pub loop-s-preserved : goal.loop-s-preserved
loop-s-preserved c =
    let g = numbers c.args.game.now in
    let points = points_of (data_of c.args.points.now) in
    let s : ℕ = c.loop-s.s in
    let window : c.shares_after-shares.result.now ≡ filter (IsAfter c.args.a c.args.o) c.args.point.now.splits.items = c.shares_after-shares.ensures ∙ ap (filter (IsAfter c.args.a c.args.o)) c.deref.ensures.value in
    let inside : s < c.args.game.now.shape.states = search (rules, arith) in
    let m : ℤ = get_or c.mass.new.out s (pos 0) in
    let here = c.mass.ensures.exact s inside in
    let shared_fits : FitsSigned w128 c.shared.result = search rules in
    let mass_fits : FitsSigned w128 m = search rules in
    below_more (λ t. SplitHolds g points (point_of (point_data c.args.point.now)) c.args.a c.args.o t) s c.loop-s.invariant
    (split-holds g points c.args.point.now c.args.a c.args.o s c.shares_after-shares.result.now c.shared.result m window c.shared.ensures here (same-bits c.shared.result m shared_fits mass_fits c.if-shared-masses.false))

pub returns-clause-none : goal.returns-clause-none
returns-clause-none c = λ none.
    all-map (HoldsHere c.args.game.now c.args.points.now c.args.point.now) (λ (t : ℕ). split_place (c.args.a, c.args.o, t)) c.args.game.now.shape.states
    (λ t lt. c.loop-s.invariant t (omega (arith, c.states-s-end.ensures)))
