use Rattle.std.proofs.Common.{◌≡◌, ◌∙◌, List, ap, map, filter, sym, subst}
use Rattle.std.specs.Prelude.{ℤ, pos, ◌*ℤ◌, ◌^◌, ◌≤◌, sum_by, unsigned_abs}
use Rattle.std.specs.List.{AllByRecursion}
use Rattle.std.proofs.lemmas.Int.{to_z-of_z}
use Rattle.scaled_num.specs.Sums.{below, total}
use Rattle.belief.specs.Beliefs.{weight_at}
use Rattle.game_model.specs.Branches.{AreRising, branch_of}
use Rattle.game_model.specs.Game.{GameData}
use Rattle.point_set.specs.Members.{IsAfter, IsNamed, counted_after, counted_size, data_of, row_rewards}
use Rattle.point_set.specs.Points.{points_of}
use Rattle.point_set.specs.declared.points.Point.{Point as PointParts}
use Rattle.game_model.specs.declared.branches.Branch.{Branch as ShareParts}
use Rattle.point_set.proofs.Named.{named-all}
use Rattle.point_set.proofs.Worth.{counted-small, formed, formed-fits, formed-is, later-size, later_bound, rewards-fit, scale-fits}
use Rattle.point_set.proofs.values.worth_after.Goals as goal

pub counted-requires-clause-named : goal.counted-requires-clause-named
counted-requires-clause-named c =
    let g : GameData = c.args.game.now in
    let points : List PointParts = c.args.points.now in
    let p : PointParts = c.args.point.now in
    let accepted = c.law_game.ensures.accepted in
    subst (AllByRecursion (IsNamed c.args.points.now)) (sym c.deref.ensures.value) (named-all g points p c.requires.member)

pub counted-requires-clause-rising : goal.counted-requires-clause-rising
counted-requires-clause-rising c =
    let g : GameData = c.args.game.now in
    let points : List PointParts = c.args.points.now in
    let p : PointParts = c.args.point.now in
    let accepted = c.law_game.ensures.accepted in
    subst (λ (xs : List ShareParts). AreRising (map branch_of xs)) (sym c.deref.ensures.value) c.requires.member.fits.splits.rising

pub counted-requires-clause-small : goal.counted-requires-clause-small
counted-requires-clause-small c =
    let g : GameData = c.args.game.now in
    let points : List PointParts = c.args.points.now in
    let p : PointParts = c.args.point.now in
    let accepted = c.law_game.ensures.accepted in
    subst (λ (xs : List ShareParts). sum_by (λ o. counted_size (points_of (data_of c.args.points.now)) (filter (IsAfter c.args.a o) xs)) (below c.args.game.now.shape.observations) ≤ 2 ^ 124) (sym c.deref.ensures.value) (counted-small g accepted points p c.requires.member c.requires.splits c.args.a c.requires.own)

pub overflow_mul-scale : goal.overflow_mul-scale
overflow_mul-scale c =
    let g : GameData = c.args.game.now in
    let points : List PointParts = c.args.points.now in
    let p : PointParts = c.args.point.now in
    let accepted = c.law_game.ensures.accepted in
    let f = scale-fits g accepted in
    let fact_0 = f.whole in
    let fact_1 = f.over in
    let fact_2 = f.under in
    simp (c.discount-over.ensures, c.row_total.ensures, to_z-of_z) f.divisor

pub overflow_mul-at_once : goal.overflow_mul-at_once
overflow_mul-at_once c =
    let g : GameData = c.args.game.now in
    let points : List PointParts = c.args.points.now in
    let p : PointParts = c.args.point.now in
    let accepted = c.law_game.ensures.accepted in
    let f = scale-fits g accepted in
    let fact_0 = f.whole in
    let fact_1 = f.over in
    let fact_2 = f.under in
    let fact_3 = f.divisor in
    simp (c.discount-over.ensures, c.row_total.ensures, to_z-of_z) f.scale

pub overflow_mul-at_once-2 : goal.overflow_mul-at_once-2
overflow_mul-at_once-2 c =
    let g : GameData = c.args.game.now in
    let points : List PointParts = c.args.points.now in
    let p : PointParts = c.args.point.now in
    let accepted = c.law_game.ensures.accepted in
    let f = rewards-fit g accepted p c.requires.member.fits c.args.a c.requires.own c.rewards.result c.rewards.ensures in
    let fact_0 = f.whole in
    let fact_1 = f.over in
    let fact_2 = f.under in
    let fact_3 = f.divisor in
    let fact_4 = f.scale in
    let fact_5 = f.rewards_fit in
    simp (c.discount-over.ensures, c.row_total.ensures, to_z-of_z) f.at_once

pub overflow_mul-later : goal.overflow_mul-later
overflow_mul-later c =
    let g : GameData = c.args.game.now in
    let points : List PointParts = c.args.points.now in
    let p : PointParts = c.args.point.now in
    let accepted = c.law_game.ensures.accepted in
    let later_is : c.counted.result ≡ counted_after (points_of (data_of points)) p.splits.items g.shape.observations c.args.a = c.counted.ensures ∙ ap (λ (xs : List ShareParts). counted_after (points_of (data_of points)) xs g.shape.observations c.args.a) c.deref.ensures.value in
    let f = formed-fits g accepted points p c.requires.member c.requires.splits c.args.a c.requires.own c.rewards.result c.counted.result c.rewards.ensures
    (subst (λ (z : ℤ). unsigned_abs z ≤ later_bound g p) (sym later_is) (later-size g accepted points p c.requires.member c.requires.splits c.args.a c.requires.own)) in
    let fact_0 = f.whole in
    let fact_1 = f.over in
    let fact_2 = f.under in
    let fact_3 = f.divisor in
    let fact_4 = f.scale in
    let fact_5 = f.rewards_fit in
    let fact_6 = f.at_once in
    let fact_7 = f.later_fits in
    simp (c.discount-over.ensures, to_z-of_z) f.discounted

pub overflow_add-result : goal.overflow_add-result
overflow_add-result c =
    let g : GameData = c.args.game.now in
    let points : List PointParts = c.args.points.now in
    let p : PointParts = c.args.point.now in
    let accepted = c.law_game.ensures.accepted in
    let later_is : c.counted.result ≡ counted_after (points_of (data_of points)) p.splits.items g.shape.observations c.args.a = c.counted.ensures ∙ ap (λ (xs : List ShareParts). counted_after (points_of (data_of points)) xs g.shape.observations c.args.a) c.deref.ensures.value in
    let f = formed-fits g accepted points p c.requires.member c.requires.splits c.args.a c.requires.own c.rewards.result c.counted.result c.rewards.ensures
    (subst (λ (z : ℤ). unsigned_abs z ≤ later_bound g p) (sym later_is) (later-size g accepted points p c.requires.member c.requires.splits c.args.a c.requires.own)) in
    let fact_0 = f.whole in
    let fact_1 = f.over in
    let fact_2 = f.under in
    let fact_3 = f.divisor in
    let fact_4 = f.scale in
    let fact_5 = f.rewards_fit in
    let fact_6 = f.at_once in
    let fact_7 = f.later_fits in
    let fact_8 = f.discounted in
    simp (c.discount-over.ensures, c.row_total.ensures, to_z-of_z) f.all

pub returns-clause-exact : goal.returns-clause-exact
returns-clause-exact c =
    let g : GameData = c.args.game.now in
    let points : List PointParts = c.args.points.now in
    let p : PointParts = c.args.point.now in
    let accepted = c.law_game.ensures.accepted in
    let later_is : c.counted.result ≡ counted_after (points_of (data_of points)) p.splits.items g.shape.observations c.args.a = c.counted.ensures ∙ ap (λ (xs : List ShareParts). counted_after (points_of (data_of points)) xs g.shape.observations c.args.a) c.deref.ensures.value in
    let f = formed-fits g accepted points p c.requires.member c.requires.splits c.args.a c.requires.own c.rewards.result c.counted.result c.rewards.ensures
    (subst (λ (z : ℤ). unsigned_abs z ≤ later_bound g p) (sym later_is) (later-size g accepted points p c.requires.member c.requires.splits c.args.a c.requires.own)) in
    let fact_0 = f.whole in
    let fact_1 = f.over in
    let fact_2 = f.under in
    let fact_3 = f.divisor in
    let fact_4 = f.scale in
    let fact_5 = f.rewards_fit in
    let fact_6 = f.at_once in
    let fact_7 = f.later_fits in
    let fact_8 = f.discounted in
    let fact_9 = f.all in
    simp (c.discount-over.ensures, c.row_total.ensures, to_z-of_z)
    (ap (λ (z : ℤ). formed g z c.counted.result) c.rewards.ensures ∙ ap (λ (z : ℤ). formed g (total (λ s. pos (weight_at p.belief s) *ℤ row_rewards g p.mixes c.args.a s) (below g.shape.states)) z) later_is ∙ formed-is g accepted (points_of (data_of points)) p c.requires.member.fits c.args.a)

pub returns-clause-small : goal.returns-clause-small
returns-clause-small c =
    let g : GameData = c.args.game.now in
    let points : List PointParts = c.args.points.now in
    let p : PointParts = c.args.point.now in
    let accepted = c.law_game.ensures.accepted in
    let later_is : c.counted.result ≡ counted_after (points_of (data_of points)) p.splits.items g.shape.observations c.args.a = c.counted.ensures ∙ ap (λ (xs : List ShareParts). counted_after (points_of (data_of points)) xs g.shape.observations c.args.a) c.deref.ensures.value in
    let f = formed-fits g accepted points p c.requires.member c.requires.splits c.args.a c.requires.own c.rewards.result c.counted.result c.rewards.ensures
    (subst (λ (z : ℤ). unsigned_abs z ≤ later_bound g p) (sym later_is) (later-size g accepted points p c.requires.member c.requires.splits c.args.a c.requires.own)) in
    let fact_0 = f.whole in
    let fact_1 = f.over in
    let fact_2 = f.under in
    let fact_3 = f.divisor in
    let fact_4 = f.scale in
    let fact_5 = f.rewards_fit in
    let fact_6 = f.at_once in
    let fact_7 = f.later_fits in
    let fact_8 = f.discounted in
    let fact_9 = f.all in
    simp (c.discount-over.ensures, c.row_total.ensures, to_z-of_z) f.small
