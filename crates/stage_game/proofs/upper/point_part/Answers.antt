use Rattle.std.proofs.Common.{◌≡◌, ◌∙◌, ◌<◌, ◌≤◌, ◌++◌, ◌∷◌, [], ℕ, List, ap, arith, length, map, refl, rules, subst, sym}
use Rattle.std.specs.Prelude.{ℤ, pos, neg_ℤ, FitsSigned, ◌+ℤ◌, ◌*ℤ◌, ◌<ℤ◌}
use Rattle.std.specs.Int.{w128}
use Rattle.std.proofs.lemmas.Int.{to_z-of_z}
use Rattle.std.proofs.lemmas.List.{take_all}
use Rattle.scaled_num.specs.Share.{at}
use Rattle.scaled_num.specs.Sums.{below, sum_of}
use Rattle.game_model.specs.Game.{GameData}
use Rattle.point_set.specs.Members.{point_data}
use Rattle.stage_game.specs.Scaling.{ceil_of, floor_of, scale, width}
use Rattle.stage_game.proofs.Appends.{item-more}
use Rattle.stage_game.proofs.PointNumbers.{part-made, point-numbers, share-fits}
use Rattle.stage_game.proofs.PointRows.{places-mapped}
use Rattle.stage_game.proofs.Quotients.{floor-is}
use Rattle.stage_game.proofs.upper.point_part.Goals as goal

pub overflow_mul-worth : goal.overflow_mul-worth
overflow_mul-worth c =
    let p = point-numbers c.args.game.now c.law_game.ensures.accepted c.args.bits c.requires.bits (point_data c.args.point.now) c.requires.point
    c.scale_of-times.result c.span.result c.total-total.result (width c.args.game.now) c.scale_of-times.ensures.exact c.span.ensures c.total-total.ensures refl in
    let times_fits = p.times_fits in
    let raise_fits = p.raise_fits in
    let whole_fits = p.whole_fits in
    let value_fits : FitsSigned w128 c.args.point.now.value = p.value_fits in
    simp to_z-of_z p.lift_fits

pub overflow_add-worth : goal.overflow_add-worth
overflow_add-worth c =
    let p = point-numbers c.args.game.now c.law_game.ensures.accepted c.args.bits c.requires.bits (point_data c.args.point.now) c.requires.point
    c.scale_of-times.result c.span.result c.total-total.result (width c.args.game.now) c.scale_of-times.ensures.exact c.span.ensures c.total-total.ensures refl in
    let times_fits = p.times_fits in
    let raise_fits = p.raise_fits in
    let whole_fits = p.whole_fits in
    let value_fits : FitsSigned w128 c.args.point.now.value = p.value_fits in
    let lift_fits = p.lift_fits in
    simp to_z-of_z p.sum_fits

pub overflow_mul-worth-2 : goal.overflow_mul-worth-2
overflow_mul-worth-2 c =
    let p = point-numbers c.args.game.now c.law_game.ensures.accepted c.args.bits c.requires.bits (point_data c.args.point.now) c.requires.point
    c.scale_of-times.result c.span.result c.total-total.result (width c.args.game.now) c.scale_of-times.ensures.exact c.span.ensures c.total-total.ensures refl in
    let times_fits = p.times_fits in
    let raise_fits = p.raise_fits in
    let whole_fits = p.whole_fits in
    let value_fits : FitsSigned w128 c.args.point.now.value = p.value_fits in
    let lift_fits = p.lift_fits in
    let sum_fits = p.sum_fits in
    simp to_z-of_z p.worth_fits

pub overflow_mul-times : goal.overflow_mul-times
overflow_mul-times c =
    let p = point-numbers c.args.game.now c.law_game.ensures.accepted c.args.bits c.requires.bits (point_data c.args.point.now) c.requires.point
    c.scale_of-times.result c.span.result c.total-total.result (width c.args.game.now) c.scale_of-times.ensures.exact c.span.ensures c.total-total.ensures refl in
    let times_fits = p.times_fits in
    let raise_fits = p.raise_fits in
    let whole_fits = p.whole_fits in
    let value_fits : FitsSigned w128 c.args.point.now.value = p.value_fits in
    let scale_fits : FitsSigned w128 (scale c.args.bits) = subst (λ (z : ℤ). FitsSigned w128 z) c.scale_of-times.ensures.exact times_fits in
    let belief : List ℤ = c.args.point.now.belief in
    let g : GameData = c.args.game.now in
    let i : ℕ = c.loop-part.part-index in
    let inside : i < length belief = subst (λ (xs : List ℤ). i < length xs) c.parts-part-items.ensures.parts c.loop-part-test.true in
    let state : i < g.shape.states = omega (arith, inside, c.requires.point.belief.long) in
    let share = share-fits g.shape.states belief c.requires.point.belief c.args.bits c.requires.bits i state in
    let part_fits = share.part_fits in
    simp (c.scale_of-times.ensures.exact, c.parts-part-items.ensures.parts, to_z-of_z) share.product_fits

pub floor_div-requires : goal.floor_div-requires
floor_div-requires c =
    let p = point-numbers c.args.game.now c.law_game.ensures.accepted c.args.bits c.requires.bits (point_data c.args.point.now) c.requires.point
    c.scale_of-times.result c.span.result c.total-total.result (width c.args.game.now) c.scale_of-times.ensures.exact c.span.ensures c.total-total.ensures refl in
    let times_fits = p.times_fits in
    let raise_fits = p.raise_fits in
    let whole_fits = p.whole_fits in
    let value_fits : FitsSigned w128 c.args.point.now.value = p.value_fits in
    simp to_z-of_z p.some

pub loop-part-preserved : goal.loop-part-preserved
loop-part-preserved c =
    let p = point-numbers c.args.game.now c.law_game.ensures.accepted c.args.bits c.requires.bits (point_data c.args.point.now) c.requires.point
    c.scale_of-times.result c.span.result c.total-total.result (width c.args.game.now) c.scale_of-times.ensures.exact c.span.ensures c.total-total.ensures refl in
    let times_fits = p.times_fits in
    let raise_fits = p.raise_fits in
    let whole_fits = p.whole_fits in
    let value_fits : FitsSigned w128 c.args.point.now.value = p.value_fits in
    let belief : List ℤ = c.args.point.now.belief in
    let g : GameData = c.args.game.now in
    let i : ℕ = c.loop-part.part-index in
    let inside : i < length belief = subst (λ (xs : List ℤ). i < length xs) c.parts-part-items.ensures.parts c.loop-part-test.true in
    let state : i < g.shape.states = omega (arith, inside, c.requires.point.belief.long) in
    let share = share-fits g.shape.states belief c.requires.point.belief c.args.bits c.requires.bits i state in
    let part_fits = share.part_fits in
    let scale_fits : FitsSigned w128 (scale c.args.bits) = subst (λ (z : ℤ). FitsSigned w128 z) c.scale_of-times.ensures.exact times_fits in
    let sum_fits : FitsSigned w128 (sum_of belief) = subst (λ (z : ℤ). FitsSigned w128 z) c.total-total.ensures whole_fits in
    let product_fits = share.product_fits in
    let found_fits : FitsSigned w128 c.floor_div.result = search rules in
    let low = simp (c.scale_of-times.ensures.exact, c.parts-part-items.ensures.parts, c.total-total.ensures, to_z-of_z) at c.floor_div.ensures.low in
    let high = simp (c.scale_of-times.ensures.exact, c.parts-part-items.ensures.parts, c.total-total.ensures, to_z-of_z) at c.floor_div.ensures.high in
    let f : ℤ → ℤ = λ x. floor_of (scale c.args.bits *ℤ x) (sum_of belief) in
    let found : c.floor_div.result ≡ f (at belief i) = floor-is (scale c.args.bits *ℤ at belief i) (sum_of belief) c.floor_div.result (subst (λ (z : ℤ). pos 0 <ℤ z) c.total-total.ensures p.some) low high in
    let pushed : c.push.new.self.items ≡ c.loop-part.block.items ++ c.floor_div.result ∷ [] = simp to_z-of_z at c.in_ok-push.ensures.items in
    pushed ∙ ap (λ (x : ℤ). c.loop-part.block.items ++ x ∷ []) found ∙ ap (λ (xs : List ℤ). xs ++ f (at belief i) ∷ []) c.loop-part.invariant ∙ item-more f [] belief i (pos 0) inside

pub overflow_mul-width_of : goal.overflow_mul-width_of
overflow_mul-width_of c =
    let p = point-numbers c.args.game.now c.law_game.ensures.accepted c.args.bits c.requires.bits (point_data c.args.point.now) c.requires.point
    c.scale_of-times.result c.span.result c.total-total.result c.width_of.result c.scale_of-times.ensures.exact c.span.ensures c.total-total.ensures c.width_of.ensures in
    let times_fits = p.times_fits in
    let raise_fits = p.raise_fits in
    let whole_fits = p.whole_fits in
    let value_fits : FitsSigned w128 c.args.point.now.value = p.value_fits in
    let wide_fits = p.wide_fits in
    simp to_z-of_z p.divisor_fits

pub minus_up-requires-clause-divisor : goal.minus_up-requires-clause-divisor
minus_up-requires-clause-divisor c =
    let p = point-numbers c.args.game.now c.law_game.ensures.accepted c.args.bits c.requires.bits (point_data c.args.point.now) c.requires.point
    c.scale_of-times.result c.span.result c.total-total.result c.width_of.result c.scale_of-times.ensures.exact c.span.ensures c.total-total.ensures c.width_of.ensures in
    let times_fits = p.times_fits in
    let raise_fits = p.raise_fits in
    let whole_fits = p.whole_fits in
    let value_fits : FitsSigned w128 c.args.point.now.value = p.value_fits in
    let wide_fits = p.wide_fits in
    let lift_fits = p.lift_fits in
    let sum_fits = p.sum_fits in
    let worth_fits = p.worth_fits in
    let divisor_fits = p.divisor_fits in
    simp to_z-of_z p.divisor

pub minus_up-requires-clause-part : goal.minus_up-requires-clause-part
minus_up-requires-clause-part c =
    let p = point-numbers c.args.game.now c.law_game.ensures.accepted c.args.bits c.requires.bits (point_data c.args.point.now) c.requires.point
    c.scale_of-times.result c.span.result c.total-total.result c.width_of.result c.scale_of-times.ensures.exact c.span.ensures c.total-total.ensures c.width_of.ensures in
    let times_fits = p.times_fits in
    let raise_fits = p.raise_fits in
    let whole_fits = p.whole_fits in
    let value_fits : FitsSigned w128 c.args.point.now.value = p.value_fits in
    let wide_fits = p.wide_fits in
    let lift_fits = p.lift_fits in
    let sum_fits = p.sum_fits in
    let worth_fits = p.worth_fits in
    let divisor_fits = p.divisor_fits in
    simp to_z-of_z p.low

pub minus_up-requires-clause-room : goal.minus_up-requires-clause-room
minus_up-requires-clause-room c =
    let p = point-numbers c.args.game.now c.law_game.ensures.accepted c.args.bits c.requires.bits (point_data c.args.point.now) c.requires.point
    c.scale_of-times.result c.span.result c.total-total.result c.width_of.result c.scale_of-times.ensures.exact c.span.ensures c.total-total.ensures c.width_of.ensures in
    let times_fits = p.times_fits in
    let raise_fits = p.raise_fits in
    let whole_fits = p.whole_fits in
    let value_fits : FitsSigned w128 c.args.point.now.value = p.value_fits in
    let wide_fits = p.wide_fits in
    let lift_fits = p.lift_fits in
    let sum_fits = p.sum_fits in
    let worth_fits = p.worth_fits in
    let divisor_fits = p.divisor_fits in
    simp to_z-of_z p.room

pub returns : goal.returns
returns c =
    let p = point-numbers c.args.game.now c.law_game.ensures.accepted c.args.bits c.requires.bits (point_data c.args.point.now) c.requires.point
    c.scale_of-times.result c.span.result c.total-total.result c.width_of.result c.scale_of-times.ensures.exact c.span.ensures c.total-total.ensures c.width_of.ensures in
    let times_fits = p.times_fits in
    let raise_fits = p.raise_fits in
    let whole_fits = p.whole_fits in
    let value_fits : FitsSigned w128 c.args.point.now.value = p.value_fits in
    let wide_fits = p.wide_fits in
    let lift_fits = p.lift_fits in
    let sum_fits = p.sum_fits in
    let worth_fits = p.worth_fits in
    let divisor_fits = p.divisor_fits in
    let belief : List ℤ = c.args.point.now.belief in
    let g : GameData = c.args.game.now in
    let f : ℤ → ℤ = λ x. floor_of (scale c.args.bits *ℤ x) (sum_of belief) in
    let made_fits : FitsSigned w128 c.minus_up.result = search rules in
    let made : c.minus_up.result ≡ neg_ℤ (ceil_of (c.scale_of-times.result *ℤ (c.args.point.now.value +ℤ c.span.result *ℤ c.total-total.result)) (c.width_of.result *ℤ c.total-total.result)) = simp to_z-of_z at c.minus_up.ensures in
    let whole : length belief ≤ c.loop-part.part-index = subst (λ (xs : List ℤ). length xs ≤ c.loop-part.part-index) c.parts-part-items.ensures.parts c.loop-part-test.false in
    let block : c.loop-part.block.items ≡ map (λ t. f (at belief t)) (below g.shape.states) =
    c.loop-part.invariant ∙ ap (λ (xs : List ℤ). map f xs) (take_all c.loop-part.part-index belief whole) ∙ sym (places-mapped f belief g.shape.states c.requires.point.belief.long) in
    simp to_z-of_z (part-made c.minus_up.result _ c.loop-part.block.items _ (made ∙ p.is) block)
