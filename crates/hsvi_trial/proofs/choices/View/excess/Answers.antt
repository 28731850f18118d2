use Rattle.std.proofs.Common.{rules, ℕ, ◌<◌, refl, sym, subst}
use Rattle.std.specs.Int.{w128}
use Rattle.std.specs.Prelude.{FitsSigned, pos, slice_index_or, ℤ, ◌-ℤ◌, ◌*ℤ◌}
use Rattle.std.proofs.lemmas.Int.{to_z-of_z}
use Rattle.alpha_set.specs.Worth.{AreWeighed}
use Rattle.game_model.specs.Branches.{mix_total}
use Rattle.game_model.specs.Game.{IsMass, IsWithin, unit}
use Rattle.point_set.specs.Sawtooth.{AreMeasured}
use Rattle.scaled_num.specs.Share.{IsFloor, at}
use Rattle.scaled_num.proofs.Sums.{each-at}
use Rattle.hsvi_trial.specs.Excess.{IsExcess}
use Rattle.hsvi_trial.specs.Views.{ViewData}
use Rattle.hsvi_trial.proofs.ExcessSizes.{excess-fits}
use Rattle.hsvi_trial.proofs.choices.View.excess.Goals as goal

pub overflow_mul-allowed : goal.overflow_mul-allowed
overflow_mul-allowed c =
    let right : IsMass c.self.inside.game.now c.args.mass.now = rw (← c.self.view_is) at c.requires.mass in
    let measured : AreMeasured c.self.inside.points.now.members c.args.mass.now = record { game = c.self.inside.game.now; accepted = c.law_game.ensures.accepted; fit = c.self.invariant.points.fit; corners = c.self.invariant.points.corners; right = right } in
    let weighed : AreWeighed c.self.inside.nodes.now.members c.args.mass.now = record { game = c.self.inside.game.now; accepted = c.law_game.ensures.accepted; fit = c.self.invariant.nodes.fit; right = right } in
    let f = excess-fits c.self.inside.game.now c.law_game.ensures.accepted c.args.mass.now right c.sawtooth-high.result c.worth-low.result.0 c.self.inside.threshold c.sum.result c.sum.ensures (c.sawtooth-high.ensures.bounded measured) (c.worth-low.ensures.bounded weighed) c.self.invariant.threshold in
    let threshold_fits : FitsSigned w128 c.self.inside.threshold = search rules in
    let sum_fits : FitsSigned w128 c.sum.result = search rules in
    simp to_z-of_z f.allowed

pub overflow_sub-high : goal.overflow_sub-high
overflow_sub-high c =
    let right : IsMass c.self.inside.game.now c.args.mass.now = rw (← c.self.view_is) at c.requires.mass in
    let measured : AreMeasured c.self.inside.points.now.members c.args.mass.now = record { game = c.self.inside.game.now; accepted = c.law_game.ensures.accepted; fit = c.self.invariant.points.fit; corners = c.self.invariant.points.corners; right = right } in
    let weighed : AreWeighed c.self.inside.nodes.now.members c.args.mass.now = record { game = c.self.inside.game.now; accepted = c.law_game.ensures.accepted; fit = c.self.invariant.nodes.fit; right = right } in
    let f = excess-fits c.self.inside.game.now c.law_game.ensures.accepted c.args.mass.now right c.sawtooth-high.result c.worth-low.result.0 c.self.inside.threshold c.sum.result c.sum.ensures (c.sawtooth-high.ensures.bounded measured) (c.worth-low.ensures.bounded weighed) c.self.invariant.threshold in
    let high_fits : FitsSigned w128 c.sawtooth-high.result = search rules in
    let low_fits : FitsSigned w128 c.worth-low.result.0 = search rules in
    simp to_z-of_z f.apart

pub overflow_sub-high-2 : goal.overflow_sub-high-2
overflow_sub-high-2 c =
    let right : IsMass c.self.inside.game.now c.args.mass.now = rw (← c.self.view_is) at c.requires.mass in
    let measured : AreMeasured c.self.inside.points.now.members c.args.mass.now = record { game = c.self.inside.game.now; accepted = c.law_game.ensures.accepted; fit = c.self.invariant.points.fit; corners = c.self.invariant.points.corners; right = right } in
    let weighed : AreWeighed c.self.inside.nodes.now.members c.args.mass.now = record { game = c.self.inside.game.now; accepted = c.law_game.ensures.accepted; fit = c.self.invariant.nodes.fit; right = right } in
    let f = excess-fits c.self.inside.game.now c.law_game.ensures.accepted c.args.mass.now right c.sawtooth-high.result c.worth-low.result.0 c.self.inside.threshold c.sum.result c.sum.ensures (c.sawtooth-high.ensures.bounded measured) (c.worth-low.ensures.bounded weighed) c.self.invariant.threshold in
    let threshold_fits : FitsSigned w128 c.self.inside.threshold = search rules in
    let sum_fits : FitsSigned w128 c.sum.result = search rules in
    let high_fits : FitsSigned w128 c.sawtooth-high.result = search rules in
    let low_fits : FitsSigned w128 c.worth-low.result.0 = search rules in
    let allowed_fits = f.allowed in
    let apart_fits = f.apart in
    simp to_z-of_z f.beyond

pub overflow_mul-result : goal.overflow_mul-result
overflow_mul-result c =
    let right : IsMass c.self.inside.game.now c.args.mass.now = rw (← c.self.view_is) at c.requires.mass in
    let measured : AreMeasured c.self.inside.points.now.members c.args.mass.now = record { game = c.self.inside.game.now; accepted = c.law_game.ensures.accepted; fit = c.self.invariant.points.fit; corners = c.self.invariant.points.corners; right = right } in
    let weighed : AreWeighed c.self.inside.nodes.now.members c.args.mass.now = record { game = c.self.inside.game.now; accepted = c.law_game.ensures.accepted; fit = c.self.invariant.nodes.fit; right = right } in
    let f = excess-fits c.self.inside.game.now c.law_game.ensures.accepted c.args.mass.now right c.sawtooth-high.result c.worth-low.result.0 c.self.inside.threshold c.sum.result c.sum.ensures (c.sawtooth-high.ensures.bounded measured) (c.worth-low.ensures.bounded weighed) c.self.invariant.threshold in
    let threshold_fits : FitsSigned w128 c.self.inside.threshold = search rules in
    let sum_fits : FitsSigned w128 c.sum.result = search rules in
    let high_fits : FitsSigned w128 c.sawtooth-high.result = search rules in
    let low_fits : FitsSigned w128 c.worth-low.result.0 = search rules in
    let allowed_fits = f.allowed in
    let apart_fits = f.apart in
    let beyond_fits = f.beyond in
    let floor : IsFloor c.floor_div.result (c.sawtooth-high.result -ℤ c.worth-low.result.0 -ℤ c.self.inside.threshold *ℤ c.sum.result) (pos unit) =
    record { low = simp to_z-of_z at c.floor_div.ensures.low; high = simp to_z-of_z at c.floor_div.ensures.high } in
    let within : IsWithin (pos 0) (pos mix_total) (slice_index_or c.self.inside.own.now c.args.a (pos 0)) =
    each-at (IsWithin (pos 0) (pos mix_total)) (pos 0) c.self.inside.own.now c.args.a c.self.invariant.own.each (subst (λ (n : ℕ). c.args.a < n) (sym c.self.invariant.own.long) (rw (← c.self.view_is) at c.requires.own)) in
    let own_fits : FitsSigned w128 (slice_index_or c.self.inside.own.now c.args.a (pos 0)) = search rules in
    let whole_fits : FitsSigned w128 c.floor_div.result = search rules in
    simp to_z-of_z (f.weighted (slice_index_or c.self.inside.own.now c.args.a (pos 0)) c.floor_div.result within floor)

pub returns : goal.returns
returns c =
    let right : IsMass c.self.inside.game.now c.args.mass.now = rw (← c.self.view_is) at c.requires.mass in
    let measured : AreMeasured c.self.inside.points.now.members c.args.mass.now = record { game = c.self.inside.game.now; accepted = c.law_game.ensures.accepted; fit = c.self.invariant.points.fit; corners = c.self.invariant.points.corners; right = right } in
    let weighed : AreWeighed c.self.inside.nodes.now.members c.args.mass.now = record { game = c.self.inside.game.now; accepted = c.law_game.ensures.accepted; fit = c.self.invariant.nodes.fit; right = right } in
    let f = excess-fits c.self.inside.game.now c.law_game.ensures.accepted c.args.mass.now right c.sawtooth-high.result c.worth-low.result.0 c.self.inside.threshold c.sum.result c.sum.ensures (c.sawtooth-high.ensures.bounded measured) (c.worth-low.ensures.bounded weighed) c.self.invariant.threshold in
    let threshold_fits : FitsSigned w128 c.self.inside.threshold = search rules in
    let sum_fits : FitsSigned w128 c.sum.result = search rules in
    let high_fits : FitsSigned w128 c.sawtooth-high.result = search rules in
    let low_fits : FitsSigned w128 c.worth-low.result.0 = search rules in
    let allowed_fits = f.allowed in
    let apart_fits = f.apart in
    let beyond_fits = f.beyond in
    let floor : IsFloor c.floor_div.result (c.sawtooth-high.result -ℤ c.worth-low.result.0 -ℤ c.self.inside.threshold *ℤ c.sum.result) (pos unit) =
    record { low = simp to_z-of_z at c.floor_div.ensures.low; high = simp to_z-of_z at c.floor_div.ensures.high } in
    let within : IsWithin (pos 0) (pos mix_total) (slice_index_or c.self.inside.own.now c.args.a (pos 0)) =
    each-at (IsWithin (pos 0) (pos mix_total)) (pos 0) c.self.inside.own.now c.args.a c.self.invariant.own.each (subst (λ (n : ℕ). c.args.a < n) (sym c.self.invariant.own.long) (rw (← c.self.view_is) at c.requires.own)) in
    let own_fits : FitsSigned w128 (slice_index_or c.self.inside.own.now c.args.a (pos 0)) = search rules in
    let whole_fits : FitsSigned w128 c.floor_div.result = search rules in
    let product_fits = f.weighted (slice_index_or c.self.inside.own.now c.args.a (pos 0)) c.floor_div.result within floor in
    simp to_z-of_z
    (subst (λ (d : ViewData). IsExcess d.view (at d.view.own c.args.a) c.args.mass.now (slice_index_or c.self.inside.own.now c.args.a (pos 0) *ℤ c.floor_div.result)) c.self.view_is (record {
      high = c.sawtooth-high.result;
      low = c.worth-low.result.0;
      node = c.worth-low.result.1;
      sawtooth = c.sawtooth-high.ensures.sawtooth;
      worth = c.worth-low.ensures.worth;
      whole = c.floor_div.result;
      floor = subst (λ (z : ℤ). IsFloor c.floor_div.result (c.sawtooth-high.result -ℤ c.worth-low.result.0 -ℤ c.self.inside.threshold *ℤ z) (pos unit)) c.sum.ensures floor;
      same = refl;
    }))
