use Rattle.std.proofs.Common.{List, ap, arith, length, refl, rules, sym, subst, ◌≡◌}
use Rattle.std.specs.Int.{w128}
use Rattle.std.specs.Prelude.{FitsSigned, ℤ, pos, ◌*ℤ◌, ◌≤ℤ◌, ◌<ℤ◌}
use Rattle.std.proofs.lemmas.Int.{ints, to_z-of_z}
use Rattle.game_model.specs.Branches.{mix_total}
use Rattle.game_model.specs.Game.{IsMass}
use Rattle.game_model.specs.Spans.{IsWithinSpan}
use Rattle.point_set.specs.Corners.{point_at}
use Rattle.point_set.specs.Points.{PointData}
use Rattle.point_set.specs.Sawtooth.{IsSawtooth}
use Rattle.point_set.specs.Split.{MakesUp}
use Rattle.point_set.specs.Tooth.{IsToothSplit, items_cost}
use Rattle.hsvi_trial.specs.Founds.{IsUpperFound}
use Rattle.hsvi_trial.specs.declared.starts.Upper.TheVariants.{Root, Tooth}
use Rattle.hsvi_trial.proofs.WholeFirst.{first-small, root-within, times-fits, whole-mass, whole-within}
use Rattle.hsvi_trial.proofs.starts.upper_part.Goals as goal

pub overflow_mul-value : goal.overflow_mul-value
overflow_mul-value c =
    let value_fits : FitsSigned w128 c.point.result.now.value = search rules in
    let within : IsWithinSpan c.args.game.now c.args.game.now.first c.point.result.now.value =
    subst (λ (z : ℤ). IsWithinSpan c.args.game.now c.args.game.now.first z) (sym (ap (λ (p : PointData). p.value) c.point.ensures))
    (root-within c.args.game.now c.args.points.now.members (length c.args.points.now.members) c.root_point-root.result c.requires.points.fit refl c.root_point-root.ensures) in
    simp to_z-of_z (times-fits c.point.result.now.value (first-small c.args.game.now c.law_game.ensures.accepted c.law_game.ensures.small_span c.point.result.now.value within))

pub sawtooth-sawtooth-requires : goal.sawtooth-sawtooth-requires
sawtooth-sawtooth-requires c = record {
  game = c.args.game.now;
  accepted = c.law_game.ensures.accepted;
  fit = c.requires.points.fit;
  corners = c.requires.points.corners;
  right = subst (IsMass c.args.game.now) (sym c.write_whole_first.ensures) (whole-mass c.args.game.now c.law_game.ensures.accepted);
}

pub tooth_split-requires : goal.tooth_split-requires
tooth_split-requires c = record {
  game = c.args.game.now;
  accepted = c.law_game.ensures.accepted;
  fit = c.requires.points.fit;
  corners = c.requires.points.corners;
  right = subst (IsMass c.args.game.now) (sym c.write_whole_first.ensures) (whole-mass c.args.game.now c.law_game.ensures.accepted);
}

pub returns-then-value-sawtooth-clause-found : goal.returns-then-value-sawtooth-clause-found
returns-then-value-sawtooth-clause-found c =
    let value_fits : FitsSigned w128 c.point.result.now.value = search rules in
    let high_fits : FitsSigned w128 c.sawtooth-sawtooth.result = search rules in
    let here : c.point.result.now.value ≡ (point_at c.args.points.now.members c.root_point-root.result).value = ap (λ (p : PointData). p.value) c.point.ensures in
    let within : IsWithinSpan c.args.game.now c.args.game.now.first c.point.result.now.value =
    subst (λ (z : ℤ). IsWithinSpan c.args.game.now c.args.game.now.first z) (sym here)
    (root-within c.args.game.now c.args.points.now.members (length c.args.points.now.members) c.root_point-root.result c.requires.points.fit refl c.root_point-root.ensures) in
    let product_fits = times-fits c.point.result.now.value (first-small c.args.game.now c.law_game.ensures.accepted c.law_game.ensures.small_span c.point.result.now.value within) in
    let below : (pos mix_total *ℤ c.point.result.now.value) ≤ℤ c.sawtooth-sawtooth.result = omega (arith, ints, simp to_z-of_z at c.if-value-sawtooth.true) in
    let found : IsUpperFound c.args.game.now c.args.points.now.members (Root c.root_point-root.result) (pos mix_total *ℤ c.point.result.now.value) = record {
      root = c.root_point-root.result;
      is_root = c.root_point-root.ensures;
      sawtooth = c.sawtooth-sawtooth.result;
      is_sawtooth = subst (λ (w : List ℤ). IsSawtooth c.args.points.now.members w c.sawtooth-sawtooth.result) c.write_whole_first.ensures c.sawtooth-sawtooth.ensures.sawtooth;
      part = record {
        same = refl;
        least = subst (λ (z : ℤ). (pos mix_total *ℤ z) ≤ℤ c.sawtooth-sawtooth.result) here below;
        is_high = ap (λ (z : ℤ). pos mix_total *ℤ z) here;
      };
    } in
    simp to_z-of_z found

pub returns-then-value-sawtooth-clause-bounded : goal.returns-then-value-sawtooth-clause-bounded
returns-then-value-sawtooth-clause-bounded c =
    let value_fits : FitsSigned w128 c.point.result.now.value = search rules in
    let within : IsWithinSpan c.args.game.now c.args.game.now.first c.point.result.now.value =
    subst (λ (z : ℤ). IsWithinSpan c.args.game.now c.args.game.now.first z) (sym (ap (λ (p : PointData). p.value) c.point.ensures))
    (root-within c.args.game.now c.args.points.now.members (length c.args.points.now.members) c.root_point-root.result c.requires.points.fit refl c.root_point-root.ensures) in
    let product_fits = times-fits c.point.result.now.value (first-small c.args.game.now c.law_game.ensures.accepted c.law_game.ensures.small_span c.point.result.now.value within) in
    simp to_z-of_z (whole-within c.args.game.now c.point.result.now.value within)

pub returns-clause-found : goal.returns-clause-found
returns-clause-found c =
    let value_fits : FitsSigned w128 c.point.result.now.value = search rules in
    let high_fits : FitsSigned w128 c.sawtooth-sawtooth.result = search rules in
    let here : c.point.result.now.value ≡ (point_at c.args.points.now.members c.root_point-root.result).value = ap (λ (p : PointData). p.value) c.point.ensures in
    let within : IsWithinSpan c.args.game.now c.args.game.now.first c.point.result.now.value =
    subst (λ (z : ℤ). IsWithinSpan c.args.game.now c.args.game.now.first z) (sym here)
    (root-within c.args.game.now c.args.points.now.members (length c.args.points.now.members) c.root_point-root.result c.requires.points.fit refl c.root_point-root.ensures) in
    let product_fits = times-fits c.point.result.now.value (first-small c.args.game.now c.law_game.ensures.accepted c.law_game.ensures.small_span c.point.result.now.value within) in
    let above : c.sawtooth-sawtooth.result <ℤ (pos mix_total *ℤ c.point.result.now.value) = omega (arith, ints, simp to_z-of_z at c.if-value-sawtooth.false) in
    let whole = c.write_whole_first.ensures in
    let found : IsUpperFound c.args.game.now c.args.points.now.members (Tooth c.tooth_split.new.out) c.sawtooth-sawtooth.result = record {
      root = c.root_point-root.result;
      is_root = c.root_point-root.ensures;
      sawtooth = c.sawtooth-sawtooth.result;
      is_sawtooth = subst (λ (w : List ℤ). IsSawtooth c.args.points.now.members w c.sawtooth-sawtooth.result) whole c.sawtooth-sawtooth.ensures.sawtooth;
      part = record {
        least = subst (λ (z : ℤ). c.sawtooth-sawtooth.result <ℤ (pos mix_total *ℤ z)) here above;
        split = subst (λ (w : List ℤ). IsToothSplit c.args.points.now.members w c.tooth_split.new.out) whole c.tooth_split.ensures.split;
        made = subst (λ (w : List ℤ). MakesUp c.args.points.now.members c.tooth_split.new.out w) whole c.tooth_split.ensures.makes_up;
        cost = subst (λ (w : List ℤ). IsSawtooth c.args.points.now.members w (items_cost c.args.points.now.members c.tooth_split.new.out)) whole c.tooth_split.ensures.cost;
        is_high = refl;
      };
    } in
    simp to_z-of_z found

pub returns-clause-bounded : goal.returns-clause-bounded
returns-clause-bounded c =
    let high_fits : FitsSigned w128 c.sawtooth-sawtooth.result = search rules in
    let whole = c.write_whole_first.ensures in
    simp to_z-of_z (subst (λ (w : List ℤ). IsWithinSpan c.args.game.now w c.sawtooth-sawtooth.result) whole (c.sawtooth-sawtooth.ensures.bounded (record {
      game = c.args.game.now;
      accepted = c.law_game.ensures.accepted;
      fit = c.requires.points.fit;
      corners = c.requires.points.corners;
      right = subst (IsMass c.args.game.now) (sym whole) (whole-mass c.args.game.now c.law_game.ensures.accepted);
    })))
