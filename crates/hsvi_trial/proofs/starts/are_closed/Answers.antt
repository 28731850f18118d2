use Rattle.std.proofs.Common.{List, ap, rules, sym, subst, ◌*◌, ◌≡◌, ◌∙◌}
use Rattle.std.proofs.lemmas.Bool.{false≢true}
use Rattle.std.specs.Int.{w128}
use Rattle.std.specs.Prelude.{FitsSigned, ℤ, pos, ◌-ℤ◌, ◌*ℤ◌, ◌≤ℤ◌}
use Rattle.std.proofs.lemmas.Int.{to_z-of_z}
use Rattle.alpha_set.specs.Worth.{AreWeighed, IsWorth}
use Rattle.controller.specs.Certificates.{first_total}
use Rattle.controller.specs.Data.{fraction_data}
use Rattle.game_model.proofs.Width.{at_most}
use Rattle.game_model.specs.Game.{GameData, IsMass, unit}
use Rattle.game_model.specs.Spans.{IsWithinSpan}
use Rattle.stage_game.proofs.LowerEnds.{belief-mass}
use Rattle.hsvi_trial.specs.Sets.{Sets}
use Rattle.hsvi_trial.proofs.StartFacts.{near-exact, start-exists}
use Rattle.hsvi_trial.proofs.WholeFirst.{ClosedFits, closed-fits, total-some, units-is}
use Rattle.hsvi_trial.proofs.starts.are_closed.Goals as goal

pub worth-low-requires-clause-weighed : goal.worth-low-requires-clause-weighed
worth-low-requires-clause-weighed c = record {
  game = c.args.game.now;
  accepted = c.law_game.ensures.accepted;
  fit = c.requires.start.nodes.fit;
  right = subst (IsMass c.args.game.now) (sym c.first.ensures) (belief-mass c.args.game.now c.law_game.ensures.accepted c.args.game.now.first c.law_game.ensures.accepted.first);
}

pub overflow_mul-distance : goal.overflow_mul-distance
overflow_mul-distance c =
    let g : GameData = c.args.game.now in
    let first : c.first.result.now ≡ g.first = c.first.ensures in
    let weighed : AreWeighed c.args.nodes.now.members c.first.result.now = record {
      game = g;
      accepted = c.law_game.ensures.accepted;
      fit = c.requires.start.nodes.fit;
      right = subst (IsMass g) (sym first) (belief-mass g c.law_game.ensures.accepted g.first c.law_game.ensures.accepted.first);
    } in
    let low : IsWithinSpan g g.first c.worth-low.result.0 = subst (λ (w : List ℤ). IsWithinSpan g w c.worth-low.result.0) first (c.worth-low.ensures.bounded weighed) in
    let f = closed-fits g c.law_game.ensures.accepted c.law_game.ensures.small_span (fraction_data c.args.gap.now) c.requires.gap c.upper_part-high.result.1 c.worth-low.result.0 c.upper_part-high.ensures.bounded low in
    let low_fits : FitsSigned w128 c.worth-low.result.0 = search rules in
    let high_fits : FitsSigned w128 c.upper_part-high.result.1 = search rules in
    let num_fits : FitsSigned w128 c.args.gap.now.num = search rules in
    let den_fits : FitsSigned w128 c.args.gap.now.den = search rules in
    simp to_z-of_z f.raised

pub overflow_sub-distance : goal.overflow_sub-distance
overflow_sub-distance c =
    let g : GameData = c.args.game.now in
    let first : c.first.result.now ≡ g.first = c.first.ensures in
    let weighed : AreWeighed c.args.nodes.now.members c.first.result.now = record {
      game = g;
      accepted = c.law_game.ensures.accepted;
      fit = c.requires.start.nodes.fit;
      right = subst (IsMass g) (sym first) (belief-mass g c.law_game.ensures.accepted g.first c.law_game.ensures.accepted.first);
    } in
    let low : IsWithinSpan g g.first c.worth-low.result.0 = subst (λ (w : List ℤ). IsWithinSpan g w c.worth-low.result.0) first (c.worth-low.ensures.bounded weighed) in
    let f = closed-fits g c.law_game.ensures.accepted c.law_game.ensures.small_span (fraction_data c.args.gap.now) c.requires.gap c.upper_part-high.result.1 c.worth-low.result.0 c.upper_part-high.ensures.bounded low in
    let low_fits : FitsSigned w128 c.worth-low.result.0 = search rules in
    let high_fits : FitsSigned w128 c.upper_part-high.result.1 = search rules in
    let num_fits : FitsSigned w128 c.args.gap.now.num = search rules in
    let den_fits : FitsSigned w128 c.args.gap.now.den = search rules in
    let raised = f.raised in
    simp to_z-of_z f.apart

pub overflow_mul-result : goal.overflow_mul-result
overflow_mul-result c =
    let g : GameData = c.args.game.now in
    let first : c.first.result.now ≡ g.first = c.first.ensures in
    let weighed : AreWeighed c.args.nodes.now.members c.first.result.now = record {
      game = g;
      accepted = c.law_game.ensures.accepted;
      fit = c.requires.start.nodes.fit;
      right = subst (IsMass g) (sym first) (belief-mass g c.law_game.ensures.accepted g.first c.law_game.ensures.accepted.first);
    } in
    let low : IsWithinSpan g g.first c.worth-low.result.0 = subst (λ (w : List ℤ). IsWithinSpan g w c.worth-low.result.0) first (c.worth-low.ensures.bounded weighed) in
    let f = closed-fits g c.law_game.ensures.accepted c.law_game.ensures.small_span (fraction_data c.args.gap.now) c.requires.gap c.upper_part-high.result.1 c.worth-low.result.0 c.upper_part-high.ensures.bounded low in
    let low_fits : FitsSigned w128 c.worth-low.result.0 = search rules in
    let high_fits : FitsSigned w128 c.upper_part-high.result.1 = search rules in
    let num_fits : FitsSigned w128 c.args.gap.now.num = search rules in
    let den_fits : FitsSigned w128 c.args.gap.now.den = search rules in
    let raised = f.raised in
    let apart = f.apart in
    simp to_z-of_z f.left

pub overflow_mul-result-4 : goal.overflow_mul-result-4
overflow_mul-result-4 c =
    let g : GameData = c.args.game.now in
    let first : c.first.result.now ≡ g.first = c.first.ensures in
    let weighed : AreWeighed c.args.nodes.now.members c.first.result.now = record {
      game = g;
      accepted = c.law_game.ensures.accepted;
      fit = c.requires.start.nodes.fit;
      right = subst (IsMass g) (sym first) (belief-mass g c.law_game.ensures.accepted g.first c.law_game.ensures.accepted.first);
    } in
    let low : IsWithinSpan g g.first c.worth-low.result.0 = subst (λ (w : List ℤ). IsWithinSpan g w c.worth-low.result.0) first (c.worth-low.ensures.bounded weighed) in
    let f = closed-fits g c.law_game.ensures.accepted c.law_game.ensures.small_span (fraction_data c.args.gap.now) c.requires.gap c.upper_part-high.result.1 c.worth-low.result.0 c.upper_part-high.ensures.bounded low in
    let low_fits : FitsSigned w128 c.worth-low.result.0 = search rules in
    let high_fits : FitsSigned w128 c.upper_part-high.result.1 = search rules in
    let num_fits : FitsSigned w128 c.args.gap.now.num = search rules in
    let den_fits : FitsSigned w128 c.args.gap.now.den = search rules in
    let total_fits : FitsSigned w128 c.first_total.result = search rules in
    let t : ClosedFits c.upper_part-high.result.1 c.worth-low.result.0 c.first_total.result c.args.gap.now.num c.args.gap.now.den =
    subst (λ (z : ℤ). ClosedFits c.upper_part-high.result.1 c.worth-low.result.0 z c.args.gap.now.num c.args.gap.now.den) (sym c.first_total.ensures) f in
    let units = t.units in
    let whole = t.whole in
    simp to_z-of_z t.right

pub returns-clause-closed : goal.returns-clause-closed
returns-clause-closed c =
    let g : GameData = c.args.game.now in
    let first : c.first.result.now ≡ g.first = c.first.ensures in
    let weighed : AreWeighed c.args.nodes.now.members c.first.result.now = record {
      game = g;
      accepted = c.law_game.ensures.accepted;
      fit = c.requires.start.nodes.fit;
      right = subst (IsMass g) (sym first) (belief-mass g c.law_game.ensures.accepted g.first c.law_game.ensures.accepted.first);
    } in
    let low : IsWithinSpan g g.first c.worth-low.result.0 = subst (λ (w : List ℤ). IsWithinSpan g w c.worth-low.result.0) first (c.worth-low.ensures.bounded weighed) in
    let f = closed-fits g c.law_game.ensures.accepted c.law_game.ensures.small_span (fraction_data c.args.gap.now) c.requires.gap c.upper_part-high.result.1 c.worth-low.result.0 c.upper_part-high.ensures.bounded low in
    let low_fits : FitsSigned w128 c.worth-low.result.0 = search rules in
    let high_fits : FitsSigned w128 c.upper_part-high.result.1 = search rules in
    let num_fits : FitsSigned w128 c.args.gap.now.num = search rules in
    let den_fits : FitsSigned w128 c.args.gap.now.den = search rules in
    let total_fits : FitsSigned w128 c.first_total.result = search rules in
    let t : ClosedFits c.upper_part-high.result.1 c.worth-low.result.0 c.first_total.result c.args.gap.now.num c.args.gap.now.den =
    subst (λ (z : ℤ). ClosedFits c.upper_part-high.result.1 c.worth-low.result.0 z c.args.gap.now.num c.args.gap.now.den) (sym c.first_total.ensures) f in
    let raised = t.raised in
    let apart = t.apart in
    let left = t.left in
    let units = t.units in
    let whole = t.whole in
    let right = t.right in
    let sets : Sets = record { nodes = c.args.nodes.now.members; points = c.args.points.now.members } in
    let worth : IsWorth c.args.nodes.now.members g.first c.worth-low.result.0 c.worth-low.result.1 =
    subst (λ (w : List ℤ). IsWorth c.args.nodes.now.members w c.worth-low.result.0 c.worth-low.result.1) first c.worth-low.ensures.worth in
    let start = start-exists g c.law_game.ensures.accepted sets c.worth-low.result.0 c.worth-low.result.1 c.upper_part-high.result.0 c.upper_part-high.result.1 worth c.upper_part-high.ensures.found in
    let near = near-exact g (fraction_data c.args.gap.now) sets c.worth-low.result.0 c.worth-low.result.1 c.upper_part-high.result.0 c.upper_part-high.result.1 start.0 (total-some g c.law_game.ensures.accepted) worth c.upper_part-high.ensures.found start.1 in
    let same : c.first_total.result *ℤ pos 65536 ≡ pos (first_total g * unit) = ap (λ (z : ℤ). z *ℤ pos 65536) c.first_total.ensures ∙ units-is g c.law_game.ensures.accepted in
    let test = at_most ((c.upper_part-high.result.1 -ℤ c.worth-low.result.0 *ℤ pos 65536) *ℤ c.args.gap.now.den) (c.args.gap.now.num *ℤ (pos 65536 *ℤ (c.first_total.result *ℤ pos 65536))) in
    simp to_z-of_z (λ e. (start.0, start.1, near.0 (subst (λ (z : ℤ). ((c.upper_part-high.result.1 -ℤ c.worth-low.result.0 *ℤ pos 65536) *ℤ c.args.gap.now.den) ≤ℤ (c.args.gap.now.num *ℤ (pos 65536 *ℤ z))) same (test.0 e))))

pub returns-clause-open : goal.returns-clause-open
returns-clause-open c =
    let g : GameData = c.args.game.now in
    let first : c.first.result.now ≡ g.first = c.first.ensures in
    let weighed : AreWeighed c.args.nodes.now.members c.first.result.now = record {
      game = g;
      accepted = c.law_game.ensures.accepted;
      fit = c.requires.start.nodes.fit;
      right = subst (IsMass g) (sym first) (belief-mass g c.law_game.ensures.accepted g.first c.law_game.ensures.accepted.first);
    } in
    let low : IsWithinSpan g g.first c.worth-low.result.0 = subst (λ (w : List ℤ). IsWithinSpan g w c.worth-low.result.0) first (c.worth-low.ensures.bounded weighed) in
    let f = closed-fits g c.law_game.ensures.accepted c.law_game.ensures.small_span (fraction_data c.args.gap.now) c.requires.gap c.upper_part-high.result.1 c.worth-low.result.0 c.upper_part-high.ensures.bounded low in
    let low_fits : FitsSigned w128 c.worth-low.result.0 = search rules in
    let high_fits : FitsSigned w128 c.upper_part-high.result.1 = search rules in
    let num_fits : FitsSigned w128 c.args.gap.now.num = search rules in
    let den_fits : FitsSigned w128 c.args.gap.now.den = search rules in
    let total_fits : FitsSigned w128 c.first_total.result = search rules in
    let t : ClosedFits c.upper_part-high.result.1 c.worth-low.result.0 c.first_total.result c.args.gap.now.num c.args.gap.now.den =
    subst (λ (z : ℤ). ClosedFits c.upper_part-high.result.1 c.worth-low.result.0 z c.args.gap.now.num c.args.gap.now.den) (sym c.first_total.ensures) f in
    let raised = t.raised in
    let apart = t.apart in
    let left = t.left in
    let units = t.units in
    let whole = t.whole in
    let right = t.right in
    let sets : Sets = record { nodes = c.args.nodes.now.members; points = c.args.points.now.members } in
    let worth : IsWorth c.args.nodes.now.members g.first c.worth-low.result.0 c.worth-low.result.1 =
    subst (λ (w : List ℤ). IsWorth c.args.nodes.now.members w c.worth-low.result.0 c.worth-low.result.1) first c.worth-low.ensures.worth in
    let start = start-exists g c.law_game.ensures.accepted sets c.worth-low.result.0 c.worth-low.result.1 c.upper_part-high.result.0 c.upper_part-high.result.1 worth c.upper_part-high.ensures.found in
    let near = near-exact g (fraction_data c.args.gap.now) sets c.worth-low.result.0 c.worth-low.result.1 c.upper_part-high.result.0 c.upper_part-high.result.1 start.0 (total-some g c.law_game.ensures.accepted) worth c.upper_part-high.ensures.found start.1 in
    let same : c.first_total.result *ℤ pos 65536 ≡ pos (first_total g * unit) = ap (λ (z : ℤ). z *ℤ pos 65536) c.first_total.ensures ∙ units-is g c.law_game.ensures.accepted in
    let test = at_most ((c.upper_part-high.result.1 -ℤ c.worth-low.result.0 *ℤ pos 65536) *ℤ c.args.gap.now.den) (c.args.gap.now.num *ℤ (pos 65536 *ℤ (c.first_total.result *ℤ pos 65536))) in
    simp to_z-of_z (λ e. (start.0, start.1, λ h. false≢true (sym e ∙ test.1 (subst (λ (z : ℤ). ((c.upper_part-high.result.1 -ℤ c.worth-low.result.0 *ℤ pos 65536) *ℤ c.args.gap.now.den) ≤ℤ (c.args.gap.now.num *ℤ (pos 65536 *ℤ z))) (sym same) (near.1 h)))))
