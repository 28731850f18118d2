use Rattle.std.proofs.Common.{◌≡◌, ◌∙◌, ℕ, List, ap, length, refl, rules, subst, sym, to_z, of_z}
use Rattle.std.specs.Prelude.{ℤ, pos, FitsSigned, ◌*ℤ◌, ◌*◌}
use Rattle.std.specs.Int.{w128}
use Rattle.std.proofs.lemmas.Int.{to_z-of_z}
use Rattle.alpha_set.specs.Nodes.{NodeData}
use Rattle.game_model.specs.Game.{GameData, unit}
use Rattle.point_set.specs.Points.{PointData}
use Rattle.controller.specs.Certificates.{CertificateData, Ending, FractionData, IsFraction, first_total}
use Rattle.controller.specs.Data.{ending_of, fraction_data, parts}
use Rattle.controller.specs.Export.{IsExport, nodes_kept, points_kept, renumbered_starts}
use Rattle.controller.specs.Parts.{Parts, proved_lower, proved_tail, proved_upper}
use Rattle.controller.specs.Reached.{AreExportedNodes, AreExportedPoints}
use Rattle.controller.specs.Starts.{MakesUpMultiple, most_from, most_over}
use Rattle.controller.proofs.ExportFits.{export-fits}
use Rattle.controller.proofs.ExportStands.{export-stands}
use Rattle.controller.proofs.KeptParts.{starts-inside}
use Rattle.controller.proofs.exporting.export.Goals as goal

-- a fraction is that of its numerator and denominator
fraction-is : (f g : FractionData) → IsFraction f g.num g.den → f ≡ g
fraction-is f g h = ap (λ (n : ℤ). make n f.den) h.0 ∙ ap (λ (d : ℤ). make g.num d) h.1
  where
    make : ℤ → ℤ → FractionData
    make n d = record { num = n; den = d }

-- a certificate by its parts
abbrev made : FractionData → FractionData → FractionData → FractionData → Ending → List NodeData → List PointData → List (ℕ × ℤ) → List (ℕ × ℤ) → ℤ → CertificateData
made lower upper tail gap outcome nodes points from over multiple = record {
  lower = lower;
  upper = upper;
  tail = tail;
  gap = gap;
  outcome = outcome;
  nodes = nodes;
  points = points;
  start_nodes = from;
  start_points = over;
  multiple = multiple;
}

-- the exported nodes and points, with the bounds of parts, are their export
is-export : (g : GameData) (given : Parts) (k : CertificateData) → AreExportedNodes given.nodes given.start_nodes k.nodes k.start_nodes → AreExportedPoints g.shape.states given.points given.start_points k.points k.start_points →
    IsFraction k.lower (proved_lower g given).num (proved_lower g given).den → IsFraction k.upper (proved_upper g given).num (proved_upper g given).den → IsFraction k.tail (proved_tail g).num (proved_tail g).den →
    k.gap ≡ given.gap → k.outcome ≡ given.outcome → k.multiple ≡ given.multiple → IsExport g given k
is-export g given k nodes points lower upper tail gap outcome multiple = record {
  nodes = nodes.kept;
  points = points.kept;
  nodes_reached = nodes.reached;
  points_reached = points.reached;
  same =
      ap (λ (x : FractionData). made x k.upper k.tail k.gap k.outcome k.nodes k.points k.start_nodes k.start_points k.multiple) (fraction-is k.lower (proved_lower g given) lower)
      ∙ ap (λ (x : FractionData). made (proved_lower g given) x k.tail k.gap k.outcome k.nodes k.points k.start_nodes k.start_points k.multiple) (fraction-is k.upper (proved_upper g given) upper)
      ∙ ap (λ (x : FractionData). made (proved_lower g given) (proved_upper g given) x k.gap k.outcome k.nodes k.points k.start_nodes k.start_points k.multiple) (fraction-is k.tail (proved_tail g) tail)
      ∙ ap (λ (x : FractionData). made (proved_lower g given) (proved_upper g given) (proved_tail g) x k.outcome k.nodes k.points k.start_nodes k.start_points k.multiple) gap
      ∙ ap (λ (x : Ending). made (proved_lower g given) (proved_upper g given) (proved_tail g) given.gap x k.nodes k.points k.start_nodes k.start_points k.multiple) outcome
      ∙ ap (λ (x : List NodeData). made (proved_lower g given) (proved_upper g given) (proved_tail g) given.gap given.outcome x k.points k.start_nodes k.start_points k.multiple) nodes.members
      ∙ ap (λ (x : List PointData). made (proved_lower g given) (proved_upper g given) (proved_tail g) given.gap given.outcome (nodes_kept nodes.kept given.nodes) x k.start_nodes k.start_points k.multiple) points.members
      ∙ ap
      (λ (x : List (ℕ × ℤ)). made (proved_lower g given) (proved_upper g given) (proved_tail g) given.gap given.outcome (nodes_kept nodes.kept given.nodes) (points_kept points.kept given.points) x k.start_points k.multiple)
      nodes.starts_too
      ∙ ap
      (λ (x : List (ℕ × ℤ)). made (proved_lower g given) (proved_upper g given) (proved_tail g) given.gap given.outcome (nodes_kept nodes.kept given.nodes) (points_kept points.kept given.points) (renumbered_starts nodes.kept given.start_nodes) x k.multiple)
      points.starts_too
      ∙ ap
      (λ (x : ℤ). made (proved_lower g given) (proved_upper g given) (proved_tail g) given.gap given.outcome (nodes_kept nodes.kept given.nodes) (points_kept points.kept given.points) (renumbered_starts nodes.kept given.start_nodes) (renumbered_starts points.kept given.start_points) x)
      multiple;
}

pub export_nodes-requires-clause-starts : goal.export_nodes-requires-clause-starts
export_nodes-requires-clause-starts c = starts-inside (length c.args.nodes.now.members) (pos most_from) c.args.start_nodes.now c.requires.fit.starts.from.each

pub export_points-requires-clause-starts : goal.export_points-requires-clause-starts
export_points-requires-clause-starts c = starts-inside (length c.args.points.now.members) (pos most_over) c.args.start_points.now c.requires.fit.starts.over.each

pub upper_bound-requires-clause-made_up : goal.upper_bound-requires-clause-made_up
upper_bound-requires-clause-made_up c =
    let range : FitsSigned w128 c.args.multiple = search rules in
    subst (λ (m : ℤ). MakesUpMultiple c.args.points.now.members c.args.start_points.now m c.args.game.now.first c.args.game.now.shape.states) (sym (to_z-of_z w128 c.args.multiple range)) c.requires.start

pub returns-clause-exported : goal.returns-clause-exported
returns-clause-exported c =
    let range : FitsSigned w128 c.args.multiple = search rules in
    let same : to_z w128 (of_z w128 c.args.multiple) ≡ c.args.multiple = to_z-of_z w128 c.args.multiple range in
    let given : Parts = parts c.args.nodes.now c.args.points.now c.args.start_nodes.now c.args.start_points.now c.args.multiple (fraction_data c.args.gap.now) (ending_of c.args.outcome) in
    let g : GameData = c.args.game.now in
    is-export g given _ c.in_ok-nodes_kept.ensures c.in_ok-points_kept.ensures c.lower_bound.ensures
    (subst (λ (m : ℤ). IsFraction (fraction_data c.upper_bound.result) (proved_upper g given).num (m *ℤ pos (first_total g * unit))) same c.upper_bound.ensures) c.tail.ensures refl refl same

pub returns-clause-fits : goal.returns-clause-fits
returns-clause-fits c =
    let given : Parts = parts c.args.nodes.now c.args.points.now c.args.start_nodes.now c.args.start_points.now c.args.multiple (fraction_data c.args.gap.now) (ending_of c.args.outcome) in
    export-fits c.args.game.now given _ c.law_game.ensures.accepted c.requires.fit c.requires.start (returns-clause-exported c)

pub returns-clause-stands : goal.returns-clause-stands
returns-clause-stands c standing =
    let given : Parts = parts c.args.nodes.now c.args.points.now c.args.start_nodes.now c.args.start_points.now c.args.multiple (fraction_data c.args.gap.now) (ending_of c.args.outcome) in
    export-stands c.args.game.now given _ c.requires.fit standing (returns-clause-exported c) (returns-clause-fits c)
