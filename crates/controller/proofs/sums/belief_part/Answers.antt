use Rattle.std.proofs.Common.{◌≡◌, ap, ◌∙◌}
use Rattle.std.proofs.lemmas.Int.{to_z-of_z}
use Rattle.point_set.specs.Corners.{point_at}
use Rattle.point_set.specs.Points.{PointData}
use Rattle.controller.proofs.StartSums.{belief-part}
use Rattle.controller.proofs.sums.belief_part.Goals as goal

pub overflow_mul-result : goal.overflow_mul-result
overflow_mul-result c =
    let is : c.parts-parts.result.now ≡ (point_at c.args.points.now.members c.args.start.now.0).belief = c.parts-parts.ensures.parts ∙ ap (λ (point : PointData). point.belief) c.point.ensures in
    let f = belief-part c.args.game.now c.args.points.now.members c.args.start.now c.args.s c.requires.points.each c.requires.start c.requires.state in
    let weight = f.weight in
    let number = f.number in
    simp (is, to_z-of_z) f.product

pub returns-clause-exact : goal.returns-clause-exact
returns-clause-exact c =
    let is : c.parts-parts.result.now ≡ (point_at c.args.points.now.members c.args.start.now.0).belief = c.parts-parts.ensures.parts ∙ ap (λ (point : PointData). point.belief) c.point.ensures in
    let f = belief-part c.args.game.now c.args.points.now.members c.args.start.now c.args.s c.requires.points.each c.requires.start c.requires.state in
    let weight = f.weight in
    let number = f.number in
    let product = f.product in
    simp (is, to_z-of_z)

pub returns-clause-small : goal.returns-clause-small
returns-clause-small c =
    let is : c.parts-parts.result.now ≡ (point_at c.args.points.now.members c.args.start.now.0).belief = c.parts-parts.ensures.parts ∙ ap (λ (point : PointData). point.belief) c.point.ensures in
    let f = belief-part c.args.game.now c.args.points.now.members c.args.start.now c.args.s c.requires.points.each c.requires.start c.requires.state in
    let weight = f.weight in
    let number = f.number in
    let product = f.product in
    simp (is, to_z-of_z) f.small
