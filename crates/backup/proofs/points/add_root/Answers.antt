use Rattle.std.proofs.Common.{rules}
use Rattle.std.specs.Prelude.{FitsSigned}
use Rattle.std.specs.Int.{w128}
use Rattle.std.proofs.lemmas.Int.{to_z-of_z}
use Rattle.point_set.specs.Members.{point_data}
use Rattle.backup.proofs.SeedPoints.{few-corners, no-root, with-root}
use Rattle.backup.proofs.Sure.{above-one, upto-one}
use Rattle.backup.proofs.points.add_root.Goals as goal

pub add-requires : goal.add-requires
add-requires c = few-corners c.args.game.now c.args.replies.now c.args.points.now.members c.requires

pub returns-in_ok-add : goal.returns-in_ok-add
returns-in_ok-add c =
    let fits : FitsSigned w128 c.first_total.result = search rules in
    with-root c.args.game.now c.args.replies.now c.args.points.now.members c.add.new.points.members (point_data c.in_ok-root.root) c.requires c.in_ok-root.ensures c.in_ok-add.ensures
    (above-one c.first_total.result _ c.first_total.ensures (simp to_z-of_z at c.if-first_total-gt1.true))

pub returns-else-first_total-gt1 : goal.returns-else-first_total-gt1
returns-else-first_total-gt1 c =
    let fits : FitsSigned w128 c.first_total.result = search rules in
    no-root c.args.game.now c.args.replies.now c.args.points.now.members c.requires
    (upto-one c.first_total.result _ c.first_total.ensures (simp to_z-of_z at c.if-first_total-gt1.false))
