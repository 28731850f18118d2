use Rattle.std.proofs.Common.{List, ◌<◌, ℕ, length}
use Rattle.std.specs.Prelude.{ℤ, pos, ◌*ℤ◌}
use Rattle.std.proofs.lemmas.Int.{to_z-of_z}
use Rattle.scaled_num.specs.Share.{IsFloor, at}
use Rattle.game_model.specs.Game.{GameData}
use Rattle.point_set.proofs.Worth.{scale-fits}
use Rattle.alpha_set.specs.Members.{node_data}
use Rattle.backup.proofs.Evaluations.{scale-is, scale-positive}
use Rattle.backup.proofs.NewNodes.{entries-are}
use Rattle.backup.proofs.new_nodes.write_entries.Goals as goal

pub round_down-requires : goal.round_down-requires
round_down-requires c =
    let f = scale-fits c.args.game.now c.law_game.ensures.accepted in
    let whole = f.whole in
    let under = f.under in
    let divisor = f.divisor in
    let scale = f.scale in
    simp (c.discount-under.ensures, c.row_total.ensures, to_z-of_z) (scale-positive c.args.game.now c.law_game.ensures.accepted)

pub returns : goal.returns
returns c =
    let g : GameData = c.args.game.now in
    let f = scale-fits g c.law_game.ensures.accepted in
    let whole = f.whole in
    let under = f.under in
    let divisor = f.divisor in
    let scale = f.scale in
    let worths : List ℤ = c.stage_worths.new.worths in
    let entries : List ℤ = c.round_down.new.numbers in
    let by : ℤ = pos 65536 *ℤ (g.shape.row_total *ℤ g.shape.discount.1) in
    let floors : (s : ℕ) → s < length worths → IsFloor (at entries s) (at worths s) by = simp (c.row_total.ensures, c.discount-under.ensures, to_z-of_z) at c.round_down.ensures.floors in
    entries-are g c.law_game.ensures.accepted c.args.nodes.now.members (node_data c.args.node.now) c.requires.nodes c.requires.fits worths entries by (scale-is g c.law_game.ensures.accepted)
    c.stage_worths.ensures.long c.round_down.ensures.long c.stage_worths.ensures.least floors
