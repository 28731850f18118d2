use Rattle.std.proofs.Common.{map}
use Rattle.game_model.specs.Branches.{branch_of}
use Rattle.backup.proofs.ShareLists.{first-more}
use Rattle.backup.proofs.shares.split_into_corners.Goals as goal

pub loop-a-preserved : goal.loop-a-preserved
loop-a-preserved c =
    first-more c.args.game.now c.args.belief.now c.args.mixes.now c.loop-a.a (map branch_of c.loop-a.shares.items) (map branch_of c.add_after.new.shares.items)
    c.in_ok-add_after.ensures c.loop-a.invariant
