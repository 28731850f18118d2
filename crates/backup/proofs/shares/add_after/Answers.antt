use Rattle.std.proofs.Common.{map}
use Rattle.game_model.specs.Branches.{branch_of}
use Rattle.backup.proofs.ShareLists.{own-more}
use Rattle.backup.proofs.shares.add_after.Goals as goal

pub loop-o-preserved : goal.loop-o-preserved
loop-o-preserved c =
    own-more c.args.game.now c.args.belief.now c.args.mixes.now c.args.a c.loop-o.o (map branch_of c.args.shares.now.items) (map branch_of c.loop-o.shares.items)
    (map branch_of c.add_seen.new.shares.items) c.in_ok-add_seen.ensures c.loop-o.invariant
