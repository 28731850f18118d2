use Rattle.closing.proofs.GoOn.{nodes-lifted, nodes-through}
use Rattle.closing.proofs.sweeps.lift_all.Goals as goal

pub loop-i-preserved : goal.loop-i-preserved
loop-i-preserved c =
    let so_far = c.loop-i.invariant in
    nodes-through c.args.game.now c.args.nodes.now.members c.loop-i.nodes.members c.lift.new.self.members so_far
    (nodes-lifted c.args.game.now c.loop-i.nodes.members c.lift.new.self.members so_far.are c.lift.ensures.count c.lift.ensures.never_lower c.lift.ensures.fit (c.lift.ensures.stand so_far.are.sound.stand))
