use Rattle.closing.proofs.GoOn.{points-settled, points-through}
use Rattle.closing.proofs.sweeps.settle_all.Goals as goal

pub loop-i-preserved : goal.loop-i-preserved
loop-i-preserved c =
    let so_far = c.loop-i.invariant in
    points-through c.args.game.now c.args.points.now.members c.loop-i.points.members c.settle.new.self.members so_far
    (points-settled c.args.game.now c.loop-i.points.members c.settle.new.self.members so_far.are c.settle.ensures.count c.settle.ensures.never_higher c.settle.ensures.beliefs c.settle.ensures.fit (c.settle.ensures.stand so_far.are.sound.stand))
