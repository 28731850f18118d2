use Rattle.closing.proofs.Bounds.{better-through}
use Rattle.closing.proofs.BetterMembers.{better-itself}
use Rattle.closing.proofs.closer.improved.Goals as goal

pub loop-init : goal.loop-init
loop-init c = better-itself c.args.game.now c.args.certificate c.requires.stands c.requires.ends

pub loop-preserved : goal.loop-preserved
loop-preserved c = better-through c.args.game.now c.args.certificate c.loop.best c.in_ok-best.best c.requires.stands.fits c.loop.invariant c.in_ok-best.ensures

pub returns-then-is_done : goal.returns-then-is_done
returns-then-is_done c = better-through c.args.game.now c.args.certificate c.loop.best c.in_ok-best.best c.requires.stands.fits c.loop.invariant c.in_ok-best.ensures
