use Rattle.std.proofs.lemmas.Result.{IfOk-weaker}
use Rattle.closing.proofs.Bounds.{better-through}
use Rattle.closing.proofs.restarts.restarted.Goals as goal

pub returns : goal.returns
returns c =
    IfOk-weaker c.with_better_point.result _ _ (λ k better. better-through c.args.game.now c.args.certificate c.in_ok-next.next k c.requires.stands.fits c.in_ok-next.ensures better) c.with_better_point.ensures
