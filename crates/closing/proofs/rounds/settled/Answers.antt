use Rattle.std.proofs.lemmas.Result.{IfOk-weaker}
use Rattle.closing.proofs.Bounds.{better-through}
use Rattle.closing.proofs.rounds.settled.Goals as goal

pub returns : goal.returns
returns c =
    let roomy = c.in_ok-roomy.ensures in
    let next = better-through c.args.game.now c.args.certificate c.in_ok-roomy.roomy c.in_ok-next.next c.requires.stands.fits roomy c.in_ok-next.ensures in
    IfOk-weaker c.restarted.result _ _
    (λ k better. better-through c.args.game.now c.args.certificate c.in_ok-next.next k c.requires.stands.fits next better) c.restarted.ensures
