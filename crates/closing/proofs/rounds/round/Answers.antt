use Rattle.std.proofs.lemmas.Result.{IfOk-weaker}
use Rattle.closing.proofs.Bounds.{better-through}
use Rattle.closing.proofs.rounds.round.Goals as goal

pub returns : goal.returns
returns c =
    IfOk-weaker c.settled.result _ _
    (λ k better. better-through c.args.game.now c.args.certificate c.in_ok-next.next k c.requires.stands.fits c.in_ok-next.ensures better) c.settled.ensures
