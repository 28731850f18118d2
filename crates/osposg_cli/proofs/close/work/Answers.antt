use Rattle.std.proofs.Common.{inr}
use Rattle.std.proofs.lemmas.Result.{IfOk-weaker}
use Rattle.osposg_cli.proofs.close.work.Goals as goal

pub returns-in-Ok : goal.returns-in-Ok
returns-in-Ok c =
    IfOk-weaker c.closer.result _ _ (λ answer h. inr (c.in-Ok.game, c.in-Ok.certificate, rw c.in-Ok.is at c.in_ok-game.ensures, h)) c.closer.ensures
