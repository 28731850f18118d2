use Rattle.std.proofs.Common.{inr}
use Rattle.std.proofs.lemmas.Result.{IfOk-weaker}
use Rattle.osposg_cli.proofs.solve.work.Goals as goal

pub returns-in-Ok : goal.returns-in-Ok
returns-in-Ok c = IfOk-weaker c.searched.result _ _ (λ answer h. inr (c.in-Ok.game, rw c.in-Ok.is at c.in_ok-game.ensures, h)) c.searched.ensures
