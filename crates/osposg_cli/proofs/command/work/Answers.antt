use Rattle.std.proofs.Common.{subst, sym}
use Rattle.std.specs.Prelude.{IfOk}
use Rattle.std.proofs.lemmas.Result.{IfOk-weaker}
use Rattle.controller.specs.Certificates.{FractionData}
use Rattle.osposg_cli.specs.declared.words.Command.{Command}
use Rattle.osposg_cli.specs.Answer.{IsWork}
use Rattle.osposg_cli.specs.Solve.{AnswersSolve}
use Rattle.osposg_cli.proofs.command.work.Goals as goal

pub returns-in-Solve : goal.returns-in-Solve
returns-in-Solve c =
    subst (λ (command : Command). IfOk c.work-in-Solve.result (λ answer. IsWork command c.args.bytes.now answer.status answer.text.items)) (sym c.in-Solve.is)
    (IfOk-weaker c.work-in-Solve.result _ _ (λ answer h.
    subst (λ (gap : FractionData). AnswersSolve c.in-Solve.trials gap c.args.bytes.now answer.status answer.text.items) c.fraction.ensures h) c.work-in-Solve.ensures)
