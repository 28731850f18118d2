use Rattle.osposg_cli.proofs.Verdicts.{FailingLaws, check-defined, check-promises, check-some}
use Rattle.osposg_cli.proofs.check.law_check.Goals as goal

pub returns-clause-defined : goal.returns-clause-defined
returns-clause-defined c =
    let failing : FailingLaws = record { once = c.law_once.ensures.once; falls = c.law_once.ensures.falls; decided = c.law_once.ensures.decided } in
    check-defined failing c.law_texts.ensures

pub returns-clause-keeps : goal.returns-clause-keeps
returns-clause-keeps c = check-promises c.law_controllers.ensures c.law_splittings.ensures

pub returns-clause-some : goal.returns-clause-some
returns-clause-some c =
    let failing : FailingLaws = record { once = c.law_once.ensures.once; falls = c.law_once.ensures.falls; decided = c.law_once.ensures.decided } in
    check-some failing c.law_decided.ensures c.law_decided-2.ensures
