use Rattle.osposg_cli.proofs.Simulated.{simulate-defined, simulate-promises, simulate-some}
use Rattle.osposg_cli.proofs.Verdicts.{FailingLaws}
use Rattle.osposg_cli.proofs.plays.law_simulate.Goals as goal

pub returns-clause-defined : goal.returns-clause-defined
returns-clause-defined c =
    let failing : FailingLaws = record { once = c.law_once.ensures.once; falls = c.law_once.ensures.falls; decided = c.law_once.ensures.decided } in
    simulate-defined failing c.law_plays.ensures.lengths c.law_texts.ensures

pub returns-clause-some : goal.returns-clause-some
returns-clause-some c =
    let failing : FailingLaws = record { once = c.law_once.ensures.once; falls = c.law_once.ensures.falls; decided = c.law_once.ensures.decided } in
    simulate-some failing c.law_plays.ensures.lengths c.law_decided.ensures c.law_decided-2.ensures

pub returns-clause-keeps : goal.returns-clause-keeps
returns-clause-keeps c = simulate-promises c.law_plays.ensures.own
