use Rattle.std.proofs.Common.{ap, subst, sym}
use Rattle.std.specs.Prelude.{Ok}
use Rattle.controller.specs.Data.{ending_of}
use Rattle.hsvi_trial.specs.Data.{EndsWith, SearchState}
use Rattle.hsvi_trial.proofs.solving.make_visits.Goals as goal

pub returns-in-Ended-clause-ended : goal.returns-in-Ended-clause-ended
returns-in-Ended-clause-ended c =
    let outcome = c.in-Ended.field-0 in
    let end = c.in_ok-step.ensures.ended outcome (ap Ok c.in-Ended.is) in
    (ending_of outcome, subst (λ (s : SearchState). EndsWith s (ending_of outcome)) (sym end.0) end.1)
