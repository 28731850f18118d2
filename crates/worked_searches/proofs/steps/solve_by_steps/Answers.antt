use Rattle.std.proofs.Common.{ap, subst, sym}
use Rattle.std.specs.Prelude.{Ok}
use Rattle.controller.specs.Data.{ending_of}
use Rattle.hsvi_trial.specs.Data.{EndsWith, SearchState}
use Rattle.worked_searches.proofs.steps.solve_by_steps.Goals as goal

pub finish-requires : goal.finish-requires
finish-requires c =
    let outcome = c.in-Ended.field-0 in
    let end = c.in_ok-step.ensures.ended outcome (ap Ok c.in-Ended.is) in
    record { ended = (ending_of outcome, subst (λ (s : SearchState). EndsWith s (ending_of outcome)) (sym end.0) end.1) }

pub take-requires-clause-ended : goal.take-requires-clause-ended
take-requires-clause-ended c =
    let outcome = c.in-Ended.field-0 in
    let end = c.in_ok-step.ensures.ended outcome (ap Ok c.in-Ended.is) in
    (ending_of outcome, subst (λ (s : SearchState). EndsWith s (ending_of outcome)) (sym end.0) end.1)
