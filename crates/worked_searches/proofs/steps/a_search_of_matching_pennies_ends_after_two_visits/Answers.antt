use Rattle.std.proofs.Common.{ap, subst, sym}
use Rattle.std.specs.Prelude.{Ok}
use Rattle.controller.specs.Data.{ending_of}
use Rattle.hsvi_trial.specs.Data.{EndsWith, SearchState}
use Rattle.worked_searches.proofs.steps.a_search_of_matching_pennies_ends_after_two_visits.Goals as goal

pub finish-requires : goal.finish-requires
finish-requires g c =
    let outcome = c.in-Ok-Ended-Closed.field-0-0 in
    let end = c.in-Ok-Ended-Closed.ensures.ended outcome (ap Ok c.in-Ok-Ended-Closed.field-0-is) in
    record { ended = (ending_of outcome, subst (λ (s : SearchState). EndsWith s (ending_of outcome)) (sym end.0) end.1) }

pub take-solved-requires-clause-ended : goal.take-solved-requires-clause-ended
take-solved-requires-clause-ended g c =
    let outcome = c.in-Ok-Ended-Closed.field-0-0 in
    let end = c.in-Ok-Ended-Closed.ensures.ended outcome (ap Ok c.in-Ok-Ended-Closed.field-0-is) in
    (ending_of outcome, subst (λ (s : SearchState). EndsWith s (ending_of outcome)) (sym end.0) end.1)
