use Rattle.std.proofs.Common.{◌≡◌, [], ◌∷◌, true}
use Rattle.controller.specs.Certificates.{BoundAt, Holds, OutcomeAt, StartAt}
use Rattle.scaled_num.proofs.First.{first-head, first-right}
use Rattle.cert_check.proofs.bounds.first_end.Goals as goal

pub returns-then-not-starts_right-clause-first : goal.returns-then-not-starts_right-clause-first
returns-then-not-starts_right-clause-first c =
    let P = Holds c.args.game.now c.args.certificate.now in
    first-head P StartAt (BoundAt ∷ OutcomeAt ∷ []) (λ h. let yes : c.starts_right.result ≡ true = c.starts_right.ensures.1 h in cc)

pub returns-then-not-bounds_are-clause-first : goal.returns-then-not-bounds_are-clause-first
returns-then-not-bounds_are-clause-first c =
    let P = Holds c.args.game.now c.args.certificate.now in
    first-right P (StartAt ∷ []) (BoundAt ∷ OutcomeAt ∷ []) BoundAt (c.starts_right.ensures.0 c.if-not-starts_right.false, tt)
    (first-head P BoundAt (OutcomeAt ∷ []) (λ h. let yes : c.bounds_are.result ≡ true = c.bounds_are.ensures.1 h in cc))

pub returns-then-not-outcome_is-clause-first : goal.returns-then-not-outcome_is-clause-first
returns-then-not-outcome_is-clause-first c =
    let P = Holds c.args.game.now c.args.certificate.now in
    first-right P (StartAt ∷ BoundAt ∷ []) (OutcomeAt ∷ []) OutcomeAt (c.starts_right.ensures.0 c.if-not-starts_right.false, (c.bounds_are.ensures.0 c.if-not-bounds_are.false, tt))
    (first-head P OutcomeAt [] (λ h. let yes : c.outcome_is.result ≡ true = c.outcome_is.ensures.1 h in cc))
