use Rattle.std.proofs.Common.{◌≡◌, ap, refl, subst, sym, ◌∙◌}
use Rattle.game_model.specs.Game.{GameData}
use Rattle.controller.specs.Certificates.{BoundAt, CertificateData, CornerAt, FailsFirst, Holds, NodeAt, OutcomeAt, Place, SplitAt, StartAt, ValueAt, places}
use Rattle.cert_check.specs.Verdicts.{place_of}
use Rattle.cert_check.specs.declared.verdicts.Reason.{Reason}
use Rattle.cert_check.specs.declared.verdicts.Reason.TheVariants.{Bound, Corner, Node, Outcome, Split, Start, Value}
use Rattle.cert_check.specs.declared.verdicts.Verdict.TheVariants.{No}
use Rattle.scaled_num.proofs.First.{none-fails, once}
use Rattle.cert_check.proofs.checker.check.Goals as goal

-- the reason of a place
reason_of : Place → Reason
reason_of (NodeAt i s c) = Node i s c
reason_of (CornerAt j) = Corner j
reason_of (SplitAt j a o s) = Split j a o s
reason_of (ValueAt j a) = Value j a
reason_of StartAt = Start
reason_of BoundAt = Bound
reason_of OutcomeAt = Outcome

is-own : (reason : Reason) → reason_of (place_of reason) ≡ reason
unfolding reason_of
is-own (Node i s c) = refl
is-own (Corner j) = refl
is-own (Split j a o s) = refl
is-own (Value j a) = refl
is-own Start = refl
is-own Bound = refl
is-own Outcome = refl

same-reason : (x y : Reason) → place_of x ≡ place_of y → x ≡ y
same-reason x y e = sym (is-own x) ∙ ap reason_of e ∙ is-own y

pub returns-in-None-clause-no : goal.returns-in-None-clause-no
returns-in-None-clause-no c = λ reason.
    let g : GameData = c.args.game.now in
    let k : CertificateData = c.args.certificate.now in
    (λ e. cc, λ f. absurd (none-fails (Holds g k) (places g k) (place_of reason) (c.in-None.ensures.none refl) f))

pub returns-in-Some-clause-yes : goal.returns-in-Some-clause-yes
returns-in-Some-clause-yes c =
    let g : GameData = c.args.game.now in
    let k : CertificateData = c.args.certificate.now in
    (λ e. cc, λ stands. absurd (none-fails (Holds g k) (places g k) (place_of c.in-Some.reason) stands.holds c.in-Some.ensures.first))

pub returns-in-Some-clause-no : goal.returns-in-Some-clause-no
returns-in-Some-clause-no c = λ reason.
    let g : GameData = c.args.game.now in
    let k : CertificateData = c.args.certificate.now in (
      λ e. let same : c.in-Some.reason ≡ reason = cc in subst (λ (r : Reason). FailsFirst g k (place_of r)) same c.in-Some.ensures.first,
      λ f. ap No (same-reason c.in-Some.reason reason (once (Holds g k) (places g k) (place_of c.in-Some.reason) (place_of reason) c.in-Some.ensures.first f)),
    )
