-- The verdict of the checker, and the place that its reason names.
use Rattle.std.specs.Prelude.{List, ◌≡◌, ◌⊎◌}
use Rattle.std.specs.List.{AllByRecursion}
use Rattle.scaled_num.specs.First.{FirstIn}
use Rattle.game_model.specs.Game.{GameData}
use Rattle.controller.specs.Certificates.{BoundAt, CertificateData, CertificateFits, CertificateStands, CornerAt, FailsFirst, Holds, NodeAt, OutcomeAt, Place, SplitAt, StartAt, ValueAt}
use Rattle.cert_check.specs.declared.verdicts.Reason.{Reason}
use Rattle.cert_check.specs.declared.verdicts.Reason.TheVariants.{Bound, Corner, Node, Outcome, Split, Start, Value}

-- the place that a reason names
abbrev pub place_of : Reason → Place
place_of (Node i s c) = NodeAt i s c
place_of (Corner j) = CornerAt j
place_of (Split j a o s) = SplitAt j a o s
place_of (Value j a) = ValueAt j a
place_of Start = StartAt
place_of Bound = BoundAt
place_of Outcome = OutcomeAt

-- of a certificate the rule of each of these places holds
abbrev pub AllHold : GameData → CertificateData → List Place → Type 0
AllHold g k places = AllByRecursion (Holds g k) places

-- of a certificate the rule fails first, among these places, at that of a reason
abbrev pub FailsAmong : GameData → CertificateData → List Place → Reason → Type 0
FailsAmong g k places reason = FirstIn (Holds g k) places (place_of reason)

-- a certificate fails first at one place only
abbrev pub FailsOnce : Type 0
FailsOnce = (g : GameData) (k : CertificateData) (place other : Place) → FailsFirst g k place → FailsFirst g k other → place ≡ other

-- a certificate that fails first at a place does not stand
abbrev pub FailingFalls : Type 0
FailingFalls = (g : GameData) (k : CertificateData) (place : Place) → FailsFirst g k place → ¬ (CertificateStands g k)

-- a certificate that fits stands, or fails first at a place
abbrev pub StandsOrFails : Type 0
StandsOrFails = (g : GameData) (k : CertificateData) → CertificateFits g k → CertificateStands g k ⊎ ((place : Place) × FailsFirst g k place)
