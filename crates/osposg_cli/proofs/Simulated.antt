-- The answer of `simulate` to an input: there is one, it has a text, and a play keeps its promise.
use Rattle.std.proofs.Common.{◌≡◌, ◌⊎◌, ℕ, List, min, refl, sym, ap, ◌∙◌, subst, inl, inr}
use Rattle.std.specs.Prelude.{⊤}
use Rattle.cert_text.specs.Laws.{Decided as CertDecided}
use Rattle.controller.specs.Certificates.{CertificateData, CertificateFits, CertificateStands, FailsFirst, Place}
use Rattle.game_model.specs.Game.{GameData, IsGame}
use Rattle.game_text.specs.Laws.{Decided}
use Rattle.simulate.specs.DrawnPlays.{PlaysAreOwn}
use Rattle.simulate.specs.Lengths.{LengthsAreOne}
use Rattle.simulate.specs.declared.parts.Rival.{Rival}
use Rattle.osposg_cli.specs.declared.status.Status.{Status}
use Rattle.osposg_cli.specs.declared.status.Status.TheVariants.{Done, No}
use Rattle.osposg_cli.specs.Defined.{HasText, IsAnswered, IsDefined, IsOne, IsTold}
use Rattle.osposg_cli.specs.Inputs.{TextsAreExact}
use Rattle.osposg_cli.specs.Refusals.{no_text}
use Rattle.osposg_cli.specs.Simulate.{AnswersSimulate, IsSimulation, KeepsSimulate, SimulateIsAnswered, SimulateIsDefined, play_text}
use Rattle.osposg_cli.proofs.Shared.{both-some, both-told, both_answer-once}
use Rattle.osposg_cli.proofs.Verdicts.{FailingLaws}

simulation-once : FailingLaws → LengthsAreOne → (seed stages : ℕ) (rival : Rival) (g : GameData) (k : CertificateData) → IsOne (IsSimulation seed stages rival g k)
simulation-once laws lengths seed stages rival g k status other text more (inl (n, longest, stands, s, t)) (inl (m, greatest, again, r, u)) =
    (s ∙ sym r, t ∙ ap (λ (i : ℕ). play_text g k seed (min stages i) rival) (lengths.one g n m longest greatest) ∙ sym u)
simulation-once laws lengths seed stages rival g k status other text more (inl (n, longest, stands, s, t)) (inr (place, fails, r, u)) = absurd (laws.falls g k place fails stands)
simulation-once laws lengths seed stages rival g k status other text more (inr (place, fails, s, t)) (inl (n, longest, stands, r, u)) = absurd (laws.falls g k place fails stands)
simulation-once laws lengths seed stages rival g k status other text more (inr (place, fails, s, t)) (inr (next, falls, r, u)) =
    (s ∙ sym r, t ∙ ap no_text (laws.once g k place next fails falls) ∙ sym u)

simulation-told : (seed stages : ℕ) (rival : Rival) (g : GameData) (k : CertificateData) → IsTold (IsSimulation seed stages rival g k)
simulation-told seed stages rival g k status text (inl (n, longest, stands, s, t)) = subst HasText (sym s) tt
simulation-told seed stages rival g k status text (inr (place, fails, s, t)) = subst HasText (sym s) tt

simulation-some : FailingLaws → LengthsAreOne → (seed stages : ℕ) (rival : Rival) (g : GameData) (k : CertificateData) → IsGame g → CertificateFits g k → IsAnswered (IsSimulation seed stages rival g k)
simulation-some laws lengths seed stages rival g k game fits = found (laws.decided g k fits)
  where
    found : CertificateStands g k ⊎ ((place : Place) × FailsFirst g k place) → IsAnswered (IsSimulation seed stages rival g k)
    found (inl stands) = let longest = lengths.some g game in (Done, play_text g k seed (min stages longest.0) rival, inl (longest.0, longest.1, stands, refl, refl))
    found (inr (place, fails)) = (No, no_text place, inr (place, fails, refl, refl))

pub simulate-defined : FailingLaws → LengthsAreOne → TextsAreExact → SimulateIsDefined
simulate-defined failing lengths laws seed stages rival = record {
  one = both_answer-once laws (IsSimulation seed stages rival) (λ g k rest for. simulation-once failing lengths seed stages rival g k);
  told = both-told (IsSimulation seed stages rival) (simulation-told seed stages rival);
}

pub simulate-some : FailingLaws → LengthsAreOne → Decided → CertDecided → SimulateIsAnswered
simulate-some failing lengths games certificates seed stages rival =
    both-some games certificates (IsSimulation seed stages rival) (λ g k rest game for. simulation-some failing lengths seed stages rival g k game for.0)

abbrev is_play : Status → Type 0
is_play Done = ⊤
is_play status = ⊥

pub simulate-promises : PlaysAreOwn → KeepsSimulate
simulate-promises own seed stages rival input text (inl (inl (line, kind, is, s, t))) = absurd (subst is_play s tt)
simulate-promises own seed stages rival input text (inl (inr (g, rest, is, (line, kind, at, s, t)))) = absurd (subst is_play s tt)
simulate-promises own seed stages rival input text (inr (g, k, is, (inl (n, longest, stands, s, t)))) =
    (g, k, min stages n, is, stands, t, own g k seed (min stages n) rival is.1.game stands)
simulate-promises own seed stages rival input text (inr (g, k, is, (inr (place, fails, s, t)))) = absurd (subst is_play s tt)
