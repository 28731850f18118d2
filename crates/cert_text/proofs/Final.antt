-- What a finished reading says.
use Rattle.std.proofs.Common.{◌≡◌, ℕ, ◌+◌, ◌<◌, List, [], ◌∷◌, length, refl, sym, ap, subst, arith, inr}
use Rattle.text_words.specs.Lines.{lines_of}
use Rattle.game_model.specs.Game.{GameData, IsGame}
use Rattle.controller.specs.Certificates.{CertificateData}
use Rattle.cert_text.specs.declared.fault.CertKind.TheVariants as kinds
use Rattle.cert_text.specs.declared.progress.Progress.{Progress}
use Rattle.cert_text.specs.Entries.{start_of}
use Rattle.cert_text.specs.Steps.{RefusesAll}
use Rattle.cert_text.specs.Answers.{IsTextFor}
use Rattle.cert_text.specs.Steps.{IsDraftOf}
use Rattle.cert_text.specs.Draft.{AreFit}
use Rattle.point_set.specs.Points.{PointData, PointFits}
use Rattle.std.specs.List.{AllByRecursion}
use Rattle.cert_text.proofs.Whole.{whole_accepted}
use Rattle.cert_text.proofs.LawAccept.{lines_are_texts}

pub whole_text : (g : GameData) (bytes : List ℕ) (start : Progress) (k : CertificateData) (count : ℕ) (rest : List ℕ) → IsGame g → start ≡ start_of g → rest ≡ [] → IsDraftOf start bytes k count rest → IsTextFor g k bytes
whole_text g bytes start k count rest game is none d =
    let e = subst (λ (p : Progress). IsDraftOf p bytes k count rest) is d in
    subst (λ (x : CertificateData). IsTextFor g x bytes) (sym e.3) (lines_are_texts g bytes e.0 game (whole_accepted g bytes e.0 rest none e.1 e.2))

-- bytes are left behind the `end` line
pub goes_on : (g : GameData) (bytes : List ℕ) (start : Progress) (k : CertificateData) (count : ℕ) (rest : List ℕ) → start ≡ start_of g → 0 < length rest → IsDraftOf start bytes k count rest → RefusesAll g bytes (count + 1) kinds.Trailing
goes_on g bytes start k count rest is some d =
    let e = subst (λ (p : Progress). IsDraftOf p bytes k count rest) is d in
    inr (e.0, lines_of rest, e.1, omega (arith, some, ap length e.2), omega (arith, e.4), refl)

pub are_fit : (g : GameData) (points : ℕ) (ps : List PointData) → AllByRecursion (PointFits g points) ps → AllByRecursion (AreFit g) ps
are_fit g points [] h = tt
are_fit g points (p ∷ ps) h =
    (record { belief = h.0.belief; coprime = h.0.coprime; states = h.0.states; actions = h.0.actions; mixes = h.0.mixes }, are_fit g points ps h.1)
