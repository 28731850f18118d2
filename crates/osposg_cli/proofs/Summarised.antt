-- The answer of `gen` with trials: there is one at most, it has a text, and its certificate proves its bounds.
use Rattle.std.proofs.Common.{◌≡◌, ℕ, ◌≤◌, List, ◌++◌, length, refl, sym, ap, ◌∙◌, subst}
use Rattle.std.specs.Prelude.{◌↔◌}
use Rattle.cert_text.specs.Text.{outcome_word}
use Rattle.controller.specs.Certificates.{CertificateData, CertificateStands, Closed, FractionData}
use Rattle.controller.specs.Export.{ExportsAreOne}
use Rattle.game_gen.specs.Generated.{game_of}
use Rattle.game_model.specs.Game.{GameData, IsGame}
use Rattle.history_model.specs.Halves.{LowerHolds, UpperHolds}
use Rattle.osposg_cli.specs.declared.status.Status.{Status}
use Rattle.osposg_cli.specs.declared.status.Status.TheVariants.{Done}
use Rattle.osposg_cli.specs.Defined.{HasText}
use Rattle.osposg_cli.specs.Solve.{status_of}
use Rattle.osposg_cli.specs.Summary.{AnswersSummary, IsSummaryText, KeepsSummary, SummaryIsDefined, bound_lines, heading, size_line}
use Rattle.osposg_cli.proofs.Solved.{closed_at, ending-told, made-once}
use Rattle.osposg_cli.proofs.Verdicts.{bounds-once, proved, short-positive}

-- the game of each size within its limits is a game
abbrev pub GamesAreMade : Type 0
GamesAreMade = (number size : ℕ) → 1 ≤ size → size ≤ 16 → IsGame (game_of number size)

text-once : (number size : ℕ) (k : CertificateData) (g : GameData) (text more : List ℕ) → CertificateStands g k → IsSummaryText number size k text → IsSummaryText number size k more → text ≡ more
text-once number size k g text more stands a b =
    let short = stands.fits.short in
    let same = bounds-once k a.lower a.upper a.tail b.lower b.upper b.tail (short-positive k.lower short.0) (short-positive k.upper short.1) (short-positive k.tail short.2) a.bounds b.bounds in
    let lines = λ (lower upper tail : List ℕ). heading number size (outcome_word k.outcome) ++ (bound_lines lower upper tail ++ size_line (length k.nodes) (length k.points)) in
    a.same
    ∙ ap (λ (x : List ℕ). lines x a.upper a.tail) same.0
    ∙ ap (λ (x : List ℕ). lines b.lower x a.tail) same.1
    ∙ ap (λ (x : List ℕ). lines b.lower b.upper x) same.2
    ∙ sym b.same

pub summary-defined : ExportsAreOne → GamesAreMade → SummaryIsDefined
summary-defined exports games number size trials gap = record {
  one = λ input status other text more p q.
      let same = made-once exports trials gap (game_of number size) (games number size p.least p.most) p.certificate q.certificate p.made q.made in (
        p.status_is ∙ ap (λ (k : CertificateData). status_of k.outcome) same ∙ sym q.status_is,
        text-once number size q.certificate (game_of number size) text more q.made.stands (subst (λ (k : CertificateData). IsSummaryText number size k text) same p.same) q.same,
      );
  told = λ input status text p. subst HasText (sym p.status_is) (ending-told p.certificate.outcome);
}

pub summary-keeps : LowerHolds → UpperHolds → GamesAreMade → KeepsSummary
summary-keeps low high games number size trials gap status text p = record {
  certificate = p.certificate;
  text_is = p.same;
  proves = proved low high (game_of number size) p.certificate (games number size p.least p.most) p.made.stands;
  tolerance = ap (λ (k : CertificateData). k.gap) p.made.exported.same;
  closed = subst (λ (s : Status). (s ≡ Done) ↔ (p.certificate.outcome ≡ Closed)) (sym p.status_is) (closed_at p.certificate.outcome);
}
