-- The answer of `solve` to an input: there is one at most, it has a text, it proves its bounds, and `check` says yes to it.
use Rattle.std.proofs.Common.{◌≡◌, ◌⊎◌, ℕ, List, [], ◌++◌, refl, sym, ap, ◌∙◌, subst, inl, inr}
use Rattle.std.specs.Prelude.{◌↔◌, ⊤}
use Rattle.std.proofs.lemmas.List.{append-nil}
use Rattle.cert_text.specs.Text.{certificate_text}
use Rattle.controller.specs.Certificates.{CertificateData, Closed, Ending, FractionData, Full, Trials}
use Rattle.controller.specs.Export.{ExportsAreOne, IsExport}
use Rattle.game_model.specs.Game.{GameData, IsGame}
use Rattle.game_text.specs.Laws.{AnyRest}
use Rattle.game_text.specs.Text.{IsTextOf, IsWholeTextOf}
use Rattle.history_model.specs.Halves.{LowerHolds, UpperHolds}
use Rattle.hsvi_trial.specs.Data.{solved_parts}
use Rattle.hsvi_trial.specs.Laws.{OneRunFor}
use Rattle.hsvi_trial.specs.Run.{SolvedData}
use Rattle.hsvi_trial.proofs.Fronts.{visits-are_one}
use Rattle.hsvi_trial.proofs.OneRuns.{one-run_for}
use Rattle.osposg_cli.specs.declared.status.Status.{Status}
use Rattle.osposg_cli.specs.declared.status.Status.TheVariants.{Done, GameRefused, Open}
use Rattle.osposg_cli.specs.Check.{AnswersCheck}
use Rattle.osposg_cli.specs.Defined.{HasText, IsDefined, IsOne, IsTold}
use Rattle.osposg_cli.specs.Inputs.{TextsAreExact}
use Rattle.osposg_cli.specs.Solve.{AnswersSolve, IsMade, IsSolved, KeepsSolve, MakesCertificate, SolveIsDefined, status_of}
use Rattle.osposg_cli.proofs.Shared.{game-once, game-told}
use Rattle.osposg_cli.proofs.Verdicts.{proved, yes-some}

-- ---- one answer
-- a game, trials and a tolerance have one certificate
pub made-once : ExportsAreOne → (trials : ℕ) (gap : FractionData) (g : GameData) → IsGame g → (k m : CertificateData) → IsMade trials gap g k → IsMade trials gap g m → k ≡ m
made-once exports trials gap g game k m p q =
    let run : p.solved ≡ q.solved = one-run_for g (visits-are_one g) game (record { game = g; trials = trials; gap = gap }) p.solved q.solved refl p.run q.run in
    exports g (solved_parts gap q.solved) k m (subst (λ (s : SolvedData). IsExport g (solved_parts gap s) k) run p.exported) q.exported

solved-once : ExportsAreOne → (trials : ℕ) (gap : FractionData) (g : GameData) → IsGame g → IsOne (IsSolved trials gap g)
solved-once exports trials gap g game status other text more p q =
    let same = made-once exports trials gap g game p.certificate q.certificate p.made q.made in
    (p.status_is ∙ ap (λ (k : CertificateData). status_of k.outcome) same ∙ sym q.status_is, p.same ∙ ap certificate_text same ∙ sym q.same)

pub ending-told : (ending : Ending) → HasText (status_of ending)
ending-told Closed = tt
ending-told Trials = tt
ending-told Full = tt

solved-told : (trials : ℕ) (gap : FractionData) (g : GameData) → IsTold (IsSolved trials gap g)
solved-told trials gap g status text p = subst HasText (sym p.status_is) (ending-told p.certificate.outcome)

pub solve-defined : ExportsAreOne → TextsAreExact → SolveIsDefined
solve-defined exports laws trials gap = record {
  one = game-once laws (IsSolved trials gap) (solved-once exports trials gap);
  told = game-told (IsSolved trials gap) (solved-told trials gap);
}

-- ---- what it promises
pub not_refused : (status : Status) → status ≡ GameRefused → MakesCertificate status → ⊥
not_refused status refused (inl done) = let e = sym refused ∙ done in cc
not_refused status refused (inr open_now) = let e = sym refused ∙ open_now in cc

pub closed_at : (ending : Ending) → (status_of ending ≡ Done) ↔ (ending ≡ Closed)
closed_at Closed = (λ e. refl, λ e. refl)
closed_at Trials = (λ e. absurd cc, λ e. absurd cc)
closed_at Full = (λ e. absurd cc, λ e. absurd cc)

pub solve-keeps : LowerHolds → UpperHolds → KeepsSolve
solve-keeps low high trials gap input text status (inl (line, kind, is, s, t)) made = absurd (not_refused status s made)
solve-keeps low high trials gap input text status (inr (g, is, p)) made = record {
  game = g;
  certificate = p.certificate;
  spells_game = is;
  spells_certificate = (p.made.stands.fits, p.same);
  proves = proved low high g p.certificate is.1.game p.made.stands;
  tolerance = ap (λ (k : CertificateData). k.gap) p.made.exported.same;
  closed = subst (λ (s : Status). (s ≡ Done) ↔ (p.certificate.outcome ≡ Closed)) (sym p.status_is) (closed_at p.certificate.outcome);
}

-- ---- and behind a text of the game `check` says yes to it
pub solve-checked : AnyRest → (trials : ℕ) (gap : FractionData) (input text : List ℕ) (status : Status) → AnswersSolve trials gap input status text →
    MakesCertificate status → (g : GameData) × IsWholeTextOf g input × ((front : List ℕ) → IsTextOf g front [] → (yes : List ℕ) × AnswersCheck (front ++ text) Done yes)
solve-checked rest trials gap input text status (inl (line, kind, is, s, t)) made = absurd (not_refused status s made)
solve-checked rest trials gap input text status (inr (g, is, p)) made =
    let short = p.made.stands.fits.short in
    let yes = yes-some p.certificate short.0 short.1 short.2 in (
      g,
      is,
      λ front at.
          (let here : IsTextOf g (front ++ text) text = rest g front [] text (subst (λ (bytes : List ℕ). IsTextOf g bytes []) (sym (append-nil front)) at) in
          (yes.0, inr (g, p.certificate, (text, here, (p.made.stands.fits, p.same)), inl (p.made.stands, refl, yes.1)))),
    )
