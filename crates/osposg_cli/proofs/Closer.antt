-- The answer of `close` to an input: it has a text, and proves its bounds.
use Rattle.std.proofs.Common.{◌≡◌, ◌⊎◌, ℕ, List, Option, ap, sym, subst, ◌∙◌, inl, inr}
use Rattle.std.specs.Prelude.{◌↔◌}
use Rattle.controller.specs.Certificates.{CertificateData, Closed, FractionData}
use Rattle.game_model.specs.Game.{GameData}
use Rattle.history_model.specs.Halves.{LowerHolds, UpperHolds}
use Rattle.osposg_cli.specs.declared.status.Status.{Status}
use Rattle.osposg_cli.specs.declared.status.Status.TheVariants.{CertRefused, Done, GameRefused, No}
use Rattle.osposg_cli.specs.Close.{CloseIsTold, IsClosing, KeepsClose}
use Rattle.osposg_cli.specs.Defined.{HasText, IsTold}
use Rattle.osposg_cli.specs.Solve.{MakesCertificate, status_of}
use Rattle.osposg_cli.proofs.Shared.{both-told}
use Rattle.osposg_cli.proofs.Solved.{closed_at, ending-told, not_refused}
use Rattle.osposg_cli.proofs.Verdicts.{proved}

closing-told : (rounds : ℕ) (gap : Option FractionData) (g : GameData) (k : CertificateData) → IsTold (IsClosing rounds gap g k)
closing-told rounds gap g k status text (inl p) = subst HasText (sym p.status_is) (ending-told p.closer.outcome)
closing-told rounds gap g k status text (inr (place, fails, s, t)) = subst HasText (sym s) tt

pub close-told : CloseIsTold
close-told rounds gap input = both-told (IsClosing rounds gap) (closing-told rounds gap) input

cert_refused_not : (status : Status) → status ≡ CertRefused → MakesCertificate status → ⊥
cert_refused_not status refused (inl done) = let e = sym refused ∙ done in cc
cert_refused_not status refused (inr open_now) = let e = sym refused ∙ open_now in cc

no_not : (status : Status) → status ≡ No → MakesCertificate status → ⊥
no_not status refused (inl done) = let e = sym refused ∙ done in cc
no_not status refused (inr open_now) = let e = sym refused ∙ open_now in cc

pub close-keeps : LowerHolds → UpperHolds → KeepsClose
close-keeps low high rounds gap input text status (inl (inl (line, kind, is, s, t))) made = absurd (not_refused status s made)
close-keeps low high rounds gap input text status (inl (inr (g, rest, is, (line, kind, at, s, t)))) made = absurd (cert_refused_not status s made)
close-keeps low high rounds gap input text status (inr (g, k, is, inr (place, fails, s, t))) made = absurd (no_not status s made)
close-keeps low high rounds gap input text status (inr (g, k, is, inl p)) made = record {
  game = g;
  given = k;
  spells_both = is;
  closer = p.closer;
  spells_closer = (p.is_closer.better.stands.fits, p.same);
  proves = proved low high g p.closer is.1.game p.is_closer.better.stands;
  no_worse = record { lower = p.is_closer.better.no_worse.lower; upper = p.is_closer.better.no_worse.upper };
  tolerance = p.is_closer.better.gap;
  closed = subst (λ (s : Status). (s ≡ Done) ↔ (p.closer.outcome ≡ Closed)) (sym p.status_is) (closed_at p.closer.outcome);
}
