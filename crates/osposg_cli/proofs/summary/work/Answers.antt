use Rattle.std.proofs.Common.{◌∙◌, ap, subst}
use Rattle.controller.specs.Certificates.{CertificateData}
use Rattle.controller.specs.Data.{fraction_data}
use Rattle.game_model.specs.Game.{GameData}
use Rattle.osposg_cli.specs.Solve.{IsMade, status_of}
use Rattle.osposg_cli.proofs.summary.work.Goals as goal

pub returns : goal.returns
returns c = record {
  least = c.requires.least;
  most = c.requires.most;
  certificate = c.in_ok-certificate.certificate;
  made = subst (λ (g : GameData). IsMade c.args.trials (fraction_data c.args.gap.now) g c.in_ok-certificate.certificate) c.in_ok-game.ensures.game c.in_ok-certificate.ensures;
  status_is = c.status_of.ensures ∙ ap (λ (k : CertificateData). status_of k.outcome) c.certificate.view_is;
  same = c.in_ok-summary_text.ensures;
}
