use Rattle.std.proofs.Common.{◌≡◌, true}
use Rattle.std.proofs.lemmas.Result.{IfOk-weaker}
use Rattle.controller.specs.Data.{fraction_data}
use Rattle.closing.proofs.BetterMembers.{closer-by}
use Rattle.closing.proofs.closer.close.Goals as goal

pub returns : goal.returns
returns c = record {
  closer = IfOk-weaker c.exported.result _ _
      (λ k better. closer-by c.args.game.now c.args.certificate c.args.rounds (fraction_data c.args.gap.now) c.with_gap-given.result c.in_ok-better.better k c.requires.stands.fits c.requires.gap c.with_gap-given.ensures.same
      c.with_gap-given.ensures.better c.if-rounds-eq0.false (λ e. let told : c.is_closed.result ≡ true = c.is_closed.ensures.1 e in absurd cc) c.in_ok-better.ensures better)
      c.exported.ensures;
}
