use Rattle.std.proofs.Common.{ℕ, add-one, ap, of_z, pos, rules, subst, suc, sym, to_z, true, ◌≡◌, ◌∙◌}
use Rattle.std.proofs.lemmas.Bool.{false≢true}
use Rattle.std.proofs.lemmas.Int.{to_z-of_z}
use Rattle.std.specs.Int.{w128}
use Rattle.std.specs.Prelude.{ℤ, FitsSigned}
use Rattle.controller.specs.Data.{fraction_data}
use Rattle.hsvi_trial.specs.Excess.{IsChoice, View}
use Rattle.hsvi_trial.specs.Looks.{LeadsTo, looks_from}
use Rattle.hsvi_trial.specs.Thresholds.{threshold}
use Rattle.hsvi_trial.proofs.choices.look_on.Goals as goal

pub returns-clause-look : goal.returns-clause-look
returns-clause-look c =
    let goes : looks_from c.args.game.now c.args.depth c.args.down ≡ true = sym c.looks_from.ensures ∙ c.if-not-looks_from.false in
    let fits : FitsSigned w128 c.threshold.result = search rules in
    let same : to_z w128 (of_z w128 c.threshold.result) ≡ pos (threshold c.args.game.now (fraction_data c.args.gap.now) (suc c.args.depth)) =
    to_z-of_z w128 c.threshold.result fits ∙ c.threshold.ensures.threshold ∙ ap (λ (n : ℕ). pos (threshold c.args.game.now (fraction_data c.args.gap.now) n)) (add-one c.args.depth) in
    let view : ℤ → View = λ z. record { sets = record { nodes = c.args.nodes.now.members; points = c.args.points.now.members }; belief = c.args.belief.now; informed = c.args.informed.now; own = c.args.own.now; threshold = z } in
    record {
      looks = λ _. subst (λ (z : ℤ). IsChoice c.args.game.now (view z) c.look.result.chosen) same c.look.ensures.chosen;
      stays = λ no. absurd (false≢true (sym no ∙ goes));
      leads = subst (λ (z : ℤ). LeadsTo c.args.game.now (view z) c.look.result.chosen c.look.result.next) same c.look.ensures.leads;
    }
