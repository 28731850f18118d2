use Rattle.std.proofs.Common.{arith, length, rules, ap, subst, sym, ◌*◌, ◌≡◌, ◌≤◌, ℕ}
use Rattle.hsvi_trial.specs.Data.{SearchState}
use Rattle.hsvi_trial.specs.Laws.{IsRunFront, most_visits}
use Rattle.hsvi_trial.proofs.Fronts.{run-front}
use Rattle.hsvi_trial.proofs.Holding.{few-visits}
use Rattle.hsvi_trial.proofs.Short.{runs-are-short}
use Rattle.hsvi_trial.proofs.search.Search.visits.Goals as goal

pub overflow_cast-result : goal.overflow_cast-result
overflow_cast-result c =
    let few : length c.self.inside.journal.items ≤ 1300000 = few-visits _ c.self.inside.course c.self.inside.solver c.self.invariant.0 in
    let count : c.len.result ≡ length c.self.inside.journal.items = search rules in
    omega (arith, few, count)

pub returns-clause-few : goal.returns-clause-few
returns-clause-few c =
    let few : length c.self.inside.journal.items ≤ c.self.inside.trials * most_visits = runs-are-short _ _ _ _ _ c.self.invariant.0.run in
    let count : c.len.result ≡ length c.self.inside.journal.items = search rules in
    let trials : c.self.inside.trials ≡ c.args.self.now.task.trials = ap (λ (s : SearchState). s.task.trials) c.self.view_is in
    subst (λ (n : ℕ). n ≤ c.args.self.now.task.trials * most_visits) (sym count) (subst (λ (t : ℕ). length c.self.inside.journal.items ≤ t * most_visits) trials few)

pub returns-clause-front : goal.returns-clause-front
returns-clause-front c =
    subst (λ (s : SearchState). IsRunFront s.task s.sets s.journal) c.self.view_is
    (run-front _ c.self.invariant.0.seeds _ _ _ c.law_game.ensures.accepted c.self.invariant.0.run)
