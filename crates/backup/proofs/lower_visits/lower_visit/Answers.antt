use Rattle.std.proofs.Common.{List, subst}
use Rattle.std.specs.Prelude.{ℕ}
use Rattle.backup.specs.LowerRuns.{IsBestRun, run_data}
use Rattle.backup.proofs.LowerRuns.{visit-is}
use Rattle.backup.proofs.lower_visits.lower_visit.Goals as goal

pub returns-clause-visit : goal.returns-clause-visit
returns-clause-visit c =
    let best = subst (λ (priced : List ℕ). IsBestRun c.args.game.now c.args.belief.now c.args.nodes.now.members priced (run_data c.in_ok-first.first) (run_data c.in_ok-best.best)) c.deref.ensures.value c.in_ok-best.ensures.run in
    visit-is c.args.game.now c.args.belief.now c.args.nodes.now.members c.in_ok-priced.priced.items (run_data c.in_ok-first.first) (run_data c.in_ok-best.best) c.in_ok-first.ensures.run c.in_ok-priced.ensures.candidates best
