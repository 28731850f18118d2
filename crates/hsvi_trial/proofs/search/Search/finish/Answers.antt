use Rattle.std.proofs.Common.{subst}
use Rattle.std.specs.Prelude.{IfOk}
use Rattle.hsvi_trial.specs.Data.{SearchState, start_data}
use Rattle.hsvi_trial.specs.Starts.{IsStart}
use Rattle.hsvi_trial.proofs.Beginning.{has-start}
use Rattle.hsvi_trial.proofs.search.Search.finish.Goals as goal

pub start_of-requires : goal.start_of-requires
start_of-requires c =
    has-start _ c.self.inside.course c.self.inside.solver c.law_game.ensures.accepted c.self.invariant.0

pub returns : goal.returns
returns c = record {
  start = subst (λ (s : SearchState). IfOk c.start_of.result (λ start. IsStart s.task.game s.sets (start_data start)))
      c.self.view_is c.start_of.ensures;
}
