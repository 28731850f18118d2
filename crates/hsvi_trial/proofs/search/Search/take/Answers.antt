use mir.Val.{SFits}
use Rattle.std.proofs.Common.{ap, rules, subst, sym}
use Rattle.std.proofs.lemmas.Int.{to_z-of_z}
use Rattle.std.specs.Int.{w128}
use Rattle.std.specs.Prelude.{ℤ}
use Rattle.controller.specs.Data.{ending_of, fraction_data}
use Rattle.game_model.specs.Game.{GameData}
use Rattle.hsvi_trial.specs.Data.{IsFinished, SearchState, search_state, start_data}
use Rattle.hsvi_trial.specs.Run.{IsSolveRun, SolvedData, Task}
use Rattle.hsvi_trial.specs.Sets.{AreStanding}
use Rattle.hsvi_trial.specs.Starts.{IsStart}
use Rattle.hsvi_trial.proofs.Beginning.{has-start}
use Rattle.hsvi_trial.proofs.search.Search.take.Goals as goal

pub are_closed-closed-requires-clause-start : goal.are_closed-closed-requires-clause-start
are_closed-closed-requires-clause-start c =
    has-start _ c.self.inside.course c.self.inside.solver c.law_game.ensures.accepted c.self.invariant.0

pub are_closed-closed-requires-clause-gap : goal.are_closed-closed-requires-clause-gap
are_closed-closed-requires-clause-gap c = c.self.invariant.0.limits.gap

pub returns-clause-run : goal.returns-clause-run
returns-clause-run c =
    let state : SearchState = search_state c.self.inside.game.now c.self.inside.trials (fraction_data c.self.inside.gap)
    c.self.inside.nodes c.self.inside.points c.self.inside.journal.items c.self.inside.cut in
    let end : IsFinished state = subst IsFinished (sym c.self.view_is) c.requires.ended in
    let start : IsStart state.task.game state.sets (start_data c.args.start) =
    subst (λ (s : SearchState). IsStart s.task.game s.sets (start_data c.args.start)) (sym c.self.view_is) c.requires.start in
    let fits : SFits w128 c.args.start.multiple = search rules in
    let solved : ℤ → SolvedData = λ multiple. record {
      sets = state.sets;
      start = record { node = c.args.start.start_node; points = c.args.start.start_points.items; multiple = multiple };
      outcome = ending_of c.outcome-outcome.result;
      journal = state.journal;
    } in
    let run : IsSolveRun state.task (solved c.args.start.multiple) = record {
      seeds = end.1.seeds;
      cut = state.cut;
      run = end.1.run;
      ended = end.1.ended;
      start = start;
      outcome = c.outcome-outcome.ensures state.task state.sets
          c.are_closed-closed.ensures.closed c.are_closed-closed.ensures.open;
    } in
    subst (λ (m : ℤ). IsSolveRun c.args.self.task (solved m)) (sym (to_z-of_z w128 c.args.start.multiple fits))
    (subst (λ (t : Task). IsSolveRun t (solved c.args.start.multiple)) (ap (λ (s : SearchState). s.task) c.self.view_is) run)

pub returns-clause-standing : goal.returns-clause-standing
returns-clause-standing c =
    subst (λ (g : GameData). AreStanding g (record { nodes = c.self.inside.nodes.members; points = c.self.inside.points.members }))
    (ap (λ (s : SearchState). s.task.game) c.self.view_is) c.self.invariant.0.standing
