use Rattle.std.proofs.Common.{inl, inr, refl, true, ◌≡◌}
use Rattle.controller.specs.Data.{fraction_data}
use Rattle.hsvi_trial.specs.Run.{Task}
use Rattle.hsvi_trial.specs.Sets.{Sets}
use Rattle.hsvi_trial.proofs.ends.end_of.Goals as goal

pub returns-then-cut-clause-ended : goal.returns-then-cut-clause-ended
returns-then-cut-clause-ended c =
    let task : Task = record { game = c.args.game.now; trials = c.args.trials; gap = fraction_data c.args.gap.now } in
    let sets : Sets = record { nodes = c.args.nodes.now.members; points = c.args.points.now.members } in
    record { ended = inl c.if-cut.true; outcome_is = c.outcome.ensures task sets c.are_closed.ensures.closed c.are_closed.ensures.open }

pub returns-then-are_closed-clause-ended : goal.returns-then-are_closed-clause-ended
returns-then-are_closed-clause-ended c =
    let begins : c.args.begins ≡ true = c.if-not-begins.false in
    record { ended = inr (begins, inl (c.if-are_closed.ensures.closed refl)); outcome_is = c.if-are_closed.ensures.closed refl }
