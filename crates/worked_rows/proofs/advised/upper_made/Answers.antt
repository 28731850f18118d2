use Rattle.std.proofs.Common.{subst, sym}
use Rattle.backup.proofs.Rooms.{upper-rooms}
use Rattle.stage_game.specs.Asked.{BeliefFits}
use Rattle.worked_rows.proofs.SeedsServe.{first-fits}
use Rattle.worked_rows.proofs.advised.upper_made.Goals as goal

pub upper_advice-requires-clause-belief : goal.upper_advice-requires-clause-belief
upper_advice-requires-clause-belief c =
    subst (BeliefFits c.args.game.now) (sym c.first_of-belief.ensures) (first-fits c.args.game.now c.law_game.ensures.accepted)

pub upper_advice-requires-clause-room : goal.upper_advice-requires-clause-room
upper_advice-requires-clause-room c =
    rw c.deref.ensures.value (
    upper-rooms c.in_ok-solver.solver c.args.game.now c.in_ok-points.points.members c.law_game.ensures.accepted c.in_ok-solver.ensures.upper
    c.in_ok-candidates.candidates.items c.in_ok-candidates.ensures.serve)

pub new_point-requires-clause-belief : goal.new_point-requires-clause-belief
new_point-requires-clause-belief c =
    subst (BeliefFits c.args.game.now) (sym c.first_of-belief.ensures) (first-fits c.args.game.now c.law_game.ensures.accepted)
