use Rattle.std.proofs.Common.{subst, sym}
use Rattle.backup.proofs.Rooms.{lower-rooms}
use Rattle.stage_game.specs.Asked.{BeliefFits}
use Rattle.worked_rows.proofs.SeedsServe.{first-fits}
use Rattle.worked_rows.proofs.advised.lower_made.Goals as goal

pub lower_advice-requires-clause-belief : goal.lower_advice-requires-clause-belief
lower_advice-requires-clause-belief c =
    subst (BeliefFits c.args.game.now) (sym c.first_of-belief.ensures) (first-fits c.args.game.now c.law_game.ensures.accepted)

pub lower_advice-requires-clause-room : goal.lower_advice-requires-clause-room
lower_advice-requires-clause-room c =
    rw c.deref.ensures.value (
    lower-rooms c.in_ok-solver.solver c.args.game.now c.in_ok-nodes.nodes.members c.law_game.ensures.accepted c.in_ok-solver.ensures.lower
    c.in_ok-candidates.candidates.items c.in_ok-candidates.ensures.serve)
