use Rattle.osposg_cli.proofs.Choice.{IsBest}
use Rattle.osposg_cli.proofs.floor.best_action.Given as goal

abbrev pub invariant-loop-action : goal.invariant-loop-action
invariant-loop-action l = IsBest l.game l.action l.best.action l.best.lower
