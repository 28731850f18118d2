use Rattle.stage_game.specs.Asked.{NodesServe}
use Rattle.worked_rows.proofs.stages.twenty_nodes.Given as goal

abbrev pub invariant-loop : goal.invariant-loop
invariant-loop l = NodesServe l.game l.set.members
