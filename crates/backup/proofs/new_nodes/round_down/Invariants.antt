use Rattle.backup.proofs.NewNodes.{Rounded}
use Rattle.backup.proofs.new_nodes.round_down.Given as goal

abbrev pub invariant-loop-number : goal.invariant-loop-number
invariant-loop-number l = Rounded l.divisor l.fn.numbers l.number-index l.numbers
