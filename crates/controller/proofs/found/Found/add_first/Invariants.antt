use Rattle.std.proofs.Common.{◌<◌}
use Rattle.controller.specs.Reached.{ListsAlso}
use Rattle.controller.proofs.found.Found.add_first.Given as goal

abbrev pub invariant-loop-j : goal.invariant-loop-j
invariant-loop-j l = ListsAlso l.initial.self.flags.items l.initial.self.numbers.items l.self.flags.items l.self.numbers.items (λ i. i < l.j)
