use Rattle.std.proofs.Common.{◌≡◌, ◌++◌, take, drop}
use Rattle.belief.specs.Quotients.{quotients}
use Rattle.belief.proofs.divisors.divide.Given as goal

abbrev pub invariant-loop-number : goal.invariant-loop-number
invariant-loop-number l = l.numbers ≡ quotients l.divisor (take l.number-index l.fn.numbers) ++ drop l.number-index l.fn.numbers
