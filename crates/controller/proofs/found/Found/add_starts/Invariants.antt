use Rattle.std.proofs.Common.{ℕ, map, take}
use Rattle.std.specs.Prelude.{ℤ}
use Rattle.controller.specs.Reached.{ListsAlso, IsListed}
use Rattle.controller.proofs.found.Found.add_starts.Given as goal

abbrev pub invariant-loop-start : goal.invariant-loop-start
invariant-loop-start l =
    ListsAlso l.initial.self.flags.items l.initial.self.numbers.items l.self.flags.items l.self.numbers.items (IsListed (map (λ (start : ℕ × ℤ). start.0) (take l.start-index l.starts)))
