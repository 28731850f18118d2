use Rattle.std.proofs.Common.{map, take}
use Rattle.controller.specs.Reached.{ListsAlso, IsListed, members_of}
use Rattle.game_model.specs.Branches.{branch_of}
use Rattle.controller.proofs.found.Found.add_named.Given as goal

abbrev pub invariant-loop-branch : goal.invariant-loop-branch
invariant-loop-branch l =
    ListsAlso l.initial.self.flags.items l.initial.self.numbers.items l.self.flags.items l.self.numbers.items (IsListed (members_of (map branch_of (take l.branch-index l.branches))))
