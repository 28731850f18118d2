use Rattle.std.proofs.Common.{map, take, ◌≡◌}
use Rattle.controller.specs.Export.{renumbered}
use Rattle.controller.specs.Reached.{flag_at}
use Rattle.game_model.specs.Branches.{branch_of}
use Rattle.controller.proofs.kept.renumber.Given as goal

abbrev pub invariant-loop-branch : goal.invariant-loop-branch
invariant-loop-branch l = map branch_of l.new.items ≡ renumbered (flag_at l.numbering) (map branch_of (take l.branch-index l.branches))
