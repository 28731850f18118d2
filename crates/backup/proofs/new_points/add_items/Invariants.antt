use Rattle.std.proofs.Common.{◌≡◌, ◌++◌, map, take}
use Rattle.game_model.specs.Branches.{branch_of}
use Rattle.backup.specs.Evaluation.{split_branches}
use Rattle.backup.proofs.new_points.add_items.Given as goal

abbrev pub invariant-loop-i : goal.invariant-loop-i
invariant-loop-i l = map branch_of l.shares.items ≡ map branch_of l.initial.shares.items ++ split_branches l.fn.a l.fn.o (take l.i l.fn.split)
