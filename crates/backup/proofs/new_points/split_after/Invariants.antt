use Rattle.std.proofs.Common.{map}
use Rattle.game_model.specs.Branches.{branch_of}
use Rattle.backup.proofs.PointShares.{AddsSeen}
use Rattle.backup.proofs.new_points.split_after.Given as goal

abbrev pub invariant-loop-o : goal.invariant-loop-o
invariant-loop-o l = AddsSeen l.fn.game l.fn.belief l.fn.advice.informed (map branch_of l.fn.advice.wanted.items) l.fn.points.members l.fn.a l.o (map branch_of l.initial.shares.items) (map branch_of l.shares.items)
