use Rattle.std.proofs.Common.{[], map}
use Rattle.game_model.specs.Branches.{branch_of}
use Rattle.backup.proofs.PointShares.{AddsOwn}
use Rattle.backup.proofs.new_points.split_masses.Given as goal

abbrev pub invariant-loop-a : goal.invariant-loop-a
invariant-loop-a l = AddsOwn l.fn.game l.fn.belief l.fn.advice.informed (map branch_of l.fn.advice.wanted.items) l.fn.points.members l.a [] (map branch_of l.shares.items)
