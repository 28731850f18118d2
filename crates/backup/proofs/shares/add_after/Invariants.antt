use Rattle.std.proofs.Common.{◌≡◌, ◌++◌}
use Rattle.std.specs.Prelude.{filter, map}
use Rattle.game_model.specs.Branches.{branch_of}
use Rattle.backup.specs.Seeds.{has_weight}
use Rattle.backup.specs.Shares.{own_shares}
use Rattle.backup.proofs.shares.add_after.Given as goal

abbrev pub invariant-loop-o : goal.invariant-loop-o
invariant-loop-o l = map branch_of l.shares.items ≡ map branch_of l.fn.shares.items ++ filter has_weight (own_shares l.fn.game l.fn.belief l.fn.mixes l.fn.a l.o)
