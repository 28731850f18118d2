use Rattle.std.proofs.Common.{◌≡◌, ◌++◌}
use Rattle.std.specs.Prelude.{filter, map}
use Rattle.scaled_num.specs.Share.{at}
use Rattle.game_model.specs.Branches.{branch_of}
use Rattle.backup.specs.Seeds.{has_weight}
use Rattle.backup.specs.Shares.{row_shares}
use Rattle.backup.proofs.shares.add_row.Given as goal

abbrev pub invariant-loop-t : goal.invariant-loop-t
invariant-loop-t l = map branch_of l.shares.items ≡ map branch_of l.fn.shares.items ++ filter has_weight (row_shares (at l.fn.masses) l.fn.a l.fn.o l.t)
