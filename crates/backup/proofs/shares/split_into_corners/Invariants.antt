use Rattle.std.proofs.Common.{◌≡◌}
use Rattle.std.specs.Prelude.{filter, map}
use Rattle.game_model.specs.Branches.{branch_of}
use Rattle.backup.specs.Seeds.{has_weight}
use Rattle.backup.specs.Shares.{first_shares}
use Rattle.backup.proofs.shares.split_into_corners.Given as goal

abbrev pub invariant-loop-a : goal.invariant-loop-a
invariant-loop-a l = map branch_of l.shares.items ≡ filter has_weight (first_shares l.fn.game l.fn.belief l.fn.mixes l.a)
