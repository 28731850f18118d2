use Rattle.std.proofs.Common.{map}
use Rattle.game_model.specs.Branches.{branch_of}
use Rattle.closing.specs.Plans.{AddsSuch, AreWished}
use Rattle.closing.proofs.wishes.push_wishes.Given as goal

abbrev pub invariant-loop-k : goal.invariant-loop-k
invariant-loop-k l = AddsSuch (AreWished l.fn.corners l.fn.a l.fn.o l.k l.others) (map branch_of l.initial.wishes.items) (map branch_of l.wishes.items)
