use Rattle.point_set.specs.Changes.{IsGreatestOf}
use Rattle.point_set.specs.Members.{worth_among}
use Rattle.point_set.proofs.settles.greatest_worth.Given as goal

abbrev pub invariant-loop-a : goal.invariant-loop-a
invariant-loop-a l = IsGreatestOf (worth_among l.fn.game l.fn.points l.fn.point) l.a l.most
