use Rattle.closing.proofs.Clamped.{clamped-positive, clamped-sum, small-product}
use Rattle.std.proofs.Common.{FitsSigned, arith, rules, to_z-of_z}
use Rattle.std.specs.Int.{w128}
use Rattle.scaled_num.specs.Sums.{sum_of}
use Rattle.closing.proofs.sharing.share.Goals as goal

pub take_share-requires-clause-weights : goal.take_share-requires-clause-weights
take_share-requires-clause-weights c = clamped-positive c.clamp_all.new.weights c.clamp_all.ensures.within

pub take_share-requires-clause-sum : goal.take_share-requires-clause-sum
take_share-requires-clause-sum c = clamped-sum c.clamp_all.new.weights c.clamp_all.ensures.within (omega arith)

pub take_share-requires-clause-product : goal.take_share-requires-clause-product
take_share-requires-clause-product c =
    let fits : FitsSigned w128 c.args.total = search rules in
    simp to_z-of_z
    (small-product (sum_of c.clamp_all.new.weights) c.args.total (clamped-sum c.clamp_all.new.weights c.clamp_all.ensures.within (omega arith)) c.requires.total.0 c.requires.total.1)
