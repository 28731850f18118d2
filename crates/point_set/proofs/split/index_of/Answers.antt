use Rattle.std.proofs.Common.{ℕ, ltb, List, rules}
use Rattle.std.specs.Prelude.{ℤ}
use Rattle.std.proofs.lemmas.List.Sorted.{IsPartitionPoint-from_clause}
use Rattle.point_set.proofs.Placing.{parted, index-of}
use Rattle.point_set.proofs.split.index_of.Goals as goal

pub returns : goal.returns
returns c =
    let items : List (ℕ × ℤ) = c.args.items.now in
    let k : ℕ = c.args.number in
    index-of k items c.partition_point.result c.partition_point.ensures.bound
    (IsPartitionPoint-from_clause (λ y. ltb y.0 k) items c.partition_point.result c.partition_point.ensures.partitioned (parted k items c.requires) (λ a r q t. search rules))
