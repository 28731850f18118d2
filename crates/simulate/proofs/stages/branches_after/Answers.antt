use Rattle.std.proofs.Common.{rules, ℕ, ◌-◌, ◌≤◌, List, length, take, drop}
use Rattle.std.proofs.lemmas.List.Sorted.{IsPartitionPoint-from_clause}
use Rattle.belief.proofs.Windows.{rest-is}
use Rattle.point_set.specs.Members.{IsAfter}
use Rattle.game_model.specs.declared.branches.Branch.{Branch as BranchParts}
use Rattle.point_set.proofs.Shares.{ahead, ahead-parted, after-parted, shares-window}
use Rattle.simulate.proofs.stages.branches_after.Goals as goal

pub returns : goal.returns
returns c =
    let xs : List BranchParts = c.args.branches.now in
    let a : ℕ = c.args.a in
    let o : ℕ = c.args.o in
    let s : ℕ = c.partition_point-start.result in
    let n : ℕ = c.partition_point-count.result in
    let same = rest-is s xs in
    let first = IsPartitionPoint-from_clause (ahead a o) xs s c.partition_point-start.ensures.partitioned (ahead-parted a o xs c.requires) (λ a r q k. search rules) in
    let second = IsPartitionPoint-from_clause (IsAfter a o) (take (length xs - s) (drop s xs)) n c.partition_point-count.ensures.partitioned (rw same (after-parted a o xs s c.requires first)) (λ a r q k. search rules) in
    let bound : n ≤ length (drop s xs) = rw same at c.partition_point-count.ensures.bound in
    rw same (shares-window a o xs s n c.partition_point-start.ensures.bound bound first (rw same at second))
