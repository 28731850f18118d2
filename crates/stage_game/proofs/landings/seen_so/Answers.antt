use Rattle.std.proofs.Common.{rules, ltb, leb, ℕ, ◌-◌, ◌≤◌, List, length, take, drop}
use Rattle.std.proofs.lemmas.List.Sorted.{IsPartitionPoint-from_clause, IsPartitionedBy-leb, IsPartitionedBy-ltb}
use Rattle.game_model.specs.declared.parts.Landing.{Landing}
use Rattle.belief.proofs.Windows.{non_decreasing-drop, rest-is, seen-rises, seen-window}
use Rattle.stage_game.proofs.landings.seen_so.Goals as goal

pub returns : goal.returns
returns c =
    let row : List Landing = c.args.row.now in
    let o : ℕ = c.args.o in
    let s : ℕ = c.partition_point-start.result in
    let n : ℕ = c.partition_point-count.result in
    let rises = seen-rises row c.requires in
    let same = rest-is s row in
    let first = IsPartitionPoint-from_clause (λ (l : Landing). ltb l.seen o) row s c.partition_point-start.ensures.partitioned
    (IsPartitionedBy-ltb (λ (l : Landing). l.seen) row o rises) (λ a r q k. search rules) in
    let second = IsPartitionPoint-from_clause (λ (l : Landing). leb l.seen o) (take (length row - s) (drop s row)) n c.partition_point-count.ensures.partitioned
    (rw same (IsPartitionedBy-leb (λ (l : Landing). l.seen) (drop s row) o (non_decreasing-drop (λ (l : Landing). l.seen) s row rises))) (λ a r q k. search rules) in
    let bound : n ≤ length (drop s row) = rw same at c.partition_point-count.ensures.bound in
    rw same (seen-window row o s n c.partition_point-start.ensures.bound bound first (rw same at second))
