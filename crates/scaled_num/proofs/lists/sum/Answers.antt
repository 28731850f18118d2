use Rattle.std.proofs.Common.{ℤ, pos, ◌+ℤ◌, ◌≤ℤ◌, ℕ, List, get_or, FitsSigned, to_z, to_z-of_z}
use Rattle.std.specs.Int.{w128}
use Rattle.scaled_num.proofs.Floors.{All-from_recursion, NoneNegative, item_fits, add_next}
use Rattle.scaled_num.proofs.lists.sum.Goals as goal

pub overflow_add-sum : goal.overflow_add-sum
overflow_add-sum c =
    let xs : List ℤ = c.args.numbers.now in
    let none : NoneNegative xs = All-from_recursion (λ x. pos 0 ≤ℤ x) xs c.requires.each in
    let i : ℕ = c.loop-number.number-index in
    let item : FitsSigned w128 (get_or xs i (pos 0)) = item_fits xs i none c.requires.most c.loop-number-test.true in
    simp to_z-of_z (add_next xs i _ none c.requires.most c.loop-number-test.true c.loop-number.invariant.positive c.loop-number.invariant.added).0

pub loop-number-preserved : goal.loop-number-preserved
loop-number-preserved c =
    let xs : List ℤ = c.args.numbers.now in
    let none : NoneNegative xs = All-from_recursion (λ x. pos 0 ≤ℤ x) xs c.requires.each in
    let i : ℕ = c.loop-number.number-index in
    let sum : ℤ = to_z w128 c.loop-number.sum-bits in
    let next = add_next xs i sum none c.requires.most c.loop-number-test.true c.loop-number.invariant.positive c.loop-number.invariant.added in
    let item : FitsSigned w128 (get_or xs i (pos 0)) = item_fits xs i none c.requires.most c.loop-number-test.true in
    let fits : FitsSigned w128 (sum +ℤ get_or xs i (pos 0)) = next.0 in
    simp to_z-of_z (record { added = next.1; positive = next.2 })
