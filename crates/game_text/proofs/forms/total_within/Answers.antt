use Rattle.std.proofs.Common.{arith, pos, ◌≤ℤ◌}
use Rattle.std.proofs.lemmas.Int.{ints}
use Rattle.scaled_num.proofs.Each.{each-by-place}
use Rattle.scaled_num.proofs.Sums.{sum-most}
use Rattle.game_text.proofs.forms.total_within.Goals as goal

pub sum-total-requires-clause-each : goal.sum-total-requires-clause-each
sum-total-requires-clause-each c = each-by-place (λ x. pos 0 ≤ℤ x) (pos 0) c.args.weights.now (λ i l. (c.requires.small i (pos 0) l).0)

pub sum-total-requires-clause-most : goal.sum-total-requires-clause-most
sum-total-requires-clause-most c =
    let each = each-by-place (λ x. (pos 0 ≤ℤ x) × (x ≤ℤ pos 1048576)) (pos 0) c.args.weights.now (λ i l. c.requires.small i (pos 0) l) in
    let few = c.requires.few in
    omega (arith, ints, sum-most 1048576 c.args.weights.now each)
