use Rattle.std.proofs.Common.{arith, pos, ◌≤ℤ◌}
use Rattle.std.proofs.lemmas.Int.{ints}
use Rattle.scaled_num.proofs.Each.{each-by-place}
use Rattle.scaled_num.proofs.Sums.{sum-most}
use Rattle.cert_text.proofs.guards.belief_total.Goals as goal

pub sum-requires-clause-most : goal.sum-requires-clause-most
sum-requires-clause-most c =
    let each = each-by-place (λ n. (pos 0 ≤ℤ n) × (n ≤ℤ pos 1048576)) (pos 0) c.args.parts.now (λ i l. c.requires.small i (pos 0) l) in
    let few = c.requires.few in
    omega (arith, ints, sum-most 1048576 c.args.parts.now each)
