use Rattle.std.proofs.Common.{arith, pos, ◌≤ℤ◌}
use Rattle.std.proofs.lemmas.Int.{ints}
use Rattle.scaled_num.proofs.Each.{each-by-place}
use Rattle.scaled_num.proofs.Sums.{sum-most}
use Rattle.cert_text.proofs.guards.sums_to_mix.Goals as goal

pub sum-requires-clause-most : goal.sum-requires-clause-most
sum-requires-clause-most c =
    let each = each-by-place (λ n. (pos 0 ≤ℤ n) × (n ≤ℤ pos 65536)) (pos 0) c.args.weights.now (λ i l. c.requires.small i (pos 0) l) in
    let few = c.requires.few in
    omega (arith, ints, sum-most 65536 c.args.weights.now each)
