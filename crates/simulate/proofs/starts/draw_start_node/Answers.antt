use Rattle.std.proofs.Common.{ℕ, arith}
use Rattle.std.specs.Prelude.{ℤ, unsigned_abs}
use Rattle.std.proofs.lemmas.List.Sums.{sum-map}
use Rattle.simulate.proofs.Begun.{from-sum}
use Rattle.simulate.proofs.starts.draw_start_node.Goals as goal

pub draw_member-requires-clause-some : goal.draw_member-requires-clause-some
draw_member-requires-clause-some c =
    let k = c.args.certificate.now in
    let ends = from-sum k c.args.game.now c.requires.fits in
    grind (arith, c.in_ok-weights.ensures, sum-map (λ (start : ℕ × ℤ). unsigned_abs start.1) k.start_nodes, ends.0)

pub draw_member-requires-clause-most : goal.draw_member-requires-clause-most
draw_member-requires-clause-most c =
    let k = c.args.certificate.now in
    let ends = from-sum k c.args.game.now c.requires.fits in
    grind (arith, c.in_ok-weights.ensures, sum-map (λ (start : ℕ × ℤ). unsigned_abs start.1) k.start_nodes, ends.1)
