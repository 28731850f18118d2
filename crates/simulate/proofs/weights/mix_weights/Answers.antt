use Rattle.std.proofs.Common.{ℕ, arith}
use Rattle.std.specs.Prelude.{pos, slice_index_or, unsigned_abs}
use Rattle.std.proofs.lemmas.List.FromFn.{map-range_with_len_more}
use Rattle.simulate.proofs.weights.mix_weights.Goals as goal

pub loop-a-preserved : goal.loop-a-preserved
loop-a-preserved c =
    let more = map-range_with_len_more (λ (a : ℕ). unsigned_abs (slice_index_or c.args.mix.now a (pos 0))) 0 c.loop-a.a c.loop-a.a (omega arith) in
    grind (arith, more, c.in_ok-push.ensures.items, c.loop-a.invariant)
