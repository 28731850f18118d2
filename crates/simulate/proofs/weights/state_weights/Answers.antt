use Rattle.std.proofs.Common.{ℕ, arith}
use Rattle.std.specs.Prelude.{unsigned_abs}
use Rattle.std.proofs.lemmas.List.FromFn.{map-range_with_len_more}
use Rattle.belief.specs.Mixes.{mix_at}
use Rattle.simulate.proofs.weights.state_weights.Goals as goal

pub loop-c-preserved : goal.loop-c-preserved
loop-c-preserved c =
    let more = map-range_with_len_more (λ (i : ℕ). unsigned_abs (mix_at c.args.mixes.now c.args.s i)) 0 c.loop-c.c c.loop-c.c (omega arith) in
    grind (arith, more, c.in_ok-push.ensures.items, c.loop-c.invariant)
