use Rattle.scaled_num.proofs.Sums.{each-at}
use Rattle.std.proofs.Common.{◌<◌, ℕ}
use Rattle.belief.proofs.Choices.{choose-next}
use Rattle.belief.proofs.mixes.choose.Goals as goal

pub loop-s-preserved : goal.loop-s-preserved
loop-s-preserved c =
    let next = choose-next c.args.actions c.args.choice.now c.loop-s.s c.loop-s.weights c.loop-s-test.true
    (each-at (λ (x : ℕ). x < c.args.actions) 0 c.args.choice.now c.loop-s.s c.requires.chosen c.loop-s-test.true) c.loop-s.invariant in
    cc
