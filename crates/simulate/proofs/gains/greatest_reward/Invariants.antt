use Rattle.std.proofs.Common.{◌≡◌, max, take}
use Rattle.std.specs.Prelude.{fold, unsigned_abs}
use Rattle.simulate.proofs.gains.greatest_reward.Given as goal

abbrev pub invariant-loop-triple : goal.invariant-loop-triple
invariant-loop-triple l = l.most ≡ fold (λ most reward. max most (unsigned_abs reward)) 0 (take l.triple l.game.rewards)
