use Rattle.std.proofs.Common.{arith, rules}
use Rattle.controller.proofs.StartTests.{pair-before, pairs_rise-from}
use Rattle.controller.proofs.starts.are_rising.Goals as goal

pub returns-then-starts-i : goal.returns-then-starts-i
returns-then-starts-i c = (
  λ t. cc,
  λ h. absurd (omega (arith, c.if-starts-i.true, pair-before c.args.starts.now c.loop-i.i c.loop-i.auto.i c.loop-i-test.true h)),
)

pub returns : goal.returns
returns c = (
  λ t. pairs_rise-from c.args.starts.now (λ k l. c.loop-i.invariant k (omega arith)),
  λ h. search rules,
)
