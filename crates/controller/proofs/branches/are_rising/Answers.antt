use Rattle.std.proofs.Common.{◌≡◌, true, arith, rules}
use Rattle.std.specs.Prelude.{pos}
use Rattle.game_model.specs.Branches.{branch_of}
use Rattle.controller.proofs.Lists.{before-at, rising-from}
use Rattle.controller.proofs.branches.are_rising.Goals as goal

pub returns-then-not-is_before : goal.returns-then-not-is_before
returns-then-not-is_before c = (
  λ t. cc,
  λ h. let yes : c.is_before.result ≡ true = c.is_before.ensures.1 (before-at branch_of (record { a = 0; o = 0; k = 0; weight = pos 0 }) c.args.branches.now c.loop-i.i c.loop-i.auto.i c.loop-i-test.true h) in cc,
)

pub returns : goal.returns
returns c = (
  λ t. rising-from branch_of (record { a = 0; o = 0; k = 0; weight = pos 0 }) c.args.branches.now (λ k l. c.loop-i.invariant k (omega arith)),
  λ h. search rules,
)
