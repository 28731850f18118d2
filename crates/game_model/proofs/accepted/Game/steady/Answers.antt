use Rattle.std.proofs.Common.{arith, ◌≤◌, ◌^◌}
use Rattle.std.specs.Prelude.{unsigned_abs}
use Rattle.game_model.specs.Bounds.{IsWithinSpan}
use Rattle.game_model.proofs.Pay.{each-from}
use Rattle.game_model.proofs.accepted.Game.steady.Goals as goal

pub returns-clause-small : goal.returns-clause-small
returns-clause-small c =
    each-from (IsWithinSpan c.args.self.now) (λ x. unsigned_abs x ≤ 2 ^ 70) c.settle.new.out (λ x within. omega (arith, within, c.law_game.ensures.small_span)) c.settle.ensures.bounded.each
