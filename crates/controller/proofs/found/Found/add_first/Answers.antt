use Rattle.std.proofs.Common.{◌≡◌, ℕ, ◌+◌, ◌<◌, arith, inl, inr}
use Rattle.std.specs.Prelude.{◌⊎◌}
use Rattle.game_model.proofs.Least.{last-or}
use Rattle.controller.proofs.Reaching.{find-both}
use Rattle.controller.proofs.found.Found.add_first.Goals as goal

pub loop-j-preserved : goal.loop-j-preserved
loop-j-preserved c =
    let n : ℕ = c.loop-j.j in
    find-both c.args.self.now.flags.items c.loop-j.self.flags.items c.add.new.self.flags.items c.args.self.now.numbers.items c.loop-j.self.numbers.items c.add.new.self.numbers.items
    (λ i. i < n) (λ i. i ≡ n) (λ i. i < n + 1) (λ i. (last-or i n, λ w. next i n w)) c.loop-j.invariant c.in_ok-add.ensures
  where
    next : (i n : ℕ) → (i < n) ⊎ (i ≡ n) → i < n + 1
    next i n (inl l) = omega arith
    next i n (inr e) = omega arith
