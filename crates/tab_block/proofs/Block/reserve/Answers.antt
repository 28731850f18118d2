use Rattle.std.proofs.Common.{◌≡◌, ◌≤◌, ◌*◌, ℕ, ap, arith, length, ◌∙◌}
use Rattle.tab_block.proofs.Block.reserve.Goals as goal

pub invariant_of-self : goal.invariant_of-self
invariant_of-self c =
    record {
      width = c.self.invariant.width;
      filled = ap length c.in_ok-self-inside.ensures.items ∙ none c.self.inside.width;
      room = omega (arith, none c.self.inside.width);
      reserved = omega (arith, c.in_ok-self-inside.ensures.capacity);
      most = c.requires.most;
    }
  where
    none : (w : ℕ) → 0 ≡ 0 * w
    none w = omega arith
