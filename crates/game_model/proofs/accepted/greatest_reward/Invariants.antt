use Rattle.std.proofs.Common.{◌≡◌, ◌^◌, max, take}
use Rattle.std.specs.List.{fold}
use Rattle.std.specs.Prelude.{pos, unsigned_abs, ◌≤ℤ◌}
use Rattle.game_model.proofs.accepted.greatest_reward.Given as goal

abbrev pub invariant-loop-entry : goal.invariant-loop-entry
invariant-loop-entry l = record {
  bounded : l.most ≤ℤ pos (2 ^ 30);
  greatest : l.most ≡ pos (fold (λ most e. max most (unsigned_abs e.reward)) 0 (take l.entry-index l.entries));
}
