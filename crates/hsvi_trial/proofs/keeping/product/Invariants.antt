use Rattle.std.proofs.Common.{unsigned_abs, ◌^◌, ◌≡◌, ◌≤◌, ◌*◌}
use Rattle.scaled_num.specs.Sums.{below, total}
use Rattle.game_model.proofs.FirstProduct.{term}
use Rattle.hsvi_trial.proofs.keeping.product.Given as goal

abbrev pub invariant-loop-s : goal.invariant-loop-s
invariant-loop-s l = record {
  so_far : l.sum ≡ total (term l.belief l.vector) (below l.s);
  bounded : unsigned_abs l.sum ≤ l.s * 2 ^ 90;
}
