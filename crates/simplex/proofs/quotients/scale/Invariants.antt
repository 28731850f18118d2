use Rattle.std.proofs.Common.{◌≡◌, ℕ, ◌<◌, ◌≤◌, ◌*ℤ◌}
use Rattle.simplex.specs.Program.{at, IsNarrow}
use Rattle.simplex.proofs.quotients.scale.Given as goal

abbrev pub invariant-loop-place : goal.invariant-loop-place
invariant-loop-place l = record {
  done : (k : ℕ) → k < l.place → at l.numbers k ≡ l.factor *ℤ at l.initial.numbers k;
  narrow : (k : ℕ) → k < l.place → IsNarrow (at l.numbers k);
  left : (k : ℕ) → l.place ≤ k → at l.numbers k ≡ at l.initial.numbers k;
}
