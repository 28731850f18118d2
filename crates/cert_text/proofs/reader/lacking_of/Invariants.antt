use Rattle.std.proofs.Common.{◌≡◌, ◌<◌, ◌/◌, ℕ, pos, length}
use Rattle.std.specs.Prelude.{slice_index_or, All, ◌≤ℤ◌}
use Rattle.cert_text.proofs.reader.lacking_of.Given as goal

abbrev pub invariant-loop-i : goal.invariant-loop-i
invariant-loop-i l = record {
  done : (k : ℕ) → k < l.i → slice_index_or l.lacking k (pos 0) ≡ slice_index_or l.weights (k / l.observations) (pos 0);
  small : All (λ x. (pos 0 ≤ℤ x) × (x ≤ℤ pos 65536)) l.lacking;
  long : length l.lacking ≡ 48;
}
