use Rattle.std.specs.Prelude.{ℕ, cond, pos, slice_index_or, unsigned_abs, ◌<◌, ◌==◌, ◌≡◌}
use Rattle.cert_check.proofs.members.is_corner.Given as goal

abbrev pub invariant-loop-s : goal.invariant-loop-s
invariant-loop-s l = (t : ℕ) → t < l.s → unsigned_abs (slice_index_or l.parts t (pos 0)) ≡ cond (t == l.fn.j) 1 0
