use Rattle.std.specs.Prelude.{IfSome, ◌<◌}
use Rattle.closing.proofs.bases.Basis.shortest.Given as goal

abbrev pub invariant-loop-place : goal.invariant-loop-place
invariant-loop-place l = IfSome l.found (λ place. place < 16)
