use Rattle.std.proofs.Common.{◌≡◌, ℕ, length, subst, true}
use Rattle.std.specs.Prelude.{slice_index}
use Rattle.point_set.proofs.Rests.{corner-is}
use Rattle.point_set.specs.Split.{is_corner}
use Rattle.closing.proofs.wishes.is_current.Goals as goal

pub returns-then-corner-k : goal.returns-then-corner-k
returns-then-corner-k c =
    let corners : ℕ → ℕ = λ s. slice_index c.args.corners.now s in
    let same : corners c.loop-corner.corner-index ≡ c.args.k = c.if-corner-k.true in
    λ _. subst (λ (k : ℕ). is_corner corners (length c.args.corners.now) k ≡ true) same
    (corner-is corners (length c.args.corners.now) c.loop-corner.corner-index c.loop-corner-test.true)
