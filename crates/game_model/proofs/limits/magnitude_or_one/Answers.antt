use Rattle.std.proofs.Common.{◌≡◌, ◌∙◌, max, arith}
use Rattle.std.specs.Prelude.{pos, unsigned_abs, ℤ, FitsSigned}
use Rattle.std.specs.Int.{w128, int_max}
use Rattle.std.proofs.lemmas.Int.{ints, to_z-of_z, fits_signed_from_abs}
use Rattle.game_model.proofs.Width.{greater_is, greater_small, reward_fits}
use Rattle.game_model.proofs.limits.magnitude_or_one.Goals as goal

pub returns : goal.returns
returns c =
    let r : ℤ = c.args.reward in
    let r_fits : FitsSigned w128 r = c.ranges.reward in
    let v_fits : FitsSigned w128 (pos (unsigned_abs r)) = reward_fits r c.requires in
    let v : c.abs.result ≡ pos (unsigned_abs r) = simp to_z-of_z at c.abs.ensures.value in
    let m : c.max.result ≡ int_max (pos (unsigned_abs r)) (pos 1) = simp (v, to_z-of_z) at c.max.ensures.value in
    let m_fits : FitsSigned w128 (pos (max 1 (unsigned_abs r))) = fits_signed_from_abs w128 (pos (max 1 (unsigned_abs r))) (omega (arith, ints, greater_small r c.requires)) in
    simp (m ∙ greater_is (unsigned_abs r), to_z-of_z)
