-- What the code forms on the way to the numbers of a point.
use Rattle.std.proofs.Common.{◌≡◌, ℕ, ◌*◌, ◌^◌, ◌<◌, ◌≤◌, List, ap, arith, sym, subst, ◌∙◌}
use Rattle.std.specs.Prelude.{ℤ, pos, neg_ℤ, ◌+ℤ◌, ◌*ℤ◌, ◌≤ℤ◌, ◌<ℤ◌, unsigned_abs, FitsSigned}
use Rattle.std.specs.Int.{w128}
use Rattle.std.proofs.lemmas.Int.{ints, fits_signed_from_abs}
use Rattle.std.proofs.lemmas.Nat.{mul-le}
use Rattle.scaled_num.specs.Share.{at}
use Rattle.scaled_num.specs.Sums.{sum_of}
use Rattle.scaled_num.proofs.Products.{abs-add, magnitude-is}
use Rattle.game_model.specs.Game.{GameData, IsBelief, IsGame, span}
use Rattle.point_set.specs.Members.{most_points}
use Rattle.point_set.specs.Points.{PointData, PointFits}
use Rattle.stage_game.specs.Asked.{AreBits}
use Rattle.stage_game.specs.PointParts.{Part}
use Rattle.stage_game.specs.Scaling.{ceil_of, scale, width}
use Rattle.stage_game.proofs.BeliefShares.{belief-quotient, part-of}
use Rattle.stage_game.proofs.LowerNumbers.{bits-few}
use Rattle.stage_game.proofs.Sizes.{limits, number-fits, product-is, roomy, wideness}
use Rattle.stage_game.proofs.UpperNumbers.{worth-is}

pub record PointNumbers (g : GameData) (bits : ℕ) (point : PointData) (times raise whole wide : ℤ) : Type 0 where
  pub times_fits : FitsSigned w128 times
  pub raise_fits : FitsSigned w128 raise
  pub whole_fits : FitsSigned w128 whole
  pub wide_fits : FitsSigned w128 wide
  pub value_fits : FitsSigned w128 point.value
  pub lift_fits : FitsSigned w128 (raise *ℤ whole)
  pub sum_fits : FitsSigned w128 (point.value +ℤ raise *ℤ whole)
  pub worth_fits : FitsSigned w128 (times *ℤ (point.value +ℤ raise *ℤ whole))
  pub divisor_fits : FitsSigned w128 (wide *ℤ whole)
  pub some : pos 0 <ℤ whole
  pub low : pos 0 ≤ℤ (times *ℤ (point.value +ℤ raise *ℤ whole))
  pub room : (times *ℤ (point.value +ℤ raise *ℤ whole)) ≤ℤ pos (2 ^ 126)
  pub divisor : pos 0 <ℤ (wide *ℤ whole)
  pub is :
      neg_ℤ (ceil_of (times *ℤ (point.value +ℤ raise *ℤ whole)) (wide *ℤ whole))
      ≡ neg_ℤ (ceil_of (scale bits *ℤ (point.value +ℤ pos (span g) *ℤ sum_of point.belief)) (width g *ℤ sum_of point.belief))

within-small : (v : ℤ) (m : ℕ) → (neg_ℤ (pos m)) ≤ℤ v → v ≤ℤ pos m → unsigned_abs v ≤ m
within-small v m l h = omega (arith, ints)

pub point-numbers : (g : GameData) → IsGame g → (bits : ℕ) → AreBits bits → (point : PointData) → PointFits g most_points point →
    (times raise whole wide : ℤ) → times ≡ scale bits → raise ≡ pos (span g) → whole ≡ sum_of point.belief → wide ≡ width g → PointNumbers g bits point times raise whole wide
point-numbers g h bits b point fits times raise whole wide e1 e2 e3 e4 =
    let n = limits g h in
    let total : ℤ = sum_of point.belief in
    let w : ℕ = unsigned_abs total in
    let first : pos 1 ≤ℤ total = fits.belief.sums.0 in
    let most : total ≤ℤ pos (2 ^ 20) = fits.belief.sums.1 in
    let total_is : total ≡ pos w = magnitude-is total (omega (arith, ints)) in
    let w_small : w ≤ 2 ^ 20 = omega (arith, ints) in
    let whole_is : whole ≡ pos w = e3 ∙ total_is in
    let lift_is : raise *ℤ whole ≡ pos (span g * w) = product-is raise whole (span g) w e2 whole_is in
    let spread : pos (span g) *ℤ total ≡ pos (span g * w) = ap (λ (z : ℤ). pos (span g) *ℤ z) total_is in
    let lift_size : span g * w ≤ 2 ^ 66 * 2 ^ 20 = mul-le (span g) w (2 ^ 66) (2 ^ 20) n.span_small w_small in
    let value_size : unsigned_abs point.value ≤ span g * w =
    within-small point.value (span g * w) (subst (λ (z : ℤ). neg_ℤ z ≤ℤ point.value) spread fits.value.0) (subst (λ (z : ℤ). point.value ≤ℤ z) spread fits.value.1) in
    let sum_is : point.value +ℤ raise *ℤ whole ≡ point.value +ℤ pos (span g) *ℤ total =
    ap (λ (z : ℤ). point.value +ℤ z) (lift_is ∙ sym spread) in
    let sum_size : unsigned_abs (point.value +ℤ pos (span g * w)) ≤ 2 ^ 87 = omega (arith, abs-add point.value (pos (span g * w))) in
    let worth_is : times *ℤ (point.value +ℤ raise *ℤ whole) ≡ scale bits *ℤ (point.value +ℤ pos (span g) *ℤ total) =
    ap (λ (z : ℤ). z *ℤ (point.value +ℤ raise *ℤ whole)) e1 ∙ ap (λ (z : ℤ). scale bits *ℤ z) sum_is in
    let divisor_is : wide *ℤ whole ≡ width g *ℤ total = ap (λ (z : ℤ). z *ℤ whole) e4 ∙ ap (λ (z : ℤ). width g *ℤ z) e3 in
    let q = worth-is g h bits b point fits in
    let small = q.small in
    let divisor_small = q.divisor_small in
    record {
      times_fits = number-fits times (2 ^ bits) e1 (omega (arith, bits-few bits b));
      raise_fits = number-fits raise (span g) e2 (omega (arith, n.span_small));
      whole_fits = number-fits whole w whole_is (omega arith);
      wide_fits = number-fits wide (wideness g) e4 (omega (arith, n.span_small));
      value_fits = fits_signed_from_abs w128 point.value (omega arith);
      lift_fits = number-fits _ (span g * w) lift_is (omega arith);
      sum_fits = rw lift_is (fits_signed_from_abs w128 (point.value +ℤ pos (span g * w)) (omega arith));
      worth_fits = rw worth_is (fits_signed_from_abs w128 _ (omega arith));
      divisor_fits = rw divisor_is (fits_signed_from_abs w128 _ (omega arith));
      some = rw e3 (omega (arith, ints));
      low = subst (λ (z : ℤ). pos 0 ≤ℤ z) (sym worth_is) q.low;
      room = subst (λ (z : ℤ). z ≤ℤ pos (2 ^ 126)) (sym worth_is) (roomy q);
      divisor = subst (λ (z : ℤ). pos 0 <ℤ z) (sym divisor_is) q.divisor;
      is = ap (λ (z : ℤ). neg_ℤ (ceil_of z (wide *ℤ whole))) worth_is ∙ ap (λ (z : ℤ). neg_ℤ (ceil_of (scale bits *ℤ (point.value +ℤ pos (span g) *ℤ total)) z)) divisor_is;
    }

-- a part of the belief
pub record ShareFits (bits : ℕ) (belief : List ℤ) (i : ℕ) : Type 0 where
  pub part_fits : FitsSigned w128 (at belief i)
  pub product_fits : FitsSigned w128 (scale bits *ℤ at belief i)

pub share-fits : (states : ℕ) (belief : List ℤ) → IsBelief states belief → (bits : ℕ) → AreBits bits → (i : ℕ) → i < states → ShareFits bits belief i
share-fits states belief right bits b i l =
    let p = part-of states belief right i l in
    let low = p.low in
    let high = p.high in
    let most = p.most in
    let q = belief-quotient states belief right bits (bits-few bits b) i l in
    let small = q.small in
    record {
      part_fits = omega (arith, ints);
      product_fits = fits_signed_from_abs w128 (scale bits *ℤ at belief i) (omega arith);
    }

abbrev pub part : ℤ → List ℤ → Part
part own block = record { own = own; block = block }

-- a part made of equal numbers
pub part-made : (own other : ℤ) (block blocks : List ℤ) → own ≡ other → block ≡ blocks → part own block ≡ part other blocks
part-made own other block blocks e f = ap (λ (x : ℤ). part x block) e ∙ ap (λ (xs : List ℤ). part other xs) f
