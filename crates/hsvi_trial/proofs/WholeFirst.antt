-- The first belief, times the mix total.
use Rattle.std.proofs.Common.{◌≡◌, ℕ, ◌+◌, ◌*◌, ◌^◌, ◌<◌, ◌≤◌, List, [], ◌∷◌, ◌++◌, length, map, set, take, ap, ap₂, sym, subst, ◌∙◌, arith, add-one}
use Rattle.std.proofs.Math.Nat.{mul-le-mul}
use Rattle.std.proofs.Math.Seq.{take-length, take-suc}
use Rattle.std.proofs.lemmas.Int.{fits_signed_from_abs, ints, unsigned_abs-mul}
use Rattle.std.proofs.lemmas.List.{length-map, map-append, take_more_set}
use Rattle.std.specs.Int.{w128}
use Rattle.std.specs.List.{AllByRecursion}
use Rattle.std.specs.Prelude.{ℤ, pos, neg_ℤ, FitsSigned, slice_index_or, unsigned_abs, ◌-ℤ◌, ◌*ℤ◌, ◌≤ℤ◌}
use Rattle.scaled_num.specs.Sums.{sum_of}
use Rattle.scaled_num.proofs.Sums.{each-at, each-map, total-map, total-scale}
use Rattle.scaled_num.proofs.Products.{mulℤ_left_comm}
use Rattle.controller.specs.Certificates.{FractionData, IsGap, first_total}
use Rattle.game_model.specs.Branches.{mix_total}
use Rattle.game_model.specs.Game.{GameData, IsGame, IsMass, IsWithin, span}
use Rattle.game_model.specs.Limits.{most_belief}
use Rattle.game_model.specs.Spans.{IsWithinSpan}
use Rattle.game_model.proofs.Pay.{each-from}
use Rattle.point_set.specs.Corners.{point_at}
use Rattle.point_set.specs.Members.{most_points}
use Rattle.point_set.specs.Points.{PointData, PointFits, no_point}
use Rattle.point_set.proofs.Masses.{belief-total}
use Rattle.hsvi_trial.specs.Least.{IsLeastAt}
use Rattle.hsvi_trial.specs.Starts.{whole_first}

abbrev pub times_mix : ℤ → ℤ
times_mix x = pos mix_total *ℤ x

pub whole-more : (first out : List ℤ) (s : ℕ) (y : ℤ) → s < length first → s < length out → y ≡ times_mix (slice_index_or first s (pos 0)) → take s out ≡ map times_mix (take s first) →
    take (s + 1) (set out s y) ≡ map times_mix (take (s + 1) first)
whole-more first out s y l k e h =
    take_more_set out s y k
    ∙ ap₂ (λ (xs : List ℤ) (x : ℤ). xs ++ x ∷ []) h e
    ∙ sym (map-append times_mix (take s first) (slice_index_or first s (pos 0) ∷ []))
    ∙ ap (map times_mix) (sym (ap (λ (n : ℕ). take n first) (add-one s) ∙ take-suc first s (pos 0) l))

pub whole-end : (first out : List ℤ) (n : ℕ) → n ≡ length first → length out ≡ length first → take n out ≡ map times_mix (take n first) → out ≡ map times_mix first
whole-end first out n e long h =
    sym (subst (λ (m : ℕ). take m out ≡ out) (long ∙ sym e) (take-length out)) ∙ h ∙ ap (map times_mix) (subst (λ (m : ℕ). take m first ≡ first) (sym e) (take-length first))

pub term-fits : (x : ℤ) → IsWithin (pos 0) (pos most_belief) x → FitsSigned w128 (times_mix x)
term-fits x h = fits_signed_from_abs w128 (times_mix x) (omega (arith, small x h))
  where
    small : (x : ℤ) → IsWithin (pos 0) (pos (2 ^ 20)) x → unsigned_abs (pos 65536 *ℤ x) ≤ 2 ^ 36
    small x h = let a = h.0 in let b = h.1 in omega (arith, ints)

pub whole-sum : (g : GameData) → sum_of (whole_first g) ≡ pos mix_total *ℤ sum_of g.first
whole-sum g = total-map (λ x. x) times_mix g.first ∙ total-scale (pos mix_total) (λ x. x) g.first

pub whole-mass : (g : GameData) → IsGame g → IsMass g (whole_first g)
whole-mass g game = record {
  long = length-map g.first times_mix ∙ game.first.long;
  each = each-map (λ x. pos 0 ≤ℤ x) times_mix g.first (each-from (IsWithin (pos 0) (pos most_belief)) (λ x. pos 0 ≤ℤ times_mix x) g.first low game.first.each);
  most = subst (λ (z : ℤ). z ≤ℤ (pos (2 ^ 36) *ℤ g.shape.row_total)) (sym (whole-sum g)) (most (sum_of g.first) g.shape.row_total game.first.sums.1 game.shape.row_total.0);
}
  where
    low : (x : ℤ) → IsWithin (pos 0) (pos most_belief) x → pos 0 ≤ℤ times_mix x
    low x h = let a = h.0 in omega (arith, ints)

    most : (b d : ℤ) → b ≤ℤ pos (2 ^ 20) → pos 1 ≤ℤ d → (pos 65536 *ℤ b) ≤ℤ (pos (2 ^ 36) *ℤ d)
    most b d h l = omega (arith, ints)

-- the value of the first point of least value there
pub root-within : (g : GameData) (points : List PointData) (count root : ℕ) → AllByRecursion (PointFits g most_points) points → count ≡ length points → IsLeastAt points g.first count root →
    IsWithin (neg_ℤ (pos (span g) *ℤ sum_of g.first)) (pos (span g) *ℤ sum_of g.first) (point_at points root).value
root-within g points count root fit is least =
    let fits : PointFits g most_points (point_at points root) = each-at (PointFits g most_points) no_point points root fit (subst (λ (n : ℕ). root < n) is least.inside) in
    subst (λ (b : List ℤ). IsWithin (neg_ℤ (pos (span g) *ℤ sum_of b)) (pos (span g) *ℤ sum_of b) (point_at points root).value) least.here fits.value

span-small : (V : ℕ) (b x : ℤ) → V ≤ 2 ^ 66 → pos 0 ≤ℤ b → b ≤ℤ pos (2 ^ 20) → IsWithin (neg_ℤ (pos V *ℤ b)) (pos V *ℤ b) x → unsigned_abs x ≤ 2 ^ 66 * 2 ^ 20
span-small V b x small low high h =
    let few : unsigned_abs b ≤ 2 ^ 20 = omega (arith, ints) in
    let size : V * unsigned_abs b ≤ 2 ^ 66 * 2 ^ 20 = mul-le-mul {n₁ = V} small few in
    let is : unsigned_abs (pos V *ℤ b) ≡ V * unsigned_abs b = unsigned_abs-mul (pos V) b in
    between (pos V *ℤ b) x (V * unsigned_abs b) is h size
  where
    between : (m x : ℤ) (n : ℕ) → unsigned_abs m ≡ n → IsWithin (neg_ℤ m) m x → n ≤ 2 ^ 66 * 2 ^ 20 → unsigned_abs x ≤ 2 ^ 66 * 2 ^ 20
    between m x n e h l = let a = h.0 in let b = h.1 in omega (arith, ints)

pub first-small : (g : GameData) → IsGame g → span g ≤ 2 ^ 66 → (x : ℤ) → IsWithinSpan g g.first x → unsigned_abs x ≤ 2 ^ 66 * 2 ^ 20
first-small g game small x h = span-small (span g) (sum_of g.first) x small (let a = game.first.sums.0 in omega (arith, ints)) game.first.sums.1 h

pub times-fits : (x : ℤ) → unsigned_abs x ≤ 2 ^ 66 * 2 ^ 20 → FitsSigned w128 (times_mix x)
times-fits x h = fits_signed_from_abs w128 (times_mix x) (omega (arith, more x h))
  where
    more : (x : ℤ) → unsigned_abs x ≤ 2 ^ 86 → unsigned_abs (pos 65536 *ℤ x) ≤ 2 ^ 102
    more x h = omega (arith, ints)

pub whole-within : (g : GameData) (x : ℤ) → IsWithinSpan g g.first x → IsWithinSpan g (whole_first g) (times_mix x)
whole-within g x h =
    subst (λ (z : ℤ). IsWithin (neg_ℤ (pos (span g) *ℤ z)) (pos (span g) *ℤ z) (times_mix x)) (sym (whole-sum g))
    (subst (λ (z : ℤ). IsWithin (neg_ℤ z) z (times_mix x)) (turn (span g) (sum_of g.first)) (scaled (pos (span g) *ℤ sum_of g.first) x h))
  where
    scaled : (m x : ℤ) → IsWithin (neg_ℤ m) m x → IsWithin (neg_ℤ (pos 65536 *ℤ m)) (pos 65536 *ℤ m) (pos 65536 *ℤ x)
    scaled m x h = let a = h.0 in let b = h.1 in (omega (arith, ints), omega (arith, ints))

    turn : (V : ℕ) (b : ℤ) → pos 65536 *ℤ (pos V *ℤ b) ≡ pos V *ℤ (pos 65536 *ℤ b)
    turn V b = mulℤ_left_comm (pos 65536) (pos V) b

-- ---- the test of the bounds
mass-small : (V : ℕ) (b x : ℤ) → V ≤ 2 ^ 66 → pos 0 ≤ℤ b → b ≤ℤ pos (2 ^ 36) → IsWithin (neg_ℤ (pos V *ℤ b)) (pos V *ℤ b) x → unsigned_abs x ≤ 2 ^ 66 * 2 ^ 36
mass-small V b x small low high h =
    let few : unsigned_abs b ≤ 2 ^ 36 = omega (arith, ints) in
    let size : V * unsigned_abs b ≤ 2 ^ 66 * 2 ^ 36 = mul-le-mul {n₁ = V} small few in
    between (pos V *ℤ b) x (V * unsigned_abs b) (unsigned_abs-mul (pos V) b) h size
  where
    between : (m x : ℤ) (n : ℕ) → unsigned_abs m ≡ n → IsWithin (neg_ℤ m) m x → n ≤ 2 ^ 66 * 2 ^ 36 → unsigned_abs x ≤ 2 ^ 66 * 2 ^ 36
    between m x n e h l = let a = h.0 in let b = h.1 in omega (arith, ints)

pub record ClosedFits (high low total num den : ℤ) : Type 0 where
  pub raised : FitsSigned w128 (low *ℤ pos mix_total)
  pub apart : FitsSigned w128 (high -ℤ low *ℤ pos mix_total)
  pub left : FitsSigned w128 ((high -ℤ low *ℤ pos mix_total) *ℤ den)
  pub units : FitsSigned w128 (total *ℤ pos 65536)
  pub whole : FitsSigned w128 (pos mix_total *ℤ (total *ℤ pos 65536))
  pub right : FitsSigned w128 (num *ℤ (pos mix_total *ℤ (total *ℤ pos 65536)))

pub closed-fits : (g : GameData) → IsGame g → span g ≤ 2 ^ 66 → (gap : FractionData) → IsGap gap → (high low : ℤ) → IsWithinSpan g (whole_first g) high → IsWithinSpan g g.first low → ClosedFits high low (sum_of g.first) gap.num gap.den
closed-fits g game small gap is_gap high low h k = record {
  raised = fits_signed_from_abs w128 (low *ℤ pos mix_total) (omega (arith, raised-size low low_size));
  apart = fits_signed_from_abs w128 (high -ℤ low *ℤ pos mix_total) (omega (arith, distance));
  left = fits_signed_from_abs w128 ((high -ℤ low *ℤ pos mix_total) *ℤ gap.den) (omega (arith, left-size));
  units = fits_signed_from_abs w128 (sum_of g.first *ℤ pos 65536) (omega (arith, units-size (sum_of g.first) positive game.first.sums.1));
  whole = fits_signed_from_abs w128 (pos mix_total *ℤ (sum_of g.first *ℤ pos 65536)) (omega (arith, whole-size (sum_of g.first) positive game.first.sums.1));
  right = fits_signed_from_abs w128 (gap.num *ℤ (pos mix_total *ℤ (sum_of g.first *ℤ pos 65536))) (omega (arith, right-size));
}
  where
    positive : pos 0 ≤ℤ sum_of g.first
    positive = let a = game.first.sums.0 in omega (arith, ints)

    low_size : unsigned_abs low ≤ 2 ^ 66 * 2 ^ 20
    low_size = first-small g game small low k

    scaled-low : (b : ℤ) → pos 0 ≤ℤ b → pos 0 ≤ℤ (pos 65536 *ℤ b)
    scaled-low b h = omega (arith, ints)

    scaled-high : (b : ℤ) → b ≤ℤ pos (2 ^ 20) → (pos 65536 *ℤ b) ≤ℤ pos (2 ^ 36)
    scaled-high b h = omega (arith, ints)

    high_size : unsigned_abs high ≤ 2 ^ 66 * 2 ^ 36
    high_size = mass-small (span g) (pos mix_total *ℤ sum_of g.first) high small (scaled-low (sum_of g.first) positive) (scaled-high (sum_of g.first) game.first.sums.1)
        (subst (λ (z : ℤ). IsWithin (neg_ℤ (pos (span g) *ℤ z)) (pos (span g) *ℤ z) high) (whole-sum g) h)

    raised-size : (x : ℤ) → unsigned_abs x ≤ 2 ^ 66 * 2 ^ 20 → unsigned_abs (x *ℤ pos 65536) ≤ 2 ^ 102
    raised-size x h = omega (arith, ints)

    apart-size : (x y : ℤ) → unsigned_abs x ≤ 2 ^ 66 * 2 ^ 36 → unsigned_abs y ≤ 2 ^ 102 → unsigned_abs (x -ℤ y) ≤ 2 ^ 103
    apart-size x y h k = omega (arith, ints)

    distance : unsigned_abs (high -ℤ low *ℤ pos mix_total) ≤ 2 ^ 103
    distance = apart-size high (low *ℤ pos mix_total) high_size (raised-size low low_size)

    den-size : unsigned_abs gap.den ≤ 2 ^ 20
    den-size = let a = is_gap.1.0 in let b = is_gap.1.1 in omega (arith, ints)

    num-size : unsigned_abs gap.num ≤ 2 ^ 40
    num-size = let a = is_gap.0.0 in let b = is_gap.0.1 in omega (arith, ints)

    left-size : unsigned_abs ((high -ℤ low *ℤ pos mix_total) *ℤ gap.den) ≤ 2 ^ 103 * 2 ^ 20
    left-size = subst (λ (n : ℕ). n ≤ 2 ^ 103 * 2 ^ 20) (sym (unsigned_abs-mul (high -ℤ low *ℤ pos mix_total) gap.den)) (mul-le-mul {n₁ = unsigned_abs (high -ℤ low *ℤ pos mix_total)} distance den-size)

    units-size : (b : ℤ) → pos 0 ≤ℤ b → b ≤ℤ pos (2 ^ 20) → unsigned_abs (b *ℤ pos 65536) ≤ 2 ^ 36
    units-size b l h = omega (arith, ints)

    whole-size : (b : ℤ) → pos 0 ≤ℤ b → b ≤ℤ pos (2 ^ 20) → unsigned_abs (pos 65536 *ℤ (b *ℤ pos 65536)) ≤ 2 ^ 52
    whole-size b l h = omega (arith, ints)

    right-size : unsigned_abs (gap.num *ℤ (pos mix_total *ℤ (sum_of g.first *ℤ pos 65536))) ≤ 2 ^ 40 * 2 ^ 52
    right-size = subst (λ (n : ℕ). n ≤ 2 ^ 40 * 2 ^ 52) (sym (unsigned_abs-mul gap.num (pos mix_total *ℤ (sum_of g.first *ℤ pos 65536))))
        (mul-le-mul {n₁ = unsigned_abs gap.num} num-size (whole-size (sum_of g.first) positive game.first.sums.1))

-- the units of a bound's denominator
pub units-is : (g : GameData) → IsGame g → sum_of g.first *ℤ pos 65536 ≡ pos (first_total g * 65536)
units-is g game = ap (λ (z : ℤ). z *ℤ pos 65536) (belief-total g.shape.states g.first game.first) ∙ product (first_total g)
  where
    product : (n : ℕ) → pos n *ℤ pos 65536 ≡ pos (n * 65536)
    product n = omega (arith, ints)

pub total-some : (g : GameData) → IsGame g → 0 < first_total g
total-some g game = some (first_total g) (subst (λ (z : ℤ). pos 1 ≤ℤ z) (belief-total g.shape.states g.first game.first) game.first.sums.0)
  where
    some : (n : ℕ) → pos 1 ≤ℤ pos n → 0 < n
    some n h = omega (arith, ints)
