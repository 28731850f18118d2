-- The bound of one point: exactness and size.
use Rattle.std.proofs.Common.{◌≡◌, ℕ, ◌+◌, ◌*◌, ◌^◌, ◌<◌, ◌≤◌, List, [], ◌∷◌, length, refl, ap, arith, sym, subst, ◌∙◌}
use Rattle.std.specs.Prelude.{ℤ, pos, ◌+ℤ◌, ◌-ℤ◌, ◌*ℤ◌, ◌≤ℤ◌, unsigned_abs, FitsSigned, sum_by}
use Rattle.std.specs.Int.{w128}
use Rattle.std.specs.List.{AllByRecursion}
use Rattle.std.proofs.Math.Nat.{mul-le-mul_left, mul-le-mul_right}
use Rattle.std.proofs.lemmas.Int.{ints, fits_signed_from_abs, unsigned_abs-mul}
use Rattle.std.proofs.lemmas.Nat.{mul-le}
use Rattle.scaled_num.specs.Share.{at}
use Rattle.scaled_num.specs.Sums.{below, sum_of, total}
use Rattle.scaled_num.proofs.Ring.{ring, x, ◌⊕◌, ◌⊖◌, ◌⊗◌}
use Rattle.scaled_num.proofs.Sums.{each-at, total-below, total-below-le, total-places, total-pos, total-scale}
use Rattle.game_model.specs.Game.{IsBelief, IsWithin}
use Rattle.game_model.proofs.Pay.{each-from}
use Rattle.belief.specs.Beliefs.{weight_at}
use Rattle.point_set.specs.Bounds.{IsPriced, IsSized, cost_at, cost_less, cost_size}
use Rattle.point_set.specs.Sawtooth.{FitsTimes, IsMostTimes}
use Rattle.point_set.proofs.Masses.{sum-below-scaled}
use Rattle.point_set.proofs.Running.{at-most-sum, next-sum, total-size}
use Rattle.scaled_num.proofs.Products.{abs-add, magnitude-is}

-- ---- the sum as the code forms it
abbrev pub term : List ℤ → List ℤ → ℕ → ℤ
term weights values s = at weights s *ℤ at values s

pub record CostSoFar (weights values : List ℤ) (s : ℕ) (sum : ℤ) : Type 0 where
  pub is : sum ≡ total (term weights values) (below s)
  pub small : unsigned_abs sum ≤ sum_by (λ t. unsigned_abs (term weights values t)) (below s)

pub record NextCost (weights values : List ℤ) (s : ℕ) (sum : ℤ) : Type 0 where
  pub product_fits : FitsSigned w128 (at weights s *ℤ at values s)
  pub sum_fits : FitsSigned w128 (sum +ℤ at weights s *ℤ at values s)
  pub next : CostSoFar weights values (s + 1) (sum +ℤ at weights s *ℤ at values s)

pub next-cost : (weights values : List ℤ) (s : ℕ) (sum : ℤ) → s < length weights → cost_size weights values ≤ 2 ^ 124 → CostSoFar weights values s sum → NextCost weights values s sum
next-cost weights values s sum l room h =
    let f : ℕ → ℤ = term weights values in
    let size : ℕ → ℕ = λ t. unsigned_abs (term weights values t) in
    let n = next-sum f size s (length weights) (term weights values s) sum l refl (omega arith) room h.is h.small in
    record {
      product_fits = fits_signed_from_abs w128 (at weights s *ℤ at values s) (omega (arith, at-most-sum size s (length weights) l, room));
      sum_fits = n.sum_fits;
      next = record { is = n.is; small = n.small };
    }

-- ---- sizes
pub weights-sum : (xs : List ℤ) → AllByRecursion (λ x. pos 0 ≤ℤ x) xs → sum_of xs ≡ pos (sum_by (weight_at xs) (below (length xs)))
weights-sum xs h =
    sym (total-places (λ (x : ℤ). x) (pos 0) xs)
    ∙ total-below (length xs) (at xs) (λ s. pos (weight_at xs s)) (λ s l. magnitude-is (at xs s) (each-at (λ x. pos 0 ≤ℤ x) (pos 0) xs s h l))
    ∙ total-pos (weight_at xs) (below (length xs))

pub weights-cost : (weights values : List ℤ) (span : ℕ) → AllByRecursion (λ x. pos 0 ≤ℤ x) weights → ((s : ℕ) → s < length weights → unsigned_abs (at values s) ≤ span) → cost_size weights values ≤ span * unsigned_abs (sum_of weights)
weights-cost weights values span low each =
    subst (λ (n : ℕ). cost_size weights values ≤ span * n) (sym (ap unsigned_abs (weights-sum weights low)))
    (sum-below-scaled (λ s. unsigned_abs (term weights values s)) (weight_at weights) span (length weights) (λ s l.
    rw (unsigned_abs-mul (at weights s) (at values s)) (turn (weight_at weights s) (unsigned_abs (at values s)) (mul-le-mul_left (weight_at weights s) (each s l)))))
  where
    turn : (w v : ℕ) → w * v ≤ w * span → w * v ≤ span * w
    turn w v h = omega arith

pub belief-low : (n : ℕ) (belief : List ℤ) → IsBelief n belief → AllByRecursion (λ x. pos 0 ≤ℤ x) belief
belief-low n belief h = each-from (IsWithin (pos 0) (pos (2 ^ 20))) (λ x. pos 0 ≤ℤ x) belief (λ x w. w.0) h.each

light-total : (n : ℕ) (belief : List ℤ) → IsBelief n belief → unsigned_abs (sum_of belief) ≤ 2 ^ 20
light-total n belief h = let low = h.sums.0 in let high = h.sums.1 in omega (arith, ints)

pub mass-small : (most span : ℕ) (values mass : List ℤ) → IsPriced most span values mass → cost_size mass values ≤ 2 ^ 124
mass-small most span values mass h =
    let is : sum_of mass ≡ pos (sum_by (weight_at mass) (below (length mass))) = weights-sum mass h.low in
    let upto : unsigned_abs (sum_of mass) ≤ most = plain (sum_by (weight_at mass) (below (length mass))) (sum_of mass) is h.all in
    omega (arith, weights-cost mass values span h.low h.each, mul-le-mul_left span upto, h.room)
  where
    plain : (n : ℕ) (z : ℤ) → z ≡ pos n → z ≤ℤ pos most → unsigned_abs z ≤ most
    plain n z e l = omega (arith, ints)

pub belief-small : (values mass belief : List ℤ) (value : ℤ) → IsSized values mass belief value → cost_size belief values ≤ 2 ^ 124
belief-small values mass belief value h =
    let size = weights-cost belief values h.span (belief-low (length mass) belief h.right) (λ s l. h.priced.each s (subst (λ (n : ℕ). s < n) h.right.long l)) in
    omega (arith, size, mul-le h.span (unsigned_abs (sum_of belief)) (2 ^ 66) (2 ^ 20) h.priced.narrow (light-total (length mass) belief h.right))

-- a belief that fits so many times into a mass has no greater total than it, times that
pub times-low : (mass belief : List ℤ) (times : ℤ) → AllByRecursion (λ x. pos 0 ≤ℤ x) mass → IsMostTimes mass belief times → pos 0 ≤ℤ times
times-low mass belief times low h = h.most (pos 0) (λ s l. let part : pos 0 ≤ℤ at mass s = each-at (λ x. pos 0 ≤ℤ x) (pos 0) mass s low l in omega (arith, ints))

pub times-total : (mass belief : List ℤ) (times : ℤ) → length belief ≡ length mass → FitsTimes mass belief times → (times *ℤ sum_of belief) ≤ℤ sum_of mass
times-total mass belief times long h =
    let each = total-below-le (length mass) (λ s. times *ℤ at belief s) (at mass) h in
    let left : total (λ s. times *ℤ at belief s) (below (length mass)) ≡ times *ℤ sum_of belief =
    total-scale times (at belief) (below (length mass))
    ∙ ap (λ (n : ℕ). times *ℤ total (at belief) (below n)) (sym long)
    ∙ ap (λ (z : ℤ). times *ℤ z) (total-places (λ (y : ℤ). y) (pos 0) belief) in
    let right : total (at mass) (below (length mass)) ≡ sum_of mass = total-places (λ (y : ℤ). y) (pos 0) mass in
    omega (arith, ints, each, left, right)

times-room : (T B most span gap : ℕ) → T * B ≤ most → most * span ≤ 2 ^ 124 → gap ≤ 2 * (span * B) → T * gap ≤ 2 ^ 125
times-room T B most span gap fits room l =
    let first : T * gap ≤ T * (2 * (span * B)) = mul-le-mul_left T l in
    let second : T * B * span ≤ most * span = mul-le-mul_right span fits in
    omega arith

pub total-less : (f g : ℕ → ℤ) (ss : List ℕ) → total (λ s. f s -ℤ g s) ss ≡ total f ss -ℤ total g ss
total-less f g [] = refl
total-less f g (s ∷ ss) = omega (arith, ints, total-less f g ss)

-- the bound by the gap between the point and the corners
pub bound-is : (values mass belief : List ℤ) (value times : ℤ) → length belief ≡ length mass →
    cost_at mass values +ℤ times *ℤ (value -ℤ cost_at belief values) ≡ cost_less values mass belief value times
bound-is values mass belief value times long =
    sym (ap (λ (z : ℤ). times *ℤ value +ℤ z) (
    total-below (length mass) _ (λ s. term mass values s -ℤ times *ℤ term belief values s) (λ s l. part (at mass s) times (at belief s) (at values s))
    ∙ total-less (term mass values) (λ s. times *ℤ term belief values s) (below (length mass))
    ∙ ap (λ (z : ℤ). cost_at mass values -ℤ z) (total-scale times (term belief values) (below (length mass)) ∙ ap (λ (n : ℕ). times *ℤ total (term belief values) (below n)) (sym long)))
    ∙ whole (cost_at mass values) times value (cost_at belief values))
  where
    part : (m t b v : ℤ) → (m -ℤ t *ℤ b) *ℤ v ≡ m *ℤ v -ℤ t *ℤ (b *ℤ v)
    part m t b v = ring (m ∷ t ∷ b ∷ v ∷ []) ((x 0 ⊖ (x 1 ⊗ x 2)) ⊗ x 3) ((x 0 ⊗ x 3) ⊖ (x 1 ⊗ (x 2 ⊗ x 3))) (omega arith)

    whole : (m t v c : ℤ) → t *ℤ v +ℤ (m -ℤ t *ℤ c) ≡ m +ℤ t *ℤ (v -ℤ c)
    whole m t v c = ring (m ∷ t ∷ v ∷ c ∷ []) ((x 1 ⊗ x 2) ⊕ (x 0 ⊖ (x 1 ⊗ x 3))) (x 0 ⊕ (x 1 ⊗ (x 2 ⊖ x 3))) (omega arith)

-- the gap between a point and the corners
pub gap-size : (values mass belief : List ℤ) (value : ℤ) (h : IsSized values mass belief value) → unsigned_abs (value -ℤ cost_at belief values) ≤ 2 * (h.span * unsigned_abs (sum_of belief))
gap-size values mass belief value h =
    let size : cost_size belief values ≤ h.span * unsigned_abs (sum_of belief) =
    weights-cost belief values h.span (belief-low (length mass) belief h.right) (λ s l. h.priced.each s (subst (λ (n : ℕ). s < n) h.right.long l)) in
    omega (arith, abs-less value (cost_at belief values), h.within, size, total-size (term belief values) (below (length belief)))
  where
    abs-less : (a b : ℤ) → unsigned_abs (a -ℤ b) ≤ unsigned_abs a + unsigned_abs b
    abs-less a b = omega (arith, ints)

pub gap-narrow : (values mass belief : List ℤ) (value : ℤ) → IsSized values mass belief value → unsigned_abs (value -ℤ cost_at belief values) ≤ 2 ^ 87
gap-narrow values mass belief value h =
    omega (arith, gap-size values mass belief value h, mul-le h.span (unsigned_abs (sum_of belief)) (2 ^ 66) (2 ^ 20) h.priced.narrow (light-total (length mass) belief h.right))

-- all that the code forms fits
pub record BoundFits (values mass belief : List ℤ) (value times : ℤ) : Type 0 where
  pub cost_fits : FitsSigned w128 (cost_at belief values)
  pub base_fits : FitsSigned w128 (cost_at mass values)
  pub gap_fits : FitsSigned w128 (value -ℤ cost_at belief values)
  pub product_small : unsigned_abs (times *ℤ (value -ℤ cost_at belief values)) ≤ 2 ^ 125
  pub product_fits : FitsSigned w128 (times *ℤ (value -ℤ cost_at belief values))
  pub bound_fits : FitsSigned w128 (cost_at mass values +ℤ times *ℤ (value -ℤ cost_at belief values))

pub bound-fits : (values mass belief : List ℤ) (value times : ℤ) → IsSized values mass belief value → IsMostTimes mass belief times → BoundFits values mass belief value times
bound-fits values mass belief value times h most =
    let low = belief-low (length mass) belief h.right in
    let span : ℕ = h.span in
    let T : ℕ = unsigned_abs times in
    let B : ℕ = unsigned_abs (sum_of belief) in
    let priced = h.priced in
    let c : ℤ = cost_at belief values in
    let m : ℤ = cost_at mass values in
    let size : cost_size belief values ≤ span * B = weights-cost belief values span low (λ s l. priced.each s (subst (λ (n : ℕ). s < n) h.right.long l)) in
    let cost_size_is : unsigned_abs c ≤ span * B = omega (arith, size, total-size (term belief values) (below (length belief))) in
    let base_size : unsigned_abs m ≤ 2 ^ 124 = omega (arith, mass-small h.most span values mass priced, total-size (term mass values) (below (length mass))) in
    let gap : unsigned_abs (value -ℤ c) ≤ 2 * (span * B) = gap-size values mass belief value h in
    let small : span * B ≤ 2 ^ 86 = mul-le span B (2 ^ 66) (2 ^ 20) priced.narrow (light-total (length mass) belief h.right) in
    let fits : T * B ≤ h.most = plain times (sum_of belief) (sum_of mass) h.most (times-low mass belief times priced.low most) h.right.sums.0 (times-total mass belief times h.right.long most.fits) priced.all in
    let product : unsigned_abs (times *ℤ (value -ℤ c)) ≤ 2 ^ 125 = rw (unsigned_abs-mul times (value -ℤ c)) (times-room T B h.most span (unsigned_abs (value -ℤ c)) fits priced.room gap) in
    record {
      cost_fits = fits_signed_from_abs w128 c (omega arith);
      base_fits = fits_signed_from_abs w128 m (omega arith);
      gap_fits = fits_signed_from_abs w128 (value -ℤ c) (omega arith);
      product_small = product;
      product_fits = fits_signed_from_abs w128 (times *ℤ (value -ℤ c)) (omega arith);
      bound_fits = fits_signed_from_abs w128 (m +ℤ times *ℤ (value -ℤ c)) (omega (arith, abs-add m (times *ℤ (value -ℤ c))));
    }
  where
    plain : (t b s : ℤ) (most : ℕ) → pos 0 ≤ℤ t → pos 1 ≤ℤ b → (t *ℤ b) ≤ℤ s → s ≤ℤ pos most → unsigned_abs t * unsigned_abs b ≤ most
    plain t b s most p q l m = omega (arith, ints, unsigned_abs-mul t b, product t b p q)
      where
        product : (t b : ℤ) → pos 0 ≤ℤ t → pos 1 ≤ℤ b → t *ℤ b ≡ pos (unsigned_abs t * unsigned_abs b)
        product t b p q = ap (λ (z : ℤ). z *ℤ b) (magnitude-is t p) ∙ ap (λ (z : ℤ). pos (unsigned_abs t) *ℤ z) (magnitude-is b (omega (arith, ints)))

-- two greatest numbers of times are one
pub one-times : (mass belief : List ℤ) (t u : ℤ) → IsMostTimes mass belief t → IsMostTimes mass belief u → t ≡ u
one-times mass belief t u h k = same t u (k.most t h.fits) (h.most u k.fits)
  where
    same : (t u : ℤ) → t ≤ℤ u → u ≤ℤ t → t ≡ u
    same t u l m = omega (arith, ints)

-- each part of a light mass is light
sum-low : (xs : List ℤ) → AllByRecursion (λ x. pos 0 ≤ℤ x) xs → pos 0 ≤ℤ sum_of xs
sum-low [] h = omega (arith, ints)
sum-low (y ∷ ys) h = omega (arith, ints, h.0, sum-low ys h.1)

parts-light : (xs : List ℤ) → AllByRecursion (λ x. pos 0 ≤ℤ x) xs → sum_of xs ≤ℤ pos (2 ^ 100) → AllByRecursion (λ x. x ≤ℤ pos (2 ^ 100)) xs
parts-light [] h l = tt
parts-light (y ∷ ys) h l =
    let low = h.0 in
    (omega (arith, ints, sum-low ys h.1), parts-light ys h.1 (omega (arith, ints)))

pub mass-light : (most span : ℕ) (values mass : List ℤ) → IsPriced most span values mass → AllByRecursion (λ x. x ≤ℤ pos (2 ^ 100)) mass
mass-light most span values mass h = parts-light mass h.low (omega (arith, ints, h.all, h.light))
