-- A point whose value is lowered to what one stage costs fits, and all points stand.
use Rattle.std.proofs.Common.{◌≡◌, ℕ, zero, suc, ◌+◌, ◌-◌, ◌*◌, ◌<◌, ◌≤◌, ◌⊎◌, inl, inr, List, [], ◌∷◌, length, get_or, set, refl, ap, arith, sym, subst, ◌∙◌}
use Rattle.std.specs.Prelude.{ℤ, pos, neg_ℤ, ◌+ℤ◌, ◌-ℤ◌, ◌*ℤ◌, ◌≤ℤ◌, ◌<ℤ◌, unsigned_abs}
use Rattle.std.specs.Int.{int_max, int_min}
use Rattle.std.specs.List.{AllByRecursion}
use Rattle.std.proofs.Math.Nat.{mul-le-mul_left}
use Rattle.std.proofs.lemmas.Int.{by_lt_z, clamps, ints, unsigned_abs-mul}
use Rattle.std.proofs.lemmas.List.{get_or-map, get_or-set_same, length-set, map-set, set-get_or, set-set}
use Rattle.scaled_num.specs.Sums.{below, sum_of, total}
use Rattle.scaled_num.proofs.Products.{abs-add, add-mulℤ, lt-mulℤ_cancel, mulℤ_comm, neg-mul, sums}
use Rattle.scaled_num.proofs.Sums.{each-at}
use Rattle.belief.specs.Beliefs.{weight_at}
use Rattle.game_model.proofs.Front.{length-map}
use Rattle.game_model.proofs.Games.{ceil-le, keeps-span}
use Rattle.game_model.proofs.Least.{last-or}
use Rattle.game_model.proofs.Pay.{each-from}
use Rattle.game_model.specs.Branches.{Branch, IsBranch, mix_total}
use Rattle.game_model.specs.Game.{GameData, IsGame, greatest_reward, numbers, span, unit}
use Rattle.point_set.specs.Changes.{IsGreatestOf, IsLower, IsLoweredValue, IsSettled, PointsStand, divisor_of, with_value}
use Rattle.point_set.specs.Corners.{point_at}
use Rattle.point_set.specs.Faults.{SplitsHold}
use Rattle.point_set.specs.Members.{IsMember, counted_after, data_of, most_points, point_data, row_rewards}
use Rattle.point_set.specs.Points.{PointData, PointFits, PointStands, most_share, no_point, point_of, point_worth, points_of}
use Rattle.point_set.specs.declared.points.Point.{Point as PointParts}
use Rattle.point_set.proofs.Fitting.{fits-more}
use Rattle.point_set.proofs.Lowering.{AreLower, lowered-stand, replaced-fit, replaced-lower}
use Rattle.point_set.proofs.Masses.{belief-total}
use Rattle.point_set.proofs.Worth.{belief_sum, formed-is, later-size, rewards-size}

-- ---- how much one stage costs
at-once-plain : (D Q R V B k r : ℕ) → r ≤ B * (65536 * R) → 65536 * R * Q ≤ V * k → 65536 * (D * Q) * r ≤ 65536 * D * B * (V * k)
at-once-plain D Q R V B k r h s =
    let first : 65536 * (D * Q) * r ≤ 65536 * (D * Q) * (B * (65536 * R)) = mul-le-mul_left (65536 * (D * Q)) h in
    let second : 65536 * D * B * (65536 * R * Q) ≤ 65536 * D * B * (V * k) = mul-le-mul_left (65536 * D * B) s in
    omega arith

all-plain : (D P Q V B k x l : ℕ) → x ≤ 65536 * D * B * (V * k) → l ≤ V * (D * 65536 * B) → k + P ≡ Q → x + P * l ≤ V * B * (65536 * D * Q)
all-plain D P Q V B k x l h m e =
    let more : P * l ≤ P * (V * (D * 65536 * B)) = mul-le-mul_left P m in
    subst (λ (q : ℕ). x + P * l ≤ V * B * (65536 * D * q)) e (omega arith)

room : (P Q : ℕ) → P < Q → (Q - P) + P ≡ Q
room P Q l = omega arith

through : (x y z : ℤ) → x ≤ℤ y → y ≤ℤ z → x ≤ℤ z
through x y z h k = omega (arith, ints)

pub worth-size : (g : GameData) → IsGame g → (points : List PointParts) (p : PointParts) → IsMember g points p → SplitsHold (numbers g) (points_of (data_of points)) (point_of (point_data p)) → (a : ℕ) → a < g.shape.own_actions →
    unsigned_abs (point_worth (numbers g) (points_of (data_of points)) (point_of (point_data p)) a) ≤ span g * belief_sum g p * (mix_total * unsigned_abs g.shape.row_total * unsigned_abs g.shape.discount.1)
worth-size g h points p member splits a la =
    let D : ℕ = unsigned_abs g.shape.row_total in
    let P : ℕ = unsigned_abs g.shape.discount.0 in
    let Q : ℕ = unsigned_abs g.shape.discount.1 in
    let k : ℕ = Q - P in
    let rewards : ℤ = total (λ s. pos (weight_at p.belief s) *ℤ row_rewards g p.mixes a s) (below g.shape.states) in
    let later : ℤ = counted_after (points_of (data_of points)) p.splits.items g.shape.observations a in
    let less : P < Q = (keeps-span g h).discount in
    let spans : 65536 * greatest_reward g * Q ≤ span g * k = ceil-le (unit * greatest_reward g * Q) k (let l : P < Q = less in omega arith) in
    let scale_size : unsigned_abs (pos 65536 *ℤ (g.shape.row_total *ℤ g.shape.discount.1)) ≡ 65536 * (D * Q) =
    unsigned_abs-mul (pos 65536) (g.shape.row_total *ℤ g.shape.discount.1) ∙ ap (λ (n : ℕ). 65536 * n) (unsigned_abs-mul g.shape.row_total g.shape.discount.1) in
    let once : unsigned_abs ((pos 65536 *ℤ (g.shape.row_total *ℤ g.shape.discount.1)) *ℤ rewards) ≤ 65536 * D * belief_sum g p * (span g * k) =
    rw (unsigned_abs-mul (pos 65536 *ℤ (g.shape.row_total *ℤ g.shape.discount.1)) rewards, scale_size)
    (at-once-plain D Q (greatest_reward g) (span g) (belief_sum g p) k (unsigned_abs rewards) (rewards-size g h p member.fits a la) spans) in
    let after : unsigned_abs (g.shape.discount.0 *ℤ later) ≡ P * unsigned_abs later = unsigned_abs-mul g.shape.discount.0 later in
    let all = all-plain D P Q (span g) (belief_sum g p) k (unsigned_abs ((pos 65536 *ℤ (g.shape.row_total *ℤ g.shape.discount.1)) *ℤ rewards)) (unsigned_abs later) once
    (later-size g h points p member splits a la) (room P Q less) in
    subst (λ (z : ℤ). unsigned_abs z ≤ span g * belief_sum g p * (mix_total * D * Q)) (formed-is g h (points_of (data_of points)) p member.fits a)
    (upto _ _ _ (abs-add ((pos 65536 *ℤ (g.shape.row_total *ℤ g.shape.discount.1)) *ℤ rewards) (g.shape.discount.0 *ℤ later))
    (subst (λ (n : ℕ). unsigned_abs ((pos 65536 *ℤ (g.shape.row_total *ℤ g.shape.discount.1)) *ℤ rewards) + n ≤ span g * belief_sum g p * (mix_total * D * Q)) (sym after) all))
  where
    upto : (x y z : ℕ) → x ≤ y → y ≤ z → x ≤ z
    upto x y z h k = omega arith

-- ---- a quotient rounded up
le-cancel : (k : ℕ) (x y : ℤ) → 1 ≤ k → (x *ℤ pos k) ≤ℤ (y *ℤ pos k) → x ≤ℤ y
le-cancel k x y some h =
    let parts : (x -ℤ pos 1) *ℤ pos k ≡ x *ℤ pos k +ℤ (neg_ℤ (pos 1)) *ℤ pos k = add-mulℤ x (neg_ℤ (pos 1)) (pos k) in
    let one : (neg_ℤ (pos 1)) *ℤ pos k ≡ neg_ℤ (pos k) = omega (arith, ints) in
    let less : ((x -ℤ pos 1) *ℤ pos k) <ℤ (y *ℤ pos k) = omega (arith, sums, parts, one) in
    last x y (lt-mulℤ_cancel k (x -ℤ pos 1) y (ends _ _ _ _ (mulℤ_comm (x -ℤ pos 1) (pos k)) (mulℤ_comm y (pos k)) less))
  where
    ends : (a b c d : ℤ) → a ≡ c → b ≡ d → a <ℤ b → c <ℤ d
    ends a b c d e f h = omega (arith, sums)

    last : (x y : ℤ) → (x -ℤ pos 1) <ℤ y → x ≤ℤ y
    last x y h = omega (arith, ints)

ceiling-low : (q w : ℤ) (k n : ℕ) → 1 ≤ k → unsigned_abs w ≤ n * k → w ≤ℤ (q *ℤ pos k) → neg_ℤ (pos n) ≤ℤ q
ceiling-low q w k n some size h = le-cancel k (neg_ℤ (pos n)) q some (through _ w _ (subst (λ (z : ℤ). z ≤ℤ w) (sym (neg-mul n k)) (low w (n * k) size)) h)
  where
    low : (x : ℤ) (m : ℕ) → unsigned_abs x ≤ m → neg_ℤ (pos m) ≤ℤ x
    low x m l = omega (arith, ints)

pub min-least : (x y : ℤ) → int_min x y ≤ℤ x
min-least x y = by_lt_z x y (λ h. omega (arith, ints, clamps)) (λ h. omega (arith, ints, clamps))

min-cases : (x y : ℤ) → (int_min x y ≡ x) ⊎ (int_min x y ≡ y)
min-cases x y = by_lt_z x y (λ h. inl (omega (arith, ints, clamps))) (λ h. inr (omega (arith, ints, clamps)))

-- what holds of a value and of a quotient holds of the lesser
lowered-either : (P : ℤ → Type 0) (g : GameData) (points : List PointData) (point : PointData) (value : ℤ) (h : IsLoweredValue g points point value) → P point.value → P h.quotient → P value
lowered-either P g points point value h low high =
    elim (min-cases point.value h.quotient) [
      | inl e ↦ subst P (sym (h.lesser ∙ e)) low
      | inr e ↦ subst P (sym (h.lesser ∙ e)) high
    ]

divisor-some : (g : GameData) → IsGame g → 1 ≤ mix_total * unsigned_abs g.shape.row_total * unsigned_abs g.shape.discount.1
divisor-some g h = let k = keeps-span g h in some (unsigned_abs g.shape.row_total) (unsigned_abs g.shape.discount.1) k.whole (omega (arith, k.discount))
  where
    times : (d q : ℕ) → 1 ≤ d → 1 ≤ q → 1 ≤ d * q
    times d q l m = omega (arith, mul-le-mul_left d m)

    some : (d q : ℕ) → 1 ≤ d → 1 ≤ q → 1 ≤ mix_total * d * q
    some d q l m = let n : 1 ≤ d * q = times d q l m in omega arith

pub divisor-positive : (g : GameData) → IsGame g → pos 0 <ℤ divisor_of g
divisor-positive g h = positive (mix_total * unsigned_abs g.shape.row_total * unsigned_abs g.shape.discount.1) (divisor-some g h)
  where
    positive : (n : ℕ) → 1 ≤ n → pos 0 <ℤ pos n
    positive n l = omega (arith, ints)

-- ---- the point
pub lowered-lower : (g : GameData) (points : List PointData) (point : PointData) (value : ℤ) → IsLoweredValue g points point value → IsLower point (with_value point value)
lowered-lower g points point value h = record { belief = refl; value = subst (λ (z : ℤ). z ≤ℤ point.value) (sym h.lesser) (min-least point.value h.quotient) }

pub lowered-stands : (g : GameData) (points : List PointData) (point : PointData) (value : ℤ) → IsLoweredValue g points point value →
    PointStands (numbers g) (points_of points) (point_of point) → PointStands (numbers g) (points_of points) (point_of (with_value point value))
lowered-stands g points point value h stands = record {
  split = stands.split;
  value = λ a la. lowered-either (λ (z : ℤ). point_worth (numbers g) (points_of points) (point_of point) a ≤ℤ (z *ℤ divisor_of g)) g points point value h (stands.value a la)
      (through (point_worth (numbers g) (points_of points) (point_of point) a) h.worth (h.quotient *ℤ divisor_of g) (h.greatest.each a la) h.ceiling.high);
}

pub lowered-fits : (g : GameData) → IsGame g → (points : List PointParts) (p : PointParts) (count : ℕ) (value : ℤ) → IsMember g points p → SplitsHold (numbers g) (points_of (data_of points)) (point_of (point_data p)) →
    PointFits g count (point_data p) → IsLoweredValue g (data_of points) (point_data p) value → PointFits g count (with_value (point_data p) value)
lowered-fits g h points p count value member splits fits lowered =
    let lower = lowered-lower g (data_of points) (point_data p) value lowered in
    let V : ℕ = span g in
    let B : ℕ = belief_sum g p in
    let K : ℕ = mix_total * unsigned_abs g.shape.row_total * unsigned_abs g.shape.discount.1 in
    let most = lowered.greatest.some in
    let size : unsigned_abs lowered.worth ≤ V * B * K = subst (λ (z : ℤ). unsigned_abs z ≤ V * B * K) (sym most.2) (worth-size g h points p member splits most.0 most.1) in
    let quotient : neg_ℤ (pos (V * B)) ≤ℤ lowered.quotient = ceiling-low lowered.quotient lowered.worth K (V * B) (divisor-some g h) size lowered.ceiling.high in
    let low : neg_ℤ (pos V *ℤ sum_of p.belief) ≤ℤ lowered.quotient =
    subst (λ (z : ℤ). neg_ℤ (pos V *ℤ z) ≤ℤ lowered.quotient) (sym (belief-total g.shape.states p.belief fits.belief)) quotient in
    record {
      belief = fits.belief;
      coprime = fits.coprime;
      value = (
        lowered-either (λ (z : ℤ). neg_ℤ (pos V *ℤ sum_of p.belief) ≤ℤ z) g (data_of points) (point_data p) value lowered fits.value.0 low,
        through value p.value (pos V *ℤ sum_of p.belief) lower.value fits.value.1,
      );
      states = fits.states;
      actions = fits.actions;
      mixes = fits.mixes;
      splits = fits.splits;
    }

-- ---- the points after it
-- a point of a number, as data
part-at : (points : List PointParts) (k : ℕ) → k < length points → (p : PointParts) × (point_at (data_of points) k ≡ point_data p)
part-at [] k l = absurd (omega arith)
part-at (p ∷ ps) zero l = (p, refl)
part-at (p ∷ ps) (suc k) l = part-at ps k (omega arith)

-- a point that fits among points that fit is a member
pub fitting-member : (g : GameData) (points : List PointParts) (p : PointParts) → length points ≤ most_points → AllByRecursion (PointFits g (length points)) (data_of points) → PointFits g (length points) (point_data p) →
    IsMember g points p
fitting-member g points p few each fits = record {
  each = each-from (PointFits g (length points)) (PointFits g most_points) (data_of points) (λ x h. fits-more g (length points) most_points x few h) each;
  fits = fits-more g (length points) most_points (point_data p) few fits;
  named = each-from (IsBranch (numbers g) (length points) most_share) (λ (share : Branch). share.member < length points) (point_data p).splits (λ b i. i.member) fits.splits.each;
}

pub inside-data : (points : List PointParts) (number : ℕ) → number < length points → number < length (data_of points)
inside-data points number l = subst (λ (n : ℕ). number < n) (sym (length-map point_data points)) l

-- all that follows for the points
pub record SettledKeep (g : GameData) (points new : List PointData) : Type 0 where
  pub count : length new ≡ length points
  pub lower : AreLower points new
  pub fit : AllByRecursion (PointFits g (length new)) new
  pub stand : PointsStand (numbers g) points → PointsStand (numbers g) new

pub settled-keep : (g : GameData) → IsGame g → (points : List PointParts) (new : List PointData) (number : ℕ) → length points ≤ most_points → number < length points → AllByRecursion (PointFits g (length points)) (data_of points) →
    SplitsHold (numbers g) (points_of (data_of points)) (points_of (data_of points) number) → IsSettled g (data_of points) number new → SettledKeep g (data_of points) new
settled-keep g h points new number few l fit splits settled =
    let old : List PointData = data_of points in
    let found = part-at points number l in
    let p : PointParts = found.0 in
    let inside : number < length old = inside-data points number l in
    let fits : PointFits g (length points) (point_data p) = subst (PointFits g (length points)) found.1 (each-at (PointFits g (length points)) no_point old number fit inside) in
    let hold : SplitsHold (numbers g) (points_of old) (point_of (point_data p)) = subst (λ (x : PointData). SplitsHold (numbers g) (points_of old) (point_of x)) found.1 splits in
    let lowered : IsLoweredValue g old (point_data p) settled.value = subst (λ (x : PointData). IsLoweredValue g old x settled.value) found.1 settled.lowered in
    let right : PointFits g (length points) (with_value (point_data p) settled.value) = lowered-fits g h points p (length points) settled.value (fitting-member g points p few fit fits) hold fits lowered in
    let there : with_value (point_data p) settled.value ≡ with_value (point_at old number) settled.value = ap (λ (x : PointData). with_value x settled.value) (sym found.1) in
    let point : PointData = with_value (point_at old number) settled.value in
    let lower : IsLower (point_at old number) point = lowered-lower g old (point_at old number) settled.value settled.lowered in
    let same : length points ≡ length old = sym (length-map point_data points) in
    let all : AllByRecursion (PointFits g (length old)) old = subst (λ (n : ℕ). AllByRecursion (PointFits g n) old) same fit in
    let kept : SettledKeep g old (set old number point) = record {
      count = length-set old number point;
      lower = replaced-lower old number point inside lower;
      fit = replaced-fit g old number point all (subst (λ (n : ℕ). PointFits g n point) same (subst (PointFits g (length points)) there right));
      stand = λ stand. lowered-stand (numbers g) old number point stand inside lower (lowered-stands g old (point_at old number) settled.value settled.lowered (stand number inside));
    } in
    subst (SettledKeep g old) (sym settled.members) kept

-- ---- what the code leaves
pub data-here : (points : List PointParts) (number : ℕ) (d : PointParts) → number < length points → point_data (get_or points number d) ≡ point_at (data_of points) number
data-here points number d l = sym (get_or-map point_data points number d no_point l)

-- the points with another value of one, as data
pub value-written : (points : List PointParts) (number : ℕ) (d : PointParts) (value : ℤ) → number < length points →
    data_of (set points number (record { belief = (get_or points number d).belief; value = value; mixes = (get_or points number d).mixes; splits = (get_or points number d).splits }))
    ≡ set (data_of points) number (with_value (point_at (data_of points) number) value)
value-written points number d value l =
    let old : PointParts = get_or points number d in
    map-set point_data points number (record { belief = old.belief; value = value; mixes = old.mixes; splits = old.splits })
    ∙ ap (λ (x : PointData). set (data_of points) number (with_value x value)) (data-here points number d l)

-- the old value written back gives the old points
pub value-back : (points : List PointData) (number : ℕ) (value : ℤ) → number < length points →
    set (set points number (with_value (point_at points number) value)) number (with_value (point_at (set points number (with_value (point_at points number) value)) number) (point_at points number).value) ≡ points
value-back points number value l =
    let p : PointData = point_at points number in
    ap (λ (x : PointData). set (set points number (with_value p value)) number (with_value x p.value)) (get_or-set_same points number (with_value p value) no_point l)
    ∙ set-set points number (with_value p value) p
    ∙ set-get_or points number no_point

-- a value that stays
pub value-stays : (points : List PointData) (number : ℕ) (value : ℤ) → value ≡ (point_at points number).value → points ≡ set points number (with_value (point_at points number) value)
value-stays points number value e = sym (ap (λ (v : ℤ). set points number (with_value (point_at points number) v)) e ∙ set-get_or points number no_point)

-- ---- the greatest of several
same : (x : ℤ) → x ≤ℤ x
same x = omega (arith, ints)

max-cases : (x y : ℤ) → ((int_max x y ≡ x) × (y ≤ℤ x)) ⊎ ((int_max x y ≡ y) × (x ≤ℤ y))
max-cases x y = by_lt_z x y (λ h. inr (omega (arith, ints, clamps), omega (arith, ints))) (λ h. inl (omega (arith, ints, clamps), h))

greatest-keep : (f : ℕ → ℤ) (n : ℕ) (x : ℤ) → IsGreatestOf f n x → f n ≤ℤ x → IsGreatestOf f (n + 1) x
greatest-keep f n x h l = record {
  each = λ k m. elim (last-or k n m) [ inl b ↦ h.each k b | inr e ↦ subst (λ (i : ℕ). f i ≤ℤ x) (sym e) l ];
  some = (h.some.0, lift h.some.0 h.some.1, h.some.2);
}
  where
    lift : (k : ℕ) → k < n → k < n + 1
    lift k l = omega arith

greatest-take : (f : ℕ → ℤ) (n : ℕ) (x y : ℤ) → IsGreatestOf f n x → x ≤ℤ y → y ≡ f n → IsGreatestOf f (n + 1) y
greatest-take f n x y h l e = record {
  each = λ k m. elim (last-or k n m) [ inl b ↦ through (f k) x y (h.each k b) l | inr i ↦ subst (λ (j : ℕ). f j ≤ℤ y) (sym i) (subst (λ (z : ℤ). z ≤ℤ y) e (same y)) ];
  some = (n, omega arith, e);
}

pub greatest-more : (f : ℕ → ℤ) (n : ℕ) (x y : ℤ) → IsGreatestOf f n x → y ≡ f n → IsGreatestOf f (n + 1) (int_max x y)
greatest-more f n x y h e =
    elim (max-cases x y) [
      | inl m ↦ subst (IsGreatestOf f (n + 1)) (sym m.0) (greatest-keep f n x h (subst (λ (z : ℤ). z ≤ℤ x) e m.1))
      | inr m ↦ subst (IsGreatestOf f (n + 1)) (sym m.0) (greatest-take f n x y h m.1 e)
    ]

pub value-at_written : (points : List PointParts) (number : ℕ) (d : PointParts) (value : ℤ) → number < length points →
    (point_at (data_of (set points number (record { belief = (get_or points number d).belief; value = value; mixes = (get_or points number d).mixes; splits = (get_or points number d).splits }))) number).value ≡ value
value-at_written points number d value l =
    ap (λ (ps : List PointData). (point_at ps number).value) (value-written points number d value l)
    ∙ ap (λ (p : PointData). p.value) (get_or-set_same (data_of points) number (with_value (point_at (data_of points) number) value) no_point (inside-data points number l))
