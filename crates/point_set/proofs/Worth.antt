-- What one stage is worth to a point whose shares make up the masses: exactness and size.
use Rattle.std.proofs.Common.{◌≡◌, ℕ, zero, suc, ◌-◌, ◌*◌, ◌^◌, ◌<◌, ◌≤◌, max, ◌⊎◌, inl, inr, List, [], ◌∷◌, length, map, filter, ap, arith, sym, subst, ◌∙◌}
use Rattle.std.specs.Prelude.{ℤ, pos, neg_ℤ, ◌+ℤ◌, ◌*ℤ◌, ◌≤ℤ◌, unsigned_abs, FitsSigned, sum_by, fold}
use Rattle.std.specs.Int.{w128}
use Rattle.std.specs.List.{AllByRecursion}
use Rattle.std.proofs.Math.Nat.{mul-le-mul_left, mul-le-mul_right}
use Rattle.std.proofs.lemmas.Int.{ints, fits_signed_from_abs, unsigned_abs-mul}
use Rattle.std.proofs.lemmas.Nat.{mul-le}
use Rattle.scaled_num.specs.Sums.{below, total, sum_of}
use Rattle.scaled_num.proofs.Products.{products, sums, abs-add, magnitude-is}
use Rattle.scaled_num.proofs.Sums.{below-each, total-below, total-map, total-same, total-scale}
use Rattle.game_model.specs.Branches.{Branch, Continuation, IsBranch, branch_of, continuation_of, mix_total}
use Rattle.game_model.specs.Game.{GameData, IsGame, IsNarrow, IsRewardInRange, IsWithin, greatest_reward, numbers, reward_at, span, triple, unit}
use Rattle.game_model.specs.declared.parts.Shape.{Shape}
use Rattle.game_model.proofs.Games.{keeps-span, max-bound, place-lt}
use Rattle.game_model.proofs.Pay.{each-from}
use Rattle.game_model.proofs.Width.{at_most, reward_small}
use Rattle.std.specs.Bool.{IsTrue}
use Rattle.std.specs.Int.Signed.{le_z}
use Rattle.game_model.proofs.Worth.{divisor-is, span-small, total-bound, ceil-small}
use Rattle.belief.proofs.Landings.{each-filter}
use Rattle.belief.specs.Beliefs.{mix_weight, weight_at}
use Rattle.belief.specs.Mixes.{AreMixes, MixesData}
use Rattle.point_set.specs.Faults.{SplitsHold}
use Rattle.point_set.specs.Members.{IsAfter, IsMember, IsNamed, brought, counted, counted_after, counted_size, data_of, most_points, point_data, row_rewards}
use Rattle.point_set.specs.Points.{Point, PointFits, most_share, point_of, point_worth, points_of, shares_at}
use Rattle.point_set.specs.declared.points.Point.{Point as PointParts}
use Rattle.game_model.specs.declared.branches.Branch.{Branch as ShareParts}
use Rattle.point_set.proofs.Masses.{belief-total, masses-sum, mix-total, shares-size, sum-below-same, sum-below-scaled}
use Rattle.point_set.proofs.Named.{named-all, shared-is, shares-at}
use Rattle.point_set.proofs.Running.{total-size}
use Rattle.std.proofs.lemmas.List.Sums.{sum_by-le-sum_by}
use Rattle.scaled_num.proofs.Each.{each-of-map}

-- ---- the width rule at the greatest reward
greater : (k n r most : ℕ) → k * n ≤ most → k * max 1 r ≤ most → k * max n r ≤ most
greater k n r most h l = elim (either n r) [
  | inl e ↦ subst (λ (m : ℕ). k * m ≤ most) (sym e) h
  | inr e ↦ subst (λ (m : ℕ). k * m ≤ most) (sym e) (omega (arith, mul-le-mul_left {m = r} {n = max 1 r} k (omega arith)))
]
  where
    either : (n r : ℕ) → (max n r ≡ n) ⊎ (max n r ≡ r)
    either n r = search arith

narrow-plain : (d q : ℤ) (r : ℕ) → pos 0 ≤ℤ d → pos 0 ≤ℤ q → (d *ℤ q *ℤ q *ℤ pos r) ≤ℤ pos (2 ^ 72) → unsigned_abs d * unsigned_abs q * unsigned_abs q * r ≤ 2 ^ 72
narrow-plain d q r ld lq h =
    let e : d *ℤ q *ℤ q *ℤ pos r ≡ pos (unsigned_abs d * unsigned_abs q * unsigned_abs q * r) =
    ap (λ (z : ℤ). z *ℤ q *ℤ q *ℤ pos r) (magnitude-is d ld) ∙ ap (λ (z : ℤ). pos (unsigned_abs d) *ℤ z *ℤ z *ℤ pos r) (magnitude-is q lq) in
    let k : pos (unsigned_abs d * unsigned_abs q * unsigned_abs q * r) ≤ℤ pos (2 ^ 72) = subst (λ (z : ℤ). z ≤ℤ pos (2 ^ 72)) e h in
    omega (arith, ints)

narrow-fold : (shape : Shape) (rewards : List ℤ) (n : ℕ) → pos 0 ≤ℤ shape.row_total → pos 0 ≤ℤ shape.discount.1 →
    unsigned_abs shape.row_total * unsigned_abs shape.discount.1 * unsigned_abs shape.discount.1 * n ≤ 2 ^ 72 → AllByRecursion (λ r. IsRewardInRange r × IsNarrow shape r) rewards →
    unsigned_abs shape.row_total * unsigned_abs shape.discount.1 * unsigned_abs shape.discount.1 * fold (λ most r. max most (unsigned_abs r)) n rewards ≤ 2 ^ 72
narrow-fold shape [] n ld lq l h = l
narrow-fold shape (r ∷ rs) n ld lq l h =
    narrow-fold shape rs (max n (unsigned_abs r)) ld lq
    (greater (unsigned_abs shape.row_total * unsigned_abs shape.discount.1 * unsigned_abs shape.discount.1) n (unsigned_abs r) (2 ^ 72) l
    (narrow-plain shape.row_total shape.discount.1 (max 1 (unsigned_abs r)) ld lq h.0.1)) h.1

fold-small : (rewards : List ℤ) (n : ℕ) → n ≤ 2 ^ 30 → AllByRecursion (λ r. IsRewardInRange r × Unit {0}) rewards → fold (λ most r. max most (unsigned_abs r)) n rewards ≤ 2 ^ 30
fold-small [] n l h = l
fold-small (r ∷ rs) n l h = fold-small rs (max n (unsigned_abs r)) (omega (arith, reward_small r h.0.0)) h.1

greatest-small : (g : GameData) → IsGame g → greatest_reward g ≤ 2 ^ 30
greatest-small g h = fold-small g.rewards 0 (omega arith) (each-from (λ r. IsRewardInRange r × IsNarrow g.shape r) (λ r. IsRewardInRange r × Unit {0}) g.rewards (λ r i. (i.0, tt)) h.rewards)

-- a game's numbers: row total D, discount P / Q, greatest reward R, span V
pub record Widths (D P Q R V : ℕ) : Type 0 where
  pub narrow : D * Q * Q * R ≤ 2 ^ 72
  pub spans : V ≤ 65536 * R * Q
  pub some : 1 ≤ Q
  pub over : P ≤ Q
  pub row : D ≤ 2 ^ 30
  pub under : Q ≤ 2 ^ 20

pub widths : (g : GameData) → IsGame g → Widths (unsigned_abs g.shape.row_total) (unsigned_abs g.shape.discount.0) (unsigned_abs g.shape.discount.1) (greatest_reward g) (span g)
widths g h =
    let p = h.shape.discount.0 in
    let q = h.shape.discount.1 in
    let u = h.shape.discount.2 in
    let d = h.shape.row_total.0 in
    let e = h.shape.row_total.1 in
    let room : 1 ≤ unsigned_abs g.shape.discount.1 - unsigned_abs g.shape.discount.0 = omega (arith, ints) in
    record {
      narrow = narrow-fold g.shape g.rewards 0 (omega (arith, ints)) (omega (arith, ints)) (omega arith) h.rewards;
      spans = ceil-small (unit * greatest_reward g * unsigned_abs g.shape.discount.1) (unsigned_abs g.shape.discount.1 - unsigned_abs g.shape.discount.0) room;
      some = omega (arith, ints);
      over = omega (arith, ints);
      row = omega (arith, ints);
      under = omega (arith, ints);
    }

-- with a belief's total B: what is formed stays at most 2^124
pub rewards-room : (D P Q R V B r : ℕ) → Widths D P Q R V → B ≤ 2 ^ 20 → r ≤ B * (65536 * R) → 65536 * (D * Q) * r ≤ 2 ^ 124
rewards-room D P Q R V B r w lb lr =
    let narrow = w.narrow in
    let more : r ≤ 2 ^ 36 * R = omega (arith, mul-le-mul_right {m = B} {n = 2 ^ 20} (65536 * R) lb) in
    let all : 65536 * (D * Q) * r ≤ 65536 * (D * Q) * (2 ^ 36 * R) = mul-le-mul_left (65536 * (D * Q)) more in
    let once : D * Q * R * 1 ≤ D * Q * R * Q = mul-le-mul_left (D * Q * R) w.some in
    omega arith

pub counted-room : (D P Q R V B n : ℕ) → Widths D P Q R V → B ≤ 2 ^ 20 → n ≤ V * (D * 65536 * B) → Q * n ≤ 2 ^ 124
counted-room D P Q R V B n w lb ln =
    let narrow = w.narrow in
    let small : D * 65536 * B ≤ D * 65536 * 2 ^ 20 = mul-le-mul_left (D * 65536) lb in
    let more : V * (D * 65536 * B) ≤ 65536 * R * Q * (D * 65536 * B) = mul-le-mul_right (D * 65536 * B) w.spans in
    let most : 65536 * R * Q * (D * 65536 * B) ≤ 65536 * R * Q * (D * 65536 * 2 ^ 20) = mul-le-mul_left (65536 * R * Q) small in
    let upto : n ≤ 65536 * R * Q * (D * 65536 * 2 ^ 20) = omega arith in
    let all : Q * n ≤ Q * (65536 * R * Q * (D * 65536 * 2 ^ 20)) = mul-le-mul_left Q upto in
    omega arith

pub over-room : (D P Q R V n : ℕ) → Widths D P Q R V → Q * n ≤ 2 ^ 124 → (P * n ≤ 2 ^ 124) × (n ≤ 2 ^ 124)
over-room D P Q R V n w l =
    let a : P * n ≤ Q * n = mul-le-mul_right n w.over in
    let b : 1 * n ≤ Q * n = mul-le-mul_right n w.some in
    (omega arith, omega arith)

pub value-room : (D P Q R V B y : ℕ) → Widths D P Q R V → B ≤ 2 ^ 20 → y ≤ V * B → y * (65536 * (D * Q)) ≤ 2 ^ 124
value-room D P Q R V B y w lb ly =
    let narrow = w.narrow in
    let small : V * B ≤ V * 2 ^ 20 = mul-le-mul_left V lb in
    let more : V * 2 ^ 20 ≤ 65536 * R * Q * 2 ^ 20 = mul-le-mul_right (2 ^ 20) w.spans in
    let upto : y ≤ 65536 * R * Q * 2 ^ 20 = omega arith in
    let all : y * (65536 * (D * Q)) ≤ 65536 * R * Q * 2 ^ 20 * (65536 * (D * Q)) = mul-le-mul_right (65536 * (D * Q)) upto in
    omega arith

-- ---- sizes of a point's parts
-- the total of a point's belief
abbrev pub belief_sum : GameData → PointParts → ℕ
belief_sum g p = sum_by (weight_at p.belief) (below g.shape.states)

pub belief-small : (g : GameData) (p : PointParts) → PointFits g most_points (point_data p) → belief_sum g p ≤ 2 ^ 20
belief-small g p h = let high = h.belief.sums.1 in omega (arith, ints, belief-total g.shape.states p.belief h.belief)

pub value-abs : (v b : ℕ) (s y : ℤ) → s ≡ pos b → IsWithin (neg_ℤ (pos v *ℤ s)) (pos v *ℤ s) y → unsigned_abs y ≤ v * b
value-abs v b s y e h =
    let k : IsWithin (neg_ℤ (pos (v * b))) (pos (v * b)) y = subst (λ (z : ℤ). IsWithin (neg_ℤ (pos v *ℤ z)) (pos v *ℤ z) y) e h in
    let low = k.0 in
    let high = k.1 in
    omega (arith, ints)

pub value-size : (g : GameData) (p : PointParts) → PointFits g most_points (point_data p) → unsigned_abs p.value ≤ span g * belief_sum g p
value-size g p h = value-abs (span g) (belief_sum g p) (sum_of p.belief) p.value (belief-total g.shape.states p.belief h.belief) h.value

-- ---- rewards
row-size : (g : GameData) → IsGame g → (mixes : MixesData) → AreMixes mixes → mixes.states ≡ g.shape.states → mixes.actions ≡ g.shape.informed_actions → (a s : ℕ) → a < g.shape.own_actions → s < g.shape.states →
    unsigned_abs (row_rewards g mixes a s) ≤ 65536 * greatest_reward g
row-size g h mixes right states actions a s la ls =
    let all : sum_by (mix_weight mixes s) (below g.shape.informed_actions) ≡ 65536 = ap (λ (n : ℕ). sum_by (mix_weight mixes s) (below n)) (sym actions) ∙ mix-total mixes right s (subst (λ (n : ℕ). s < n) (sym states) ls) in
    subst (λ (n : ℕ). unsigned_abs (row_rewards g mixes a s) ≤ n * greatest_reward g) all
    (total-bound (λ c. pos (mix_weight mixes s c) *ℤ reward_at g s a c) (mix_weight mixes s) (greatest_reward g) (below g.shape.informed_actions)
    (below-each _ g.shape.informed_actions (λ c lc.
    rw (unsigned_abs-mul (pos (mix_weight mixes s c)) (reward_at g s a c)) (mul-le-mul_left (mix_weight mixes s c)
    (max-bound g.rewards 0 (triple g.shape s a c) (pos 0) (subst (λ (n : ℕ). triple g.shape s a c < n) (sym h.rewards_count) (place-lt g.shape s a c ls la lc)))))))

pub rewards-size : (g : GameData) → IsGame g → (p : PointParts) → PointFits g most_points (point_data p) → (a : ℕ) → a < g.shape.own_actions →
    unsigned_abs (total (λ s. pos (weight_at p.belief s) *ℤ row_rewards g p.mixes a s) (below g.shape.states)) ≤ belief_sum g p * (65536 * greatest_reward g)
rewards-size g h p fits a la =
    total-bound (λ s. pos (weight_at p.belief s) *ℤ row_rewards g p.mixes a s) (weight_at p.belief) (65536 * greatest_reward g) (below g.shape.states)
    (below-each _ g.shape.states (λ s ls.
    rw (unsigned_abs-mul (pos (weight_at p.belief s)) (row_rewards g p.mixes a s)) (mul-le-mul_left (weight_at p.belief s) (row-size g h p.mixes fits.mixes fits.states fits.actions a s la ls))))

-- ---- shares
named-value : (g : GameData) (points : List PointParts) → AllByRecursion (PointFits g most_points) (data_of points) → (k : ℕ) → k < length points →
    unsigned_abs ((points_of (data_of points) k).value) ≤ span g * sum_by ((points_of (data_of points) k).belief) (below g.shape.states)
named-value g (p ∷ ps) h zero l = value-size g p h.0
named-value g (p ∷ ps) h (suc k) l = named-value g ps h.1 k (omega arith)
named-value g [] h k l = absurd (omega arith)

pub counted-size : (g : GameData) → IsGame g → (points : List PointParts) (p : PointParts) → IsMember g points p → SplitsHold (numbers g) (points_of (data_of points)) (point_of (point_data p)) → (a : ℕ) → a < g.shape.own_actions →
    sum_by (λ o. counted_size (points_of (data_of points)) (filter (IsAfter a o) p.splits.items)) (below g.shape.observations) ≤ span g * (unsigned_abs g.shape.row_total * 65536 * belief_sum g p)
counted-size g h points p member splits a la =
    let pts = points_of (data_of points) in
    let n = numbers g in
    let masses = masses-sum n 65536 (point_of (point_data p)) (keeps-span g h).full
    (λ s ls. ap (λ (k : ℕ). sum_by (mix_weight p.mixes s) (below k)) (sym member.fits.actions) ∙ mix-total p.mixes member.fits.mixes s (subst (λ (k : ℕ). s < k) (sym member.fits.states) ls)) a la in
    subst (λ (k : ℕ). sum_by (λ o. counted_size pts (filter (IsAfter a o) p.splits.items)) (below g.shape.observations) ≤ span g * k)
    (sum-below-same g.shape.observations _ _ (λ o lo. sum-below-same g.shape.states _ _ (λ t lt. sym (shared-is pts p a o t) ∙ splits a o t la lo lt)) ∙ masses)
    (sum-below-scaled (λ o. counted_size pts (filter (IsAfter a o) p.splits.items)) (λ o. sum_by (λ t. sum_by (brought pts t) (filter (IsAfter a o) p.splits.items)) (below g.shape.states)) (span g) g.shape.observations (λ o lo.
    shares-size pts (span g) g.shape.states (filter (IsAfter a o) p.splits.items)
    (each-from (IsNamed points) _ (filter (IsAfter a o) p.splits.items) (λ w l. named-value g points member.each w.k l)
    (each-filter (IsNamed points) (IsAfter a o) p.splits.items (named-all g points p member)))))

-- ---- exactness
scale-is : (g : GameData) → IsGame g → pos 65536 *ℤ (g.shape.row_total *ℤ g.shape.discount.1) ≡ pos (65536 * unsigned_abs g.shape.row_total * unsigned_abs g.shape.discount.1)
scale-is g h = ap (λ (z : ℤ). pos 65536 *ℤ z) (divisor-is g h) ∙ ap pos (same (unsigned_abs g.shape.row_total) (unsigned_abs g.shape.discount.1))
  where
    same : (d q : ℕ) → 65536 * (d * q) ≡ 65536 * d * q
    same d q = omega arith

rewards-are : (g : GameData) (k : ℤ) (p : PointParts) (a : ℕ) →
    k *ℤ total (λ s. pos (weight_at p.belief s) *ℤ row_rewards g p.mixes a s) (below g.shape.states)
    ≡ total (λ s. total (λ c. pos (weight_at p.belief s * mix_weight p.mixes s c) *ℤ reward_at g s a c *ℤ k) (below g.shape.informed_actions)) (below g.shape.states)
rewards-are g k p a =
    sym (total-scale k (λ s. pos (weight_at p.belief s) *ℤ row_rewards g p.mixes a s) (below g.shape.states))
    ∙ total-below g.shape.states _ _ (λ s ls.
    ap (λ (z : ℤ). k *ℤ z) (sym (total-scale (pos (weight_at p.belief s)) (λ c. pos (mix_weight p.mixes s c) *ℤ reward_at g s a c) (below g.shape.informed_actions)))
    ∙ sym (total-scale k (λ c. pos (weight_at p.belief s) *ℤ (pos (mix_weight p.mixes s c) *ℤ reward_at g s a c)) (below g.shape.informed_actions))
    ∙ total-below g.shape.informed_actions _ _ (λ c lc. turn k (pos (weight_at p.belief s)) (pos (mix_weight p.mixes s c)) (reward_at g s a c)))
  where
    turn : (k b m r : ℤ) → k *ℤ (b *ℤ (m *ℤ r)) ≡ (b *ℤ m) *ℤ r *ℤ k
    turn k b m r = simp products (omega (arith, sums))

counted-are : (g : GameData) (points : ℕ → Point) (p : PointParts) → PointFits g most_points (point_data p) → (a : ℕ) →
    counted_after points p.splits.items g.shape.observations a ≡ total (λ o. total (λ (share : Continuation). pos share.weight *ℤ (points share.member).value) (shares_at (point_of (point_data p)) a o)) (below g.shape.observations)
counted-are g points p fits a =
    total-below g.shape.observations _ _ (λ o lo.
    total-same (counted points) (λ (w : ShareParts). pos (unsigned_abs w.weight) *ℤ (points w.k).value) (filter (IsAfter a o) p.splits.items)
    (each-filter _ (IsAfter a o) p.splits.items (each-from (λ (w : ShareParts). IsBranch (numbers g) most_points most_share (branch_of w)) _ p.splits.items (λ w i.
    ap (λ (z : ℤ). z *ℤ (points w.k).value) (positive w.weight i.weight.0)) (each-of-map (IsBranch (numbers g) most_points most_share) branch_of p.splits.items fits.splits.each)))
    ∙ sym (ap (total (λ (share : Continuation). pos share.weight *ℤ (points share.member).value)) (shares-at p.splits.items a o)
    ∙ total-map (λ (share : Continuation). pos share.weight *ℤ (points share.member).value) continuation_of (map branch_of (filter (IsAfter a o) p.splits.items))
    ∙ total-map (λ (b : Branch). pos (unsigned_abs b.weight) *ℤ (points b.member).value) branch_of (filter (IsAfter a o) p.splits.items)))
  where
    positive : (x : ℤ) → pos 1 ≤ℤ x → x ≡ pos (unsigned_abs x)
    positive x h = magnitude-is x (omega (arith, ints))

-- ---- the test as the code forms it
abbrev pub formed : GameData → ℤ → ℤ → ℤ
formed g rewards later = (pos 65536 *ℤ (g.shape.row_total *ℤ g.shape.discount.1)) *ℤ rewards +ℤ g.shape.discount.0 *ℤ later

abbrev pub limit : GameData → PointParts → ℤ
limit g p = p.value *ℤ (pos 65536 *ℤ (g.shape.row_total *ℤ g.shape.discount.1))

pub formed-is : (g : GameData) → IsGame g → (points : ℕ → Point) (p : PointParts) → PointFits g most_points (point_data p) → (a : ℕ) →
    formed g (total (λ s. pos (weight_at p.belief s) *ℤ row_rewards g p.mixes a s) (below g.shape.states)) (counted_after points p.splits.items g.shape.observations a) ≡ point_worth (numbers g) points (point_of (point_data p)) a
formed-is g h points p fits a =
    let over = h.shape.discount.0 in
    ap (λ (z : ℤ). z *ℤ total (λ s. pos (weight_at p.belief s) *ℤ row_rewards g p.mixes a s) (below g.shape.states) +ℤ g.shape.discount.0 *ℤ counted_after points p.splits.items g.shape.observations a) (scale-is g h)
    ∙ ap (λ (z : ℤ). z +ℤ g.shape.discount.0 *ℤ counted_after points p.splits.items g.shape.observations a) (rewards-are g (pos (65536 * unsigned_abs g.shape.row_total * unsigned_abs g.shape.discount.1)) p a)
    ∙ ap (λ (z : ℤ). total (λ s. total (λ c. pos (weight_at p.belief s * mix_weight p.mixes s c) *ℤ reward_at g s a c *ℤ pos (65536 * unsigned_abs g.shape.row_total * unsigned_abs g.shape.discount.1)) (below g.shape.informed_actions)) (below g.shape.states) +ℤ z)
    (ap (λ (z : ℤ). z *ℤ counted_after points p.splits.items g.shape.observations a) (magnitude-is g.shape.discount.0 over) ∙ ap (λ (z : ℤ). pos (unsigned_abs g.shape.discount.0) *ℤ z) (counted-are g points p fits a))

pub limit-is : (g : GameData) → IsGame g → (p : PointParts) → limit g p ≡ p.value *ℤ pos (mix_total * unsigned_abs g.shape.row_total * unsigned_abs g.shape.discount.1)
limit-is g h p = ap (λ (z : ℤ). p.value *ℤ z) (scale-is g h)

-- what the code forms on the way fits
pub record FormedFits (g : GameData) (p : PointParts) (rewards later : ℤ) : Type 0 where
  pub whole : FitsSigned w128 g.shape.row_total
  pub over : FitsSigned w128 g.shape.discount.0
  pub under : FitsSigned w128 g.shape.discount.1
  pub rewards_fit : FitsSigned w128 rewards
  pub later_fits : FitsSigned w128 later
  pub divisor : FitsSigned w128 (g.shape.row_total *ℤ g.shape.discount.1)
  pub scale : FitsSigned w128 (pos 65536 *ℤ (g.shape.row_total *ℤ g.shape.discount.1))
  pub at_once : FitsSigned w128 ((pos 65536 *ℤ (g.shape.row_total *ℤ g.shape.discount.1)) *ℤ rewards)
  pub discounted : FitsSigned w128 (g.shape.discount.0 *ℤ later)
  pub all : FitsSigned w128 (formed g rewards later)
  pub small : unsigned_abs (formed g rewards later) ≤ 2 ^ 125

pub formed-fits : (g : GameData) → IsGame g → (points : List PointParts) (p : PointParts) → IsMember g points p → SplitsHold (numbers g) (points_of (data_of points)) (point_of (point_data p)) → (a : ℕ) → a < g.shape.own_actions → (rewards later : ℤ) →
    rewards ≡ total (λ s. pos (weight_at p.belief s) *ℤ row_rewards g p.mixes a s) (below g.shape.states) → unsigned_abs later ≤ span g * (unsigned_abs g.shape.row_total * 65536 * belief_sum g p) → FormedFits g p rewards later
formed-fits g h points p member splits a la rewards later is small =
    let D : ℕ = unsigned_abs g.shape.row_total in
    let P : ℕ = unsigned_abs g.shape.discount.0 in
    let Q : ℕ = unsigned_abs g.shape.discount.1 in
    let R : ℕ = greatest_reward g in
    let V : ℕ = span g in
    let B : ℕ = belief_sum g p in
    let w = widths g h in
    let lb = belief-small g p member.fits in
    let row = w.row in
    let under = w.under in
    let over = w.over in
    let d_size : D * Q ≤ 2 ^ 50 = mul-le D Q (2 ^ 30) (2 ^ 20) w.row w.under in
    let divisor_size : unsigned_abs (g.shape.row_total *ℤ g.shape.discount.1) ≡ D * Q = unsigned_abs-mul g.shape.row_total g.shape.discount.1 in
    let scale_size : unsigned_abs (pos 65536 *ℤ (g.shape.row_total *ℤ g.shape.discount.1)) ≡ 65536 * (D * Q) = unsigned_abs-mul (pos 65536) (g.shape.row_total *ℤ g.shape.discount.1) ∙ ap (λ (n : ℕ). 65536 * n) divisor_size in
    let rewards_size : unsigned_abs rewards ≤ B * (65536 * R) = subst (λ (z : ℤ). unsigned_abs z ≤ B * (65536 * R)) (sym is) (rewards-size g h p member.fits a la) in
    let room_one = rewards-room D P Q R V B (unsigned_abs rewards) w lb rewards_size in
    let once_size : unsigned_abs ((pos 65536 *ℤ (g.shape.row_total *ℤ g.shape.discount.1)) *ℤ rewards) ≤ 2 ^ 124 =
    rw (unsigned_abs-mul (pos 65536 *ℤ (g.shape.row_total *ℤ g.shape.discount.1)) rewards, scale_size) room_one in
    let room_two = counted-room D P Q R V B (unsigned_abs later) w lb small in
    let room_three = over-room D P Q R V (unsigned_abs later) w room_two in
    let later_size = room_three.1 in
    let discounted_size : unsigned_abs (g.shape.discount.0 *ℤ later) ≤ 2 ^ 124 = rw (unsigned_abs-mul g.shape.discount.0 later) room_three.0 in
    let rewards_small : unsigned_abs rewards ≤ 2 ^ 124 = rewards-small B R (unsigned_abs rewards) lb (greatest-small g h) rewards_size in
    let all_size : unsigned_abs (formed g rewards later) ≤ 2 ^ 125 = omega (arith, abs-add ((pos 65536 *ℤ (g.shape.row_total *ℤ g.shape.discount.1)) *ℤ rewards) (g.shape.discount.0 *ℤ later)) in
    record {
      whole = fits_signed_from_abs w128 g.shape.row_total (omega arith);
      over = fits_signed_from_abs w128 g.shape.discount.0 (omega arith);
      under = fits_signed_from_abs w128 g.shape.discount.1 (omega arith);
      rewards_fit = fits_signed_from_abs w128 rewards (omega arith);
      later_fits = fits_signed_from_abs w128 later (omega arith);
      divisor = fits_signed_from_abs w128 (g.shape.row_total *ℤ g.shape.discount.1) (omega arith);
      scale = fits_signed_from_abs w128 (pos 65536 *ℤ (g.shape.row_total *ℤ g.shape.discount.1)) (omega arith);
      at_once = fits_signed_from_abs w128 ((pos 65536 *ℤ (g.shape.row_total *ℤ g.shape.discount.1)) *ℤ rewards) (omega arith);
      discounted = fits_signed_from_abs w128 (g.shape.discount.0 *ℤ later) (omega arith);
      all = fits_signed_from_abs w128 (formed g rewards later) (omega arith);
      small = all_size;
    }
  where
    rewards-small : (B R r : ℕ) → B ≤ 2 ^ 20 → R ≤ 2 ^ 30 → r ≤ B * (65536 * R) → r ≤ 2 ^ 124
    rewards-small B R r lb lr l = omega (arith, mul-le B (65536 * R) (2 ^ 20) (2 ^ 46) lb (omega arith))

-- what the shares count for, as the code sums it
pub later-size : (g : GameData) → IsGame g → (points : List PointParts) (p : PointParts) → IsMember g points p → SplitsHold (numbers g) (points_of (data_of points)) (point_of (point_data p)) → (a : ℕ) → a < g.shape.own_actions →
    unsigned_abs (counted_after (points_of (data_of points)) p.splits.items g.shape.observations a) ≤ span g * (unsigned_abs g.shape.row_total * 65536 * belief_sum g p)
later-size g h points p member splits a la =
    let pts = points_of (data_of points) in
    omega (
      arith,
      total-size (λ o. total (counted pts) (filter (IsAfter a o) p.splits.items)) (below g.shape.observations),
      sum_by-le-sum_by (λ o. unsigned_abs (total (counted pts) (filter (IsAfter a o) p.splits.items))) (λ o. counted_size pts (filter (IsAfter a o) p.splits.items)) (below g.shape.observations) (λ o. total-size (counted pts) (filter (IsAfter a o) p.splits.items)),
      counted-size g h points p member splits a la,
    )

-- the sizes that the sum over the shares asks for
pub counted-small : (g : GameData) → IsGame g → (points : List PointParts) (p : PointParts) → IsMember g points p → SplitsHold (numbers g) (points_of (data_of points)) (point_of (point_data p)) → (a : ℕ) → a < g.shape.own_actions →
    sum_by (λ o. counted_size (points_of (data_of points)) (filter (IsAfter a o) p.splits.items)) (below g.shape.observations) ≤ 2 ^ 124
counted-small g h points p member splits a la =
    let w = widths g h in
    let n : ℕ = sum_by (λ o. counted_size (points_of (data_of points)) (filter (IsAfter a o) p.splits.items)) (below g.shape.observations) in
    (over-room (unsigned_abs g.shape.row_total) (unsigned_abs g.shape.discount.0) (unsigned_abs g.shape.discount.1) (greatest_reward g) (span g) n w
    (counted-room (unsigned_abs g.shape.row_total) (unsigned_abs g.shape.discount.0) (unsigned_abs g.shape.discount.1) (greatest_reward g) (span g) (belief_sum g p) n w (belief-small g p member.fits) (counted-size g h points p member splits a la))).1

abbrev pub later_bound : GameData → PointParts → ℕ
later_bound g p = span g * (unsigned_abs g.shape.row_total * 65536 * belief_sum g p)

-- before the sums are there
pub record ScaleFits (g : GameData) : Type 0 where
  pub whole : FitsSigned w128 g.shape.row_total
  pub over : FitsSigned w128 g.shape.discount.0
  pub under : FitsSigned w128 g.shape.discount.1
  pub divisor : FitsSigned w128 (g.shape.row_total *ℤ g.shape.discount.1)
  pub scale : FitsSigned w128 (pos 65536 *ℤ (g.shape.row_total *ℤ g.shape.discount.1))

pub scale-fits : (g : GameData) → IsGame g → ScaleFits g
scale-fits g h =
    let D : ℕ = unsigned_abs g.shape.row_total in
    let Q : ℕ = unsigned_abs g.shape.discount.1 in
    let w = widths g h in
    let row = w.row in
    let under = w.under in
    let over = w.over in
    let d_size : D * Q ≤ 2 ^ 50 = mul-le D Q (2 ^ 30) (2 ^ 20) w.row w.under in
    let divisor_size : unsigned_abs (g.shape.row_total *ℤ g.shape.discount.1) ≡ D * Q = unsigned_abs-mul g.shape.row_total g.shape.discount.1 in
    let scale_size : unsigned_abs (pos 65536 *ℤ (g.shape.row_total *ℤ g.shape.discount.1)) ≡ 65536 * (D * Q) = unsigned_abs-mul (pos 65536) (g.shape.row_total *ℤ g.shape.discount.1) ∙ ap (λ (n : ℕ). 65536 * n) divisor_size in
    record {
      whole = fits_signed_from_abs w128 g.shape.row_total (omega arith);
      over = fits_signed_from_abs w128 g.shape.discount.0 (omega arith);
      under = fits_signed_from_abs w128 g.shape.discount.1 (omega arith);
      divisor = fits_signed_from_abs w128 (g.shape.row_total *ℤ g.shape.discount.1) (omega arith);
      scale = fits_signed_from_abs w128 (pos 65536 *ℤ (g.shape.row_total *ℤ g.shape.discount.1)) (omega arith);
    }

-- the value rule's right side
pub record LimitFits (g : GameData) (p : PointParts) : Type 0 where
  pub whole : FitsSigned w128 g.shape.row_total
  pub over : FitsSigned w128 g.shape.discount.0
  pub under : FitsSigned w128 g.shape.discount.1
  pub divisor : FitsSigned w128 (g.shape.row_total *ℤ g.shape.discount.1)
  pub scale : FitsSigned w128 (pos 65536 *ℤ (g.shape.row_total *ℤ g.shape.discount.1))
  pub value_fits : FitsSigned w128 p.value
  pub right : FitsSigned w128 (limit g p)

pub limit-fits : (g : GameData) → IsGame g → (p : PointParts) → PointFits g most_points (point_data p) → LimitFits g p
limit-fits g h p fits =
    let D : ℕ = unsigned_abs g.shape.row_total in
    let P : ℕ = unsigned_abs g.shape.discount.0 in
    let Q : ℕ = unsigned_abs g.shape.discount.1 in
    let R : ℕ = greatest_reward g in
    let V : ℕ = span g in
    let B : ℕ = belief_sum g p in
    let lb = belief-small g p fits in
    let s = scale-fits g h in
    let divisor_size : unsigned_abs (g.shape.row_total *ℤ g.shape.discount.1) ≡ D * Q = unsigned_abs-mul g.shape.row_total g.shape.discount.1 in
    let scale_size : unsigned_abs (pos 65536 *ℤ (g.shape.row_total *ℤ g.shape.discount.1)) ≡ 65536 * (D * Q) = unsigned_abs-mul (pos 65536) (g.shape.row_total *ℤ g.shape.discount.1) ∙ ap (λ (n : ℕ). 65536 * n) divisor_size in
    let y_size : unsigned_abs p.value ≤ V * B = value-size g p fits in
    let limit_size : unsigned_abs (limit g p) ≤ 2 ^ 124 =
    rw (unsigned_abs-mul p.value (pos 65536 *ℤ (g.shape.row_total *ℤ g.shape.discount.1)), scale_size) (value-room D P Q R V B (unsigned_abs p.value) (widths g h) lb y_size) in
    let value_small : unsigned_abs p.value ≤ 2 ^ 124 = omega (arith, y_size, mul-le V B (2 ^ 66) (2 ^ 20) (span-small g h) lb) in
    record {
      whole = s.whole;
      over = s.over;
      under = s.under;
      divisor = s.divisor;
      scale = s.scale;
      value_fits = fits_signed_from_abs w128 p.value (omega arith);
      right = fits_signed_from_abs w128 (limit g p) (omega arith);
    }

-- before the shares are counted
pub record RewardsFit (g : GameData) (rewards : ℤ) : Type 0 where
  pub whole : FitsSigned w128 g.shape.row_total
  pub over : FitsSigned w128 g.shape.discount.0
  pub under : FitsSigned w128 g.shape.discount.1
  pub rewards_fit : FitsSigned w128 rewards
  pub divisor : FitsSigned w128 (g.shape.row_total *ℤ g.shape.discount.1)
  pub scale : FitsSigned w128 (pos 65536 *ℤ (g.shape.row_total *ℤ g.shape.discount.1))
  pub at_once : FitsSigned w128 ((pos 65536 *ℤ (g.shape.row_total *ℤ g.shape.discount.1)) *ℤ rewards)

pub rewards-fit : (g : GameData) → IsGame g → (p : PointParts) → PointFits g most_points (point_data p) → (a : ℕ) → a < g.shape.own_actions → (rewards : ℤ) →
    rewards ≡ total (λ s. pos (weight_at p.belief s) *ℤ row_rewards g p.mixes a s) (below g.shape.states) → RewardsFit g rewards
rewards-fit g h p fits a la rewards is =
    let D : ℕ = unsigned_abs g.shape.row_total in
    let P : ℕ = unsigned_abs g.shape.discount.0 in
    let Q : ℕ = unsigned_abs g.shape.discount.1 in
    let R : ℕ = greatest_reward g in
    let B : ℕ = belief_sum g p in
    let w = widths g h in
    let s = scale-fits g h in
    let lb = belief-small g p fits in
    let divisor_size : unsigned_abs (g.shape.row_total *ℤ g.shape.discount.1) ≡ D * Q = unsigned_abs-mul g.shape.row_total g.shape.discount.1 in
    let scale_size : unsigned_abs (pos 65536 *ℤ (g.shape.row_total *ℤ g.shape.discount.1)) ≡ 65536 * (D * Q) = unsigned_abs-mul (pos 65536) (g.shape.row_total *ℤ g.shape.discount.1) ∙ ap (λ (n : ℕ). 65536 * n) divisor_size in
    let rewards_size : unsigned_abs rewards ≤ B * (65536 * R) = subst (λ (z : ℤ). unsigned_abs z ≤ B * (65536 * R)) (sym is) (rewards-size g h p fits a la) in
    let small : unsigned_abs rewards ≤ 2 ^ 66 = omega (arith, rewards_size, mul-le B (65536 * R) (2 ^ 20) (2 ^ 46) lb (omega (arith, greatest-small g h))) in
    let once_size : unsigned_abs ((pos 65536 *ℤ (g.shape.row_total *ℤ g.shape.discount.1)) *ℤ rewards) ≤ 2 ^ 124 =
    rw (unsigned_abs-mul (pos 65536 *ℤ (g.shape.row_total *ℤ g.shape.discount.1)) rewards, scale_size) (rewards-room D P Q R (span g) B (unsigned_abs rewards) w lb rewards_size) in
    record {
      whole = s.whole;
      over = s.over;
      under = s.under;
      rewards_fit = fits_signed_from_abs w128 rewards (omega arith);
      divisor = s.divisor;
      scale = s.scale;
      at_once = fits_signed_from_abs w128 ((pos 65536 *ℤ (g.shape.row_total *ℤ g.shape.discount.1)) *ℤ rewards) (omega arith);
    }

-- the test of an order decides it for equal numbers
pub order-is : (x y v w : ℤ) → x ≡ v → y ≡ w → (IsTrue (le_z x y) → v ≤ℤ w) × (v ≤ℤ w → IsTrue (le_z x y))
order-is x y v w e f =
    (λ yes. subst (λ (z : ℤ). z ≤ℤ w) e (subst (λ (z : ℤ). x ≤ℤ z) f ((at_most x y).0 yes)), λ h. (at_most x y).1 (subst (λ (z : ℤ). x ≤ℤ z) (sym f) (subst (λ (z : ℤ). z ≤ℤ w) (sym e) h)))
