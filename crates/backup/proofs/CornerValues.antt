-- What one stage costs a point whose masses are split into corners.
use Rattle.std.proofs.Common.{◌≡◌, ℕ, ◌*◌, ◌<◌, Bool, true, false, cond, ◌==◌, List, ap, arith, sym, ◌∙◌}
use Rattle.std.specs.Prelude.{ℤ, pos, ◌+ℤ◌, ◌*ℤ◌, ◌≤ℤ◌}
use Rattle.std.proofs.lemmas.Int.{ints}
use Rattle.scaled_num.specs.Sums.{below, total}
use Rattle.scaled_num.proofs.Products.{le-mulℤ, products, sums}
use Rattle.scaled_num.proofs.Sums.{total-add, total-below, total-scale, total-single}
use Rattle.game_model.specs.Branches.{mix_total}
use Rattle.game_model.specs.Game.{GameData, numbers, unit}
use Rattle.game_model.specs.Numbers.{Numbers, over_row}
use Rattle.game_model.specs.Seeds.{stage_worth}
use Rattle.belief.specs.Mixes.{MixesData}
use Rattle.point_set.specs.Points.{Point, ValueHolds, mass, point_of, point_worth, shares_at}
use Rattle.backup.specs.Seeds.{corner_split, mass_at}
use Rattle.backup.proofs.CornerSplits.{BeginWithCorners, counted-corners}
use Rattle.point_set.proofs.Masses.{behind-two, mass-total}

-- the masses times what their next states are worth, by the states and actions that they come from
later-is : (g : Numbers) (point : Point) (a : ℕ) (y : ℕ → ℤ) →
    total (λ o. total (λ t. pos (mass g point a o t) *ℤ y t) (below g.states)) (below g.observations)
    ≡ total (λ s. total (λ c. pos (point.belief s * point.mixes s c) *ℤ over_row g s a c (λ o t. y t)) (below g.informed_actions)) (below g.states)
later-is g point a y =
    total-below g.observations _ _ (λ o lo. total-below g.states _ _ (λ t lt. sym (mass-total g point a o t (y t))))
    ∙ sym (behind-two (λ s c o t. pos (point.belief s * point.mixes s c * g.weight s a c o t) *ℤ y t) (below g.states) (below g.informed_actions) (below g.observations) (below g.states))
    ∙ total-below g.states _ _ (λ s ls. total-below g.informed_actions _ _ (λ c lc.
    total-below g.observations _ (λ o. pos (point.belief s * point.mixes s c) *ℤ total (λ t. pos (g.weight s a c o t) *ℤ y t) (below g.states)) (λ o lo.
    total-below g.states _ (λ t. pos (point.belief s * point.mixes s c) *ℤ (pos (g.weight s a c o t) *ℤ y t)) (λ t lt.
    turn (pos (point.belief s * point.mixes s c)) (pos (g.weight s a c o t)) (y t))
    ∙ total-scale (pos (point.belief s * point.mixes s c)) (λ t. pos (g.weight s a c o t) *ℤ y t) (below g.states))
    ∙ total-scale (pos (point.belief s * point.mixes s c)) (λ o. total (λ t. pos (g.weight s a c o t) *ℤ y t) (below g.states)) (below g.observations)))
  where
    turn : (b w y : ℤ) → (b *ℤ w) *ℤ y ≡ b *ℤ (w *ℤ y)
    turn b w y = simp products (omega (arith, sums))

-- what one stage pays at once, and what the masses are worth later, are what the stages are worth from the states and
-- actions that a point mixes
pub stages-are : (g : Numbers) (point : Point) (a : ℕ) (y : ℕ → ℤ) →
    total (λ s. total (λ c. pos (point.belief s * point.mixes s c) *ℤ g.reward s a c *ℤ pos (unit * g.row_total * g.discount_under)) (below g.informed_actions)) (below g.states)
    +ℤ pos g.discount_over *ℤ total (λ o. total (λ t. pos (mass g point a o t) *ℤ y t) (below g.states)) (below g.observations)
    ≡ total (λ s. total (λ c. pos (point.belief s * point.mixes s c) *ℤ stage_worth g a y s c) (below g.informed_actions)) (below g.states)
stages-are g point a y =
    let K : ℕ = unit * g.row_total * g.discount_under in
    let P : ℤ = pos g.discount_over in
    let b : ℕ → ℕ → ℤ = λ s c. pos (point.belief s * point.mixes s c) in
    let rest : ℕ → ℕ → ℤ = λ s c. over_row g s a c (λ o t. y t) in
    let now : ℤ = total (λ s. total (λ c. b s c *ℤ g.reward s a c *ℤ pos K) (below g.informed_actions)) (below g.states) in
    ap (λ (z : ℤ). now +ℤ P *ℤ z) (later-is g point a y)
    ∙ ap (λ (z : ℤ). now +ℤ z) (
    sym (total-scale P (λ s. total (λ c. b s c *ℤ rest s c) (below g.informed_actions)) (below g.states))
    ∙ total-below g.states _ _ (λ s ls. sym (total-scale P (λ c. b s c *ℤ rest s c) (below g.informed_actions))))
    ∙ sym (total-add (λ s. total (λ c. b s c *ℤ g.reward s a c *ℤ pos K) (below g.informed_actions)) (λ s. total (λ c. P *ℤ (b s c *ℤ rest s c)) (below g.informed_actions)) (below g.states))
    ∙ total-below g.states _ _ (λ s ls.
    sym (total-add (λ c. b s c *ℤ g.reward s a c *ℤ pos K) (λ c. P *ℤ (b s c *ℤ rest s c)) (below g.informed_actions))
    ∙ total-below g.informed_actions _ _ (λ c lc. joined (b s c) (g.reward s a c) (pos unit) (pos g.row_total) (pos g.discount_under) P (rest s c)))
  where
    joined : (b r e d q p x : ℤ) → b *ℤ r *ℤ ((e *ℤ d) *ℤ q) +ℤ p *ℤ (b *ℤ x) ≡ b *ℤ (e *ℤ r *ℤ (d *ℤ q) +ℤ p *ℤ x)
    joined b r e d q p x = simp products (omega (arith, sums))

-- where the shares are worth what their masses are worth at these values, a point is worth what the stages are
-- from the states and actions that it mixes
pub worth-is : (g : Numbers) (points : ℕ → Point) (y : ℕ → ℤ) (point : Point) (a : ℕ) →
    ((o : ℕ) → o < g.observations → total (λ share. pos share.weight *ℤ (points share.member).value) (shares_at point a o) ≡ total (λ t. pos (mass g point a o t) *ℤ y t) (below g.states)) →
    point_worth g points point a ≡ total (λ s. total (λ c. pos (point.belief s * point.mixes s c) *ℤ stage_worth g a y s c) (below g.informed_actions)) (below g.states)
worth-is g points y point a h =
    ap (λ (z : ℤ). total (λ s. total (λ c. pos (point.belief s * point.mixes s c) *ℤ g.reward s a c *ℤ pos (unit * g.row_total * g.discount_under)) (below g.informed_actions)) (below g.states) +ℤ pos g.discount_over *ℤ z)
    (total-below g.observations _ _ h)
    ∙ stages-are g point a y

-- the same for a point that is split into corners
pub corner-worth : (g : GameData) (values : ℕ → ℤ) (points : ℕ → Point) → BeginWithCorners g values points → (belief : List ℤ) (value : ℤ) (mixes : MixesData) (a : ℕ) → a < g.shape.own_actions →
    point_worth (numbers g) points (point_of (corner_split g belief value mixes)) a
    ≡ total (λ s. total (λ c. pos ((point_of (corner_split g belief value mixes)).belief s * (point_of (corner_split g belief value mixes)).mixes s c) *ℤ stage_worth (numbers g) a values s c) (below g.shape.informed_actions)) (below g.shape.states)
corner-worth g values points corners belief value mixes a la =
    worth-is (numbers g) points values (point_of (corner_split g belief value mixes)) a (λ o lo.
    counted-corners g belief value mixes a o (λ k. (points k).value) la lo
    ∙ total-below g.shape.states _ _ (λ t lt. ap (λ (z : ℤ). pos (mass_at g belief mixes a o t) *ℤ z) (corners.value t lt)))

-- ---- at a corner
-- the belief is sure of s, and the informed player surely plays c there
pub record IsSureOf (g : Numbers) (point : Point) (s c : ℕ) : Type 0 where
  pub belief : (t : ℕ) → t < g.states → point.belief t ≡ cond (t == s) 1 0
  pub mixes : (d : ℕ) → d < g.informed_actions → point.mixes s d ≡ cond (d == c) mix_total 0

pub sure-total : (g : Numbers) (point : Point) (s c : ℕ) (W : ℕ → ℕ → ℤ) → s < g.states → c < g.informed_actions → IsSureOf g point s c →
    total (λ t. total (λ d. pos (point.belief t * point.mixes t d) *ℤ W t d) (below g.informed_actions)) (below g.states) ≡ pos mix_total *ℤ W s c
sure-total g point s c W ls lc sure =
    total-below g.states _ (λ t. pos (cond (t == s) 1 0) *ℤ total (λ d. pos (point.mixes t d) *ℤ W t d) (below g.informed_actions)) (λ t lt.
    total-below g.informed_actions _ (λ d. pos (point.belief t) *ℤ (pos (point.mixes t d) *ℤ W t d)) (λ d ld. turn (pos (point.belief t)) (pos (point.mixes t d)) (W t d))
    ∙ total-scale (pos (point.belief t)) (λ d. pos (point.mixes t d) *ℤ W t d) (below g.informed_actions)
    ∙ ap (λ (n : ℕ). pos n *ℤ total (λ d. pos (point.mixes t d) *ℤ W t d) (below g.informed_actions)) (sure.belief t lt))
    ∙ total-single (λ t. total (λ d. pos (point.mixes t d) *ℤ W t d) (below g.informed_actions)) s g.states ls
    ∙ total-below g.informed_actions _ (λ d. pos (cond (d == c) 1 0) *ℤ (pos mix_total *ℤ W s d)) (λ d ld.
    ap (λ (n : ℕ). pos n *ℤ W s d) (sure.mixes d ld) ∙ scaled (d == c) (W s d))
    ∙ total-single (λ d. pos mix_total *ℤ W s d) c g.informed_actions lc
  where
    turn : (b m w : ℤ) → (b *ℤ m) *ℤ w ≡ b *ℤ (m *ℤ w)
    turn b m w = simp products (omega (arith, sums))

    scaled : (b : Bool) (z : ℤ) → pos (cond b mix_total 0) *ℤ z ≡ pos (cond b 1 0) *ℤ (pos mix_total *ℤ z)
    scaled true z = omega (arith, ints)
    scaled false z = omega (arith, ints)

-- the value rule at a corner, from what one stage is worth there
pub corner-value : (g : GameData) (values : ℕ → ℤ) (points : ℕ → Point) → BeginWithCorners g values points → (belief : List ℤ) (mixes : MixesData) (s c a : ℕ) →
    s < g.shape.states → c < g.shape.informed_actions → a < g.shape.own_actions → IsSureOf (numbers g) (point_of (corner_split g belief (values s) mixes)) s c →
    stage_worth (numbers g) a values s c ≤ℤ (values s *ℤ pos ((numbers g).row_total * (numbers g).discount_under)) →
    ValueHolds (numbers g) points (point_of (corner_split g belief (values s) mixes)) a
corner-value g values points corners belief mixes s c a ls lc la sure h =
    ends _ _ _ _
    (corner-worth g values points corners belief (values s) mixes a la
    ∙ sure-total (numbers g) (point_of (corner_split g belief (values s) mixes)) s c (λ t d. stage_worth (numbers g) a values t d) ls lc sure)
    (turn (pos mix_total) (values s) (pos (numbers g).row_total) (pos (numbers g).discount_under))
    (le-mulℤ mix_total (stage_worth (numbers g) a values s c) (values s *ℤ pos ((numbers g).row_total * (numbers g).discount_under)) h)
  where
    turn : (m v d q : ℤ) → m *ℤ (v *ℤ (d *ℤ q)) ≡ v *ℤ ((m *ℤ d) *ℤ q)
    turn m v d q = simp products (omega (arith, sums))

    ends : (x y z w : ℤ) → x ≡ y → z ≡ w → y ≤ℤ z → x ≤ℤ w
    ends x y z w e f h = omega (arith, ints)
