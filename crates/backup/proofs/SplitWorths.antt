-- What one stage costs a point whose masses are split lies within the span.
use Rattle.std.proofs.Common.{◌≡◌, ℕ, ◌*◌, ◌<◌, ◌≤◌, List, map, arith, sym, subst}
use Rattle.std.specs.Prelude.{ℤ, pos, neg_ℤ, ◌+ℤ◌, ◌*ℤ◌, ◌≤ℤ◌, sum_by, unsigned_abs}
use Rattle.std.specs.List.{AllByRecursion}
use Rattle.std.proofs.lemmas.Int.{ints}
use Rattle.scaled_num.specs.Sums.{below, total}
use Rattle.scaled_num.proofs.Products.{le-mulℤ, mul-neg}
use Rattle.scaled_num.proofs.Sums.{each-map, sum_by-map, sum_by-same, total-below-le, total-map, total-weights}
use Rattle.game_model.specs.Branches.{Continuation, mix_total}
use Rattle.game_model.specs.Game.{unit}
use Rattle.game_model.specs.Numbers.{Numbers}
use Rattle.game_model.specs.Seeds.{KeepsSpan, stage_worth}
use Rattle.game_model.specs.declared.branches.Branch.{Branch as ShareParts}
use Rattle.point_set.specs.Faults.{SplitsHold}
use Rattle.point_set.specs.Members.{brought, counted, counted_size}
use Rattle.point_set.specs.Points.{Point, mass, point_worth, shared, shares_at}
use Rattle.point_set.proofs.Masses.{shares-size, sum-below-same}
use Rattle.point_set.proofs.Running.{total-size}
use Rattle.backup.proofs.CornerValues.{stages-are}
use Rattle.backup.proofs.Roots.{AreFull, stage-between, total-within}

-- a share as the program has it
parts : Continuation → ShareParts
parts share = record { a = share.own; o = share.seen; k = share.member; weight = pos share.weight }

-- a share's point is worth no more than the span, times the total of its belief
abbrev pub IsLight : (ℕ → Point) → ℕ → ℕ → Continuation → Type 0
IsLight points span states share = unsigned_abs (points share.member).value ≤ span * sum_by (points share.member).belief (below states)

-- so shares count for no more than the span, times what they bring
shares-light : (points : ℕ → Point) (span states : ℕ) (shares : List Continuation) → AllByRecursion (IsLight points span states) shares →
    unsigned_abs (total (λ (share : Continuation). pos share.weight *ℤ (points share.member).value) shares) ≤ span * sum_by (λ t. sum_by (λ (share : Continuation). share.weight * (points share.member).belief t) shares) (below states)
unfolding parts
shares-light points span states shares light =
    let ws : List ShareParts = map parts shares in
    ends (total (counted points) ws) (total (λ (share : Continuation). pos share.weight *ℤ (points share.member).value) shares) (counted_size points ws)
    (sum_by (λ t. sum_by (brought points t) ws) (below states)) (sum_by (λ t. sum_by (λ (share : Continuation). share.weight * (points share.member).belief t) shares) (below states)) span
    (total-map (counted points) parts shares)
    (sum_by-same (λ t. sum_by (brought points t) ws) (λ t. sum_by (λ (share : Continuation). share.weight * (points share.member).belief t) shares) (below states) (λ t. sum_by-map (brought points t) parts shares))
    (total-size (counted points) ws)
    (shares-size points span states ws (each-map (λ (w : ShareParts). unsigned_abs (points w.k).value ≤ span * sum_by (points w.k).belief (below states)) parts shares light))
  where
    ends : (x y : ℤ) (c m n v : ℕ) → x ≡ y → m ≡ n → unsigned_abs x ≤ c → c ≤ v * m → unsigned_abs y ≤ v * n
    ends x y c m n v e f h k = subst (λ (z : ℤ). unsigned_abs z ≤ v * n) e (subst (λ (i : ℕ). unsigned_abs x ≤ v * i) f (omega arith))

upper : (x : ℤ) (v m : ℕ) → unsigned_abs x ≤ v * m → x ≤ℤ (pos m *ℤ pos v)
upper x v m h = omega (arith, ints)

lower : (x : ℤ) (v m : ℕ) → unsigned_abs x ≤ v * m → (pos m *ℤ neg_ℤ (pos v)) ≤ℤ x
lower x v m h = subst (λ (z : ℤ). z ≤ℤ x) (sym (mul-neg m v)) (negative (m * v) (let l : unsigned_abs x ≤ m * v = omega arith in l))
  where
    negative : (n : ℕ) → unsigned_abs x ≤ n → neg_ℤ (pos n) ≤ℤ x
    negative n h = omega (arith, ints)

-- what the shares after an own action and an observation count for
shares-between : (g : Numbers) (span : ℕ) (points : ℕ → Point) (point : Point) → SplitsHold g points point → (a o : ℕ) → a < g.own_actions → o < g.observations →
    AllByRecursion (IsLight points span g.states) (shares_at point a o) →
    (total (λ t. pos (mass g point a o t) *ℤ neg_ℤ (pos span)) (below g.states) ≤ℤ total (λ (share : Continuation). pos share.weight *ℤ (points share.member).value) (shares_at point a o))
    × (total (λ (share : Continuation). pos share.weight *ℤ (points share.member).value) (shares_at point a o) ≤ℤ total (λ t. pos (mass g point a o t) *ℤ pos span) (below g.states))
shares-between g span points point splits a o la lo light =
    let x : ℤ = total (λ (share : Continuation). pos share.weight *ℤ (points share.member).value) (shares_at point a o) in
    let m : ℕ = sum_by (λ t. mass g point a o t) (below g.states) in
    let size : unsigned_abs x ≤ span * m =
    subst (λ (n : ℕ). unsigned_abs x ≤ span * n) (sum-below-same g.states (λ t. shared points point a o t) (λ t. mass g point a o t) (λ t lt. splits a o t la lo lt)) (shares-light points span g.states (shares_at point a o) light) in (
      subst (λ (z : ℤ). z ≤ℤ x) (sym (total-weights (λ t. mass g point a o t) (neg_ℤ (pos span)) (below g.states))) (lower x span m size),
      subst (λ (z : ℤ). x ≤ℤ z) (sym (total-weights (λ t. mass g point a o t) (pos span) (below g.states))) (upper x span m size),
    )

more : (n x y : ℤ) → x ≤ℤ y → (n +ℤ x) ≤ℤ (n +ℤ y)
more n x y h = omega (arith, ints)

-- the rewards of one stage
abbrev now : Numbers → Point → ℕ → ℤ
now g point a = total (λ s. total (λ c. pos (point.belief s * point.mixes s c) *ℤ g.reward s a c *ℤ pos (unit * g.row_total * g.discount_under)) (below g.informed_actions)) (below g.states)

-- what one stage costs, at most and at least
pub worth-between : (g : Numbers) (span : ℕ) → KeepsSpan g span → (points : ℕ → Point) (point : Point) → AreFull g point → SplitsHold g points point →
    ((a o : ℕ) → a < g.own_actions → o < g.observations → AllByRecursion (IsLight points span g.states) (shares_at point a o)) → (a : ℕ) → a < g.own_actions →
    ((pos (sum_by point.belief (below g.states)) *ℤ (pos mix_total *ℤ ((neg_ℤ (pos span)) *ℤ pos (g.row_total * g.discount_under)))) ≤ℤ point_worth g points point a)
    × (point_worth g points point a ≤ℤ (pos (sum_by point.belief (below g.states)) *ℤ (pos mix_total *ℤ (pos span *ℤ pos (g.row_total * g.discount_under)))))
worth-between g span keeps points point full splits light a la =
    let k : ℤ = pos (g.row_total * g.discount_under) in
    let later : ℤ → ℤ = λ y. total (λ o. total (λ t. pos (mass g point a o t) *ℤ y) (below g.states)) (below g.observations) in
    let x : ℤ = total (λ o. total (λ (share : Continuation). pos share.weight *ℤ (points share.member).value) (shares_at point a o)) (below g.observations) in
    let high : x ≤ℤ later (pos span) = total-below-le g.observations _ _ (λ o lo. (shares-between g span points point splits a o la lo (light a o la lo)).1) in
    let low : later (neg_ℤ (pos span)) ≤ℤ x = total-below-le g.observations _ _ (λ o lo. (shares-between g span points point splits a o la lo (light a o la lo)).0) in (
      through _ _ _
          (total-within g point full (λ s c. stage_worth g a (λ t. neg_ℤ (pos span)) s c) (neg_ℤ (pos span) *ℤ k) (pos span *ℤ k)
          (λ s c ls lc. stage-between g span keeps (λ t. neg_ℤ (pos span)) (λ t lt. (same (neg_ℤ (pos span)), less span)) a s c la ls lc)).0
          (from _ _ _ (stages-are g point a (λ t. neg_ℤ (pos span))) (added (now g point a) g.discount_over (later (neg_ℤ (pos span))) x low)),
      through _ _ _ (onto _ _ _ (stages-are g point a (λ t. pos span)) (added (now g point a) g.discount_over x (later (pos span)) high))
          (total-within g point full (λ s c. stage_worth g a (λ t. pos span) s c) (neg_ℤ (pos span) *ℤ k) (pos span *ℤ k)
          (λ s c ls lc. stage-between g span keeps (λ t. pos span) (λ t lt. (less span, same (pos span))) a s c la ls lc)).1,
    )
  where
    through : (x y z : ℤ) → x ≤ℤ y → y ≤ℤ z → x ≤ℤ z
    through x y z h l = omega (arith, ints)

    same : (x : ℤ) → x ≤ℤ x
    same x = omega (arith, ints)

    less : (v : ℕ) → neg_ℤ (pos v) ≤ℤ pos v
    less v = omega (arith, ints)

    added : (n : ℤ) (p : ℕ) (x y : ℤ) → x ≤ℤ y → (n +ℤ pos p *ℤ x) ≤ℤ (n +ℤ pos p *ℤ y)
    added n p x y h = more n (pos p *ℤ x) (pos p *ℤ y) (le-mulℤ p x y h)

    from : (x y z : ℤ) → x ≡ y → x ≤ℤ z → y ≤ℤ z
    from x y z e h = subst (λ (v : ℤ). v ≤ℤ z) e h

    onto : (x y z : ℤ) → x ≡ y → z ≤ℤ x → z ≤ℤ y
    onto x y z e h = subst (λ (v : ℤ). z ≤ℤ v) e h
