-- The value of a point that is split into corners lies within the span, and by it the point stands.
use Rattle.std.proofs.Common.{◌≡◌, ℕ, ◌*◌, ◌<◌, ◌≤◌, ap, arith, subst, sym, ◌∙◌}
use Rattle.std.specs.Prelude.{ℤ, pos, neg_ℤ, ◌*ℤ◌, ◌≤ℤ◌, sum_by}
use Rattle.std.proofs.lemmas.Int.{ints}
use Rattle.scaled_num.specs.Sums.{below, total}
use Rattle.scaled_num.proofs.Products.{le-mulℤ, products, sums, neg-mul}
use Rattle.scaled_num.proofs.Sums.{total-below, total-below-le, total-scale, total-weights}
use Rattle.game_model.specs.Branches.{mix_total}
use Rattle.game_model.specs.Numbers.{Numbers}
use Rattle.game_model.specs.Seeds.{KeepsSpan, stage_worth}
use Rattle.game_model.proofs.SeedVectors.{stage-within, worth-le}
use Rattle.point_set.specs.Points.{Point, point_worth}
use Rattle.backup.specs.Seeds.{IsEvaluation}
use Rattle.backup.proofs.FallingCorners.{KeepsCorners, ceil-le, divisor-some, le-cancel}

through : (x y z : ℤ) → x ≤ℤ y → y ≤ℤ z → x ≤ℤ z
through x y z h k = omega (arith, ints)

-- the mixes of a point have the mix total in each state
abbrev pub AreFull : Numbers → Point → Type 0
AreFull g point = (s : ℕ) → s < g.states → sum_by (point.mixes s) (below g.informed_actions) ≡ mix_total

-- a number that stands everywhere is counted as often as belief and mixes weigh
flat-total : (g : Numbers) (point : Point) → AreFull g point → (w : ℤ) →
    total (λ s. total (λ c. pos (point.belief s * point.mixes s c) *ℤ w) (below g.informed_actions)) (below g.states) ≡ pos (sum_by point.belief (below g.states)) *ℤ (pos mix_total *ℤ w)
flat-total g point full w =
    total-below g.states _ (λ s. pos (point.belief s) *ℤ (pos mix_total *ℤ w)) (λ s ls.
    total-below g.informed_actions _ (λ c. pos (point.belief s) *ℤ (pos (point.mixes s c) *ℤ w)) (λ c lc. turn (pos (point.belief s)) (pos (point.mixes s c)) w)
    ∙ total-scale (pos (point.belief s)) (λ c. pos (point.mixes s c) *ℤ w) (below g.informed_actions)
    ∙ ap (λ (z : ℤ). pos (point.belief s) *ℤ z) (total-weights (point.mixes s) w (below g.informed_actions) ∙ ap (λ (n : ℕ). pos n *ℤ w) (full s ls)))
    ∙ total-weights point.belief (pos mix_total *ℤ w) (below g.states)
  where
    turn : (b m w : ℤ) → (b *ℤ m) *ℤ w ≡ b *ℤ (m *ℤ w)
    turn b m w = simp products (omega (arith, sums))

-- what the stages are worth in all, where each lies within two numbers
pub total-within : (g : Numbers) (point : Point) → AreFull g point → (W : ℕ → ℕ → ℤ) (low high : ℤ) →
    ((s c : ℕ) → s < g.states → c < g.informed_actions → (low ≤ℤ W s c) × (W s c ≤ℤ high)) →
    ((pos (sum_by point.belief (below g.states)) *ℤ (pos mix_total *ℤ low)) ≤ℤ total (λ s. total (λ c. pos (point.belief s * point.mixes s c) *ℤ W s c) (below g.informed_actions)) (below g.states))
    × (total (λ s. total (λ c. pos (point.belief s * point.mixes s c) *ℤ W s c) (below g.informed_actions)) (below g.states) ≤ℤ (pos (sum_by point.belief (below g.states)) *ℤ (pos mix_total *ℤ high)))
total-within g point full W low high h = (
  subst (λ (z : ℤ). z ≤ℤ total (λ s. total (λ c. pos (point.belief s * point.mixes s c) *ℤ W s c) (below g.informed_actions)) (below g.states)) (flat-total g point full low)
      (total-below-le g.states _ _ (λ s ls. total-below-le g.informed_actions _ _ (λ c lc. le-mulℤ (point.belief s * point.mixes s c) low (W s c) (h s c ls lc).0))),
  subst (λ (z : ℤ). total (λ s. total (λ c. pos (point.belief s * point.mixes s c) *ℤ W s c) (below g.informed_actions)) (below g.states) ≤ℤ z) (flat-total g point full high)
      (total-below-le g.states _ _ (λ s ls. total-below-le g.informed_actions _ _ (λ c lc. le-mulℤ (point.belief s * point.mixes s c) (W s c) high (h s c ls lc).1))),
)

-- a stage's worth at values within the span
pub stage-between : (g : Numbers) (span : ℕ) → KeepsSpan g span → (values : ℕ → ℤ) → ((s : ℕ) → s < g.states → ((neg_ℤ (pos span)) ≤ℤ (values s)) × ((values s) ≤ℤ (pos span))) →
    (a s c : ℕ) → a < g.own_actions → s < g.states → c < g.informed_actions →
    (((neg_ℤ (pos span)) *ℤ pos (g.row_total * g.discount_under)) ≤ℤ stage_worth g a values s c) × (stage_worth g a values s c ≤ℤ (pos span *ℤ pos (g.row_total * g.discount_under)))
stage-between g span keeps values inside a s c la ls lc =
    let ends = stage-within g span a keeps la s c ls lc in (
      through _ _ _ ends.0 (worth-le g a s c (λ t. neg_ℤ (pos span)) values (λ t lt. (inside t lt).0)),
      through _ _ _ (worth-le g a s c values (λ t. pos span) (λ t lt. (inside t lt).1)) ends.1,
    )

-- so the evaluation lies within the span, times the belief's total
pub evaluation-between : (g : Numbers) (span : ℕ) → KeepsCorners g span → (points : ℕ → Point) (point : Point) →
    ((a : ℕ) → a < g.own_actions → ((pos (sum_by point.belief (below g.states)) *ℤ (pos mix_total *ℤ ((neg_ℤ (pos span)) *ℤ pos (g.row_total * g.discount_under)))) ≤ℤ point_worth g points point a)
    × (point_worth g points point a ≤ℤ (pos (sum_by point.belief (below g.states)) *ℤ (pos mix_total *ℤ (pos span *ℤ pos (g.row_total * g.discount_under)))))) →
    (x : ℤ) → IsEvaluation g points point x →
    ((neg_ℤ (pos span *ℤ pos (sum_by point.belief (below g.states)))) ≤ℤ x) × (x ≤ℤ (pos span *ℤ pos (sum_by point.belief (below g.states))))
evaluation-between g span keeps points point worth x is =
    let K : ℕ = mix_total * g.row_total * g.discount_under in
    let B : ℕ = sum_by point.belief (below g.states) in
    let a = is.some.0 in
    let la = is.some.1 in (
      le-cancel K (neg_ℤ (pos span *ℤ pos B)) x (scale-some g.row_total g.discount_under (divisor-some g span keeps.keeps))
          (lower _ _ _ _ (turn (pos B) (pos mix_total) (neg_ℤ (pos span)) (pos g.row_total) (pos g.discount_under) ∙ ap (λ (z : ℤ). z *ℤ pos K) (negated span B)) (worth 0 keeps.own).0 (is.each 0 keeps.own)),
      ceil-le K x (pos span *ℤ pos B) (point_worth g points point a) (point_worth g points point a) is.some.2 (same (point_worth g points point a))
          (upper _ _ _ (turn (pos B) (pos mix_total) (pos span) (pos g.row_total) (pos g.discount_under)) (worth a la).1),
    )
  where
    same : (x : ℤ) → x ≤ℤ x
    same x = omega (arith, ints)

    scale-some : (d q : ℕ) → 1 ≤ d * q → 1 ≤ 65536 * d * q
    scale-some d q l = omega arith

    turn : (b m v d q : ℤ) → b *ℤ (m *ℤ (v *ℤ (d *ℤ q))) ≡ (v *ℤ b) *ℤ ((m *ℤ d) *ℤ q)
    turn b m v d q = simp products (omega (arith, sums))

    negated : (v b : ℕ) → neg_ℤ (pos v) *ℤ pos b ≡ neg_ℤ (pos v *ℤ pos b)
    negated v b = neg-mul v b

    lower : (x y w v : ℤ) → x ≡ v → x ≤ℤ y → y ≤ℤ w → v ≤ℤ w
    lower x y w v e h k = omega (arith, ints)

    upper : (x y w : ℤ) → x ≡ w → y ≤ℤ x → y ≤ℤ w
    upper x y w e h = omega (arith, ints)

-- the same where the stages are worth what values within the span make of them
pub evaluation-within : (g : Numbers) (span : ℕ) → KeepsCorners g span → (values : ℕ → ℤ) → ((s : ℕ) → s < g.states → ((neg_ℤ (pos span)) ≤ℤ (values s)) × ((values s) ≤ℤ (pos span))) →
    (points : ℕ → Point) (point : Point) → AreFull g point →
    ((a : ℕ) → a < g.own_actions → point_worth g points point a ≡ total (λ s. total (λ c. pos (point.belief s * point.mixes s c) *ℤ stage_worth g a values s c) (below g.informed_actions)) (below g.states)) →
    (x : ℤ) → IsEvaluation g points point x →
    ((neg_ℤ (pos span *ℤ pos (sum_by point.belief (below g.states)))) ≤ℤ x) × (x ≤ℤ (pos span *ℤ pos (sum_by point.belief (below g.states))))
evaluation-within g span keeps values inside points point full worth x is =
    let k : ℕ = g.row_total * g.discount_under in
    evaluation-between g span keeps points point (λ a la.
    let both = total-within g point full (λ s c. stage_worth g a values s c) ((neg_ℤ (pos span)) *ℤ pos k) (pos span *ℤ pos k) (λ s c ls lc. stage-between g span keeps.keeps values inside a s c la ls lc) in (
      subst (λ (z : ℤ). (pos (sum_by point.belief (below g.states)) *ℤ (pos mix_total *ℤ ((neg_ℤ (pos span)) *ℤ pos k))) ≤ℤ z) (sym (worth a la)) both.0,
      subst (λ (z : ℤ). z ≤ℤ (pos (sum_by point.belief (below g.states)) *ℤ (pos mix_total *ℤ (pos span *ℤ pos k)))) (sym (worth a la)) both.1,
    )) x is
