-- The lower half for families.
use Rattle.std.proofs.Common.{◌≡◌, ℕ, ◌*◌, ◌^◌, ◌<◌, ap, arith, ◌∙◌}
use Rattle.std.specs.Prelude.{ℤ, pos, ◌+ℤ◌, ◌-ℤ◌, ◌*ℤ◌, ◌≤ℤ◌, sum_by}
use Rattle.game_model.specs.Laws.{AlwaysEarnsFamily}
use Rattle.scaled_num.specs.Sums.{total, below}
use Rattle.game_model.specs.Play.{always, pay}
use Rattle.game_model.proofs.Lower.{always-lower, less_tail}
use Rattle.scaled_num.proofs.Products.{mulℤ_comm, le-mulℤ, products, sums}
use Rattle.scaled_num.proofs.Sums.{total-below, total-below-le, total-add, total-scale, total-weights}

-- what each state earns, summed by a belief
pub family-lower : (states e q y t : ℕ) (belief : ℕ → ℕ) (vector pays : ℕ → ℤ) →
    ((s : ℕ) → s < states → (vector s *ℤ pos (q * y)) ≤ℤ (pos e *ℤ pays s +ℤ pos (t * y))) →
    ((total (λ s. pos (belief s) *ℤ vector s) (below states) *ℤ pos q -ℤ pos (t * sum_by belief (below states))) *ℤ pos y)
    ≤ℤ (pos e *ℤ total (λ s. pos (belief s) *ℤ pays s) (below states))
family-lower states e q y t belief vector pays h =
    let S = below states in
    let product = total (λ s. pos (belief s) *ℤ vector s) S in
    let paid = total (λ s. pos (belief s) *ℤ pays s) S in
    let each_state = total-below-le states (λ s. pos (belief s) *ℤ (vector s *ℤ pos (q * y))) (λ s. pos (belief s) *ℤ (pos e *ℤ pays s +ℤ pos (t * y)))
    (λ s ls. le-mulℤ (belief s) _ _ (h s ls)) in
    let left = total-below states _ (λ s. pos (q * y) *ℤ (pos (belief s) *ℤ vector s)) (λ s ls. turn (pos (belief s)) (vector s) (pos (q * y)))
    ∙ total-scale (pos (q * y)) (λ s. pos (belief s) *ℤ vector s) S
    ∙ mulℤ_comm (pos (q * y)) product in
    let right = total-below states _ (λ s. pos e *ℤ (pos (belief s) *ℤ pays s) +ℤ pos (belief s) *ℤ pos (t * y)) (λ s ls. spread (pos (belief s)) (pos e) (pays s) (pos (t * y)))
    ∙ total-add _ _ S
    ∙ ap (λ z. z +ℤ total (λ s. pos (belief s) *ℤ pos (t * y)) S) (total-scale (pos e) (λ s. pos (belief s) *ℤ pays s) S)
    ∙ ap (λ z. pos e *ℤ paid +ℤ z) (total-weights belief (pos (t * y)) S) in
    less_tail product (pos q) (pos (t * sum_by belief S)) (pos y) (pos e *ℤ paid)
    (ends _ _ _ _ _ _ each_state left right (ap pos (tails (sum_by belief S) t y)))
  where
    turn : (b x q : ℤ) → b *ℤ (x *ℤ q) ≡ q *ℤ (b *ℤ x)
    turn b x q = simp products (omega (arith, sums))

    spread : (b e y t : ℤ) → b *ℤ (e *ℤ y +ℤ t) ≡ e *ℤ (b *ℤ y) +ℤ b *ℤ t
    spread b e y t = simp products (omega (arith, sums))

    tails : (b t y : ℕ) → b * (t * y) ≡ t * b * y
    tails b t y = omega arith

    ends : (a b c y t t' : ℤ) → a ≤ℤ b → a ≡ c → b ≡ y +ℤ t → t ≡ t' → c ≤ℤ (y +ℤ t')
    ends a b c y t t' h e f k = omega (arith, sums)

pub always-earns_family : AlwaysEarnsFamily
always-earns_family g e v a vector belief full la most stands n₂ n family right =
    let same : g.row_total * 1 * n₂ ≡ g.row_total * n₂ = omega arith in
    family-lower g.states e (g.discount_under ^ n) ((g.row_total * n₂) ^ n) (g.discount_over ^ n * v) belief vector (λ s. pay g n s (always a n) (family s))
    (λ s ls. rw same at (always-lower g e n₂ a v vector full la most stands n s (family s) ls (right s ls)))
