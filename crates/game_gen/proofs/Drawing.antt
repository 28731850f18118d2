-- Draws after other draws.
use Rattle.std.proofs.Common.{◌≡◌, ℕ, ◌+◌, ◌%◌, ap, ◌∙◌, arith}
use Rattle.rand_pcg.specs.Lcg.{Lcg}
use Rattle.hsvi_draw.specs.Draws.{after_draws, draw_at}
use Rattle.hsvi_draw.proofs.Positions.{after_draws-after_draws, number_at-after_draws}
use Rattle.game_model.specs.declared.parts.Shape.{Shape}
use Rattle.game_gen.specs.Rows.{pair_at, pairs_from}

pub draw_at-after_draws : (k n total : ℕ) (g h : Lcg) → h ≡ after_draws k g → draw_at h n total ≡ draw_at g (k + n) total
draw_at-after_draws k n total g h e =
    ap (λ (x : Lcg). draw_at x n total) e ∙ ap (λ (x : ℕ). x % total) (number_at-after_draws k n g)

pub after_draws-more : (k n : ℕ) (g h i : Lcg) → h ≡ after_draws k g → i ≡ after_draws n h → i ≡ after_draws (k + n) g
after_draws-more k n g h i e f = f ∙ ap (after_draws n) e ∙ after_draws-after_draws k n g

-- a pair of two draws
pub pair_drawn : (shape : Shape) (g h : Lcg) (seen to : ℕ) → h ≡ after_draws 1 g → seen ≡ draw_at g 0 shape.observations → to ≡ draw_at h 0 shape.states
    → ◌≡◌ {A = ℕ × ℕ} (seen, to) (pair_at shape g 0)
pair_drawn shape g h seen to e first second =
    let later : to ≡ draw_at g 1 shape.states = second ∙ draw_at-after_draws 1 0 shape.states g h e in
    cc

pub pair_at-after_draws : (shape : Shape) (k n : ℕ) (g h : Lcg) → h ≡ after_draws k g → pair_at shape h n ≡ pair_at shape g (k + n)
pair_at-after_draws shape k n g h e =
    let same : k + (n + 1) ≡ k + n + 1 = omega arith in
    let first : draw_at h n shape.observations ≡ draw_at g (k + n) shape.observations = draw_at-after_draws k n shape.observations g h e in
    let second : draw_at h (n + 1) shape.states ≡ draw_at g (k + n + 1) shape.states =
    draw_at-after_draws k (n + 1) shape.states g h e ∙ ap (λ (m : ℕ). draw_at g m shape.states) same in
    cc

-- the pairs after the reward
pub pairs_from-after_one : (shape : Shape) (g h : Lcg) → h ≡ after_draws 1 g → pairs_from shape h 0 ≡ pairs_from shape g 1
pairs_from-after_one shape g h e =
    let a = pair_at-after_draws shape 1 0 g h e in
    let b = pair_at-after_draws shape 1 2 g h e in
    let c = pair_at-after_draws shape 1 4 g h e in
    let d = pair_at-after_draws shape 1 6 g h e in
    cc
