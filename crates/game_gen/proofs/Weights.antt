-- What an observation and a next state weigh in the row of drawn pairs.
use Rattle.std.proofs.Common.{◌≡◌, ℕ, ◌*◌, ◌<◌, Bool, true, false, cond, ◌&&◌, ◌==◌, List, refl, sym, ap, ◌∙◌, arith}
use Rattle.std.specs.Prelude.{ℤ, pos, ◌*ℤ◌, ◌+ℤ◌, flat_map, unsigned_abs}
use Rattle.std.proofs.lemmas.Int.{ints}
use Rattle.scaled_num.specs.Sums.{below, total}
use Rattle.scaled_num.proofs.Sums.{total-below, total-flat_map, total-pos, total-scale, total-single}
use Rattle.game_model.specs.declared.parts.Shape.{Shape}
use Rattle.game_model.specs.declared.parts.Landing.{Landing}
use Rattle.game_model.specs.Game.{weight_in}
use Rattle.game_gen.specs.Rows.{landing_if_drawn, row_of, times}
use Rattle.game_gen.proofs.Places.{landing_times, times-cases}

-- what a landing weighs at an observation and a next state
abbrev weight_at : ℕ → ℕ → Landing → ℤ
weight_at o t l = pos (cond ((l.seen == o) && (l.to == t)) (unsigned_abs l.weight) 0)

no_weight : (b : Bool) (w : ℕ) → w ≡ 0 → pos 0 ≡ pos (cond b w 0)
no_weight true w e = ap pos (sym e)
no_weight false w e = refl

one_more : (x : ℤ) → x +ℤ pos 0 ≡ x
one_more x = omega (arith, ints)

weight-times : (k x y o t : ℕ) → total (weight_at o t) (landing_times k x y) ≡ pos (cond ((x == o) && (y == t)) (25 * k) 0)
weight-times k x y o t =
    times-cases (λ row. total (weight_at o t) row ≡ pos (cond ((x == o) && (y == t)) (25 * k) 0)) k x y
    (λ e. no_weight ((x == o) && (y == t)) (25 * k) (omega (arith, e)))
    (λ some. one_more (pos (cond ((x == o) && (y == t)) (25 * k) 0)))

factors : (a b : Bool) (w : ℕ) → pos (cond (a && b) w 0) ≡ pos (cond a 1 0) *ℤ (pos (cond b 1 0) *ℤ pos w)
factors true true w = omega (arith, ints)
factors true false w = omega (arith, ints)
factors false true w = omega (arith, ints)
factors false false w = omega (arith, ints)

row_weight : (shape : Shape) (pairs : List (ℕ × ℕ)) (o t : ℕ) → o < shape.observations → t < shape.states →
    total (weight_at o t) (row_of shape pairs) ≡ pos (25 * times pairs o t)
unfolding row_of
row_weight shape pairs o t lo lt =
    let piece = λ (x y : ℕ). pos (cond (y == t) 1 0) *ℤ pos (25 * times pairs x y) in
    let states = shape.states in
    total-flat_map (weight_at o t) (λ x. flat_map (landing_if_drawn pairs x) (below states)) (below shape.observations)
    ∙ total-below shape.observations _ (λ x. pos (cond (x == o) 1 0) *ℤ total (piece x) (below states)) (λ x lx.
    total-flat_map (weight_at o t) (landing_if_drawn pairs x) (below states)
    ∙ total-below states _ (λ y. pos (cond (x == o) 1 0) *ℤ piece x y) (λ y ly.
    weight-times (times pairs x y) x y o t ∙ factors (x == o) (y == t) (25 * times pairs x y))
    ∙ total-scale (pos (cond (x == o) 1 0)) (piece x) (below states))
    ∙ total-single (λ x. total (piece x) (below states)) o shape.observations lo
    ∙ total-single (λ y. pos (25 * times pairs o y)) t states lt

pub weight_in-row_of : (shape : Shape) (pairs : List (ℕ × ℕ)) (o t : ℕ) → o < shape.observations → t < shape.states →
    weight_in (row_of shape pairs) o t ≡ 25 * times pairs o t
weight_in-row_of shape pairs o t lo lt =
    ap unsigned_abs
    (sym (total-pos (λ (l : Landing). cond ((l.seen == o) && (l.to == t)) (unsigned_abs l.weight) 0) (row_of shape pairs))
    ∙ row_weight shape pairs o t lo lt)
