-- The running product of a belief's weights with a vector, and its size.
use Rattle.std.proofs.Common.{◌≡◌, ℕ, ◌+◌, ◌*◌, ◌^◌, ◌<◌, ◌≤◌, List, length, ap, arith, sym, ◌∙◌, subst}
use Rattle.std.specs.Prelude.{ℤ, pos, ◌+ℤ◌, ◌*ℤ◌, unsigned_abs, slice_index_or, FitsSigned}
use Rattle.std.specs.List.{AllByRecursion}
use Rattle.std.specs.Int.{w128}
use Rattle.std.proofs.Math.Nat.{mul-le-mul}
use Rattle.std.proofs.lemmas.Int.{ints, fits_signed_from_abs, unsigned_abs-mul}
use Rattle.scaled_num.specs.Sums.{below, total}
use Rattle.scaled_num.proofs.Products.{abs-add, magnitude-is}
use Rattle.scaled_num.proofs.Sums.{each-at, total-below, total-below-more}
use Rattle.game_model.specs.Game.{GameData, IsGame, IsWithin, first_at, numbers}
use Rattle.game_model.specs.Numbers.{product}

abbrev pub term : List ℤ → List ℤ → ℕ → ℤ
term weights vector s = slice_index_or weights s (pos 0) *ℤ slice_index_or vector s (pos 0)

light-abs : (x : ℤ) → IsWithin (pos 0) (pos (2 ^ 20)) x → unsigned_abs x ≤ 2 ^ 20
light-abs x h = omega (arith, ints, h.0, h.1)

pub record Next (weights vector : List ℤ) (s : ℕ) (sum : ℤ) : Type 0 where
  pub weight_fits : FitsSigned w128 (slice_index_or weights s (pos 0))
  pub entry_fits : FitsSigned w128 (slice_index_or vector s (pos 0))
  pub term_fits : FitsSigned w128 (term weights vector s)
  pub sum_fits : FitsSigned w128 (sum +ℤ term weights vector s)
  pub so_far : sum +ℤ term weights vector s ≡ total (term weights vector) (below (s + 1))
  pub bounded : unsigned_abs (sum +ℤ term weights vector s) ≤ (s + 1) * 2 ^ 90

pub next : (weights vector : List ℤ) (s : ℕ) (sum : ℤ) → s < length weights → length weights ≡ length vector → length weights ≤ 16 →
    AllByRecursion (IsWithin (pos 0) (pos (2 ^ 20))) weights → AllByRecursion (λ x. unsigned_abs x ≤ 2 ^ 70) vector →
    sum ≡ total (term weights vector) (below s) → unsigned_abs sum ≤ s * 2 ^ 90 → Next weights vector s sum
next weights vector s sum l same few light small so_far bounded =
    let w = slice_index_or weights s (pos 0) in
    let x = slice_index_or vector s (pos 0) in
    let lw : unsigned_abs w ≤ 2 ^ 20 = light-abs w (each-at (IsWithin (pos 0) (pos (2 ^ 20))) (pos 0) weights s light l) in
    let lx : unsigned_abs x ≤ 2 ^ 70 = each-at (λ x. unsigned_abs x ≤ 2 ^ 70) (pos 0) vector s small (subst (λ (n : ℕ). s < n) same l) in
    let size : unsigned_abs (w *ℤ x) ≤ 2 ^ 20 * 2 ^ 70 = rw (unsigned_abs-mul w x) (mul-le-mul {n₁ = unsigned_abs w} lw lx) in
    let upto : unsigned_abs (sum +ℤ w *ℤ x) ≤ (s + 1) * 2 ^ 90 = omega (arith, abs-add sum (w *ℤ x)) in
    record {
      weight_fits = fits_signed_from_abs w128 w (omega arith);
      entry_fits = fits_signed_from_abs w128 x (omega arith);
      term_fits = fits_signed_from_abs w128 (w *ℤ x) (omega arith);
      sum_fits = fits_signed_from_abs w128 (sum +ℤ w *ℤ x) (omega arith);
      so_far = ap (λ z. z +ℤ w *ℤ x) so_far ∙ sym (total-below-more (term weights vector) s);
      bounded = upto;
    }

pub product-is : (g : GameData) (vector : List ℤ) → IsGame g → product (numbers g) (first_at g) (λ s. slice_index_or vector s (pos 0)) ≡ total (term g.first vector) (below (length g.first))
product-is g vector game =
    subst (λ (n : ℕ). product (numbers g) (first_at g) (λ s. slice_index_or vector s (pos 0)) ≡ total (term g.first vector) (below n)) (sym game.first.long)
    (total-below g.shape.states _ (term g.first vector) (λ s l.
    ap (λ (z : ℤ). z *ℤ slice_index_or vector s (pos 0)) (sym (magnitude-is (slice_index_or g.first s (pos 0))
    (each-at (IsWithin (pos 0) (pos (2 ^ 20))) (pos 0) g.first s game.first.each (subst (λ (n : ℕ). s < n) (sym game.first.long) l)).0))))
