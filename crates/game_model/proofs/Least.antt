-- The least of several worths, and its quotient rounded down.
use Rattle.std.proofs.Common.{◌≡◌, ℕ, ◌+◌, ◌*◌, ◌<◌, ◌≤◌, List, length, get_or, set, ap, arith, sym, subst, ◌∙◌, inl, inr, ◌⊎◌}
use Rattle.std.proofs.lemmas.List.{get_or-set_same, get_or-set_other}
use Rattle.scaled_num.proofs.Products.{add-mulℤ}
use borrow.Author.Differences.{product_is}
use Rattle.std.specs.Prelude.{ℤ, pos, negsuc, ◌+ℤ◌, ◌*ℤ◌, ◌≤ℤ◌, ◌<ℤ◌, unsigned_abs}
use Rattle.std.specs.Int.{int_min}
use Rattle.std.proofs.Math.Nat.{lt_of_mul-lt-mul_right}
use Rattle.std.proofs.lemmas.Int.{ints, clamps, by_lt_z}
use Rattle.game_model.specs.Game.{GameData, numbers}
use Rattle.game_model.specs.Seeds.{IsLeastFloor, stage_worth}
use Rattle.game_model.specs.Bounds.{IsLeastOf}

pub least-one : (f : ℕ → ℤ) (x : ℤ) → x ≡ f 0 → IsLeastOf f 1 x
least-one f x e = record {
  each = λ k l. subst (λ (i : ℕ). x ≤ℤ f i) (sym (zero-only k l)) (subst (λ (y : ℤ). x ≤ℤ y) e (same x));
  some = (0, omega arith, e);
}
  where
    same : (x : ℤ) → x ≤ℤ x
    same x = omega (arith, ints)

    zero-only : (k : ℕ) → k < 1 → k ≡ 0
    zero-only k l = omega arith

min-cases : (x y : ℤ) → ((int_min x y ≡ x) × (x ≤ℤ y)) ⊎ ((int_min x y ≡ y) × (y ≤ℤ x))
min-cases x y = by_lt_z y x (λ h. inr (omega (arith, ints, clamps), omega (arith, ints))) (λ h. inl (omega (arith, ints, clamps), h))

-- the last of the first n + 1 numbers, or one of the first n
pub last-or : (k n : ℕ) → k < n + 1 → (k < n) ⊎ (k ≡ n)
last-or k n l = search arith

least-keep : (f : ℕ → ℤ) (n : ℕ) (x : ℤ) → IsLeastOf f n x → x ≤ℤ f n → IsLeastOf f (n + 1) x
least-keep f n x h l = record {
  each = λ k m. elim (last-or k n m) [ inl b ↦ h.each k b | inr e ↦ subst (λ (i : ℕ). x ≤ℤ f i) (sym e) l ];
  some = (h.some.0, lift h.some.0 h.some.1, h.some.2);
}
  where
    lift : (k : ℕ) → k < n → k < n + 1
    lift k l = omega arith

least-take : (f : ℕ → ℤ) (n : ℕ) (x y : ℤ) → IsLeastOf f n x → y ≤ℤ x → y ≡ f n → IsLeastOf f (n + 1) y
least-take f n x y h l e = record {
  each = λ k m. elim (last-or k n m) [ inl b ↦ through y x (f k) l (h.each k b) | inr i ↦ subst (λ (j : ℕ). y ≤ℤ f j) (sym i) (subst (λ (z : ℤ). y ≤ℤ z) e (same y)) ];
  some = (n, omega arith, e);
}
  where
    through : (x y z : ℤ) → x ≤ℤ y → y ≤ℤ z → x ≤ℤ z
    through x y z h k = omega (arith, ints)

    same : (x : ℤ) → x ≤ℤ x
    same x = omega (arith, ints)

pub least-more : (f : ℕ → ℤ) (n : ℕ) (x y : ℤ) → IsLeastOf f n x → y ≡ f n → IsLeastOf f (n + 1) (int_min x y)
least-more f n x y h e =
    elim (min-cases x y) [
      | inl m ↦ subst (IsLeastOf f (n + 1)) (sym m.0) (least-keep f n x h (subst (λ (z : ℤ). x ≤ℤ z) e m.1))
      | inr m ↦ subst (IsLeastOf f (n + 1)) (sym m.0) (least-take f n x y h m.1 e)
    ]

-- the lesser of two worths is within the bound of both
pub min-within : (x y : ℤ) (most : ℕ) → unsigned_abs x ≤ most → unsigned_abs y ≤ most → unsigned_abs (int_min x y) ≤ most
min-within x y most h k =
    elim (min-cases x y) [
      | inl m ↦ subst (λ (z : ℤ). unsigned_abs z ≤ most) (sym m.0) h
      | inr m ↦ subst (λ (z : ℤ). unsigned_abs z ≤ most) (sym m.0) k
    ]

one-more : (q : ℤ) (b : ℕ) → (q +ℤ pos 1) *ℤ pos b ≡ q *ℤ pos b +ℤ pos b
one-more q b = add-mulℤ q (pos 1) (pos b) ∙ ap (λ (z : ℤ). q *ℤ pos b +ℤ z) (ap pos (omega arith))

-- the quotient of the least is the least of the quotients
pub floor-least : (g : GameData) (a s : ℕ) (old : ℕ → ℤ) (least q : ℤ) → IsLeastOf (stage_worth (numbers g) a old s) g.shape.informed_actions least →
    (q *ℤ pos (unsigned_abs g.shape.row_total * unsigned_abs g.shape.discount.1)) ≤ℤ least →
    least <ℤ (q *ℤ pos (unsigned_abs g.shape.row_total * unsigned_abs g.shape.discount.1) +ℤ pos (unsigned_abs g.shape.row_total * unsigned_abs g.shape.discount.1)) →
    IsLeastFloor (numbers g) a old s q
floor-least g a s old least q h low high =
    let b : ℕ = unsigned_abs g.shape.row_total * unsigned_abs g.shape.discount.1 in
    record {
      each = λ c lc. through (q *ℤ pos b) least (stage_worth (numbers g) a old s c) low (h.each c lc);
      some = (h.some.0, h.some.1, subst (λ (z : ℤ). z <ℤ ((q +ℤ pos 1) *ℤ pos b)) h.some.2 (subst (λ (z : ℤ). least <ℤ z) (sym (one-more q b)) high));
    }
  where
    through : (x y z : ℤ) → x ≤ℤ y → y ≤ℤ z → x ≤ℤ z
    through x y z h k = omega (arith, ints)

-- its size
pub quotient-within : (S b : ℕ) (least q : ℤ) → unsigned_abs least ≤ S * b → (q *ℤ pos b) ≤ℤ least → least <ℤ (q *ℤ pos b +ℤ pos b) → unsigned_abs q ≤ S
quotient-within S b least (pos k) size low high =
    let upto : k * b ≤ S * b = omega (arith, ints) in
    let some : 1 ≤ b = omega (arith, ints) in
    let less : k < S + 1 = lt_of_mul-lt-mul_right b {m = k} {n = S + 1} (omega arith) in
    omega arith
quotient-within S b least (negsuc k) size low high =
    let upto : k * b < S * b = omega (arith, ints, product_is (negsuc k) (pos b)) in
    let less : k < S = lt_of_mul-lt-mul_right b {m = k} {n = S} upto in
    omega arith

-- what holds of the first entries still holds after the next one is written
pub written : (P : ℕ → ℤ → Type 0) (new : List ℤ) (s : ℕ) (v : ℤ) → s < length new → ((k : ℕ) → k < s → P k (get_or new k (pos 0))) → P s v →
    (k : ℕ) → k < s + 1 → P k (get_or (set new s v) k (pos 0))
written P new s v inside before here k l =
    elim (last-or k s l) [
      | inl b ↦ subst (P k) (sym (get_or-set_other new s k v (pos 0) (λ e. omega arith))) (before k b)
      | inr e ↦ subst (λ (j : ℕ). P j (get_or (set new s v) j (pos 0))) (sym e) (subst (P s) (sym (get_or-set_same new s v (pos 0) inside)) here)
    ]
