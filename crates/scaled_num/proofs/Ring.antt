-- Identities of signed numbers: an expression is read as a pair of naturals, whose difference it is, and `omega` proves the identity of naturals.
use Rattle.std.proofs.Common.{Bool, true, false, ℕ, ◌+◌, ◌*◌, ◌≡◌, ℤ, pos, ◌+ℤ◌, ◌-ℤ◌, ◌*ℤ◌, neg_ℤ, List, get_or, ap, arith}
use borrow.Author.Differences.{up, down, sum_is_lem, neg_is, product_is, same_in}

infixl 20 ◌⊕◌ ◌⊖◌
infixl 30 ◌⊗◌
pub data Poly : Type 0 where
  x : ℕ → Poly
  ◌⊕◌ : Poly → Poly → Poly
  ◌⊖◌ : Poly → Poly → Poly
  ◌⊗◌ : Poly → Poly → Poly

abbrev pub value : List ℤ → Poly → ℤ
value v (x i) = get_or v i (pos 0)
value v (a ⊕ b) = value v a +ℤ value v b
value v (a ⊖ b) = value v a -ℤ value v b
value v (a ⊗ b) = value v a *ℤ value v b

-- the greater part of the difference, or the lesser
abbrev pub part : Bool → List ℤ → Poly → ℕ
part true v (x i) = up (get_or v i (pos 0))
part false v (x i) = down (get_or v i (pos 0))
part t v (a ⊕ b) = part t v a + part t v b
part true v (a ⊖ b) = part true v a + part false v b
part false v (a ⊖ b) = part false v a + part true v b
part true v (a ⊗ b) = part true v a * part true v b + part false v a * part false v b
part false v (a ⊗ b) = part true v a * part false v b + part false v a * part true v b

times : (m n k : ℕ) → m ≡ n → m * k ≡ n * k
times m n k e = ap (λ (i : ℕ). i * k) e

-- a product of two differences: z is c - d and w is e - f
product : (z w : ℤ) (c d e f : ℕ) → up z + d ≡ down z + c → up w + f ≡ down w + e → up (z *ℤ w) + (c * f + d * e) ≡ down (z *ℤ w) + (c * e + d * f)
product z w c d e f p q = omega (arith, product_is z w, times (up z + d) (down z + c) (up w) p, times (up z + d) (down z + c) (down w) p, times (up w + f) (down w + e) c q, times (up w + f) (down w + e) d q)

-- a number is the difference of the two
pub reads : (v : List ℤ) (e : Poly) → up (value v e) + part false v e ≡ down (value v e) + part true v e
reads v (x i) = omega arith
reads v (a ⊕ b) = omega (arith, sum_is_lem (value v a) (value v b), reads v a, reads v b)
reads v (a ⊖ b) = omega (arith, sum_is_lem (value v a) (neg_ℤ (value v b)), neg_is (value v b), reads v a, reads v b)
reads v (a ⊗ b) = product (value v a) (value v b) (part true v a) (part false v a) (part true v b) (part false v b) (reads v a) (reads v b)

pub ring : (v : List ℤ) (a b : Poly) → part true v a + part false v b ≡ part true v b + part false v a → value v a ≡ value v b
ring v a b e = same_in (value v a) (value v b) (omega (arith, reads v a, reads v b))
