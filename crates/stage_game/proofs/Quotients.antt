-- Quotients rounded down and up: what the code finds is the quotient that is written, and it is small.
use Rattle.std.proofs.Common.{◌≡◌, ℕ, zero, suc, ap, arith, ◌∙◌}
use Rattle.std.specs.Prelude.{ℤ, pos, negsuc, neg_ℤ, ◌+ℤ◌, ◌*ℤ◌, ◌≤ℤ◌, ◌<ℤ◌}
use Rattle.std.proofs.lemmas.Int.{ints, by_lt_z}
use Rattle.scaled_num.specs.Share.{IsFloor}
use Rattle.scaled_num.proofs.Floors.{cancel, floor-none_negative, product_le}
use Rattle.scaled_num.proofs.Products.{mul-addℤ, mulℤ_comm}
use Rattle.scaled_num.proofs.OneShare.{floor-one}
use Rattle.stage_game.specs.Scaling.{ceil_of, floor_of}

-- the quotient that is written is the floor
pub floor-written : (a b : ℤ) → pos 0 <ℤ b → IsFloor (floor_of a b) a b
floor-written (pos m) (pos zero) l = absurd (omega (arith, ints))
floor-written (pos m) (pos (suc n)) l = record { low = omega (arith, ints); high = omega (arith, ints) }
floor-written (negsuc m) (pos zero) l = absurd (omega (arith, ints))
floor-written (negsuc m) (pos (suc n)) l = record { low = omega (arith, ints); high = omega (arith, ints) }
floor-written a (negsuc n) l = absurd (omega (arith, ints))

pub floor-is : (a b q : ℤ) → pos 0 <ℤ b → (q *ℤ b) ≤ℤ a → a <ℤ (q *ℤ b +ℤ b) → q ≡ floor_of a b
floor-is a b q l low high = floor-one q (floor_of a b) a b l (record { low = low; high = high }) (floor-written a b l)

neg-product : (a b : ℤ) → neg_ℤ a *ℤ b ≡ neg_ℤ (a *ℤ b)
neg-product a b =
    let none : b *ℤ (a +ℤ neg_ℤ a) ≡ pos 0 = ap (λ (z : ℤ). b *ℤ z) (gone a) ∙ omega (arith, ints) in
    omega (arith, ints, none, mul-addℤ b a (neg_ℤ a), mulℤ_comm a b, mulℤ_comm (neg_ℤ a) b)
  where
    gone : (a : ℤ) → a +ℤ neg_ℤ a ≡ pos 0
    gone a = omega (arith, ints)

pub ceil-is : (a b q : ℤ) → pos 0 <ℤ b → a ≤ℤ (q *ℤ b) → (q *ℤ b) <ℤ (a +ℤ b) → q ≡ ceil_of a b
ceil-is a b q l high low =
    twice q ∙ ap neg_ℤ (floor-is (neg_ℤ a) b (neg_ℤ q) l (omega (arith, ints, neg-product q b)) (omega (arith, ints, neg-product q b)))
  where
    twice : (q : ℤ) → q ≡ neg_ℤ (neg_ℤ q)
    twice q = omega (arith, ints)

-- the quotient of a number that is at most k times the divisor
pub record IsSmall (k : ℕ) (q : ℤ) : Type 0 where
  pub low : pos 0 ≤ℤ q
  pub high : q ≤ℤ pos k

pub floor-small : (a b : ℤ) (k : ℕ) → pos 0 <ℤ b → pos 0 ≤ℤ a → a ≤ℤ (pos k *ℤ b) → IsSmall k (floor_of a b)
floor-small a b k l low high =
    let f = floor-written a b l in
    let first = f.low in
    record {
      low = floor-none_negative (floor_of a b) a b low l f;
      high = cancel (floor_of a b) (pos k) b l (omega (arith, ints));
    }

pub ceil-written : (a b : ℤ) → pos 0 <ℤ b → (a ≤ℤ (ceil_of a b *ℤ b)) × ((ceil_of a b *ℤ b) <ℤ (a +ℤ b))
ceil-written a b l =
    let f = floor-written (neg_ℤ a) b l in
    let low = f.low in
    let high = f.high in
    let same = neg-product (floor_of (neg_ℤ a) b) b in
    (omega (arith, ints), omega (arith, ints))

pub ceil-small : (a b : ℤ) (k : ℕ) → pos 0 <ℤ b → pos 0 ≤ℤ a → a ≤ℤ (pos k *ℤ b) → IsSmall k (ceil_of a b)
ceil-small a b k l low high =
    let c = ceil-written a b l in
    let above = c.0 in
    let under = c.1 in
    record {
      low = cancel (pos 0) (ceil_of a b) b l (omega (arith, ints));
      high = not-more (ceil_of a b) k (cancel-less (ceil_of a b) (pos k +ℤ pos 1) b l (omega (arith, ints, one-more k b)));
    }
  where
    one-more : (k : ℕ) (b : ℤ) → (pos k +ℤ pos 1) *ℤ b ≡ pos k *ℤ b +ℤ b
    one-more k b = omega (arith, ints)

    not-more : (c : ℤ) (k : ℕ) → c <ℤ (pos k +ℤ pos 1) → c ≤ℤ pos k
    not-more c k h = omega (arith, ints)

    cancel-less : (x y b : ℤ) → pos 0 <ℤ b → (x *ℤ b) <ℤ (y *ℤ b) → x <ℤ y
    cancel-less x y b l h = by_lt_z x y (λ less. less) (λ most. absurd (too-much (product_le y x b (omega (arith, ints)) most) h))
      where
        too-much : {p q : ℤ} → p ≤ℤ q → q <ℤ p → ⊥
        too-much {p} {q} h k = omega (arith, ints)
