-- Fractions by their whole parts and their remainders.
use Rattle.std.proofs.Common.{◌≡◌, ℕ, ◌*◌, ◌^◌, ◌<◌, ◌+◌, ◌≤◌, ap, arith, refl, sym, subst, ◌∙◌}
use Rattle.std.specs.Prelude.{ℤ, pos, neg_ℤ, ◌+ℤ◌, ◌-ℤ◌, ◌*ℤ◌, ◌≤ℤ◌, ◌<ℤ◌, unsigned_abs, FitsSigned}
use Rattle.std.specs.Int.{w128}
use Rattle.std.proofs.Math.Nat.{mul-pos}
use Rattle.std.proofs.lemmas.Int.{fits_signed_from_abs, ints, unsigned_abs-mul}
use Rattle.std.proofs.lemmas.Nat.{mul-le}
use Rattle.std.proofs.Math.IntN.{zero-*ℤ}
use Rattle.game_model.specs.Game.{IsWithin}
use Rattle.scaled_num.proofs.Products.{le-mulℤ, magnitude-is, mul-addℤ, mul-neg, mulℤ_comm, neg-mul, products, sums}
use Rattle.controller.specs.Quotients.{IsAtMostSum, IsNarrow, IsQuotient, most_under}
use Rattle.controller.specs.declared.quotients.Quotient.{Quotient}

-- of remainders r, s, t by m, n, h: the comparison over the product of the divisors, with the room d of the whole parts
abbrev pub IsLeft : ℤ → ℤ → ℤ → ℤ → ℤ → ℤ → ℤ → Type 0
IsLeft m n h r s t d = (r *ℤ (n *ℤ h)) ≤ℤ (s *ℤ (m *ℤ h) +ℤ t *ℤ (m *ℤ n) +ℤ d *ℤ (m *ℤ (n *ℤ h)))

-- both sides of the comparison of the numbers, and both sides of that of the remainders
parted : (m n h y l k r s t d : ℤ) → l +ℤ k ≡ d +ℤ y →
    (l *ℤ n +ℤ s) *ℤ (m *ℤ h) +ℤ (k *ℤ h +ℤ t) *ℤ (m *ℤ n) +ℤ r *ℤ (n *ℤ h)
    ≡ s *ℤ (m *ℤ h) +ℤ t *ℤ (m *ℤ n) +ℤ d *ℤ (m *ℤ (n *ℤ h)) +ℤ (y *ℤ m +ℤ r) *ℤ (n *ℤ h)
parted m n h y l k r s t d e =
    let p : ℤ = m *ℤ (n *ℤ h) in
    let left : (l *ℤ n +ℤ s) *ℤ (m *ℤ h) +ℤ (k *ℤ h +ℤ t) *ℤ (m *ℤ n) +ℤ r *ℤ (n *ℤ h) ≡ (l +ℤ k) *ℤ (m *ℤ (n *ℤ h)) +ℤ (s *ℤ (m *ℤ h) +ℤ t *ℤ (m *ℤ n) +ℤ r *ℤ (n *ℤ h)) =
    simp products (omega (arith, sums)) in
    let right : s *ℤ (m *ℤ h) +ℤ t *ℤ (m *ℤ n) +ℤ d *ℤ (m *ℤ (n *ℤ h)) +ℤ (y *ℤ m +ℤ r) *ℤ (n *ℤ h) ≡ (d +ℤ y) *ℤ (m *ℤ (n *ℤ h)) +ℤ (s *ℤ (m *ℤ h) +ℤ t *ℤ (m *ℤ n) +ℤ r *ℤ (n *ℤ h)) =
    simp products (omega (arith, sums)) in
    left ∙ ap (λ (z : ℤ). z *ℤ p +ℤ (s *ℤ (m *ℤ h) +ℤ t *ℤ (m *ℤ n) +ℤ r *ℤ (n *ℤ h))) e ∙ sym right

pub left-from : (m n h y l k r s t d : ℤ) → l +ℤ k ≡ d +ℤ y → IsLeft m n h r s t d → ((y *ℤ m +ℤ r) *ℤ (n *ℤ h)) ≤ℤ ((l *ℤ n +ℤ s) *ℤ (m *ℤ h) +ℤ (k *ℤ h +ℤ t) *ℤ (m *ℤ n))
left-from m n h y l k r s t d e left = omega (arith, sums, left, parted m n h y l k r s t d e)

pub left-to : (m n h y l k r s t d : ℤ) → l +ℤ k ≡ d +ℤ y → ((y *ℤ m +ℤ r) *ℤ (n *ℤ h)) ≤ℤ ((l *ℤ n +ℤ s) *ℤ (m *ℤ h) +ℤ (k *ℤ h +ℤ t) *ℤ (m *ℤ n)) → IsLeft m n h r s t d
left-to m n h y l k r s t d e whole = omega (arith, sums, whole, parted m n h y l k r s t d e)

-- what holds of all numbers that are not negative
by-magnitude : (P : ℤ → Type 0) → ((m : ℕ) → P (pos m)) → (x : ℤ) → pos 0 ≤ℤ x → P x
by-magnitude P f x h = subst P (sym (magnitude-is x h)) (f (unsigned_abs x))

-- a remainder times a number, and that number, are at most the divisor times it
below-product : (m k : ℕ) (r : ℤ) → r <ℤ pos m → (r *ℤ pos k +ℤ pos k) ≤ℤ (pos m *ℤ pos k)
below-product m k r h =
    let more : (r +ℤ pos 1) ≤ℤ pos m = omega (arith, sums, h) in
    let scaled : (pos k *ℤ (r +ℤ pos 1)) ≤ℤ (pos k *ℤ pos m) = le-mulℤ k (r +ℤ pos 1) (pos m) more in
    let one : pos k *ℤ pos 1 ≡ pos k = omega (arith, ints) in
    let left : pos k *ℤ (r +ℤ pos 1) ≡ r *ℤ pos k +ℤ pos k = mul-addℤ (pos k) r (pos 1) ∙ ap (λ (z : ℤ). pos k *ℤ r +ℤ z) one ∙ ap (λ (z : ℤ). z +ℤ pos k) (mulℤ_comm (pos k) r) in
    ends _ _ _ _ scaled left (mulℤ_comm (pos k) (pos m))
  where
    ends : (a b c d : ℤ) → a ≤ℤ b → a ≡ c → b ≡ d → c ≤ℤ d
    ends a b c d h e f = omega (arith, sums)

not-negative : (k : ℕ) (r : ℤ) → pos 0 ≤ℤ r → pos 0 ≤ℤ (r *ℤ pos k)
not-negative k r h =
    let none : pos k *ℤ pos 0 ≡ pos 0 = omega (arith, ints) in
    omega (arith, sums, le-mulℤ k (pos 0) r h, mulℤ_comm r (pos k), none)

-- a room of at least 1 is enough
much-left : (m n h : ℕ) (r s t d : ℤ) → r <ℤ pos m → pos 0 ≤ℤ s → pos 0 ≤ℤ t → pos 1 ≤ℤ d → IsLeft (pos m) (pos n) (pos h) r s t d
much-left m n h r s t d lr ls lt ld =
    let p : ℕ = m * (n * h) in
    let used : (r *ℤ pos (n * h) +ℤ pos (n * h)) ≤ℤ (pos m *ℤ pos (n * h)) = below-product m (n * h) r lr in
    let first : pos 0 ≤ℤ (s *ℤ pos (m * h)) = not-negative (m * h) s ls in
    let second : pos 0 ≤ℤ (t *ℤ pos (m * n)) = not-negative (m * n) t lt in
    let room : (pos p *ℤ pos 1) ≤ℤ (pos p *ℤ d) = le-mulℤ p (pos 1) d ld in
    let one : pos p *ℤ pos 1 ≡ pos p = omega (arith, ints) in
    end (r *ℤ pos (n * h)) (pos (n * h)) (pos p) (s *ℤ pos (m * h)) (t *ℤ pos (m * n)) (d *ℤ pos p) (pos p *ℤ d) (pos p *ℤ pos 1) (pos p)
    used (omega (arith, ints)) refl first second room (mulℤ_comm (pos p) d) one
  where
    end : (u k mk a b d' d one p : ℤ) → (u +ℤ k) ≤ℤ mk → pos 0 ≤ℤ k → mk ≡ p → pos 0 ≤ℤ a → pos 0 ≤ℤ b → one ≤ℤ d → d ≡ d' → one ≡ p → u ≤ℤ (a +ℤ b +ℤ d')
    end u k mk a b d' d one p x1 x2 x3 x4 x5 x6 x7 x8 = omega (arith, sums)

pub much-room : (m n h r s t d : ℤ) → pos 0 ≤ℤ m → pos 0 ≤ℤ n → pos 0 ≤ℤ h → r <ℤ m → pos 0 ≤ℤ s → pos 0 ≤ℤ t → pos 1 ≤ℤ d → IsLeft m n h r s t d
much-room m n h r s t d lm ln lh lr ls lt ld =
    by-magnitude (λ (m : ℤ). r <ℤ m → IsLeft m n h r s t d)
    (λ m lr. by-magnitude (λ (n : ℤ). IsLeft (pos m) n h r s t d)
    (λ n. by-magnitude (λ (h : ℤ). IsLeft (pos m) (pos n) h r s t d) (λ h. much-left m n h r s t d lr ls lt ld) h lh) n ln) m lm lr

-- a room of at most -2 is not
none-left : (m n h : ℕ) (r s t d : ℤ) → 1 ≤ m → 1 ≤ h → pos 0 ≤ℤ r → s <ℤ pos n → t <ℤ pos h → d ≤ℤ neg_ℤ (pos 2) → ¬ (IsLeft (pos m) (pos n) (pos h) r s t d)
none-left m n h r s t d sm sh lr ls lt ld = λ left.
    let p : ℕ = m * (n * h) in
    let used : pos 0 ≤ℤ (r *ℤ pos (n * h)) = not-negative (n * h) r lr in
    let first : (s *ℤ pos (m * h) +ℤ pos (m * h)) ≤ℤ (pos n *ℤ pos (m * h)) = below-product n (m * h) s ls in
    let second : (t *ℤ pos (m * n) +ℤ pos (m * n)) ≤ℤ (pos h *ℤ pos (m * n)) = below-product h (m * n) t lt in
    let room : (pos p *ℤ d) ≤ℤ (pos p *ℤ neg_ℤ (pos 2)) = le-mulℤ p d (neg_ℤ (pos 2)) ld in
    let some : 1 ≤ m * h = mul-pos sm sh in
    end (r *ℤ pos (n * h)) (s *ℤ pos (m * h)) (pos (m * h)) (pos n *ℤ pos (m * h)) (t *ℤ pos (m * n)) (pos (m * n)) (pos h *ℤ pos (m * n)) (d *ℤ pos p) (pos p *ℤ d) (pos p *ℤ neg_ℤ (pos 2)) (pos p)
    used first second room (mulℤ_comm (pos p) d) (two p) (ap pos (one m n h)) (ap pos (other m n h)) (least some) (omega (arith, ints)) left
  where
    one : (m n h : ℕ) → n * (m * h) ≡ m * (n * h)
    one m n h = omega arith

    other : (m n h : ℕ) → h * (m * n) ≡ m * (n * h)
    other m n h = omega arith

    two : (p : ℕ) → pos p *ℤ neg_ℤ (pos 2) ≡ neg_ℤ (pos p) -ℤ pos p
    two p = mul-neg p 2 ∙ twice p
      where
        twice : (p : ℕ) → neg_ℤ (pos (p * 2)) ≡ neg_ℤ (pos p) -ℤ pos p
        twice p = omega (arith, ints)

    least : {x : ℕ} → 1 ≤ x → pos 1 ≤ℤ pos x
    least l = omega (arith, ints)

    end : (u a k nk b l hl d' d dd p : ℤ) → pos 0 ≤ℤ u → (a +ℤ k) ≤ℤ nk → (b +ℤ l) ≤ℤ hl → d ≤ℤ dd → d ≡ d' → dd ≡ neg_ℤ p -ℤ p → nk ≡ p → hl ≡ p → pos 1 ≤ℤ k → pos 0 ≤ℤ l → u ≤ℤ (a +ℤ b +ℤ d') → ⊥
    end u a k nk b l hl d' d dd p x1 x2 x3 x4 x5 x6 x7 x8 x9 x10 x11 = absurd (omega (arith, sums))

pub no-room : (m n h r s t d : ℤ) → pos 1 ≤ℤ m → pos 0 ≤ℤ n → pos 1 ≤ℤ h → pos 0 ≤ℤ r → s <ℤ n → t <ℤ h → d ≤ℤ neg_ℤ (pos 2) → ¬ (IsLeft m n h r s t d)
no-room m n h r s t d lm ln lh lr ls lt ld =
    by-magnitude (λ (m : ℤ). pos 1 ≤ℤ m → ¬ (IsLeft m n h r s t d))
    (λ m lm. by-magnitude (λ (n : ℤ). s <ℤ n → ¬ (IsLeft (pos m) n h r s t d))
    (λ n ls. by-magnitude (λ (h : ℤ). pos 1 ≤ℤ h → t <ℤ h → ¬ (IsLeft (pos m) (pos n) h r s t d)) (λ h lh lt. none-left m n h r s t d (some lm) (some lh) lr ls lt ld) h (low lh) lh lt) n ln ls) m (low lm) lm
  where
    some : {x : ℕ} → pos 1 ≤ℤ pos x → 1 ≤ x
    some l = omega (arith, ints)

    low : {x : ℤ} → pos 1 ≤ℤ x → pos 0 ≤ℤ x
    low l = omega (arith, ints)

-- ---- quotients of numbers

-- the comparison of quotients is that of the numbers
pub numbers-from : (u l g : Quotient) (U N L X G h : ℤ) → IsQuotient U N u → IsQuotient L X l → IsQuotient G h g → IsAtMostSum u l g → (U *ℤ (X *ℤ h)) ≤ℤ (L *ℤ (N *ℤ h) +ℤ G *ℤ (N *ℤ X))
numbers-from u l g U N L X G h iu il ig most =
    rw (← iu.over_is, ← iu.under_is, ← il.over_is, ← il.under_is, ← ig.over_is, ← ig.under_is) most

pub numbers-to : (u l g : Quotient) (U N L X G h : ℤ) → IsQuotient U N u → IsQuotient L X l → IsQuotient G h g → (U *ℤ (X *ℤ h)) ≤ℤ (L *ℤ (N *ℤ h) +ℤ G *ℤ (N *ℤ X)) → IsAtMostSum u l g
numbers-to u l g U N L X G h iu il ig most =
    rw (iu.over_is, iu.under_is, il.over_is, il.under_is, ig.over_is, ig.under_is) most

-- ---- what the comparison forms

-- the words of a quotient
pub record QuotientFits (q : Quotient) : Type 0 where
  pub whole_fits : FitsSigned w128 q.whole
  pub rest_fits : FitsSigned w128 q.rest
  pub under_fits : FitsSigned w128 q.under
  pub rest_in : IsWithin (pos 0) most_under q.rest
  pub under_in : IsWithin (pos 0) most_under q.under

pub quotient-fits : (q : Quotient) → IsNarrow q → QuotientFits q
quotient-fits q h =
    let low = h.under.0 in
    let high = h.under.1 in
    let first = h.rest.0 in
    let last = h.rest.1 in
    let whole = h.whole in
    record {
      whole_fits = fits_signed_from_abs w128 q.whole (omega arith);
      rest_fits = fits_signed_from_abs w128 q.rest (omega (arith, ints));
      under_fits = fits_signed_from_abs w128 q.under (omega (arith, ints));
      rest_in = (first, omega (arith, ints));
      under_in = (omega (arith, ints), high);
    }

-- the room that whole parts leave
pub record RoomFits (l k y : ℤ) : Type 0 where
  pub sum : FitsSigned w128 (l +ℤ k)
  pub room : FitsSigned w128 (l +ℤ k -ℤ y)

pub room-fits : (l k y : ℤ) → unsigned_abs l ≤ 2 ^ 121 → unsigned_abs k ≤ 2 ^ 121 → unsigned_abs y ≤ 2 ^ 121 → RoomFits l k y
room-fits l k y a b c = record {
  sum = fits_signed_from_abs w128 (l +ℤ k) (omega (arith, ints));
  room = fits_signed_from_abs w128 (l +ℤ k -ℤ y) (omega (arith, ints));
}

-- a product of three numbers of 0 to 2^20
pub record ProductFits (a b c : ℤ) : Type 0 where
  pub a_fits : FitsSigned w128 a
  pub b_fits : FitsSigned w128 b
  pub c_fits : FitsSigned w128 c
  pub inner : FitsSigned w128 (b *ℤ c)
  pub product : FitsSigned w128 (a *ℤ (b *ℤ c))
  pub within : IsWithin (pos 0) (pos (2 ^ 60)) (a *ℤ (b *ℤ c))

size : (a : ℤ) → IsWithin (pos 0) most_under a → unsigned_abs a ≤ 2 ^ 20
size a h = let low = h.0 in let high = h.1 in omega (arith, ints)

none-negative : (a b : ℤ) → pos 0 ≤ℤ a → pos 0 ≤ℤ b → pos 0 ≤ℤ (a *ℤ b)
none-negative a b h k = rw (magnitude-is a h, magnitude-is b k) (omega (arith, ints))

pub product-fits : (a b c : ℤ) → IsWithin (pos 0) most_under a → IsWithin (pos 0) most_under b → IsWithin (pos 0) most_under c → ProductFits a b c
product-fits a b c ha hb hc =
    let sa = size a ha in
    let sb = size b hb in
    let sc = size c hc in
    let inner : unsigned_abs (b *ℤ c) ≤ 2 ^ 40 = rw (unsigned_abs-mul b c) (omega (arith, mul-le (unsigned_abs b) (unsigned_abs c) (2 ^ 20) (2 ^ 20) sb sc)) in
    let product : unsigned_abs (a *ℤ (b *ℤ c)) ≤ 2 ^ 60 = rw (unsigned_abs-mul a (b *ℤ c)) (omega (arith, mul-le (unsigned_abs a) (unsigned_abs (b *ℤ c)) (2 ^ 20) (2 ^ 40) sa inner)) in
    let low : pos 0 ≤ℤ (a *ℤ (b *ℤ c)) = none-negative a (b *ℤ c) ha.0 (none-negative b c hb.0 hc.0) in
    record {
      a_fits = fits_signed_from_abs w128 a (omega arith);
      b_fits = fits_signed_from_abs w128 b (omega arith);
      c_fits = fits_signed_from_abs w128 c (omega arith);
      inner = fits_signed_from_abs w128 (b *ℤ c) (omega arith);
      product = fits_signed_from_abs w128 (a *ℤ (b *ℤ c)) (omega arith);
      within = (low, high (a *ℤ (b *ℤ c)) product);
    }
  where
    high : (x : ℤ) → unsigned_abs x ≤ 2 ^ 60 → x ≤ℤ pos (2 ^ 60)
    high x h = omega (arith, ints)

-- two such products and their sum
pub record SumFits (x y : ℤ) : Type 0 where
  pub first : FitsSigned w128 x
  pub second : FitsSigned w128 y
  pub sum : FitsSigned w128 (x +ℤ y)

pub sum-fits : (x y : ℤ) → IsWithin (pos 0) (pos (2 ^ 60)) x → IsWithin (pos 0) (pos (2 ^ 60)) y → SumFits x y
sum-fits x y hx hy =
    let a = hx.0 in
    let b = hx.1 in
    let c = hy.0 in
    let d = hy.1 in
    record {
      first = fits_signed_from_abs w128 x (omega (arith, ints));
      second = fits_signed_from_abs w128 y (omega (arith, ints));
      sum = fits_signed_from_abs w128 (x +ℤ y) (omega (arith, ints));
    }

-- ---- the comparison of remainders where the whole parts leave a room of 0, or of -1

room-is : (l k y : ℤ) → l +ℤ k ≡ (l +ℤ k -ℤ y) +ℤ y
room-is l k y = omega (arith, sums)

-- what is left of the whole parts, times the product of the divisors
pub record Rests (u l g : Quotient) (used first second : ℤ) : Type 0 where
  pub used_is : used ≡ u.rest *ℤ (l.under *ℤ g.under)
  pub first_is : first ≡ l.rest *ℤ (u.under *ℤ g.under)
  pub second_is : second ≡ g.rest *ℤ (u.under *ℤ l.under)

pub even-from : (u l g : Quotient) (used first second : ℤ) → Rests u l g used first second → l.whole +ℤ g.whole -ℤ u.whole ≡ pos 0 → used ≤ℤ (first +ℤ second) → IsAtMostSum u l g
even-from u l g used first second r e h =
    let d : ℤ = l.whole +ℤ g.whole -ℤ u.whole in
    left-from u.under l.under g.under u.whole l.whole g.whole u.rest l.rest g.rest d (room-is l.whole g.whole u.whole)
    (omega (arith, sums, h, r.used_is, r.first_is, r.second_is, ap (λ (z : ℤ). z *ℤ (u.under *ℤ (l.under *ℤ g.under))) e ∙ zero-*ℤ (u.under *ℤ (l.under *ℤ g.under))))

pub even-to : (u l g : Quotient) (used first second : ℤ) → Rests u l g used first second → l.whole +ℤ g.whole -ℤ u.whole ≡ pos 0 → IsAtMostSum u l g → used ≤ℤ (first +ℤ second)
even-to u l g used first second r e h =
    let d : ℤ = l.whole +ℤ g.whole -ℤ u.whole in
    let left : IsLeft u.under l.under g.under u.rest l.rest g.rest d = left-to u.under l.under g.under u.whole l.whole g.whole u.rest l.rest g.rest d (room-is l.whole g.whole u.whole) h in
    omega (arith, sums, left, r.used_is, r.first_is, r.second_is, ap (λ (z : ℤ). z *ℤ (u.under *ℤ (l.under *ℤ g.under))) e ∙ zero-*ℤ (u.under *ℤ (l.under *ℤ g.under)))

minus : (p : ℤ) → pos 0 ≤ℤ p → neg_ℤ (pos 1) *ℤ p +ℤ p ≡ pos 0
minus p low = by-magnitude (λ (p : ℤ). neg_ℤ (pos 1) *ℤ p +ℤ p ≡ pos 0) (λ q. omega (arith, ints, neg-mul 1 q)) p low

not-under : (q : Quotient) → IsNarrow q → pos 0 ≤ℤ q.under
not-under q h = let low = h.under.0 in omega (arith, ints)

pub short-from : (u l g : Quotient) (used first second all : ℤ) → IsNarrow u → IsNarrow l → IsNarrow g → Rests u l g used first second → all ≡ u.under *ℤ (l.under *ℤ g.under) → l.whole +ℤ g.whole -ℤ u.whole ≡ neg_ℤ (pos 1) →
    (used +ℤ all) ≤ℤ (first +ℤ second) → IsAtMostSum u l g
short-from u l g used first second all hu hl hg r a e h =
    let d : ℤ = l.whole +ℤ g.whole -ℤ u.whole in
    let p : ℤ = u.under *ℤ (l.under *ℤ g.under) in
    let low : pos 0 ≤ℤ p = none-negative u.under (l.under *ℤ g.under) (not-under u hu) (none-negative l.under g.under (not-under l hl) (not-under g hg)) in
    left-from u.under l.under g.under u.whole l.whole g.whole u.rest l.rest g.rest d (room-is l.whole g.whole u.whole)
    (omega (arith, sums, h, a, r.used_is, r.first_is, r.second_is, ap (λ (z : ℤ). z *ℤ p) e, minus p low))

pub short-to : (u l g : Quotient) (used first second all : ℤ) → IsNarrow u → IsNarrow l → IsNarrow g → Rests u l g used first second → all ≡ u.under *ℤ (l.under *ℤ g.under) → l.whole +ℤ g.whole -ℤ u.whole ≡ neg_ℤ (pos 1) →
    IsAtMostSum u l g → (used +ℤ all) ≤ℤ (first +ℤ second)
short-to u l g used first second all hu hl hg r a e h =
    let d : ℤ = l.whole +ℤ g.whole -ℤ u.whole in
    let p : ℤ = u.under *ℤ (l.under *ℤ g.under) in
    let low : pos 0 ≤ℤ p = none-negative u.under (l.under *ℤ g.under) (not-under u hu) (none-negative l.under g.under (not-under l hl) (not-under g hg)) in
    let left : IsLeft u.under l.under g.under u.rest l.rest g.rest d = left-to u.under l.under g.under u.whole l.whole g.whole u.rest l.rest g.rest d (room-is l.whole g.whole u.whole) h in
    omega (arith, sums, left, a, r.used_is, r.first_is, r.second_is, ap (λ (z : ℤ). z *ℤ p) e, minus p low)

-- a room of at least 1
pub wide-from : (u l g : Quotient) → IsNarrow u → IsNarrow l → IsNarrow g → pos 1 ≤ℤ (l.whole +ℤ g.whole -ℤ u.whole) → IsAtMostSum u l g
wide-from u l g hu hl hg room =
    let d : ℤ = l.whole +ℤ g.whole -ℤ u.whole in
    left-from u.under l.under g.under u.whole l.whole g.whole u.rest l.rest g.rest d (room-is l.whole g.whole u.whole)
    (much-room u.under l.under g.under u.rest l.rest g.rest d (low hu.under) (low hl.under) (low hg.under) hu.rest.1 hl.rest.0 hg.rest.0 room)
  where
    low : {x : ℤ} → IsWithin (pos 1) most_under x → pos 0 ≤ℤ x
    low w = let first = w.0 in omega (arith, ints)

-- a room of at most -2
pub narrow-to : (u l g : Quotient) → IsNarrow u → IsNarrow l → IsNarrow g → (l.whole +ℤ g.whole -ℤ u.whole) ≤ℤ neg_ℤ (pos 2) → ¬ (IsAtMostSum u l g)
narrow-to u l g hu hl hg room = λ most.
    let d : ℤ = l.whole +ℤ g.whole -ℤ u.whole in
    no-room u.under l.under g.under u.rest l.rest g.rest d hu.under.0 (low hl.under) hg.under.0 hu.rest.0 hl.rest.1 hg.rest.1 room
    (left-to u.under l.under g.under u.whole l.whole g.whole u.rest l.rest g.rest d (room-is l.whole g.whole u.whole) most)
  where
    low : {x : ℤ} → IsWithin (pos 1) most_under x → pos 0 ≤ℤ x
    low w = let first = w.0 in omega (arith, ints)

-- ---- a quotient rounded down
pub record DividedFits (over under whole : ℤ) : Type 0 where
  pub over_fits : FitsSigned w128 over
  pub under_fits : FitsSigned w128 under
  pub whole_fits : FitsSigned w128 whole
  pub product : FitsSigned w128 (whole *ℤ under)
  pub rest : FitsSigned w128 (over -ℤ whole *ℤ under)
  pub small : unsigned_abs whole ≤ 2 ^ 121
  pub rest_in : (pos 0 ≤ℤ (over -ℤ whole *ℤ under)) × ((over -ℤ whole *ℤ under) <ℤ under)
  pub back : whole *ℤ under +ℤ (over -ℤ whole *ℤ under) ≡ over

pub divided-fits : (over under whole : ℤ) → unsigned_abs over ≤ 2 ^ 120 → IsWithin (pos 1) most_under under → (whole *ℤ under) ≤ℤ over → over <ℤ (whole *ℤ under +ℤ under) → DividedFits over under whole
divided-fits over under whole lo w low high =
    let first = w.0 in
    let last = w.1 in
    let p : ℤ = whole *ℤ under in
    let most : unsigned_abs p ≤ 2 ^ 120 + 2 ^ 20 = near over under p lo first last low high in
    let some : 1 ≤ unsigned_abs under = omega (arith, ints) in
    let more : unsigned_abs whole ≤ unsigned_abs whole * unsigned_abs under = times (unsigned_abs whole) (unsigned_abs under) some in
    let small : unsigned_abs whole ≤ 2 ^ 121 = omega (arith, more, most, unsigned_abs-mul whole under) in
    record {
      over_fits = fits_signed_from_abs w128 over (omega arith);
      under_fits = fits_signed_from_abs w128 under (omega (arith, ints));
      whole_fits = fits_signed_from_abs w128 whole (omega arith);
      product = fits_signed_from_abs w128 p (omega arith);
      rest = fits_signed_from_abs w128 (over -ℤ p) (rest over under p first last low high);
      small = small;
      rest_in = (omega (arith, sums, low), omega (arith, sums, high));
      back = omega (arith, sums);
    }
  where
    near : (over under p : ℤ) → unsigned_abs over ≤ 2 ^ 120 → pos 1 ≤ℤ under → under ≤ℤ most_under → p ≤ℤ over → over <ℤ (p +ℤ under) → unsigned_abs p ≤ 2 ^ 120 + 2 ^ 20
    near over under p a b c d e = omega (arith, ints)

    times : (x y : ℕ) → 1 ≤ y → x ≤ x * y
    times x y h = omega (arith, mul-le x 1 x y (omega arith) h)

    rest : (over under p : ℤ) → pos 1 ≤ℤ under → under ≤ℤ most_under → p ≤ℤ over → over <ℤ (p +ℤ under) → unsigned_abs (over -ℤ p) < 2 ^ 127
    rest over under p b c d e = omega (arith, ints)
