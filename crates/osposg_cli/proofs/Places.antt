-- Decimal places are determined by the fraction.
use Rattle.std.proofs.Common.{◌≡◌, ℕ, List, ap, sym, ◌∙◌, arith, subst}
use Rattle.std.specs.Prelude.{ℤ, pos, ◌+ℤ◌, ◌*ℤ◌, ◌≤ℤ◌, ◌<ℤ◌, unsigned_abs}
use Rattle.std.proofs.lemmas.Int.{ints}
use Rattle.scaled_num.specs.Printed.{IsDownText, IsUpText, six_places}
use Rattle.scaled_num.proofs.Products.{lt-mulℤ_cancel, mul-addℤ, mulℤ_comm, sums}

-- x * den is below (y + 1) * den, so x is at most y
at-most : (x y den : ℤ) → pos 0 <ℤ den → (x *ℤ den) <ℤ (y *ℤ den +ℤ den) → x ≤ℤ y
at-most x y den some l =
    let k = unsigned_abs den in
    let is : den ≡ pos k = omega (arith, ints) in
    less x y (lt-mulℤ_cancel k x (y +ℤ pos 1) (turn x y (pos k) (subst (λ (d : ℤ). (x *ℤ d) <ℤ (y *ℤ d +ℤ d)) is l)))
  where
    once : (d : ℤ) → d *ℤ pos 1 ≡ d
    once d = omega (arith, ints)

    turn : (x y d : ℤ) → (x *ℤ d) <ℤ (y *ℤ d +ℤ d) → (d *ℤ x) <ℤ (d *ℤ (y +ℤ pos 1))
    turn x y d l = omega (arith, sums, l, mulℤ_comm d x, mulℤ_comm d y, mul-addℤ d y (pos 1), once d)

    less : (x y : ℤ) → x <ℤ (y +ℤ pos 1) → x ≤ℤ y
    less x y l = omega (arith, ints)

abbrev equal : (x y : ℤ) → x ≤ℤ y → y ≤ℤ x → x ≡ y
equal x y l k = omega (arith, ints)

pub down-once : (num den : ℤ) (text more : List ℕ) → pos 0 <ℤ den → IsDownText num den text → IsDownText num den more → text ≡ more
down-once num den text more some a b =
    a.same ∙ ap six_places (equal a.x b.x (at-most a.x b.x den some (below _ _ _ a.most b.next)) (at-most b.x a.x den some (below _ _ _ b.most a.next))) ∙ sym b.same
  where
    below : (a b c : ℤ) → a ≤ℤ b → b <ℤ c → a <ℤ c
    below a b c l k = omega (arith, ints)

pub up-once : (num den : ℤ) (text more : List ℕ) → pos 0 <ℤ den → IsUpText num den text → IsUpText num den more → text ≡ more
up-once num den text more some a b =
    a.same ∙ ap six_places (equal a.x b.x (at-most a.x b.x den some (below _ _ _ _ a.before b.least)) (at-most b.x a.x den some (below _ _ _ _ b.before a.least))) ∙ sym b.same
  where
    below : (a n d y : ℤ) → a <ℤ (n +ℤ d) → n ≤ℤ y → a <ℤ (y +ℤ d)
    below a n d y l k = omega (arith, sums)
