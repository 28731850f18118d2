-- The seed vectors rise from round to round, so they stand, and they stay within the span.
use Rattle.std.proofs.Common.{◌≡◌, ℕ, suc, zero, ◌+◌, ◌*◌, ◌<◌, ◌≤◌, ◌-◌, ◌^◌, ap, arith, sym, subst, ◌∙◌}
use Rattle.std.specs.Prelude.{ℤ, pos, neg_ℤ, ◌+ℤ◌, ◌-ℤ◌, ◌*ℤ◌, ◌≤ℤ◌, ◌<ℤ◌, unsigned_abs, sum_by}
use Rattle.std.proofs.lemmas.Int.{ints}
use Rattle.std.proofs.Math.Nat.{mul-le-mul_left}
use Rattle.scaled_num.specs.Sums.{below}
use Rattle.scaled_num.proofs.Products.{le-mulℤ, lt-mulℤ_cancel, mulℤ_comm, add-mulℤ, products, sums, mul-neg, neg-mul}
use Rattle.scaled_num.proofs.Sums.{total-below-le}
use Rattle.game_model.specs.Game.{unit}
use Rattle.game_model.specs.Numbers.{Numbers, over_row, RowsAreFull}
use Rattle.game_model.specs.Laws.{AlwaysStands}
use Rattle.game_model.specs.Seeds.{stage_worth, IsLeastFloor, IsSeedAfter, KeepsSpan, SeedsAreOne, SeedsStand, SeedsEarn}
use Rattle.game_model.specs.Play.{family_pay, always}
use Rattle.game_model.proofs.Steps.{total-row}
use Rattle.game_model.proofs.Family.{always-earns_family}

-- where one vector is at most another, so is the sum over a row
pub over_row-le : (g : Numbers) (s a c : ℕ) (old new : ℕ → ℤ) → ((t : ℕ) → t < g.states → old t ≤ℤ new t) →
    over_row g s a c (λ o t. old t) ≤ℤ over_row g s a c (λ o t. new t)
over_row-le g s a c old new h =
    total-below-le g.observations _ _ (λ o lo. total-below-le g.states _ _ (λ t lt. le-mulℤ (g.weight s a c o t) (old t) (new t) (h t lt)))

-- and the worth of a stage
pub worth-le : (g : Numbers) (a s c : ℕ) (old new : ℕ → ℤ) → ((t : ℕ) → t < g.states → old t ≤ℤ new t) →
    stage_worth g a old s c ≤ℤ stage_worth g a new s c
worth-le g a s c old new h =
    plus (pos unit *ℤ g.reward s a c *ℤ pos (g.row_total * g.discount_under)) _ _ (le-mulℤ g.discount_over _ _ (over_row-le g s a c old new h))
  where
    plus : (r x y : ℤ) → x ≤ℤ y → (r +ℤ x) ≤ℤ (r +ℤ y)
    plus r x y h = omega (arith, sums)

-- the worth of a stage where the vector is one number everywhere
pub worth-flat : (g : Numbers) → RowsAreFull g → (a s c : ℕ) → s < g.states → a < g.own_actions → c < g.informed_actions → (x : ℤ) →
    stage_worth g a (λ t. x) s c ≡ pos unit *ℤ g.reward s a c *ℤ pos (g.row_total * g.discount_under) +ℤ pos g.discount_over *ℤ (pos g.row_total *ℤ x)
worth-flat g full a s c ls la lc x =
    ap (λ z. pos unit *ℤ g.reward s a c *ℤ pos (g.row_total * g.discount_under) +ℤ pos g.discount_over *ℤ z) (total-row g full s a c ls la lc x)

-- the least quotient rounded down of a greater worth is no less
pub floor-le : (k : ℕ) (x y old new : ℤ) → (x *ℤ pos k) ≤ℤ old → old ≤ℤ new → new <ℤ ((y +ℤ pos 1) *ℤ pos k) → x ≤ℤ y
floor-le k x y old new low rise high =
    let less : (pos k *ℤ x) <ℤ (pos k *ℤ (y +ℤ pos 1)) = ends _ _ _ _ (mulℤ_comm x (pos k)) (mulℤ_comm (y +ℤ pos 1) (pos k)) (chain _ _ _ _ low rise high) in
    last x y (lt-mulℤ_cancel k x (y +ℤ pos 1) less)
  where
    chain : (a b c d : ℤ) → a ≤ℤ b → b ≤ℤ c → c <ℤ d → a <ℤ d
    chain a b c d h k l = omega (arith, sums)

    ends : (a b c d : ℤ) → a ≡ c → b ≡ d → a <ℤ b → c <ℤ d
    ends a b c d e f h = omega (arith, sums)

    last : (x y : ℤ) → x <ℤ (y +ℤ pos 1) → x ≤ℤ y
    last x y h = omega (arith, ints)

-- a stage's reward and the span that is left are at most the span, times the row total
span-covers : (reward row over room under span : ℕ) → over + room ≡ under → unit * reward * under ≤ span * room →
    unit * (row * under) * reward + over * (row * span) ≤ span * (row * under)
span-covers reward row over room under span is most =
    let more : row * (unit * reward * under) ≤ row * (span * room) = mul-le-mul_left row most in
    let whole = ap (λ (q : ℕ). span * (row * q)) is in
    omega arith

-- so what a stage gives lies within the span, where the vector does
pub within : (reward : ℤ) (row over room under span : ℕ) → over + room ≡ under → unit * unsigned_abs reward * under ≤ span * room →
    (((neg_ℤ (pos span)) *ℤ pos (row * under)) ≤ℤ (pos unit *ℤ reward *ℤ pos (row * under) +ℤ pos over *ℤ (pos row *ℤ neg_ℤ (pos span))))
    × ((pos unit *ℤ reward *ℤ pos (row * under) +ℤ pos over *ℤ (pos row *ℤ pos span)) ≤ℤ (pos span *ℤ pos (row * under)))
within reward row over room under span is most =
    let covers = span-covers (unsigned_abs reward) row over room under span is most in
    let m = unit * (row * under) in
    let gives = turn (pos unit) reward (pos (row * under)) in
    let high = le-mulℤ m reward (pos (unsigned_abs reward)) (at_most reward) in
    let low = le-mulℤ m (neg_ℤ (pos (unsigned_abs reward))) reward (at_least reward) in (
      lower _ _ _ _ _ (m * unsigned_abs reward) (over * (row * span)) (span * (row * under)) gives (mul-neg m (unsigned_abs reward)) low
          (ap (λ z. pos over *ℤ z) (mul-neg row span) ∙ mul-neg over (row * span)) (neg-mul span (row * under)) covers,
      upper _ _ (m * unsigned_abs reward) (over * (row * span)) (span * (row * under)) gives high covers,
    )
  where
    turn : (e r k : ℤ) → e *ℤ r *ℤ k ≡ (e *ℤ k) *ℤ r
    turn e r k = simp products (omega (arith, sums))

    at_most : (x : ℤ) → x ≤ℤ pos (unsigned_abs x)
    at_most x = omega (arith, ints)

    at_least : (x : ℤ) → neg_ℤ (pos (unsigned_abs x)) ≤ℤ x
    at_least x = omega (arith, ints)

    upper : (x y : ℤ) (a b c : ℕ) → x ≡ y → y ≤ℤ pos a → a + b ≤ c → (x +ℤ pos b) ≤ℤ pos c
    upper x y a b c e h l = omega (arith, ints)

    lower : (x y z w v : ℤ) (a b c : ℕ) → x ≡ y → z ≡ neg_ℤ (pos a) → z ≤ℤ y → w ≡ neg_ℤ (pos b) → v ≡ neg_ℤ (pos c) → a + b ≤ c → v ≤ℤ (x +ℤ w)
    lower x y z w v a b c e f h k i l = omega (arith, ints)

-- what a game's numbers keep, at one state and informed action
pub stage-within : (g : Numbers) (span a : ℕ) → KeepsSpan g span → a < g.own_actions → (s c : ℕ) → s < g.states → c < g.informed_actions →
    (((neg_ℤ (pos span)) *ℤ pos (g.row_total * g.discount_under)) ≤ℤ stage_worth g a (λ t. neg_ℤ (pos span)) s c)
    × (stage_worth g a (λ t. pos span) s c ≤ℤ (pos span *ℤ pos (g.row_total * g.discount_under)))
stage-within g span a keeps la s c ls lc =
    let both = within (g.reward s a c) g.row_total g.discount_over (g.discount_under - g.discount_over) g.discount_under span
    (omega (arith, keeps.discount)) (keeps.rewards s a c ls la lc) in (
      subst (λ z. ((neg_ℤ (pos span)) *ℤ pos (g.row_total * g.discount_under)) ≤ℤ z) (sym (worth-flat g keeps.full a s c ls la lc (neg_ℤ (pos span)))) both.0,
      subst (λ z. z ≤ℤ (pos span *ℤ pos (g.row_total * g.discount_under))) (sym (worth-flat g keeps.full a s c ls la lc (pos span))) both.1,
    )

-- a vector is at most the next one
pub rises : (g : Numbers) (span a : ℕ) → KeepsSpan g span → a < g.own_actions → (n : ℕ) (old new : ℕ → ℤ) → IsSeedAfter g span a n old →
    ((s : ℕ) → s < g.states → IsLeastFloor g a old s (new s)) → (s : ℕ) → s < g.states → old s ≤ℤ new s
rises g span a keeps la zero old new start next s ls =
    let least = (next s ls).some in
    let K = g.row_total * g.discount_under in
    let flat = worth-le g a s least.0 (λ t. neg_ℤ (pos span)) old (λ t lt. same _ _ (start t lt)) in
    subst (λ z. z ≤ℤ new s) (sym (start s ls))
    (floor-le K (neg_ℤ (pos span)) (new s) (stage_worth g a (λ t. neg_ℤ (pos span)) s least.0) (stage_worth g a old s least.0)
    (stage-within g span a keeps la s least.0 ls least.1).0 flat least.2)
  where
    same : (x y : ℤ) → x ≡ y → y ≤ℤ x
    same x y e = omega (arith, ints)
rises g span a keeps la (suc n) old new (before, seed, last) next s ls =
    let least = (next s ls).some in
    let K = g.row_total * g.discount_under in
    floor-le K (old s) (new s) (stage_worth g a before s least.0) (stage_worth g a old s least.0)
    ((last s ls).each least.0 least.1)
    (worth-le g a s least.0 before old (rises g span a keeps la n before old seed last))
    least.2

-- a vector is within the span
pub seed-within : (g : Numbers) (span a : ℕ) → KeepsSpan g span → a < g.own_actions → (n : ℕ) (vector : ℕ → ℤ) → IsSeedAfter g span a n vector →
    (s : ℕ) → s < g.states → ((neg_ℤ (pos span)) ≤ℤ (vector s)) × ((vector s) ≤ℤ (pos span))
seed-within g span a keeps la zero vector start s ls = ends (vector s) span (start s ls)
  where
    ends : (x : ℤ) (v : ℕ) → x ≡ neg_ℤ (pos v) → ((neg_ℤ (pos v)) ≤ℤ x) × (x ≤ℤ (pos v))
    ends x v e = (omega (arith, ints), omega (arith, ints))
seed-within g span a keeps la (suc n) vector (old, seed, last) s ls =
    let inside = seed-within g span a keeps la n old seed in
    let K = g.row_total * g.discount_under in
    let first = keeps.informed in (
      chain _ _ _ (inside s ls).0 (rises g span a keeps la n old vector seed last s ls),
      floor-le K (vector s) (pos span) (stage_worth g a old s 0) (stage_worth g a (λ t. pos span) s 0)
          ((last s ls).each 0 first)
          (worth-le g a s 0 old (λ t. pos span) (λ t lt. (inside t lt).1))
          (below_next (pos span) K (stage_worth g a (λ t. pos span) s 0) (positive g.row_total g.discount_under keeps.whole (omega (arith, keeps.discount))) (stage-within g span a keeps la s 0 ls first).1),
    )
  where
    chain : (x y z : ℤ) → x ≤ℤ y → y ≤ℤ z → x ≤ℤ z
    chain x y z h k = omega (arith, ints)

    positive : (d q : ℕ) → 1 ≤ d → 1 ≤ q → 1 ≤ d * q
    positive d q h k = omega (arith, mul-le-mul_left d k)

    below_next : (x : ℤ) (k : ℕ) (z : ℤ) → 1 ≤ k → z ≤ℤ (x *ℤ pos k) → z <ℤ ((x +ℤ pos 1) *ℤ pos k)
    below_next x k z l h = let more = add-mulℤ x (pos 1) (pos k) in let once : pos 1 *ℤ pos k ≡ pos k = omega (arith, ints) in omega (arith, sums, more, once, l)

-- a vector after at least one round stands
pub seed-stands : (g : Numbers) (span a : ℕ) → KeepsSpan g span → a < g.own_actions → (n : ℕ) (vector : ℕ → ℤ) → IsSeedAfter g span a (suc n) vector →
    AlwaysStands g unit a vector
seed-stands g span a keeps la n vector (old, seed, last) s c ls lc =
    chain _ _ _ ((last s ls).each c lc) (worth-le g a s c old vector (rises g span a keeps la n old vector seed last))
  where
    chain : (x y z : ℤ) → x ≤ℤ y → y ≤ℤ z → x ≤ℤ z
    chain x y z h k = omega (arith, ints)

pub seeds-stand : SeedsStand
seeds-stand g span a vector keeps la seed =
    (seed-stands g span a keeps la 255 vector seed, seed-within g span a keeps la 256 vector seed)

pub seeds-earn : SeedsEarn
seeds-earn g span a vector first lower keeps la seed is =
    let stand = seeds-stand g span a vector keeps la seed in
    λ n whole family right.
    subst (λ (z : ℤ). ((z *ℤ pos (g.discount_under ^ n) -ℤ pos (g.discount_over ^ n * span * sum_by first (below g.states))) *ℤ pos ((g.row_total * whole) ^ n))
    ≤ℤ (pos unit *ℤ family_pay g first n (always a n) family)) is
    (always-earns_family g unit span a vector first keeps.full la (λ s ls. (stand.1 s ls).1) stand.0 whole n family right)

-- where one vector is at most another, so are the next ones
floors-le : (g : Numbers) (a s : ℕ) (old other : ℕ → ℤ) (x y : ℤ) → ((t : ℕ) → t < g.states → old t ≤ℤ other t) →
    IsLeastFloor g a old s x → IsLeastFloor g a other s y → x ≤ℤ y
floors-le g a s old other x y h low high =
    let c = high.some.0 in
    floor-le (g.row_total * g.discount_under) x y (stage_worth g a old s c) (stage_worth g a other s c)
    (low.each c high.some.1) (worth-le g a s c old other h) high.some.2

seed-le : (g : Numbers) (span a n : ℕ) (vector other : ℕ → ℤ) → IsSeedAfter g span a n vector → IsSeedAfter g span a n other →
    (s : ℕ) → s < g.states → vector s ≤ℤ other s
seed-le g span a zero vector other start begin s ls = same _ _ (start s ls ∙ sym (begin s ls))
  where
    same : (x y : ℤ) → x ≡ y → x ≤ℤ y
    same x y e = omega (arith, ints)
seed-le g span a (suc n) vector other (old, seed, last) (before, grown, next) s ls =
    floors-le g a s old before (vector s) (other s) (seed-le g span a n old before seed grown) (last s ls) (next s ls)

pub seeds-are_one : SeedsAreOne
seeds-are_one g span a vector other seed grown s ls =
    both (vector s) (other s) (seed-le g span a 256 vector other seed grown s ls) (seed-le g span a 256 other vector grown seed s ls)
  where
    both : (x y : ℤ) → x ≤ℤ y → y ≤ℤ x → x ≡ y
    both x y h k = omega (arith, ints)
