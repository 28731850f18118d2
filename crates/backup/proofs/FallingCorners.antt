-- The values of the corners fall from round to round, and they stay within the span.
use Rattle.std.proofs.Common.{◌≡◌, ℕ, suc, zero, ◌*◌, ◌/◌, ◌<◌, ◌≤◌, arith, sym, subst, refl}
use Rattle.std.specs.Int.{int_max}
use Rattle.std.specs.Prelude.{ℤ, pos, negsuc, neg_ℤ, ◌+ℤ◌, ◌-ℤ◌, ◌*ℤ◌, ◌≤ℤ◌, ◌<ℤ◌}
use Rattle.std.proofs.lemmas.Int.{ints}
use Rattle.std.proofs.Math.Nat.{mul-le-mul_left}
use Rattle.scaled_num.proofs.Products.{add-mulℤ, lt-mulℤ_cancel, mulℤ_comm, sums, neg-mul}
use Rattle.game_model.specs.Numbers.{Numbers}
use Rattle.game_model.specs.Seeds.{KeepsSpan, stage_worth}
use Rattle.game_model.proofs.SeedVectors.{stage-within, worth-le}
use Rattle.backup.specs.Rounds.{IsGreatestOf}
use Rattle.backup.proofs.Greatest.{greatest-more, greatest-one}
use Rattle.backup.specs.Seeds.{AreCornerValues, AreCornersAfter, IsGreatestCeil, IsReply}

through : (x y z : ℤ) → x ≤ℤ y → y ≤ℤ z → x ≤ℤ z
through x y z h k = omega (arith, ints)

-- the quotient rounded up of a lesser worth is no greater
pub ceil-le : (k : ℕ) (x y old new : ℤ) → ((x -ℤ pos 1) *ℤ pos k) <ℤ old → old ≤ℤ new → new ≤ℤ (y *ℤ pos k) → x ≤ℤ y
ceil-le k x y old new low rise high =
    let less : (pos k *ℤ (x -ℤ pos 1)) <ℤ (pos k *ℤ y) = ends _ _ _ _ (mulℤ_comm (x -ℤ pos 1) (pos k)) (mulℤ_comm y (pos k)) (chain _ _ _ _ low rise high) in
    last x y (lt-mulℤ_cancel k (x -ℤ pos 1) y less)
  where
    chain : (a b c d : ℤ) → a <ℤ b → b ≤ℤ c → c ≤ℤ d → a <ℤ d
    chain a b c d h k l = omega (arith, sums)

    ends : (a b c d : ℤ) → a ≡ c → b ≡ d → a <ℤ b → c <ℤ d
    ends a b c d e f h = omega (arith, sums)

    last : (x y : ℤ) → (x -ℤ pos 1) <ℤ y → x ≤ℤ y
    last x y h = omega (arith, ints)

-- a common positive factor is left out
pub le-cancel : (k : ℕ) (x y : ℤ) → 1 ≤ k → (x *ℤ pos k) ≤ℤ (y *ℤ pos k) → x ≤ℤ y
le-cancel k x y some h =
    ceil-le k x y (x *ℤ pos k) (y *ℤ pos k) (less x k some) h (same (y *ℤ pos k))
  where
    same : (x : ℤ) → x ≤ℤ x
    same x = omega (arith, ints)

    less : (x : ℤ) (k : ℕ) → 1 ≤ k → ((x -ℤ pos 1) *ℤ pos k) <ℤ (x *ℤ pos k)
    less x k some =
        let parts : (x -ℤ pos 1) *ℤ pos k ≡ x *ℤ pos k +ℤ (neg_ℤ (pos 1)) *ℤ pos k = add-mulℤ x (neg_ℤ (pos 1)) (pos k) in
        let one : (neg_ℤ (pos 1)) *ℤ pos k ≡ neg_ℤ (pos k) = omega (arith, ints) in
        omega (arith, sums, parts, one)

-- ---- a quotient rounded up, and the greatest of several worths
pub record IsCeil (w : ℤ) (k : ℕ) (x : ℤ) : Type 0 where
  pub high : w ≤ℤ (x *ℤ pos k)
  pub low : ((x -ℤ pos 1) *ℤ pos k) <ℤ w

pub ceil-of : (w : ℤ) (k : ℕ) → 1 ≤ k → (x : ℤ) × IsCeil w k x
ceil-of (pos zero) (suc k) some = (pos 0, record { high = omega (arith, ints); low = omega (arith, ints) })
ceil-of (pos (suc n)) (suc k) some = (
  pos (suc (n / suc k)),
  record { high = omega (arith, ints); low = subst (λ (z : ℤ). (z *ℤ pos (suc k)) <ℤ pos (suc n)) (one-less (n / suc k)) (omega (arith, ints)) },
)
  where
    one-less : (q : ℕ) → pos q ≡ pos (suc q) -ℤ pos 1
    one-less q = omega (arith, ints)
ceil-of (negsuc n) (suc k) some =
    let q : ℕ = suc n / suc k in (
      neg_ℤ (pos q),
      record {
        high = subst (λ (z : ℤ). negsuc n ≤ℤ z) (sym (neg-mul q (suc k))) (above n (q * suc k) (omega arith));
        low = subst (λ (z : ℤ). (z *ℤ pos (suc k)) <ℤ negsuc n) (sym (next q)) (subst (λ (z : ℤ). z <ℤ negsuc n) (sym (neg-mul (suc q) (suc k))) (under n (suc q * suc k) (omega arith)));
      },
    )
  where
    next : (q : ℕ) → neg_ℤ (pos q) -ℤ pos 1 ≡ neg_ℤ (pos (suc q))
    next q = omega (arith, ints)

    above : (n m : ℕ) → m ≤ suc n → negsuc n ≤ℤ neg_ℤ (pos m)
    above n m l = omega (arith, ints)

    under : (n m : ℕ) → suc n < m → neg_ℤ (pos m) <ℤ negsuc n
    under n m l = omega (arith, ints)
ceil-of w zero some = absurd (omega arith)

-- the greatest of the first numbers
pub greatest-of : (f : ℕ → ℤ) (n : ℕ) → 1 ≤ n → (x : ℤ) × IsGreatestOf f n x
greatest-of f zero some = absurd (omega arith)
greatest-of f (suc zero) some = (f 0, greatest-one f (f 0) refl)
greatest-of f (suc (suc n)) some =
    let before = greatest-of f (suc n) (omega arith) in
    let all = greatest-more f (suc n) before.0 (f (suc n)) before.1 refl in
    (int_max before.0 (f (suc n)), subst (λ (m : ℕ). IsGreatestOf f m (int_max before.0 (f (suc n)))) (omega arith) all)

-- the quotient of the greatest is the greatest of the quotients
pub ceil-greatest : (g : Numbers) (old : ℕ → ℤ) (s c : ℕ) (most x : ℤ) → IsGreatestOf (λ a. stage_worth g a old s c) g.own_actions most →
    IsCeil most (g.row_total * g.discount_under) x → IsGreatestCeil g old s c x
ceil-greatest g old s c most x h e =
    let K : ℕ = g.row_total * g.discount_under in
    record {
      each = λ a la. through (stage_worth g a old s c) most (x *ℤ pos K) (h.each a la) e.high;
      some = (h.some.0, h.some.1, subst (λ (z : ℤ). ((x -ℤ pos 1) *ℤ pos K) <ℤ z) h.some.2 e.low);
    }

-- ---- the corners
-- what a game's numbers keep, and that player one can act
pub record KeepsCorners (g : Numbers) (span : ℕ) : Type 0 where
  pub keeps : KeepsSpan g span
  pub own : 1 ≤ g.own_actions

positive : (d q : ℕ) → 1 ≤ d → 1 ≤ q → 1 ≤ d * q
positive d q h k = omega (arith, mul-le-mul_left d k)

pub divisor-some : (g : Numbers) (span : ℕ) → KeepsSpan g span → 1 ≤ g.row_total * g.discount_under
divisor-some g span keeps = positive g.row_total g.discount_under keeps.whole (omega (arith, keeps.discount))

pub ceil-is_there : (g : Numbers) (span : ℕ) → KeepsCorners g span → (old : ℕ → ℤ) (s c : ℕ) → (x : ℤ) × IsGreatestCeil g old s c x
ceil-is_there g span keeps old s c =
    let most = greatest-of (λ a. stage_worth g a old s c) g.own_actions keeps.own in
    let x = ceil-of most.0 (g.row_total * g.discount_under) (divisor-some g span keeps.keeps) in
    (x.0, ceil-greatest g old s c most.0 x.0 most.1 x.1)

-- where the old values are no greater, neither is the greatest quotient
pub ceils-le : (g : Numbers) (old other : ℕ → ℤ) (s c : ℕ) (x y : ℤ) → ((t : ℕ) → t < g.states → old t ≤ℤ other t) →
    IsGreatestCeil g old s c x → IsGreatestCeil g other s c y → x ≤ℤ y
ceils-le g old other s c x y h low high =
    let a = low.some.0 in
    ceil-le (g.row_total * g.discount_under) x y (stage_worth g a old s c) (stage_worth g a other s c) low.some.2
    (worth-le g a s c old other h) (high.each a low.some.1)

pub ceils-same : (g : Numbers) (old : ℕ → ℤ) (s c : ℕ) (x y : ℤ) → IsGreatestCeil g old s c x → IsGreatestCeil g old s c y → x ≤ℤ y
ceils-same g old s c x y low high = ceils-le g old old s c x y (λ t lt. same (old t)) low high
  where
    same : (x : ℤ) → x ≤ℤ x
    same x = omega (arith, ints)

abbrev pub Replies : Numbers → (ℕ → ℤ) → (ℕ → ℤ) → Type 0
Replies g old new = (s : ℕ) → s < g.states → (c : ℕ) × IsReply g old s c (new s)

pub falls : (g : Numbers) (span : ℕ) → KeepsCorners g span → (n : ℕ) (old new : ℕ → ℤ) → AreCornersAfter g span n old → Replies g old new →
    (s : ℕ) → s < g.states → new s ≤ℤ old s
falls g span keeps zero old new start next s ls =
    let reply = next s ls in
    let c = reply.0 in
    let a = reply.1.here.some.0 in
    let la = reply.1.here.some.1 in
    subst (λ (z : ℤ). new s ≤ℤ z) (sym (start s ls))
    (ceil-le (g.row_total * g.discount_under) (new s) (pos span) (stage_worth g a old s c) (stage_worth g a (λ t. pos span) s c) reply.1.here.some.2
    (worth-le g a s c old (λ t. pos span) (λ t lt. same _ _ (start t lt)))
    (stage-within g span a keeps.keeps la s c ls reply.1.informed).1)
  where
    same : (x y : ℤ) → x ≡ y → x ≤ℤ y
    same x y e = omega (arith, ints)
falls g span keeps (suc n) old new (before, corners, last) next s ls =
    let reply = next s ls in
    let was = last s ls in
    let there = ceil-is_there g span keeps old s was.0 in
    through (new s) there.0 (old s)
    (reply.1.least was.0 there.0 was.1.informed there.1)
    (ceils-le g old before s was.0 there.0 (old s) (falls g span keeps n before old corners last) there.1 was.1.here)

-- the values are within the span
pub corners-within : (g : Numbers) (span : ℕ) → KeepsCorners g span → (n : ℕ) (values : ℕ → ℤ) → AreCornersAfter g span n values →
    (s : ℕ) → s < g.states → ((neg_ℤ (pos span)) ≤ℤ (values s)) × ((values s) ≤ℤ (pos span))
corners-within g span keeps zero values start s ls = ends (values s) span (start s ls)
  where
    ends : (x : ℤ) (v : ℕ) → x ≡ pos v → ((neg_ℤ (pos v)) ≤ℤ x) × (x ≤ℤ (pos v))
    ends x v e = (omega (arith, ints), omega (arith, ints))
corners-within g span keeps (suc n) values (old, corners, last) s ls =
    let inside = corners-within g span keeps n old corners in
    let K = g.row_total * g.discount_under in
    let c = (last s ls).0 in
    let reply = (last s ls).1 in (
      le-cancel K (neg_ℤ (pos span)) (values s) (divisor-some g span keeps.keeps)
          (through _ _ _ (stage-within g span 0 keeps.keeps keeps.own s c ls reply.informed).0
          (through _ _ _ (worth-le g 0 s c (λ t. neg_ℤ (pos span)) old (λ t lt. (inside t lt).0)) (reply.here.each 0 keeps.own))),
      through (values s) (old s) (pos span) (falls g span keeps n old values corners last s ls) (inside s ls).1,
    )

-- what the last round leaves
pub last-round : (g : Numbers) (span : ℕ) (values : ℕ → ℤ) (replies : ℕ → ℕ) → AreCornerValues g span values replies → (old : ℕ → ℤ) × AreCornersAfter g span 255 old × Replies g old values
last-round g span values replies h = (h.old, h.before, λ s ls. (replies s, h.last s ls))

pub values-within : (g : Numbers) (span : ℕ) → KeepsCorners g span → (values : ℕ → ℤ) (replies : ℕ → ℕ) → AreCornerValues g span values replies →
    (s : ℕ) → s < g.states → ((neg_ℤ (pos span)) ≤ℤ (values s)) × ((values s) ≤ℤ (pos span))
values-within g span keeps values replies h = corners-within g span keeps 256 values (last-round g span values replies h)

-- at the reply one stage is worth no more than the value
pub corner-holds : (g : Numbers) (span : ℕ) → KeepsCorners g span → (values : ℕ → ℤ) (replies : ℕ → ℕ) → AreCornerValues g span values replies →
    (s a : ℕ) → s < g.states → a < g.own_actions → stage_worth g a values s (replies s) ≤ℤ (values s *ℤ pos (g.row_total * g.discount_under))
unfolding last-round
corner-holds g span keeps values replies h s a ls la =
    let last = last-round g span values replies h in
    through (stage_worth g a values s (replies s)) (stage_worth g a h.old s (replies s)) (values s *ℤ pos (g.row_total * g.discount_under))
    (worth-le g a s (replies s) values h.old (falls g span keeps 255 h.old values h.before last.2))
    ((h.last s ls).here.each a la)
