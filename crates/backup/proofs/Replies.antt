-- The reply among the first informed actions.
use Rattle.std.proofs.Common.{◌≡◌, Bool, true, false, ℕ, ◌+◌, ◌*◌, ◌<◌, ◌≤◌, arith, sym, subst, inl, inr}
use Rattle.std.specs.Prelude.{ℤ, pos, neg_ℤ, ◌+ℤ◌, ◌-ℤ◌, ◌*ℤ◌, ◌≤ℤ◌, ◌<ℤ◌, not, unsigned_abs}
use Rattle.std.proofs.lemmas.Int.{ints}
use Rattle.std.specs.Int.Signed.{lt_z, lt_z_no, lt_z_yes}
use Rattle.std.proofs.Math.Dec.{T}
use Rattle.scaled_num.proofs.Products.{add-mulℤ, sums, neg-mul}
use Rattle.game_model.specs.Numbers.{Numbers}
use Rattle.backup.specs.Rounds.{IsReplyAmong}
use Rattle.backup.specs.Seeds.{IsGreatestCeil, IsReply}
use Rattle.backup.proofs.FallingCorners.{IsCeil, ceil-le, ceils-same, le-cancel}
use Rattle.game_model.proofs.Least.{last-or}

through : (x y z : ℤ) → x ≤ℤ y → y ≤ℤ z → x ≤ℤ z
through x y z h k = omega (arith, ints)

through-less : (x y z : ℤ) → x <ℤ y → y ≤ℤ z → x <ℤ z
through-less x y z h k = omega (arith, ints)

at-most : (x y : ℤ) → x <ℤ y → x ≤ℤ y
at-most x y h = omega (arith, ints)

pub reply-one : (g : Numbers) (old : ℕ → ℤ) (s : ℕ) (x : ℤ) → IsGreatestCeil g old s 0 x → IsReplyAmong g old s 1 0 x
reply-one g old s x h = record {
  informed = omega arith;
  here = h;
  least = λ d y l k. ceils-same g old s 0 x y h (subst (λ (c : ℕ). IsGreatestCeil g old s c y) (zero-only d l) k);
  first = λ d y l k. absurd (omega arith);
}
  where
    zero-only : (d : ℕ) → d < 1 → d ≡ 0
    zero-only d l = omega arith

pub reply-keep : (g : Numbers) (old : ℕ → ℤ) (s n c : ℕ) (x y : ℤ) → IsReplyAmong g old s n c x → IsGreatestCeil g old s n y → x ≤ℤ y → IsReplyAmong g old s (n + 1) c x
reply-keep g old s n c x y h k l = record {
  informed = more h.informed;
  here = h.here;
  least = λ d z m i. elim (last-or d n m) [
    | inl b ↦ h.least d z b i
    | inr e ↦ through x y z l (ceils-same g old s n y z k (subst (λ (c : ℕ). IsGreatestCeil g old s c z) e i))
  ];
  first = h.first;
}
  where
    more : {c n : ℕ} → c < n → c < n + 1
    more l = omega arith

pub reply-take : (g : Numbers) (old : ℕ → ℤ) (s n c : ℕ) (x y : ℤ) → IsReplyAmong g old s n c x → IsGreatestCeil g old s n y → y <ℤ x → IsReplyAmong g old s (n + 1) n y
reply-take g old s n c x y h k l = record {
  informed = omega arith;
  here = k;
  least = λ d z m i. elim (last-or d n m) [
    | inl b ↦ at-most y z (through-less y x z l (h.least d z b i))
    | inr e ↦ ceils-same g old s n y z k (subst (λ (c : ℕ). IsGreatestCeil g old s c z) e i)
  ];
  first = λ d z b i. through-less y x z l (h.least d z b i);
}

-- the test as the code makes it
pub record NextReply (g : Numbers) (old : ℕ → ℤ) (s n c most : ℕ) (x : ℤ) : Type 0 where
  pub reply : IsReplyAmong g old s n c x
  pub bounded : unsigned_abs x ≤ most

pub taken : (g : Numbers) (old : ℕ → ℤ) (s n c most : ℕ) (x y z : ℤ) (d : ℕ) → IsReplyAmong g old s n c x → IsGreatestCeil g old s n y → unsigned_abs y ≤ most →
    lt_z y x ≡ true → z ≡ y → d ≡ n → NextReply g old s (n + 1) d most z
taken g old s n c most x y z d h k l test is number = record {
  reply = subst (λ (i : ℕ). IsReplyAmong g old s (n + 1) i z) (sym number) (subst (IsReplyAmong g old s (n + 1) n) (sym is) (reply-take g old s n c x y h k (lt_z_yes (subst T (sym test) tt))));
  bounded = subst (λ (v : ℤ). unsigned_abs v ≤ most) (sym is) l;
}

pub kept : (g : Numbers) (old : ℕ → ℤ) (s n c most : ℕ) (x y z : ℤ) (d : ℕ) → IsReplyAmong g old s n c x → unsigned_abs x ≤ most → IsGreatestCeil g old s n y →
    lt_z y x ≡ false → z ≡ x → d ≡ c → NextReply g old s (n + 1) d most z
kept g old s n c most x y z d h l k test is number = record {
  reply = subst (λ (i : ℕ). IsReplyAmong g old s (n + 1) i z) (sym number) (subst (IsReplyAmong g old s (n + 1) c) (sym is) (reply-keep g old s n c x y h k (lt_z_no (subst (λ (b : Bool). T (not b)) (sym test) tt))));
  bounded = subst (λ (v : ℤ). unsigned_abs v ≤ most) (sym is) l;
}

pub reply-all : (g : Numbers) (old : ℕ → ℤ) (s n c : ℕ) (x : ℤ) → n ≡ g.informed_actions → IsReplyAmong g old s n c x → IsReply g old s c x
reply-all g old s n c x e h = record {
  informed = subst (λ (m : ℕ). c < m) e h.informed;
  here = h.here;
  least = λ d y l k. h.least d y (subst (λ (m : ℕ). d < m) (sym e) l) k;
  first = h.first;
}

-- a quotient as the code rounds it up
pub ceil-is : (w x : ℤ) (k : ℕ) → w ≤ℤ (x *ℤ pos k) → (x *ℤ pos k) <ℤ (w +ℤ pos k) → IsCeil w k x
ceil-is w x k high low =
    let parts : (x -ℤ pos 1) *ℤ pos k ≡ x *ℤ pos k +ℤ (neg_ℤ (pos 1)) *ℤ pos k = add-mulℤ x (neg_ℤ (pos 1)) (pos k) in
    let one : (neg_ℤ (pos 1)) *ℤ pos k ≡ neg_ℤ (pos k) = omega (arith, ints) in
    record { high = high; low = omega (arith, sums, parts, one) }

-- its size
pub ceil-within : (w x : ℤ) (k most : ℕ) → 1 ≤ k → unsigned_abs w ≤ most * k → IsCeil w k x → unsigned_abs x ≤ most
ceil-within w x k most some size h =
    both x most
    (le-cancel k (neg_ℤ (pos most)) x some (through _ w _ (subst (λ (z : ℤ). z ≤ℤ w) (sym (neg-mul most k)) (low w (most * k) size)) h.high))
    (ceil-le k x (pos most) w w h.low (same w) (high w (most * k) size))
  where
    same : (x : ℤ) → x ≤ℤ x
    same x = omega (arith, ints)

    low : (x : ℤ) (n : ℕ) → unsigned_abs x ≤ n → neg_ℤ (pos n) ≤ℤ x
    low x n l = omega (arith, ints)

    high : (x : ℤ) (n : ℕ) → unsigned_abs x ≤ n → x ≤ℤ pos n
    high x n l = omega (arith, ints)

    both : (x : ℤ) (n : ℕ) → neg_ℤ (pos n) ≤ℤ x → x ≤ℤ pos n → unsigned_abs x ≤ n
    both x n l m = omega (arith, ints)
