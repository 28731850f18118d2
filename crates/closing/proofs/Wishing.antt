-- Wishes for points, of which at most eight are no current corner.
use Rattle.std.proofs.Common.{◌≡◌, ℕ, zero, suc, ◌<◌, ◌≤◌, ◌+◌, ◌++◌, ◌∷◌, [], List, Bool, true, false, cond, length, map, refl, sym, subst, ap, ◌∙◌, inl, inr, arith, append_assoc}
use Rattle.std.specs.Prelude.{ℤ, pos, filter, not, slice_index}
use Rattle.std.specs.List.{AllByRecursion}
use Rattle.std.proofs.lemmas.List.{append-nil, length-append}
use Rattle.std.proofs.lemmas.List.Elements.{filter-append}
use Rattle.scaled_num.proofs.Sums.{each-append}
use Rattle.game_model.specs.Branches.{Branch, IsBranchBefore}
use Rattle.game_model.specs.Game.{IsWithin}
use Rattle.point_set.specs.Points.{PointData}
use Rattle.point_set.specs.Sawtooth.{AreCorners}
use Rattle.point_set.specs.Split.{AreRisingPairs, is_corner, most_others, most_wish}
use Rattle.stage_game.proofs.Placed.{each-weaker}
use Rattle.closing.specs.Plans.{AddsSuch, AreInOrder, AreWished, AreWishesFor, TakesWish, is_other}

pub wished-none : (corners : List ℕ) (a o : ℕ) → AreWished corners a o 0 0 []
wished-none corners a o = record {
  after = record { places = tt; order = tt };
  members = tt;
  weights = tt;
  few = omega arith;
  most = omega arith;
  none = λ e. refl;
  some = λ l. absurd (omega arith);
}

-- ---- a member is passed over
pub wished-kept : (corners : List ℕ) (a o k others : ℕ) (wishes : List Branch) → 0 < k → AreWished corners a o k others wishes → AreWished corners a o (k + 1) others (wishes ++ [])
wished-kept corners a o k others wishes more are = subst (AreWished corners a o (k + 1) others) (sym (append-nil wishes)) (record {
  after = are.after;
  members = each-weaker (λ b. b.member < k) (λ b. b.member < k + 1) (λ b l. omega arith) wishes are.members;
  weights = are.weights;
  few = are.few;
  most = are.most;
  none = λ e. absurd (omega arith);
  some = λ l. are.some more;
})

-- ---- a member is wished
order-more : (xs : List Branch) (b : Branch) → AreInOrder xs → AllByRecursion (λ x. IsBranchBefore x b) xs → AreInOrder (xs ++ b ∷ [])
order-more [] b h l = (tt, tt)
order-more (x ∷ xs) b h l = (each-append (IsBranchBefore x) xs (b ∷ []) h.0 (l.0, tt), order-more xs b h.1 l.1)

before-last : (a o : ℕ) (b : Branch) → b.own ≡ a → b.seen ≡ o → (xs : List Branch) → AllByRecursion (λ x. (x.own ≡ a) × (x.seen ≡ o)) xs → AllByRecursion (λ x. x.member < b.member) xs
    → AllByRecursion (λ x. IsBranchBefore x b) xs
before-last a o b own seen [] p l = tt
before-last a o b own seen (x ∷ xs) p l = (inr (p.0.0 ∙ sym own, inr (p.0.1 ∙ sym seen, l.0)), before-last a o b own seen xs p.1 l.1)

wished-more : (corners : List ℕ) (a o k others later : ℕ) (wishes : List Branch) (b : Branch) → b.own ≡ a → b.seen ≡ o → b.member ≡ k → IsWithin (pos 0) (pos most_wish) b.weight
    → AreWished corners a o k others wishes → later ≤ most_others → (k ≡ 0 → k + 1 ≡ 0 → later ≡ 0)
    → length (filter (is_other corners) (wishes ++ b ∷ [])) ≤ later → AreWished corners a o (k + 1) later (wishes ++ b ∷ [])
wished-more corners a o k others later wishes b own seen member weight are most none few = record {
  after = record {
    places = each-append (λ x. (x.own ≡ a) × (x.seen ≡ o)) wishes (b ∷ []) are.after.places ((own, seen), tt);
    order = order-more wishes b are.after.order
        (before-last a o b own seen wishes are.after.places (each-weaker (λ x. x.member < k) (λ x. x.member < b.member) (λ x l. omega arith) wishes are.members));
  };
  members = each-append (λ x. x.member < k + 1) wishes (b ∷ []) (each-weaker (λ x. x.member < k) (λ x. x.member < k + 1) (λ x l. omega arith) wishes are.members) (omega arith, tt);
  weights = each-append (λ x. IsWithin (pos 0) (pos most_wish) x.weight) wishes (b ∷ []) are.weights (weight, tt);
  few = few;
  most = most;
  none = λ e. absurd (omega arith);
  some = λ l. omega (arith, length-append wishes (b ∷ []));
}

other-length : (t : Bool) (b : Branch) → length (cond t (b ∷ []) []) ≤ 1
other-length true b = omega arith
other-length false b = omega arith

no-other-length : (t : Bool) (b : Branch) → t ≡ false → length (cond t (b ∷ []) []) ≡ 0
no-other-length true b e = cc
no-other-length false b e = refl

others-more : (corners : List ℕ) (wishes : List Branch) (b : Branch) → length (filter (is_other corners) (wishes ++ b ∷ [])) ≡ length (filter (is_other corners) wishes) + length (cond (is_other corners b) (b ∷ []) [])
others-more corners wishes b = ap length (filter-append (is_other corners) wishes (b ∷ [])) ∙ length-append (filter (is_other corners) wishes) (filter (is_other corners) (b ∷ []))

pub wished-corner : (corners : List ℕ) (a o k others : ℕ) (wishes : List Branch) (b : Branch) → b.own ≡ a → b.seen ≡ o → b.member ≡ k → IsWithin (pos 0) (pos most_wish) b.weight
    → is_other corners b ≡ false → AreWished corners a o k others wishes → AreWished corners a o (k + 1) others (wishes ++ b ∷ [])
wished-corner corners a o k others wishes b own seen member weight corner are =
    wished-more corners a o k others others wishes b own seen member weight are are.most (λ e f. absurd (omega arith))
    (omega (arith, others-more corners wishes b, no-other-length (is_other corners b) b corner, are.few))

pub wished-other : (corners : List ℕ) (a o k others : ℕ) (wishes : List Branch) (b : Branch) → b.own ≡ a → b.seen ≡ o → b.member ≡ k → IsWithin (pos 0) (pos most_wish) b.weight
    → others < most_others → AreWished corners a o k others wishes → AreWished corners a o (k + 1) (others + 1) (wishes ++ b ∷ [])
wished-other corners a o k others wishes b own seen member weight less are =
    wished-more corners a o k others (others + 1) wishes b own seen member weight are (omega arith) (λ e f. absurd (omega arith))
    (omega (arith, others-more corners wishes b, other-length (is_other corners b) b, are.few))

-- ---- what is wished can be split into
pairs-rising : (a o : ℕ) (bs : List Branch) → AllByRecursion (λ b. (b.own ≡ a) × (b.seen ≡ o)) bs → AreInOrder bs → AreRisingPairs (map (λ b. (b.member, b.weight)) bs)
pairs-rising a o [] p h = tt
pairs-rising a o (b ∷ []) p h = tt
pairs-rising a o (b ∷ d ∷ rest) p h = (rises b d (p.0.0 ∙ sym p.1.0.0) (p.0.1 ∙ sym p.1.0.1) h.0.0, pairs-rising a o (d ∷ rest) p.1 h.1)
  where
    rises : (b d : Branch) → b.own ≡ d.own → b.seen ≡ d.seen → IsBranchBefore b d → b.member < d.member
    rises b d e f (inl l) = absurd (omega arith)
    rises b d e f (inr (g, inl l)) = absurd (omega arith)
    rises b d e f (inr (g, inr (i, l))) = l

map-each-of : (P : ℕ × ℤ → Type 0) (bs : List Branch) → AllByRecursion (λ b. P (b.member, b.weight)) bs → AllByRecursion P (map (λ b. (b.member, b.weight)) bs)
map-each-of P [] h = tt
map-each-of P (b ∷ bs) h = (h.0, map-each-of P bs h.1)

as-many : {X Y : Type 0} (b : Bool) (x : X) (y : Y) (xs : List X) (ys : List Y) → length ys ≡ length xs → length (cond b (y ∷ ys) ys) ≡ length (cond b (x ∷ xs) xs)
as-many true x y xs ys e = ap suc e
as-many false x y xs ys e = e

filter-pairs : (test : ℕ → Bool) (bs : List Branch) → length (filter (λ (want : ℕ × ℤ). test want.0) (map (λ b. (b.member, b.weight)) bs)) ≡ length (filter (λ b. test b.member) bs)
filter-pairs test [] = refl
filter-pairs test (b ∷ bs) = as-many (test b.member) b (b.member, b.weight) (filter (λ b. test b.member) bs) (filter (λ (want : ℕ × ℤ). test want.0) (map (λ b. (b.member, b.weight)) bs)) (filter-pairs test bs)

pairs-long : (bs : List Branch) → length {A = ℕ × ℤ} (map (λ b. (b.member, b.weight)) bs) ≡ length bs
pairs-long [] = refl
pairs-long (b ∷ bs) = ap suc (pairs-long bs)

pub wished-right : (points : List PointData) (states a o count others : ℕ) (corners : List ℕ) (wishes : List Branch) → 0 < count → count ≤ length points → length corners ≡ states
    → AreCorners points states (λ s. slice_index corners s) → AreWished corners a o count others wishes → AreWishesFor points states a o wishes
wished-right points states a o count others corners wishes some inside long current are = record {
  after = are.after;
  wanted = record {
    some = omega (arith, pairs-long wishes, are.some some);
    rising = pairs-rising a o wishes are.after.places are.after.order;
    inside = map-each-of (λ want. want.0 < length points) wishes (each-weaker (λ b. b.member < count) (λ b. b.member < length points) (λ b l. omega arith) wishes are.members);
    weights = map-each-of (λ want. IsWithin (pos 0) (pos most_wish) want.1) wishes are.weights;
    corners = λ s. slice_index corners s;
    current = current;
    few = subst (λ (n : ℕ). length (filter (λ (want : ℕ × ℤ). not (is_corner (λ s. slice_index corners s) n want.0)) (map (λ b. (b.member, b.weight)) wishes)) ≤ most_others) long
        (omega (arith, filter-pairs (λ k. not (is_corner (λ s. slice_index corners s) (length corners) k)) wishes, are.few, are.most));
  };
}

-- ---- one member after another
pub wish-taken : (corners : List ℕ) (a o k others later : ℕ) (old middle new : List Branch) → AddsSuch (AreWished corners a o k others) old middle → TakesWish corners a o k others later middle new
    → AddsSuch (AreWished corners a o (k + 1) later) old new
wish-taken corners a o k others later old middle new adds takes = record {
  added = adds.added ++ takes.added;
  right = takes.right adds.added adds.right;
  same = takes.same ∙ ap (λ (bs : List Branch). bs ++ takes.added) adds.same ∙ append_assoc old adds.added takes.added;
}

-- ---- the cases of one member
pub takes-none : (corners : List ℕ) (a o k others : ℕ) (old : List Branch) → 0 < k → TakesWish corners a o k others others old old
takes-none corners a o k others old more = record {
  added = [];
  same = sym (append-nil old);
  right = λ before are. wished-kept corners a o k others before more are;
}

pub takes-corner : (corners : List ℕ) (a o k others : ℕ) (old new : List Branch) (b : Branch) → b.own ≡ a → b.seen ≡ o → b.member ≡ k → IsWithin (pos 0) (pos most_wish) b.weight
    → is_corner (λ s. slice_index corners s) (length corners) k ≡ true → new ≡ old ++ b ∷ [] → TakesWish corners a o k others others old new
takes-corner corners a o k others old new b own seen member weight corner same = record {
  added = b ∷ [];
  same = same;
  right = λ before are. wished-corner corners a o k others before b own seen member weight
      (ap (λ (j : ℕ). not (is_corner (λ s. slice_index corners s) (length corners) j)) member ∙ ap not corner) are;
}

pub takes-other : (corners : List ℕ) (a o k others : ℕ) (old new : List Branch) (b : Branch) → b.own ≡ a → b.seen ≡ o → b.member ≡ k → IsWithin (pos 0) (pos most_wish) b.weight
    → others < most_others → new ≡ old ++ b ∷ [] → TakesWish corners a o k others (others + 1) old new
takes-other corners a o k others old new b own seen member weight less same = record {
  added = b ∷ [];
  same = same;
  right = λ before are. wished-other corners a o k others before b own seen member weight less are;
}

pub some-others : (k others : ℕ) → (k ≡ 0 → others ≡ 0) → 8 ≤ others → 0 < k
some-others zero others h l = let none : others ≡ 0 = h refl in absurd (omega arith)
some-others (suc k) others h l = omega arith
