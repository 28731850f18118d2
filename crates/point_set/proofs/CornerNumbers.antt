-- The current corners that a set keeps, where a point is added.
use Rattle.std.proofs.Common.{◌≡◌, ℕ, zero, suc, ◌+◌, ◌^◌, ◌<◌, ◌≤◌, ◌⊎◌, inl, inr, List, [], ◌∷◌, ◌++◌, length, get_or, set, replicate, refl, ap, arith, sym, subst, ◌∙◌, length-append}
use Rattle.std.specs.Prelude.{ℤ, pos, ◌≤ℤ◌, ◌<ℤ◌}
use Rattle.std.specs.List.{AllByRecursion}
use Rattle.std.proofs.lemmas.Int.{ints}
use Rattle.std.proofs.lemmas.List.{get_or_append_left, get_or-append-add, get_or-set_same, get_or-set_other, length-set, get_or-replicate, length-replicate}
use Rattle.scaled_num.specs.Share.{at}
use Rattle.scaled_num.specs.Sums.{sum_of}
use Rattle.scaled_num.proofs.Sums.{each-append, each-at}
use Rattle.game_model.specs.Game.{IsBelief, IsWithin}
use Rattle.belief.specs.Beliefs.{corner_of}
use Rattle.point_set.specs.Corners.{HasCorner, IsAtCorner, IsCurrentCorner, point_at}
use Rattle.point_set.specs.Kept.{AreKept, IsAbove, IsCornerNumber, IsNumber, IsSure}
use Rattle.point_set.specs.Members.{most_points}
use Rattle.point_set.specs.Points.{PointData, no_point}
use Rattle.belief.proofs.Parts.{corner-sum}

-- ---- a belief whose total is 1 is sure of its first state with weight
abbrev IsWeight : ℤ → Type 0
IsWeight x = IsWithin (pos 0) (pos (2 ^ 20)) x

sum-low : (xs : List ℤ) → AllByRecursion IsWeight xs → pos 0 ≤ℤ sum_of xs
sum-low [] h = omega (arith, ints)
sum-low (x ∷ xs) h = let low = h.0.0 in omega (arith, ints, sum-low xs h.1)

at-low : (xs : List ℤ) (s : ℕ) → AllByRecursion IsWeight xs → s < length xs → (at xs s) ≤ℤ sum_of xs
at-low [] s h l = absurd (omega arith)
at-low (x ∷ xs) zero h l = omega (arith, ints, sum-low xs h.1)
at-low (x ∷ xs) (suc s) h l = let low = h.0.0 in omega (arith, ints, at-low xs s h.1 (omega arith))

none-left : (xs : List ℤ) → AllByRecursion IsWeight xs → sum_of xs ≤ℤ pos 0 → xs ≡ replicate (length xs) (pos 0)
none-left [] h l = refl
none-left (x ∷ xs) h l =
    let low = h.0.0 in
    let first : x ≡ pos 0 = zero-is x low (omega (arith, ints, sum-low xs h.1)) in
    ap (λ (z : ℤ). z ∷ xs) first ∙ ap (λ (ys : List ℤ). pos 0 ∷ ys) (none-left xs h.1 (omega (arith, ints)))
  where
    zero-is : (x : ℤ) → pos 0 ≤ℤ x → x ≤ℤ pos 0 → x ≡ pos 0
    zero-is x p q = omega (arith, ints)

sure-parts : (xs : List ℤ) (s : ℕ) → AllByRecursion IsWeight xs → s < length xs → pos 1 ≤ℤ at xs s → sum_of xs ≡ pos 1 → xs ≡ corner_of (length xs) s
sure-parts [] s h l p e = absurd (omega arith)
sure-parts (x ∷ xs) zero h l p e =
    let first : x ≡ pos 1 = one-is x p (omega (arith, ints, sum-low xs h.1)) in
    ap (λ (z : ℤ). z ∷ xs) first ∙ ap (λ (ys : List ℤ). pos 1 ∷ ys) (none-left xs h.1 (omega (arith, ints)))
  where
    one-is : (x : ℤ) → pos 1 ≤ℤ x → x ≤ℤ pos 1 → x ≡ pos 1
    one-is x p q = omega (arith, ints)
sure-parts (x ∷ xs) (suc s) h l p e =
    let low = h.0.0 in
    let inside : s < length xs = omega arith in
    let rest = at-low xs s h.1 inside in
    let first : x ≡ pos 0 = zero-is x low (omega (arith, ints)) in
    ap (λ (z : ℤ). z ∷ xs) first ∙ ap (λ (ys : List ℤ). pos 0 ∷ ys) (sure-parts xs s h.1 inside p (omega (arith, ints)))
  where
    zero-is : (x : ℤ) → pos 0 ≤ℤ x → x ≤ℤ pos 0 → x ≡ pos 0
    zero-is x p q = omega (arith, ints)

pub is-sure : (belief : List ℤ) (s : ℕ) → IsBelief (length belief) belief → s < length belief → pos 1 ≤ℤ at belief s → sum_of belief ≡ pos 1 → IsSure belief s
is-sure belief s h l p e = record { state = l; parts = sure-parts belief s h.each l p e }

pub sure-sum : (belief : List ℤ) (s : ℕ) → IsSure belief s → sum_of belief ≡ pos 1
sure-sum belief s h = ap sum_of h.parts ∙ corner-sum (length belief) s h.state

-- a belief is sure of one state at most
other-corner : (n s t : ℕ) → s < n → t < n → corner_of n s ≡ corner_of n t → s ≡ t
other-corner n s t ls lt e = elim (same s t) [
  | inl here ↦ here
  | inr apart ↦ absurd (one-zero (sym (get_or-set_same (replicate n (pos 0)) s (pos 1) (pos 0) (omega (arith, length-replicate n (pos 0))))
      ∙ ap (λ (xs : List ℤ). at xs s) e
      ∙ get_or-set_other (replicate n (pos 0)) t s (pos 1) (pos 0) apart
      ∙ get_or-replicate n s (pos 0) (pos 0) ls))
]
  where
    same : (s t : ℕ) → (s ≡ t) ⊎ (s ≡ t → ⊥)
    same s t = search arith

    one-zero : pos 1 ≡ pos 0 → ⊥
    one-zero e = cc

pub sure-once : (belief : List ℤ) (s t : ℕ) → IsSure belief s → IsSure belief t → s ≡ t
sure-once belief s t h k = other-corner (length belief) s t h.state k.state (sym h.parts ∙ k.parts)

-- ---- the points with one more
abbrev with : List PointData → PointData → List PointData
with points point = points ++ point ∷ []

old-at : (points : List PointData) (point : PointData) (i : ℕ) → i < length points → point_at (with points point) i ≡ point_at points i
old-at points point i l = get_or_append_left points (point ∷ []) no_point i l

pub new-at : (points : List PointData) (point : PointData) → point_at (with points point) (length points) ≡ point
new-at points point = ap (λ (i : ℕ). point_at (with points point) i) (same (length points)) ∙ get_or-append-add points (point ∷ []) 0 no_point
  where
    same : (n : ℕ) → n ≡ n + 0
    same n = omega arith

-- what holds of the old points and of the new one holds of each
each-with : (P : ℕ → PointData → Type 0) (points : List PointData) (point : PointData) → ((i : ℕ) → i < length points → P i (point_at points i)) → P (length points) point →
    (i : ℕ) → i < length (with points point) → P i (point_at (with points point) i)
each-with P points point old new i l = elim (place i (length points) (omega (arith, length-append points (point ∷ [])))) [
  | inl before ↦ subst (P i) (sym (old-at points point i before)) (old i before)
  | inr last ↦ subst (λ (j : ℕ). P j (point_at (with points point) j)) (sym last) (subst (P (length points)) (sym (new-at points point)) new)
]
  where
    place : (i n : ℕ) → i < n + 1 → (i < n) ⊎ (i ≡ n)
    place i n l = search arith

-- the current corner stays where the new point is not at the corner or has no lower value
pub corner-stays : (points : List PointData) (point : PointData) (s k : ℕ) → IsCurrentCorner points s k → (IsAtCorner s point → (point_at points k).value ≤ℤ point.value) → IsCurrentCorner (with points point) s k
corner-stays points point s k h new =
    let here : point_at (with points point) k ≡ point_at points k = old-at points point k h.inside in
    record {
      inside = omega (arith, length-append points (point ∷ []), h.inside);
      corner = subst (IsAtCorner s) (sym here) h.corner;
      least = subst (λ (p : PointData). (i : ℕ) → i < length (with points point) → IsAtCorner s (point_at (with points point) i) → p.value ≤ℤ (point_at (with points point) i).value) (sym here)
          (each-with (λ i p. IsAtCorner s p → (point_at points k).value ≤ℤ p.value) points point h.least new);
      first = λ i l. subst (λ (p : PointData). IsAtCorner s (point_at (with points point) i) → p.value <ℤ (point_at (with points point) i).value) (sym here)
          (subst (λ (p : PointData). IsAtCorner s p → (point_at points k).value <ℤ p.value) (sym (old-at points point i (omega (arith, h.inside)))) (h.first i l));
    }

pub number-stays : (points : List PointData) (point : PointData) (s k : ℕ) → IsCornerNumber points s k → (IsAtCorner s point → (k < length points) × ((point_at points k).value ≤ℤ point.value)) → length points < most_points →
    IsCornerNumber (with points point) s k
number-stays points point s k (inl current) new room = inl (corner-stays points point s k current (λ h. (new h).1))
number-stays points point s k (inr none) new room =
    inr (none.0, each-with (λ i p. IsAtCorner s p → ⊥) points point none.1 (λ h. outside (new h).0 none.0 room))
  where
    outside : k < length points → k ≡ most_points → length points < most_points → ⊥
    outside l e r = omega arith

-- the new point is the current corner where there was none, or where its value is below the old one's
pub number-new : (points : List PointData) (point : PointData) (s k : ℕ) → IsCornerNumber points s k → IsAtCorner s point → IsAbove points k point.value → length points < most_points →
    IsCornerNumber (with points point) s (length points)
number-new points point s k number corner above room =
    let here : point_at (with points point) (length points) ≡ point = new-at points point in
    let lower : (i : ℕ) → i < length points → IsAtCorner s (point_at points i) → point.value <ℤ (point_at points i).value = below number above in
    inl (record {
      inside = omega (arith, length-append points (point ∷ []));
      corner = subst (IsAtCorner s) (sym here) corner;
      least = subst (λ (p : PointData). (i : ℕ) → i < length (with points point) → IsAtCorner s (point_at (with points point) i) → p.value ≤ℤ (point_at (with points point) i).value) (sym here)
          (each-with (λ i p. IsAtCorner s p → point.value ≤ℤ p.value) points point (λ i l h. weaker point.value (point_at points i).value (lower i l h)) (λ h. omega (arith, ints)));
      first = λ i l. subst (λ (p : PointData). IsAtCorner s (point_at (with points point) i) → p.value <ℤ (point_at (with points point) i).value) (sym here)
          (subst (λ (p : PointData). IsAtCorner s p → point.value <ℤ p.value) (sym (old-at points point i l)) (lower i l));
    })
  where
    weaker : (x y : ℤ) → x <ℤ y → x ≤ℤ y
    weaker x y h = omega (arith, ints)

    outside : k < length points → k ≡ most_points → ⊥
    outside l e = omega (arith, room)

    below : IsCornerNumber points s k → IsAbove points k point.value → (i : ℕ) → i < length points → IsAtCorner s (point_at points i) → point.value <ℤ (point_at points i).value
    below (inl current) (inl mark) i l h = absurd (outside current.inside mark)
    below (inl current) (inr less) i l h = let least = current.least i l h in omega (arith, ints)
    below (inr none) above i l h = absurd (none.1 i l h)

-- ---- all numbers after one more point
at-corner : (s : ℕ) (point : PointData) → IsAtCorner s point → IsSure point.belief s
at-corner s point h = record { state = h.state; parts = h.belief }

sure-corner : (s : ℕ) (point : PointData) → IsSure point.belief s → IsAtCorner s point
sure-corner s point h = record { state = h.state; belief = h.parts }

few-with : (points : List PointData) (point : PointData) → length points < most_points → length (with points point) ≤ most_points
few-with points point room = omega (arith, length-append points (point ∷ []))

-- the point is sure of no state
pub kept-unsure : (points : List PointData) (corners : List ℕ) (point : PointData) → AreKept points corners → length points < most_points → length point.belief ≤ 16 →
    ((s : ℕ) → IsSure point.belief s → ⊥) → AreKept (with points point) corners
kept-unsure points corners point h room narrow unsure = record {
  few = few-with points point room;
  narrow = each-append (λ (p : PointData). length p.belief ≤ 16) points (point ∷ []) h.narrow (narrow, tt);
  all = h.all;
  numbers = λ s l. number-stays points point s (get_or corners s 0) (h.numbers s l) (λ c. absurd (unsure s (at-corner s point c))) room;
}

below-same : (x y : ℤ) → (x <ℤ y → ⊥) → y ≤ℤ x
below-same x y h = grind (arith, ints)

-- the point is sure of a state, whose corner stays
pub kept-same : (points : List PointData) (corners : List ℕ) (point : PointData) (s : ℕ) → AreKept points corners → length points < most_points → length point.belief ≤ 16 →
    IsSure point.belief s → (IsAbove points (get_or corners s 0) point.value → ⊥) → AreKept (with points point) corners
kept-same points corners point s h room narrow sure same = record {
  few = few-with points point room;
  narrow = each-append (λ (p : PointData). length p.belief ≤ 16) points (point ∷ []) h.narrow (narrow, tt);
  all = h.all;
  numbers = λ t l. number-stays points point t (get_or corners t 0) (h.numbers t l)
      (λ c. subst (λ (j : ℕ). (get_or corners j 0 < length points) × ((point_at points (get_or corners j 0)).value ≤ℤ point.value))
      (sure-once point.belief s t sure (at-corner t point c)) (here (h.numbers s (below-sixteen sure.state narrow)))) room;
}
  where
    below-sixteen : s < length point.belief → length point.belief ≤ 16 → s < 16
    below-sixteen p q = omega arith

    here : IsCornerNumber points s (get_or corners s 0) → (get_or corners s 0 < length points) × ((point_at points (get_or corners s 0)).value ≤ℤ point.value)
    here (inl current) = (current.inside, below-same point.value (point_at points (get_or corners s 0)).value (λ less. same (inr less)))
    here (inr none) = absurd (same (inl none.0))

-- the point is sure of a state, and becomes its corner
pub kept-new : (points : List PointData) (corners : List ℕ) (point : PointData) (s : ℕ) → AreKept points corners → length points < most_points → length point.belief ≤ 16 →
    IsSure point.belief s → IsAbove points (get_or corners s 0) point.value → AreKept (with points point) (set corners s (length points))
kept-new points corners point s h room narrow sure above = record {
  few = few-with points point room;
  narrow = each-append (λ (p : PointData). length p.belief ≤ 16) points (point ∷ []) h.narrow (narrow, tt);
  all = length-set corners s (length points) ∙ h.all;
  numbers = λ t l. elim (same t s) [
    | inl here ↦ subst (λ (j : ℕ). IsCornerNumber (with points point) j (get_or (set corners s (length points)) j 0)) (sym here)
        (subst (IsCornerNumber (with points point) s) (sym (get_or-set_same corners s (length points) 0 (omega (arith, h.all, sure.state, narrow))))
        (number-new points point s (get_or corners s 0) (h.numbers s (omega (arith, sure.state, narrow))) (sure-corner s point sure) above room))
    | inr apart ↦ subst (IsCornerNumber (with points point) t) (sym (get_or-set_other corners s t (length points) 0 apart))
        (number-stays points point t (get_or corners t 0) (h.numbers t l) (λ c. absurd (apart (sure-once point.belief t s (at-corner t point c) sure))) room)
  ];
}
  where
    same : (t s : ℕ) → (t ≡ s) ⊎ (t ≡ s → ⊥)
    same t s = search arith

pub is-number : (points : List PointData) (corners : List ℕ) (s : ℕ) → AreKept points corners → s < 16 → IsNumber points (get_or corners s 0)
is-number points corners s h l = named (h.numbers s l)
  where
    named : IsCornerNumber points s (get_or corners s 0) → IsNumber points (get_or corners s 0)
    named (inl current) = inl current.inside
    named (inr none) = inr none.0

-- a state with a corner has its current one
pub current-corner : (points : List PointData) (corners : List ℕ) (s : ℕ) → AreKept points corners → HasCorner points s → IsCurrentCorner points s (get_or corners s 0)
current-corner points corners s h some = found (h.numbers s (omega (arith, inside, few)))
  where
    inside : s < length (point_at points some.number).belief
    inside = some.corner.state

    few : length (point_at points some.number).belief ≤ 16
    few = each-at (λ (p : PointData). length p.belief ≤ 16) no_point points some.number h.narrow some.inside

    found : IsCornerNumber points s (get_or corners s 0) → IsCurrentCorner points s (get_or corners s 0)
    found (inl current) = current
    found (inr none) = absurd (none.1 some.number some.inside some.corner)

-- a set without points
pub kept-none : AreKept [] (replicate 16 most_points)
kept-none = record {
  few = omega arith;
  narrow = tt;
  all = length-replicate 16 most_points;
  numbers = λ s l. inr (get_or-replicate 16 s most_points 0 l, λ i m. absurd (omega arith));
}

-- two current corners of a state are one
pub one-corner : (points : List PointData) (s k l : ℕ) → IsCurrentCorner points s k → IsCurrentCorner points s l → k ≡ l
one-corner points s k l h g = elim (order k l) [
  | inl less ↦ absurd (apart less (g.first k less h.corner) (h.least l g.inside g.corner))
  | inr rest ↦ elim rest [
    | inl same ↦ same
    | inr more ↦ absurd (apart more (h.first l more g.corner) (g.least k h.inside h.corner))
  ]
]
  where
    order : (k l : ℕ) → (k < l) ⊎ ((k ≡ l) ⊎ (l < k))
    order k l = search arith

    apart : {i j : ℕ} → i < j → {x y : ℤ} → x <ℤ y → y ≤ℤ x → ⊥
    apart m p q = omega (arith, ints)
