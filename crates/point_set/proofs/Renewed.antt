-- What a set keeps beside its points, after the value of a point was changed whose belief is sure of no state.
use Rattle.std.proofs.Common.{◌≡◌, false, refl, ℕ, ◌<◌, ◌≤◌, ◌⊎◌, inl, inr, List, length, get_or, set, ap, arith, sym, subst, ◌∙◌}
use Rattle.std.specs.Prelude.{ℤ, pos, ◌≤ℤ◌, ◌<ℤ◌}
use Rattle.std.specs.List.{AllByRecursion}
use Rattle.std.specs.Option.{IsNone, is_some}
use Rattle.std.specs.Prelude.{Option, None, Some}
use Rattle.std.proofs.lemmas.List.{get_or-set_same, get_or-set_other, length-set, set-get_or, set-set}
use Rattle.scaled_num.specs.Share.{at}
use Rattle.scaled_num.proofs.Sums.{each-at}
use Rattle.point_set.specs.Changes.{WasKept, with_value}
use Rattle.point_set.specs.Corners.{IsAtCorner, point_at}
use Rattle.point_set.specs.Kept.{AreGapsOf, AreValuesOf, IsCornerNumber, IsGap, IsKept, IsSure}
use Rattle.point_set.specs.Members.{most_points}
use Rattle.point_set.specs.Points.{PointData, no_point}
use Rattle.point_set.proofs.KeptGaps.{same-gap}
use Rattle.point_set.proofs.Lowering.{each-set}

-- the points as they were
abbrev before : List PointData → ℕ → ℤ → List PointData
before points number value = set points number (with_value (point_at points number) value)

-- with the point as it is they are the points as they are
back : (points : List PointData) (number : ℕ) (value : ℤ) → set (before points number value) number (point_at points number) ≡ points
back points number value = set-set points number (with_value (point_at points number) value) (point_at points number) ∙ set-get_or points number no_point

old-other : (points : List PointData) (number k : ℕ) (value : ℤ) → (k ≡ number → ⊥) → point_at (before points number value) k ≡ point_at points k
old-other points number k value apart = get_or-set_other points number k (with_value (point_at points number) value) no_point apart

old-here : (points : List PointData) (number : ℕ) (value : ℤ) → number < length points → point_at (before points number value) number ≡ with_value (point_at points number) value
old-here points number value l = get_or-set_same points number (with_value (point_at points number) value) no_point l

-- a point of the same belief is not at a corner either
never-old : (points : List PointData) (number s k : ℕ) (value : ℤ) → number < length points → ((t : ℕ) → IsSure (point_at points number).belief t → ⊥) → IsAtCorner s (point_at (before points number value) k) → k ≡ number → ⊥
never-old points number s k value l unsure corner e =
    let here : IsAtCorner s (with_value (point_at points number) value) =
    subst (IsAtCorner s) (old-here points number value l) (subst (λ (j : ℕ). IsAtCorner s (point_at (before points number value) j)) e corner) in
    unsure s (record { state = here.state; parts = here.belief })

never-new : (points : List PointData) (number s k : ℕ) → ((t : ℕ) → IsSure (point_at points number).belief t → ⊥) → IsAtCorner s (point_at points k) → k ≡ number → ⊥
never-new points number s k unsure corner e =
    let here : IsAtCorner s (point_at points number) = subst (λ (j : ℕ). IsAtCorner s (point_at points j)) e corner in
    unsure s (record { state = here.state; parts = here.belief })

-- the number kept for a state names another point, or none
apart-number : (points : List PointData) (number s k : ℕ) (value : ℤ) → number < length points → length points ≤ most_points → ((t : ℕ) → IsSure (point_at points number).belief t → ⊥) →
    IsCornerNumber (before points number value) s k → k ≡ number → ⊥
apart-number points number s k value l few unsure (inl h) e = never-old points number s k value l unsure h.corner e
apart-number points number s k value l few unsure (inr h) e = outside h.0 e
  where
    outside : k ≡ most_points → k ≡ number → ⊥
    outside mark same = omega arith

number-stays : (points : List PointData) (number s k : ℕ) (value : ℤ) → number < length points → ((t : ℕ) → IsSure (point_at points number).belief t → ⊥) →
    IsCornerNumber (before points number value) s k → IsCornerNumber points s k
number-stays points number s k value l unsure (inl h) =
    let count : length (before points number value) ≡ length points = length-set points number (with_value (point_at points number) value) in
    let here : point_at (before points number value) k ≡ point_at points k = old-other points number k value (never-old points number s k value l unsure h.corner) in
    let other = λ (i : ℕ) (c : IsAtCorner s (point_at points i)). old-other points number i value (never-new points number s i unsure c) in
    inl (record {
      inside = subst (λ (n : ℕ). k < n) count h.inside;
      corner = subst (IsAtCorner s) here h.corner;
      least = λ i li c. subst (λ (p : PointData). p.value ≤ℤ (point_at points i).value) here
          (subst (λ (p : PointData). (point_at (before points number value) k).value ≤ℤ p.value) (other i c)
          (h.least i (subst (λ (n : ℕ). i < n) (sym count) li) (subst (IsAtCorner s) (sym (other i c)) c)));
      first = λ i li c. subst (λ (p : PointData). p.value <ℤ (point_at points i).value) here
          (subst (λ (p : PointData). (point_at (before points number value) k).value <ℤ p.value) (other i c)
          (h.first i li (subst (IsAtCorner s) (sym (other i c)) c)));
    })
number-stays points number s k value l unsure (inr h) =
    let count : length (before points number value) ≡ length points = length-set points number (with_value (point_at points number) value) in
    inr (h.0, λ i li c. h.1 i (subst (λ (n : ℕ). i < n) (sym count) li) (subst (IsAtCorner s) (sym (old-other points number i value (never-new points number s i unsure c))) c))

pub unsure-kept : (points : List PointData) (number : ℕ) (corners : List ℕ) (gaps values : List ℤ) (gap : ℤ) → number < length points → WasKept points number corners gaps →
    ((t : ℕ) → IsSure (point_at points number).belief t → ⊥) → AreValuesOf points corners values → IsGap values (point_at points number) gap → IsKept points corners (set gaps number gap)
unsure-kept points number corners gaps values gap l was unsure are here =
    record {
      corners_kept = record {
        few = few;
        narrow = narrow;
        all = was.kept.corners_kept.all;
        numbers = λ s ls. number-stays points number s (get_or corners s 0) was.value l unsure (was.kept.corners_kept.numbers s ls);
      };
      gaps_kept = record {
        count = length-set gaps number gap ∙ was.kept.gaps_kept.count ∙ count;
        all = record {
          values = values;
          are = are;
          each = λ i li. each i li (place i number);
        };
      };
    }
  where
    old : List PointData
    old = before points number was.value

    count : length (before points number was.value) ≡ length points
    count = length-set points number (with_value (point_at points number) was.value)

    few : length points ≤ most_points
    few = subst (λ (n : ℕ). n ≤ most_points) count was.kept.corners_kept.few

    own : length (point_at points number).belief ≤ 16
    own = subst (λ (p : PointData). length p.belief ≤ 16) (old-here points number was.value l)
        (each-at (λ (p : PointData). length p.belief ≤ 16) no_point (before points number was.value) number was.kept.corners_kept.narrow (subst (λ (n : ℕ). number < n) (sym count) l))

    narrow : AllByRecursion (λ (p : PointData). length p.belief ≤ 16) points
    narrow = subst (AllByRecursion (λ (p : PointData). length p.belief ≤ 16)) (back points number was.value)
        (each-set (λ (p : PointData). length p.belief ≤ 16) (before points number was.value) number (point_at points number) was.kept.corners_kept.narrow own)

    place : (i j : ℕ) → (i ≡ j) ⊎ (i ≡ j → ⊥)
    place i j = search arith

    olds : AreGapsOf (length (before points number was.value)) (before points number was.value) corners gaps
    olds = was.kept.gaps_kept.all

    agree : (s : ℕ) → s < 16 → at olds.values s ≡ at values s
    agree s ls =
        let inside : s < length corners = subst (λ (n : ℕ). s < n) (sym was.kept.corners_kept.all) ls in
        olds.are s inside
        ∙ ap (λ (p : PointData). p.value) (old-other points number (get_or corners s 0) was.value (apart-number points number s (get_or corners s 0) was.value l few unsure (was.kept.corners_kept.numbers s ls)))
        ∙ sym (are s inside)

    below-sixteen : (s n : ℕ) → s < n → n ≤ 16 → s < 16
    below-sixteen s n p q = omega arith

    each : (i : ℕ) → i < length points → (i ≡ number) ⊎ (i ≡ number → ⊥) → IsGap values (point_at points i) (at (set gaps number gap) i)
    each i li (inl e) =
        let inside : number < length gaps = subst (λ (n : ℕ). number < n) (sym (was.kept.gaps_kept.count ∙ count)) l in
        subst (λ (j : ℕ). IsGap values (point_at points j) (at (set gaps number gap) j)) (sym e) (subst (IsGap values (point_at points number)) (sym (get_or-set_same gaps number gap (pos 0) inside)) here)
    each i li (inr apart) =
        subst (IsGap values (point_at points i)) (sym (get_or-set_other gaps number i gap (pos 0) apart))
        (same-gap (point_at points i) olds.values values (at gaps i)
        (λ s ls. agree s (below-sixteen s (length (point_at points i).belief) ls (each-at (λ (p : PointData). length p.belief ≤ 16) no_point points i narrow li)))
        (subst (λ (p : PointData). IsGap olds.values p (at gaps i)) (old-other points number i was.value apart) (olds.each i (subst (λ (n : ℕ). i < n) (sym count) li))))

-- an option that has no value is none
pub none-some : {X : Type 0} (x : Option X) → is_some x ≡ false → IsNone x
none-some None e = refl
none-some (Some x) e = absurd (cc e)
