-- The gaps of points, formed where numbers may be too great.
use Rattle.std.proofs.Common.{◌≡◌, ℕ, ◌+◌, ◌*◌, ◌%◌, ◌^◌, ◌<◌, ◌≤◌, ◌⊎◌, inl, inr, List, [], ◌∷◌, ◌++◌, length, get_or, set, replicate, refl, ap, arith, sym, subst, ◌∙◌, length-append, of_z, to_z}
use Rattle.std.specs.Prelude.{ℤ, pos, ◌+ℤ◌, ◌-ℤ◌, ◌*ℤ◌, unsigned_abs, FitsSigned}
use Rattle.std.specs.Int.{w128, int_wrap, int_wrapping_sub}
use Rattle.std.proofs.lemmas.Int.{int_wrap_fits, wrapping_add-bits, wrapping_mul_is, wrapping_sub_is}
use Rattle.std.proofs.lemmas.List.{get_or_append_left, get_or_past, get_or-set_same, get_or-set_other}
use Rattle.std.proofs.lemmas.Nat.{mod_below}
use Rattle.scaled_num.specs.Share.{at}
use Rattle.scaled_num.proofs.Sums.{each-at, total-below}
use Rattle.point_set.specs.Bounds.{cost_at, cost_size}
use Rattle.point_set.specs.Corners.{point_at}
use Rattle.point_set.specs.Kept.{AreGapsOf, AreKept, AreValuesOf, IsGap, IsKept, IsNumber}
use Rattle.point_set.specs.Members.{most_points}
use Rattle.point_set.specs.Points.{PointData, no_point}
use Rattle.point_set.proofs.CornerNumbers.{is-number, kept-none}
use Rattle.point_set.proofs.Masses.{sum-below-same}

-- ---- what wraps around is exact where it fits
wrap-product : (w v : ℤ) → FitsSigned w128 w → FitsSigned w128 v → FitsSigned w128 (w *ℤ v) → to_z w128 ((of_z w128 w * of_z w128 v) % 2 ^ 128) ≡ w *ℤ v
wrap-product w v f g h = wrapping_mul_is w128 w v f g ∙ int_wrap_fits w128 (w *ℤ v) h

pub wrap-next : (m : ℕ) (w v : ℤ) → m < 2 ^ 128 → FitsSigned w128 w → FitsSigned w128 v → FitsSigned w128 (w *ℤ v) → FitsSigned w128 (to_z w128 m +ℤ w *ℤ v) →
    to_z w128 ((m + (of_z w128 w * of_z w128 v) % 2 ^ 128) % 2 ^ 128) ≡ to_z w128 m +ℤ w *ℤ v
wrap-next m w v l f g h k =
    wrapping_add-bits w128 m ((of_z w128 w * of_z w128 v) % 2 ^ 128) l (mod_below (of_z w128 w * of_z w128 v) (2 ^ 128) (omega arith))
    ∙ ap (λ (z : ℤ). int_wrap w128 (to_z w128 m +ℤ z)) (wrap-product w v f g h)
    ∙ int_wrap_fits w128 (to_z w128 m +ℤ w *ℤ v) k

pub wrap-gap : (value result cost : ℤ) → FitsSigned w128 value → FitsSigned w128 result → result ≡ cost → FitsSigned w128 (value -ℤ cost) → int_wrapping_sub w128 value result ≡ value -ℤ cost
wrap-gap value result cost f g e h = wrapping_sub_is w128 value result f g ∙ ap (λ (z : ℤ). int_wrap w128 (value -ℤ z)) e ∙ int_wrap_fits w128 (value -ℤ cost) h

-- ---- gaps over values that agree where the belief has a part
pub same-cost : (belief values others : List ℤ) → ((s : ℕ) → s < length belief → at values s ≡ at others s) → cost_at belief values ≡ cost_at belief others
same-cost belief values others e = total-below (length belief) _ _ (λ s l. ap (λ (v : ℤ). at belief s *ℤ v) (e s l))

same-size : (belief values others : List ℤ) → ((s : ℕ) → s < length belief → at values s ≡ at others s) → cost_size belief values ≡ cost_size belief others
same-size belief values others e = sum-below-same (length belief) _ _ (λ s l. ap (λ (v : ℤ). unsigned_abs (at belief s *ℤ v)) (e s l))

pub same-gap : (point : PointData) (values others : List ℤ) (gap : ℤ) → ((s : ℕ) → s < length point.belief → at values s ≡ at others s) → IsGap values point gap → IsGap others point gap
same-gap point values others gap e h small fits =
    let cost : cost_at point.belief values ≡ cost_at point.belief others = same-cost point.belief values others e in
    h (subst (λ (n : ℕ). n ≤ 2 ^ 124) (sym (same-size point.belief values others e)) small) (subst (λ (z : ℤ). FitsSigned w128 (point.value -ℤ z)) (sym cost) fits)
    ∙ ap (λ (z : ℤ). point.value -ℤ z) cost

-- ---- one more gap
pub next-gap : (points : List PointData) (values gaps : List ℤ) (first i : ℕ) (gap : ℤ) → ((j : ℕ) → first ≤ j → j < i → IsGap values (point_at points j) (at gaps j)) → i < length gaps →
    IsGap values (point_at points i) gap → (j : ℕ) → first ≤ j → j < i + 1 → IsGap values (point_at points j) (at (set gaps i gap) j)
next-gap points values gaps first i gap old l new j k m = elim (place j i m) [
  | inl before ↦ subst (IsGap values (point_at points j)) (sym (get_or-set_other gaps i j gap (pos 0) (λ e. absurd (omega arith)))) (old j k before)
  | inr last ↦ subst (λ (n : ℕ). IsGap values (point_at points n) (at (set gaps i gap) n)) (sym last)
      (subst (IsGap values (point_at points i)) (sym (get_or-set_same gaps i gap (pos 0) l)) new)
]
  where
    place : (j i : ℕ) → j < i + 1 → (j < i) ⊎ (j ≡ i)
    place j i m = search arith

pub old-gap : (gaps : List ℤ) (first i : ℕ) (gap : ℤ) (j : ℕ) → j < first → first ≤ i → at (set gaps i gap) j ≡ at gaps j
old-gap gaps first i gap j k m = get_or-set_other gaps i j gap (pos 0) (λ e. absurd (omega arith))

-- ---- a set's gaps, where a point is added
pub more-points : (points : List PointData) (point : PointData) (corners : List ℕ) (gaps : List ℤ) → IsKept points corners gaps → length points < most_points → (n : ℕ) → n ≡ length points →
    AreGapsOf n (points ++ point ∷ []) corners (gaps ++ pos 0 ∷ [])
more-points points point corners gaps h room n e = record {
  values = old.values;
  are = λ s l. old.are s l ∙ sym (ap (λ (p : PointData). p.value) (stays (get_or corners s 0) (is-number points corners s h.corners_kept (omega (arith, h.corners_kept.all)))));
  each = λ i l. inside i (subst (λ (m : ℕ). i < m) e l);
}
  where
    old : AreGapsOf (length points) points corners gaps
    old = h.gaps_kept.all

    stays : (k : ℕ) → IsNumber points k → point_at (points ++ point ∷ []) k ≡ point_at points k
    stays k (inl l) = get_or_append_left points (point ∷ []) no_point k l
    stays k (inr none) =
        get_or_past (points ++ point ∷ []) k no_point (omega (arith, length-append points (point ∷ []), room, none))
        ∙ sym (get_or_past points k no_point (omega (arith, room, none)))

    inside : (i : ℕ) → i < length points → IsGap old.values (point_at (points ++ point ∷ []) i) (at (gaps ++ pos 0 ∷ []) i)
    inside i l =
        subst (λ (p : PointData). IsGap old.values p (at (gaps ++ pos 0 ∷ []) i)) (sym (get_or_append_left points (point ∷ []) no_point i l))
        (subst (IsGap old.values (point_at points i)) (sym (get_or_append_left gaps (pos 0 ∷ []) (pos 0) i (subst (λ (m : ℕ). i < m) (sym h.gaps_kept.count) l))) (old.each i l))

-- the corners stay: the old gaps do, and the last is new
pub gaps-stay : (points : List PointData) (corners : List ℕ) (olds news values : List ℤ) (n : ℕ) → AreKept points corners → n + 1 ≡ length points → AreGapsOf n points corners olds → AreValuesOf points corners values →
    ((i : ℕ) → i < n → at news i ≡ at olds i) → ((i : ℕ) → n ≤ i → i < length points → IsGap values (point_at points i) (at news i)) → AreGapsOf (length points) points corners news
gaps-stay points corners olds news values n kept e old are before each = record {
  values = values;
  are = are;
  each = λ i l. elim (place i n (omega arith)) [
    | inl less ↦ subst (IsGap values (point_at points i)) (sym (before i less)) (same-gap (point_at points i) old.values values (at olds i) (agree i l) (old.each i less))
    | inr more ↦ each i more l
  ];
}
  where
    place : (i n : ℕ) → i < n + 1 → (i < n) ⊎ (n ≤ i)
    place i n l = search arith

    narrow : (i : ℕ) → i < length points → length (point_at points i).belief ≤ 16
    narrow i l = each-at (λ (p : PointData). length p.belief ≤ 16) no_point points i kept.narrow l

    agree : (i : ℕ) → i < length points → (s : ℕ) → s < length (point_at points i).belief → at old.values s ≡ at values s
    agree i l s m = let inside : s < length corners = omega (arith, narrow i l, kept.all) in old.are s inside ∙ sym (are s inside)

-- a set without points has no gaps
pub kept-nothing : IsKept [] (replicate 16 most_points) []
kept-nothing = record {
  corners_kept = kept-none;
  gaps_kept = record {
    count = refl;
    all = record {
      values = [];
      are = λ s l. refl;
      each = λ i l. absurd (omega arith);
    };
  };
}
