-- The seed points fit the game and stand.
use Rattle.std.proofs.Common.{◌≡◌, ℕ, ◌+◌, ◌*◌, ◌^◌, ◌<◌, ◌≤◌, List, [], ◌∷◌, ◌++◌, length, get_or, refl, ap, arith, sym, subst, ◌∙◌, inl, inr}
use Rattle.std.specs.Prelude.{ℤ, pos, neg_ℤ, ◌*ℤ◌, ◌≤ℤ◌, ◌<ℤ◌, unsigned_abs}
use Rattle.std.specs.List.{AllByRecursion}
use Rattle.std.proofs.lemmas.Int.{ints}
use Rattle.std.proofs.lemmas.List.{get_or_append_left, length-append}
use Rattle.std.proofs.Math.Seq.{get_or-append_seam}
use Rattle.std.proofs.lemmas.List.FromFn.{get_or-map-range_with_len, length-map-range_with_len}
use Rattle.scaled_num.specs.Share.{at}
use Rattle.scaled_num.specs.Sums.{sum_of}
use Rattle.scaled_num.proofs.Sums.{each-at}
use Rattle.game_model.proofs.Pay.{each-from}
use Rattle.game_model.specs.Branches.{Branch, IsBranch}
use Rattle.game_model.specs.Game.{GameData, IsBelief, IsGame, IsWithin, numbers, span}
use Rattle.game_model.proofs.Games.{keeps-span}
use Rattle.belief.specs.Beliefs.{corner_of}
use Rattle.belief.specs.Mixes.{pure_mixes}
use Rattle.belief.proofs.Parts.{corner-parts}
use Rattle.point_set.specs.Members.{most_points}
use Rattle.point_set.proofs.Fitting.{fits-more}
use Rattle.point_set.specs.Points.{Point, PointData, PointFits, PointStands, most_share, no_point, point_of, points_of}
use Rattle.point_set.proofs.Masses.{belief-total, mix-total}
use Rattle.backup.specs.Rounds.{AreSettled}
use Rattle.backup.specs.Seeds.{IsEvaluation, IsRootPoint, corner_points, corner_split}
use Rattle.backup.specs.Shares.{AreCorners, AreSeeds, IsSplitAmong}
use Rattle.backup.proofs.Sure.{total-more, total-one}
use Rattle.backup.proofs.FallingCorners.{KeepsCorners, corner-holds, values-within}
use Rattle.backup.proofs.Placed.{placed-at, placed-long, placed-sum, pure-right, pure-weight}
use Rattle.backup.proofs.CornerSplits.{BeginWithCorners, corner-splits}
use Rattle.backup.proofs.CornerValues.{IsSureOf, corner-value, corner-worth}
use Rattle.backup.proofs.CornerFits.{split-fits}
use Rattle.backup.proofs.Roots.{AreFull, evaluation-within}
use Rattle.scaled_num.proofs.Each.{each-by-place}
use Rattle.game_model.proofs.Least.{last-or}

pub keeps-corners : (g : GameData) → IsGame g → KeepsCorners (numbers g) (span g)
keeps-corners g h = record { keeps = keeps-span g h; own = h.shape.own_actions.0 }

abbrev pub corner_point : GameData → List ℤ → List ℕ → ℕ → PointData
corner_point g values replies s = corner_split g (corner_of g.shape.states s) (at values s) (pure_mixes g replies)

abbrev pub corners_of : GameData → List ℤ → List ℕ → List PointData
corners_of g values replies = corner_points g values (pure_mixes g replies)

pub corners-count : (g : GameData) (values : List ℤ) (replies : List ℕ) → length (corners_of g values replies) ≡ g.shape.states
corners-count g values replies = length-map-range_with_len (corner_point g values replies) 0 g.shape.states

pub corner-at : (g : GameData) (values : List ℤ) (replies : List ℕ) (s : ℕ) → s < g.shape.states → get_or (corners_of g values replies) s no_point ≡ corner_point g values replies s
corner-at g values replies s l = get_or-map-range_with_len (corner_point g values replies) 0 g.shape.states s s no_point l (omega arith)

-- ---- which points come first
pub begin-with : (g : GameData) (values : List ℤ) (replies : List ℕ) (points : ℕ → Point) → ((t : ℕ) → t < g.shape.states → points t ≡ point_of (corner_point g values replies t)) →
    BeginWithCorners g (at values) points
begin-with g values replies points h = record {
  belief = λ t u lt lu. ap (λ (p : Point). p.belief u) (h t lt) ∙ ap unsigned_abs (placed-at g.shape.states t 1 u lt lu);
  value = λ t lt. ap (λ (p : Point). p.value) (h t lt);
}

pub corners-begin : (g : GameData) (values : List ℤ) (replies : List ℕ) → BeginWithCorners g (at values) (points_of (corners_of g values replies))
corners-begin g values replies = begin-with g values replies (points_of (corners_of g values replies)) (λ t lt. ap point_of (corner-at g values replies t lt))

pub more-begin : (g : GameData) (values : List ℤ) (replies : List ℕ) (rest : List PointData) → BeginWithCorners g (at values) (points_of (corners_of g values replies ++ rest))
more-begin g values replies rest =
    begin-with g values replies (points_of (corners_of g values replies ++ rest)) (λ t lt. ap point_of
    (get_or_append_left (corners_of g values replies) rest no_point t (subst (λ (n : ℕ). t < n) (sym (corners-count g values replies)) lt) ∙ corner-at g values replies t lt))

-- ---- a corner point
corner-belief : (g : GameData) → IsGame g → (s : ℕ) → s < g.shape.states → IsBelief g.shape.states (corner_of g.shape.states s)
corner-belief g h s l = subst (λ (n : ℕ). IsBelief n (corner_of g.shape.states s)) (placed-long g.shape.states s 1) (corner-parts g.shape.states s l h.shape.states.1).belief

pub corner-fits : (g : GameData) (values : List ℤ) (replies : List ℕ) → AreSettled g values replies → (points s : ℕ) → g.shape.states ≤ points → s < g.shape.states →
    PointFits g points (corner_point g values replies s)
corner-fits g values replies h points s few l =
    split-fits g h.accepted points (corner_of g.shape.states s) (at values s) (pure_mixes g replies) few
    (corner-belief g h.accepted s l)
    (corner-parts g.shape.states s l h.accepted.shape.states.1).coprime
    (once (span g) (sum_of (corner_of g.shape.states s)) (at values s) (placed-sum g.shape.states s 1 l)
    (values-within (numbers g) (span g) (keeps-corners g h.accepted) (at values) (λ t. get_or replies t 0) h.corners s l))
    (pure-right g replies h.count h.informed) refl refl
  where
    once : (v : ℕ) (b x : ℤ) → b ≡ pos 1 → ((neg_ℤ (pos v)) ≤ℤ x) × (x ≤ℤ (pos v)) → IsWithin (neg_ℤ (pos v *ℤ b)) (pos v *ℤ b) x
    once v b x e h =
        let same : pos v *ℤ b ≡ pos v = ap (λ (z : ℤ). pos v *ℤ z) e ∙ ap pos (omega arith) in
        (subst (λ (z : ℤ). (neg_ℤ z) ≤ℤ x) (sym same) h.0, subst (λ (z : ℤ). x ≤ℤ z) (sym same) h.1)

reply-in : (g : GameData) (values : List ℤ) (replies : List ℕ) → AreSettled g values replies → (s : ℕ) → s < g.shape.states → get_or replies s 0 < g.shape.informed_actions
reply-in g values replies h s l = each-at (λ c. c < g.shape.informed_actions) 0 replies s h.informed (subst (λ (n : ℕ). s < n) (sym h.count) l)

corner-sure : (g : GameData) (values : List ℤ) (replies : List ℕ) → AreSettled g values replies → (s : ℕ) → s < g.shape.states →
    IsSureOf (numbers g) (point_of (corner_point g values replies s)) s (get_or replies s 0)
corner-sure g values replies h s l = record {
  belief = λ t lt. ap unsigned_abs (placed-at g.shape.states s 1 t l lt);
  mixes = λ d ld. pure-weight g replies h.informed s d (subst (λ (n : ℕ). s < n) (sym h.count) l) ld;
}

pub corner-stands : (g : GameData) (values : List ℤ) (replies : List ℕ) → AreSettled g values replies → (points : ℕ → Point) → BeginWithCorners g (at values) points →
    (s : ℕ) → s < g.shape.states → PointStands (numbers g) points (point_of (corner_point g values replies s))
corner-stands g values replies h points begin s l = record {
  split = λ a o t la lo lt. corner-splits g (at values) points begin (corner_of g.shape.states s) (at values s) (pure_mixes g replies) a o t la lo lt;
  value = λ a la. corner-value g (at values) points begin (corner_of g.shape.states s) (pure_mixes g replies) s (get_or replies s 0) a l
      (reply-in g values replies h s l) la (corner-sure g values replies h s l)
      (corner-holds (numbers g) (span g) (keeps-corners g h.accepted) (at values) (λ t. get_or replies t 0) h.corners s a l la);
}

-- ---- the root point
abbrev pub root_point : GameData → ℤ → List ℕ → PointData
root_point g value replies = corner_split g g.first value (pure_mixes g replies)

root-full : (g : GameData) (values : List ℤ) (replies : List ℕ) → AreSettled g values replies → (value : ℤ) → AreFull (numbers g) (point_of (root_point g value replies))
root-full g values replies h value s l = mix-total (pure_mixes g replies) (pure-right g replies h.count h.informed) s l

pub root-fits : (g : GameData) (values : List ℤ) (replies : List ℕ) → AreSettled g values replies → (points : ℕ) (value : ℤ) → g.shape.states ≤ points →
    IsWithin (neg_ℤ (pos (span g) *ℤ sum_of g.first)) (pos (span g) *ℤ sum_of g.first) value → PointFits g points (root_point g value replies)
root-fits g values replies h points value few within =
    split-fits g h.accepted points g.first value (pure_mixes g replies) few h.accepted.first h.accepted.coprime within
    (pure-right g replies h.count h.informed) refl refl

pub root-within : (g : GameData) (values : List ℤ) (replies : List ℕ) → AreSettled g values replies → (value x : ℤ) →
    IsEvaluation (numbers g) (points_of (corners_of g values replies)) (point_of (root_point g value replies)) x →
    IsWithin (neg_ℤ (pos (span g) *ℤ sum_of g.first)) (pos (span g) *ℤ sum_of g.first) x
root-within g values replies h value x is =
    let both = evaluation-within (numbers g) (span g) (keeps-corners g h.accepted) (at values)
    (values-within (numbers g) (span g) (keeps-corners g h.accepted) (at values) (λ t. get_or replies t 0) h.corners)
    (points_of (corners_of g values replies)) (point_of (root_point g value replies)) (root-full g values replies h value)
    (λ a la. corner-worth g (at values) (points_of (corners_of g values replies)) (corners-begin g values replies) g.first value (pure_mixes g replies) a la) x is in
    subst (λ (z : ℤ). IsWithin (neg_ℤ (pos (span g) *ℤ z)) (pos (span g) *ℤ z) x) (sym (belief-total g.shape.states g.first h.accepted.first)) both

pub root-stands : (g : GameData) (values : List ℤ) (replies : List ℕ) → AreSettled g values replies → (points : ℕ → Point) → BeginWithCorners g (at values) points → (value : ℤ) →
    IsEvaluation (numbers g) (points_of (corners_of g values replies)) (point_of (root_point g value replies)) value → PointStands (numbers g) points (point_of (root_point g value replies))
root-stands g values replies h points begin value is = record {
  split = λ a o t la lo lt. corner-splits g (at values) points begin g.first value (pure_mixes g replies) a o t la lo lt;
  value = λ a la.
      ends _ _ _ _
      (corner-worth g (at values) points begin g.first value (pure_mixes g replies) a la)
      (corner-worth g (at values) (points_of (corners_of g values replies)) (corners-begin g values replies) g.first value (pure_mixes g replies) a la)
      (is.each a la);
}
  where
    ends : (x y z w : ℤ) → x ≡ y → z ≡ y → z ≤ℤ w → x ≤ℤ w
    ends x y z w e f h = omega (arith, ints)

-- ---- the whole lists
pub record AllStand (g : GameData) (points : List PointData) : Type 0 where
  pub fit : AllByRecursion (PointFits g (length points)) points
  pub stand : (j : ℕ) → j < length points → PointStands (numbers g) (points_of points) (points_of points j)

pub corners-stand : (g : GameData) (values : List ℤ) (replies : List ℕ) → AreSettled g values replies → AllStand g (corners_of g values replies)
corners-stand g values replies h =
    let xs = corners_of g values replies in
    let count : length xs ≡ g.shape.states = corners-count g values replies in
    record {
      fit = each-by-place (PointFits g (length xs)) no_point xs (λ s l.
          let inside : s < g.shape.states = subst (λ (n : ℕ). s < n) count l in
          subst (PointFits g (length xs)) (sym (corner-at g values replies s inside)) (corner-fits g values replies h (length xs) s (omega arith) inside));
      stand = λ s l.
          let inside : s < g.shape.states = subst (λ (n : ℕ). s < n) count l in
          subst (λ (p : PointData). PointStands (numbers g) (points_of xs) (point_of p)) (sym (corner-at g values replies s inside))
          (corner-stands g values replies h (points_of xs) (corners-begin g values replies) s inside);
    }

pub with-root-stand : (g : GameData) (values : List ℤ) (replies : List ℕ) → AreSettled g values replies → (value : ℤ) →
    IsEvaluation (numbers g) (points_of (corners_of g values replies)) (point_of (root_point g value replies)) value →
    AllStand g (corners_of g values replies ++ root_point g value replies ∷ [])
with-root-stand g values replies h value is =
    let xs = corners_of g values replies in
    let root = root_point g value replies in
    let all : List PointData = xs ++ root ∷ [] in
    let count : length xs ≡ g.shape.states = corners-count g values replies in
    let more : length all ≡ length xs + 1 = length-append xs (root ∷ []) in
    let first = λ (s : ℕ) (l : s < length xs). get_or_append_left xs (root ∷ []) no_point s l ∙ corner-at g values replies s (subst (λ (n : ℕ). s < n) count l) in
    let last : get_or all (length xs) no_point ≡ root = get_or-append_seam xs root [] no_point in
    record {
      fit = each-by-place (PointFits g (length all)) no_point all (λ s l.
          elim (last-or s (length xs) (subst (λ (n : ℕ). s < n) more l)) [
            | inl k ↦ subst (PointFits g (length all)) (sym (first s k)) (corner-fits g values replies h (length all) s (omega arith) (subst (λ (n : ℕ). s < n) count k))
            | inr e ↦ subst (λ (i : ℕ). PointFits g (length all) (get_or all i no_point)) (sym e) (subst (PointFits g (length all)) (sym last)
                (root-fits g values replies h (length all) value (omega arith) (root-within g values replies h value value is)))
          ]);
      stand = λ s l.
          elim (last-or s (length xs) (subst (λ (n : ℕ). s < n) more l)) [
            | inl k ↦ subst (λ (p : PointData). PointStands (numbers g) (points_of all) (point_of p)) (sym (first s k))
                (corner-stands g values replies h (points_of all) (more-begin g values replies (root ∷ [])) s (subst (λ (n : ℕ). s < n) count k))
            | inr e ↦ subst (λ (i : ℕ). PointStands (numbers g) (points_of all) (points_of all i)) (sym e)
                (subst (λ (p : PointData). PointStands (numbers g) (points_of all) (point_of p)) (sym last)
                (root-stands g values replies h (points_of all) (more-begin g values replies (root ∷ [])) value is))
          ];
    }

-- ---- with the root or without
with-root-at : (g : GameData) (values : List ℤ) (replies : List ℕ) → AreSettled g values replies → (root : PointData) → IsRootPoint g (corners_of g values replies) (pure_mixes g replies) root →
    pos 1 <ℤ sum_of g.first → AreSeeds g (corners_of g values replies ++ root ∷ [])
with-root-at g values replies h root is more =
    let xs = corners_of g values replies in
    let worth = subst (λ (p : PointData). IsEvaluation (numbers g) (points_of xs) (point_of p) is.value) is.same is.worth in
    let all = subst (λ (p : PointData). AllStand g (xs ++ p ∷ [])) (sym is.same) (with-root-stand g values replies h is.value worth) in
    record {
      seeds = record {
        values = values;
        replies = replies;
        long = h.long;
        count = h.count;
        corners = h.corners;
        sure = λ sure. absurd (total-more g.first more sure);
        unsure = λ no. (root, is, refl);
      };
      fit = all.fit;
      stand = all.stand;
    }

pub with-root : (g : GameData) (replies : List ℕ) (old new : List PointData) (root : PointData) → AreCorners g replies old → IsRootPoint g old (pure_mixes g replies) root → new ≡ old ++ root ∷ [] →
    pos 1 <ℤ sum_of g.first → AreSeeds g new
with-root g replies old new root corners is grown more =
    subst (AreSeeds g) (sym (grown ∙ ap (λ (xs : List PointData). xs ++ root ∷ []) corners.same))
    (with-root-at g corners.values replies corners.settled root (subst (λ (xs : List PointData). IsRootPoint g xs (pure_mixes g replies) root) corners.same is) more)

no-root-at : (g : GameData) (values : List ℤ) (replies : List ℕ) → AreSettled g values replies → sum_of g.first ≤ℤ pos 1 → AreSeeds g (corners_of g values replies)
no-root-at g values replies h few =
    let all = corners-stand g values replies h in
    let first = h.accepted.first in
    record {
      seeds = record {
        values = values;
        replies = replies;
        long = h.long;
        count = h.count;
        corners = h.corners;
        sure = λ sure. refl;
        unsure = λ no. absurd (no (total-one g.first (each-from (IsWithin (pos 0) (pos (2 ^ 20))) (λ x. pos 0 ≤ℤ x) g.first (λ x i. i.0) first.each) (one (sum_of g.first) first.sums.0 few)));
      };
      fit = all.fit;
      stand = all.stand;
    }
  where
    one : (x : ℤ) → pos 1 ≤ℤ x → x ≤ℤ pos 1 → x ≡ pos 1
    one x h k = omega (arith, ints)

pub no-root : (g : GameData) (replies : List ℕ) (points : List PointData) → AreCorners g replies points → sum_of g.first ≤ℤ pos 1 → AreSeeds g points
no-root g replies points corners few = subst (AreSeeds g) (sym corners.same) (no-root-at g corners.values replies corners.settled few)

-- ---- the root point on its way
-- before its value is known, it is split among the corner points
none-within : (v b : ℕ) (s : ℤ) → s ≡ pos b → IsWithin (neg_ℤ (pos v *ℤ s)) (pos v *ℤ s) (pos 0)
none-within v b s e = subst (λ (z : ℤ). IsWithin (neg_ℤ (pos v *ℤ z)) (pos v *ℤ z) (pos 0)) (sym e) (below (v * b), omega (arith, ints))
  where
    below : (n : ℕ) → neg_ℤ (pos n) ≤ℤ pos 0
    below n = omega (arith, ints)

among-at : (g : GameData) (values : List ℤ) (replies : List ℕ) → AreSettled g values replies → IsSplitAmong g (corners_of g values replies) (root_point g (pos 0) replies)
among-at g values replies h =
    let xs = corners_of g values replies in
    let states = h.accepted.shape.states.1 in
    let count = corners-count g values replies in
    let few : length xs ≤ most_points = omega (arith, count) in
    let fits = root-fits g values replies h (length xs) (pos 0) (omega (arith, count)) (none-within (span g) _ (sum_of g.first) (belief-total g.shape.states g.first h.accepted.first)) in
    record {
      each = each-from (PointFits g (length xs)) (PointFits g most_points) xs (λ p k. fits-more g (length xs) most_points p few k) (corners-stand g values replies h).fit;
      fits = fits-more g (length xs) most_points (root_point g (pos 0) replies) few fits;
      named = each-from (IsBranch (numbers g) (length xs) most_share) (λ (share : Branch). share.member < length xs) (root_point g (pos 0) replies).splits (λ b i. i.member) fits.splits.each;
      splits = λ a o t la lo lt. corner-splits g (at values) (points_of xs) (corners-begin g values replies) g.first (pos 0) (pure_mixes g replies) a o t la lo lt;
    }

pub root-among : (g : GameData) (replies : List ℕ) (points : List PointData) (point : PointData) → AreCorners g replies points → point ≡ root_point g (pos 0) replies → IsSplitAmong g points point
root-among g replies points point corners is =
    subst (λ (xs : List PointData). IsSplitAmong g xs point) (sym corners.same)
    (subst (IsSplitAmong g (corners_of g corners.values replies)) (sym is) (among-at g corners.values replies corners.settled))

-- with its value it is the root point
abbrev valued : PointData → ℤ → PointData
valued point x = record { belief = point.belief; value = x; mixes = point.mixes; splits = point.splits }

pub root-is : (g : GameData) (replies : List ℕ) (points : List PointData) (point : PointData) (x : ℤ) → point ≡ root_point g (pos 0) replies →
    IsEvaluation (numbers g) (points_of points) (point_of point) x → IsRootPoint g points (pure_mixes g replies) (valued point x)
root-is g replies points point x is worth = record {
  value = x;
  same = ap (λ (p : PointData). valued p x) is;
  worth = record { each = worth.each; some = worth.some };
}

pub few-corners : (g : GameData) (replies : List ℕ) (points : List PointData) → AreCorners g replies points → length points < most_points
few-corners g replies points corners =
    let states = corners.settled.accepted.shape.states.1 in
    let count = corners-count g corners.values replies in
    omega (arith, ap length corners.same, count)
