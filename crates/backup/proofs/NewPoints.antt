-- The point of an upper advice is a new point, fits the game and stands.
use Rattle.std.proofs.Common.{◌≡◌, ℕ, ◌*◌, ◌^◌, ◌<◌, ◌≤◌, ◌++◌, List, [], length, refl, ap, arith, sym, subst, ◌∙◌}
use Rattle.std.specs.Prelude.{ℤ, pos, neg_ℤ, ◌*ℤ◌, ◌≤ℤ◌, ◌==◌, ◌&&◌, sum_by}
use Rattle.std.specs.List.{AllByRecursion}
use Rattle.std.proofs.lemmas.Int.{ints}
use Rattle.scaled_num.specs.Share.{at}
use Rattle.scaled_num.specs.Sums.{below, sum_of}
use Rattle.scaled_num.proofs.Floors.{All-from_recursion, at_le_sum}
use Rattle.scaled_num.proofs.Sums.{each-at, each-map}
use Rattle.game_model.specs.Branches.{Branch, Continuation, IsBranch, continuation_of}
use Rattle.game_model.specs.Game.{AreCoprime, GameData, IsBelief, IsGame, IsWithin, numbers, span}
use Rattle.game_model.proofs.Games.{keeps-span}
use Rattle.game_model.proofs.Pay.{each-from}
use Rattle.belief.proofs.Landings.{each-filter}
use Rattle.belief.specs.Beliefs.{mix_weight, weight_at}
use Rattle.belief.specs.After.{mass_after}
use Rattle.belief.specs.Mixes.{AreMixes, MixesData}
use Rattle.point_set.specs.Corners.{point_at}
use Rattle.point_set.specs.Faults.{SplitsHold}
use Rattle.point_set.specs.Members.{most_points}
use Rattle.point_set.specs.Points.{PointData, PointFits, PointStands, most_share, no_point, point_of, points_of}
use Rattle.point_set.specs.Sawtooth.{AreMeasured}
use Rattle.point_set.specs.Split.{IsSplit, MakesUp}
use Rattle.point_set.proofs.Fitting.{fits-more}
use Rattle.point_set.proofs.Masses.{belief-total, mix-total}
use Rattle.point_set.proofs.Worth.{value-abs}
use Rattle.stage_game.specs.AdviceData.{UpperAdviceData}
use Rattle.stage_game.specs.Asked.{BeliefFits, PointsServe}
use Rattle.stage_game.specs.Fits.{UpperFits, wanted_at}
use Rattle.stage_game.proofs.RightMasses.{mass-right}
use Rattle.backup.specs.Evaluation.{IsNewPoint}
use Rattle.backup.specs.NewPoints.{AreItemsOf, AreShares, IsSplitBy}
use Rattle.backup.specs.Seeds.{IsEvaluation}
use Rattle.backup.specs.Shares.{IsSplitAmong}
use Rattle.backup.proofs.FallingCorners.{KeepsCorners}
use Rattle.backup.proofs.PointShares.{each-both, items-are, items_of, shares-each, shares-over, shares-rise, splits-hold}
use Rattle.backup.proofs.Roots.{AreFull, evaluation-between}
use Rattle.backup.proofs.SplitWorths.{IsLight, worth-between}
use Rattle.backup.proofs.Standing.{stands-on}

-- ---- the split of a mass
-- masses can be split
pub measured : (g : GameData) → IsGame g → (belief : List ℤ) (points : List PointData) (advice : UpperAdviceData) → BeliefFits g belief → PointsServe g points → UpperFits g points advice →
    (a o : ℕ) → a < g.shape.own_actions → o < g.shape.observations → AreMeasured points (mass_after g belief advice.informed a o)
measured g h belief points advice right serve fits a o la lo = record {
  game = g;
  accepted = h;
  fit = serve.fit;
  corners = serve.corners;
  right = mass-right g h belief right.right advice.informed fits.informed a o la lo;
}

pub mass-small : (points : List PointData) (mass : List ℤ) → AreMeasured points mass → sum_of mass ≤ℤ most_share
mass-small points mass m =
    let row = m.accepted.shape.row_total in
    small (sum_of mass) m.game.shape.row_total m.right.most row.0 row.1
  where
    small : (x d : ℤ) → x ≤ℤ (pos (2 ^ 36) *ℤ d) → pos 1 ≤ℤ d → d ≤ℤ pos (2 ^ 30) → x ≤ℤ pos (2 ^ 66)
    small x d h l m = omega (arith, ints)

-- where a mass is zero there is nothing in any state
none-there : (mass : List ℤ) (s : ℕ) → AllByRecursion (λ x. pos 0 ≤ℤ x) mass → sum_of mass ≡ pos 0 → s < length mass → pos 0 ≡ at mass s
none-there mass s h e l = between (at mass s) (sum_of mass) (each-at (λ x. pos 0 ≤ℤ x) (pos 0) mass s h l) (at_le_sum mass s (All-from_recursion (λ x. pos 0 ≤ℤ x) mass h) l) e
  where
    between : (x y : ℤ) → pos 0 ≤ℤ x → x ≤ℤ y → y ≡ pos 0 → pos 0 ≡ x
    between x y h k e = omega (arith, ints)

pub no-items : (points : List PointData) (wanted : List (ℕ × ℤ)) (mass : List ℤ) → AreMeasured points mass → sum_of mass ≡ pos 0 → AreItemsOf points wanted mass []
no-items points wanted mass m e = record {
  none = λ f. refl;
  some = λ l. absurd (omega (arith, ints));
  made = λ s l. none-there mass s m.right.each e l;
  rising = tt;
  inside = tt;
  weights = tt;
}

pub items-of : (points : List PointData) (wanted : List (ℕ × ℤ)) (mass : List ℤ) (items : List (ℕ × ℤ)) → AreMeasured points mass → (sum_of mass ≡ pos 0 → ⊥) → IsSplit points wanted mass items → MakesUp points items mass →
    AllByRecursion (λ item. item.0 < length points) items → AllByRecursion (λ item. item.1 ≤ℤ sum_of mass) items → AreItemsOf points wanted mass items
items-of points wanted mass items m ne split made inside most = record {
  none = λ e. absurd (ne e);
  some = λ l. split;
  made = made;
  rising = split.rising;
  inside = inside;
  weights = each-both (λ (item : ℕ × ℤ). pos 1 ≤ℤ item.1) (λ (item : ℕ × ℤ). item.1 ≤ℤ sum_of mass) (λ (item : ℕ × ℤ). IsWithin (pos 1) most_share item.1) items
      (λ item l u. (l, through item.1 (sum_of mass) most_share u (mass-small points mass m))) split.positive most;
}
  where
    through : (x y z : ℤ) → x ≤ℤ y → y ≤ℤ z → x ≤ℤ z
    through x y z h k = omega (arith, ints)

-- ---- the point
shares-here : (g : GameData) (belief : List ℤ) (advice : UpperAdviceData) (points : List PointData) (value : ℤ) (point : PointData) → IsSplitBy g belief advice points value point →
    AreShares g point.belief point.mixes advice.wanted points point.splits
shares-here g belief advice points value point is =
    subst (λ (xs : List ℤ). AreShares g xs point.mixes advice.wanted points point.splits) (sym is.belief_is)
    (subst (λ (m : MixesData). AreShares g belief m advice.wanted points point.splits) (sym is.mixes_are) is.shares)

pub new-splits : (g : GameData) (belief : List ℤ) (advice : UpperAdviceData) (points : List PointData) (value : ℤ) (point : PointData) → PointsServe g points → IsSplitBy g belief advice points value point →
    SplitsHold (numbers g) (points_of points) (point_of point)
new-splits g belief advice points value point serve is = splits-hold g advice.wanted points point serve.fit (shares-here g belief advice points value point is)

pub new-fits : (g : GameData) (belief : List ℤ) (advice : UpperAdviceData) (points : List PointData) (value : ℤ) (point : PointData) → BeliefFits g belief → UpperFits g points advice → IsSplitBy g belief advice points value point →
    IsWithin (neg_ℤ (pos (span g) *ℤ sum_of belief)) (pos (span g) *ℤ sum_of belief) value → PointFits g (length points) point
new-fits g belief advice points value point right fits is within = record {
  belief = subst (IsBelief g.shape.states) (sym is.belief_is) right.right;
  coprime = subst AreCoprime (sym is.belief_is) right.coprime;
  value = subst (λ (xs : List ℤ). IsWithin (neg_ℤ (pos (span g) *ℤ sum_of xs)) (pos (span g) *ℤ sum_of xs) point.value) (sym is.belief_is)
      (subst (IsWithin (neg_ℤ (pos (span g) *ℤ sum_of belief)) (pos (span g) *ℤ sum_of belief)) (sym is.value_is) within);
  states = ap (λ (m : MixesData). m.states) is.mixes_are ∙ fits.informed.states;
  actions = ap (λ (m : MixesData). m.actions) is.mixes_are ∙ fits.informed.actions;
  mixes = subst AreMixes (sym is.mixes_are) fits.informed.right;
  splits = record {
    rising = shares-rise g belief advice.informed advice.wanted points point.splits is.shares;
    each = shares-each g belief advice.informed advice.wanted points point.splits is.shares;
  };
}

-- 0 is within the span, times a belief's total
none-within : (v b : ℕ) (s : ℤ) → s ≡ pos b → IsWithin (neg_ℤ (pos v *ℤ s)) (pos v *ℤ s) (pos 0)
none-within v b s e = subst (λ (z : ℤ). IsWithin (neg_ℤ (pos v *ℤ z)) (pos v *ℤ z) (pos 0)) (sym e) (low (v * b), omega (arith, ints))
  where
    low : (n : ℕ) → neg_ℤ (pos n) ≤ℤ pos 0
    low n = omega (arith, ints)

-- before its value is known
pub new-among : (g : GameData) (belief : List ℤ) (advice : UpperAdviceData) (points : List PointData) (point : PointData) → BeliefFits g belief → PointsServe g points → UpperFits g points advice → length points ≤ most_points →
    IsSplitBy g belief advice points (pos 0) point → IsSplitAmong g points point
new-among g belief advice points point right serve fits few is = record {
  each = serve.fit;
  fits = fits-more g (length points) most_points point few
      (new-fits g belief advice points (pos 0) point right fits is (none-within (span g) _ (sum_of belief) (belief-total g.shape.states belief right.right)));
  named = each-from (IsBranch (numbers g) (length points) most_share) (λ (share : Branch). share.member < length points) point.splits (λ b i. i.member)
      (shares-each g belief advice.informed advice.wanted points point.splits is.shares);
  splits = new-splits g belief advice points (pos 0) point serve is;
}

-- with its value
abbrev valued : PointData → ℤ → PointData
valued point x = record { belief = point.belief; value = x; mixes = point.mixes; splits = point.splits }

split-valued : (g : GameData) (belief : List ℤ) (advice : UpperAdviceData) (points : List PointData) (value x : ℤ) (point : PointData) → IsSplitBy g belief advice points value point →
    IsSplitBy g belief advice points x (valued point x)
split-valued g belief advice points value x point is = record { belief_is = is.belief_is; value_is = refl; mixes_are = is.mixes_are; shares = is.shares }

pub new-is : (g : GameData) (belief : List ℤ) (advice : UpperAdviceData) (points : List PointData) (point : PointData) (x : ℤ) → IsSplitBy g belief advice points (pos 0) point →
    IsEvaluation (numbers g) (points_of points) (point_of point) x → IsNewPoint g belief points advice (valued point x)
new-is g belief advice points point x is worth =
    let shares = is.shares in
    record {
      belief_is = is.belief_is;
      mixes_are = is.mixes_are;
      items = λ a o. items_of (shares.after a o);
      split = record {
        none = λ a o la lo e. let s = shares.right a o la lo in items-are g belief advice.informed advice.wanted points a o (shares.after a o) s ∙ s.right.none e;
        some = λ a o la lo l. let s = shares.right a o la lo in
            subst (IsSplit points (wanted_at advice.wanted a o) (mass_after g belief advice.informed a o)) (sym (items-are g belief advice.informed advice.wanted points a o (shares.after a o) s)) (s.right.some l);
      };
      splits_are = shares-over g belief advice.informed advice.wanted points point.splits shares;
      value = record { each = worth.each; some = worth.some };
    }

-- a point that fits is worth no more than the span, times the total of its belief
point-light : (g : GameData) (points : List PointData) → AllByRecursion (PointFits g most_points) points → (share : Continuation) → share.member < length points → IsLight (points_of points) (span g) g.shape.states share
point-light g points fit share l =
    let p : PointData = point_at points share.member in
    let h = each-at (PointFits g most_points) no_point points share.member fit l in
    value-abs (span g) (sum_by (weight_at p.belief) (below g.shape.states)) (sum_of p.belief) p.value (belief-total g.shape.states p.belief h.belief) h.value

pub new-within : (g : GameData) → IsGame g → (belief : List ℤ) (advice : UpperAdviceData) (points : List PointData) (value x : ℤ) (point : PointData) → BeliefFits g belief → PointsServe g points → UpperFits g points advice →
    IsSplitBy g belief advice points value point → IsEvaluation (numbers g) (points_of points) (point_of point) x → IsWithin (neg_ℤ (pos (span g) *ℤ sum_of belief)) (pos (span g) *ℤ sum_of belief) x
new-within g h belief advice points value x point right serve fits is worth =
    let n = numbers g in
    let own : KeepsCorners n (span g) = record { keeps = keeps-span g h; own = h.shape.own_actions.0 } in
    let full : AreFull n (point_of point) = λ s ls.
    ap (λ (m : MixesData). sum_by (mix_weight m s) (below g.shape.informed_actions)) is.mixes_are
    ∙ ap (λ (k : ℕ). sum_by (mix_weight advice.informed s) (below k)) (sym fits.informed.actions)
    ∙ mix-total advice.informed fits.informed.right s (subst (λ (k : ℕ). s < k) (sym fits.informed.states) ls) in
    let named : AllByRecursion (λ (share : Continuation). share.member < length points) (point_of point).splits =
    each-map (λ (share : Continuation). share.member < length points) continuation_of point.splits
    (each-from (IsBranch n (length points) most_share) (λ (b : Branch). b.member < length points) point.splits (λ b i. i.member) (shares-each g belief advice.informed advice.wanted points point.splits is.shares)) in
    let light = λ (a o : ℕ) (la : a < g.shape.own_actions) (lo : o < g.shape.observations).
    each-filter (IsLight (points_of points) (span g) g.shape.states) (λ (share : Continuation). (share.own == a) && (share.seen == o)) (point_of point).splits
    (each-from (λ (share : Continuation). share.member < length points) (IsLight (points_of points) (span g) g.shape.states) (point_of point).splits (λ share l. point-light g points serve.fit share l) named) in
    let all = evaluation-between n (span g) own (points_of points) (point_of point)
    (worth-between n (span g) (keeps-span g h) (points_of points) (point_of point) full (new-splits g belief advice points value point serve is) light) x worth in
    let whole : pos (sum_by (weight_at point.belief) (below g.shape.states)) ≡ sum_of belief =
    ap (λ (xs : List ℤ). pos (sum_by (weight_at xs) (below g.shape.states))) is.belief_is ∙ sym (belief-total g.shape.states belief right.right) in
    subst (λ (z : ℤ). IsWithin (neg_ℤ (pos (span g) *ℤ z)) (pos (span g) *ℤ z) x) whole (all.0, all.1)

pub new-stands : (g : GameData) (belief : List ℤ) (advice : UpperAdviceData) (points : List PointData) (point : PointData) (x : ℤ) → PointsServe g points → IsSplitBy g belief advice points (pos 0) point →
    IsEvaluation (numbers g) (points_of points) (point_of point) x → PointStands (numbers g) (points_of points) (point_of (valued point x))
new-stands g belief advice points point x serve is worth = record {
  split = new-splits g belief advice points (pos 0) point serve is;
  value = worth.each;
}

-- all of it
pub record IsRight (g : GameData) (belief : List ℤ) (advice : UpperAdviceData) (points : List PointData) (point : PointData) : Type 0 where
  pub point_is : IsNewPoint g belief points advice point
  pub fits : PointFits g (length points) point
  pub stands : PointStands (numbers g) (points_of points) (point_of point)
  pub stays : (more : List PointData) → PointStands (numbers g) (points_of (points ++ more)) (point_of point)

pub new-right : (g : GameData) → IsGame g → (belief : List ℤ) (advice : UpperAdviceData) (points : List PointData) (point : PointData) (x : ℤ) → BeliefFits g belief → PointsServe g points → UpperFits g points advice →
    IsSplitBy g belief advice points (pos 0) point → IsEvaluation (numbers g) (points_of points) (point_of point) x → IsRight g belief advice points (valued point x)
new-right g h belief advice points point x right serve fits is worth =
    let within = new-within g h belief advice points (pos 0) x point right serve fits is worth in
    let stands = new-stands g belief advice points point x serve is worth in
    record {
      point_is = new-is g belief advice points point x is worth;
      fits = new-fits g belief advice points x (valued point x) right fits (split-valued g belief advice points (pos 0) x point is) within;
      stands = stands;
      stays = λ more. stands-on g points more (valued point x) (shares-each g belief advice.informed advice.wanted points point.splits is.shares) stands;
    }
