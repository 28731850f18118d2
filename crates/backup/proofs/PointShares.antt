-- The shares of a new point rise, each is in range, and they make up the masses.
use Rattle.std.proofs.Common.{◌≡◌, ℕ, ◌+◌, ◌*◌, ◌^◌, ◌<◌, ◌++◌, true, false, cond, ◌==◌, ◌&&◌, List, [], ◌∷◌, length, map, filter, refl, ap, arith, sym, subst, ◌∙◌, inr}
use Rattle.std.specs.Prelude.{ℤ, pos, Ok, Err, OnOk, ◌*ℤ◌, ◌≤ℤ◌, flat_map, sum_by, unsigned_abs}
use Rattle.std.specs.declared.result.Result.{Result}
use Rattle.std.specs.List.{AllByRecursion}
use Rattle.std.proofs.lemmas.Int.{ints}
use Rattle.std.proofs.lemmas.List.FromFn.{get_or-map-range_with_len, length-map-range_with_len}
use Rattle.scaled_num.specs.Share.{at}
use Rattle.scaled_num.specs.Sums.{below, total}
use Rattle.scaled_num.proofs.Products.{magnitude-is}
use Rattle.scaled_num.proofs.Sums.{each-at, each-map, total-map, total-pos, total-same}
use Rattle.game_model.specs.Branches.{AreRising, Branch, Continuation, IsBranch, IsBranchBefore, branch_of, branches_at, continuation_of}
use Rattle.game_model.specs.declared.branches.Branch.{Branch as ShareParts}
use Rattle.game_model.specs.Game.{GameData, IsWithin, numbers}
use Rattle.game_model.proofs.Pay.{each-from}
use Rattle.belief.specs.Beliefs.{mix_weight, weight_at}
use Rattle.belief.specs.After.{mass_after}
use Rattle.belief.specs.Mixes.{MixesData, mass_of}
use Rattle.point_set.specs.Corners.{point_at}
use Rattle.point_set.specs.Faults.{SplitsHold}
use Rattle.point_set.specs.Members.{IsAfter, most_points}
use Rattle.point_set.specs.Points.{PointData, PointFits, most_share, no_point, point_of, points_of, shares_at}
use Rattle.point_set.specs.Split.{AreRisingPairs}
use Rattle.point_set.proofs.Items.{later, rest-rises}
use Rattle.stage_game.specs.Fits.{wanted_at}
use Rattle.stage_game.specs.Masses.{over_pairs}
use Rattle.stage_game.proofs.Families.{Adds, adds-more, adds-none, flat_map-below}
use Rattle.stage_game.proofs.Placed.{AllBefore, ArePlaced, IsAt, branches-of-pair, over-pairs-each, over-pairs-rising}
use Rattle.backup.specs.Evaluation.{split_branches}
use Rattle.backup.specs.NewPoints.{AddsShares, AddsSharesAfter, AreItemsOf, AreShares, AreSharesAfter}

-- ---- the loops
abbrev pub AddsSeen : GameData → List ℤ → MixesData → List Branch → List PointData → ℕ → ℕ → List Branch → List Branch → Type 0
AddsSeen g belief mixes wanted points a count old new =
    Adds {X = List Branch} {Y = Branch} (λ o shares. AreSharesAfter g belief mixes wanted points a o shares) (λ shares. shares) count old new

abbrev pub AddsOwn : GameData → List ℤ → MixesData → List Branch → List PointData → ℕ → List Branch → List Branch → Type 0
AddsOwn g belief mixes wanted points count old new =
    Adds {X = ℕ → List Branch} {Y = Branch} (λ a after. (o : ℕ) → o < g.shape.observations → AreSharesAfter g belief mixes wanted points a o (after o))
    (λ after. flat_map after (below g.shape.observations)) count old new

pub seen-none : (g : GameData) (belief : List ℤ) (mixes : MixesData) (wanted : List Branch) (points : List PointData) (a : ℕ) (old : List Branch) → AddsSeen g belief mixes wanted points a 0 old old
seen-none g belief mixes wanted points a old =
    adds-none {X = List Branch} {Y = Branch} (λ o shares. AreSharesAfter g belief mixes wanted points a o shares) (λ shares. shares) old []

pub seen-more : (g : GameData) (belief : List ℤ) (mixes : MixesData) (wanted : List Branch) (points : List PointData) (a count : ℕ) (old middle new shares : List Branch) →
    AddsSeen g belief mixes wanted points a count old middle → AreSharesAfter g belief mixes wanted points a count shares → new ≡ middle ++ shares → AddsSeen g belief mixes wanted points a (count + 1) old new
seen-more g belief mixes wanted points a count old middle new shares adds right same =
    adds-more {X = List Branch} {Y = Branch} (λ o shares. AreSharesAfter g belief mixes wanted points a o shares) (λ shares. shares) count old middle new shares adds right same

pub seen-all : (g : GameData) (belief : List ℤ) (mixes : MixesData) (wanted : List Branch) (points : List PointData) (a : ℕ) (old new : List Branch) →
    AddsSeen g belief mixes wanted points a g.shape.observations old new → AddsShares g belief mixes wanted points a old new
seen-all g belief mixes wanted points a old new adds = record {
  after = adds.made.value;
  right = adds.made.right;
  same = adds.same ∙ ap (λ (bs : List Branch). old ++ bs) adds.made.same;
}

pub own-none : (g : GameData) (belief : List ℤ) (mixes : MixesData) (wanted : List Branch) (points : List PointData) (old : List Branch) → AddsOwn g belief mixes wanted points 0 old old
own-none g belief mixes wanted points old =
    adds-none {X = ℕ → List Branch} {Y = Branch} (λ a after. (o : ℕ) → o < g.shape.observations → AreSharesAfter g belief mixes wanted points a o (after o))
    (λ after. flat_map after (below g.shape.observations)) old (λ o. [])

pub own-more : (g : GameData) (belief : List ℤ) (mixes : MixesData) (wanted : List Branch) (points : List PointData) (count : ℕ) (old middle new : List Branch) →
    AddsOwn g belief mixes wanted points count old middle → AddsShares g belief mixes wanted points count middle new → AddsOwn g belief mixes wanted points (count + 1) old new
own-more g belief mixes wanted points count old middle new adds next =
    adds-more {X = ℕ → List Branch} {Y = Branch} (λ a after. (o : ℕ) → o < g.shape.observations → AreSharesAfter g belief mixes wanted points a o (after o))
    (λ after. flat_map after (below g.shape.observations)) count old middle new next.after adds next.right next.same

pub own-all : (g : GameData) (belief : List ℤ) (mixes : MixesData) (wanted : List Branch) (points : List PointData) (new : List Branch) →
    AddsOwn g belief mixes wanted points g.shape.own_actions [] new → AreShares g belief mixes wanted points new
own-all g belief mixes wanted points new adds = record {
  after = adds.made.value;
  right = λ a o la lo. adds.made.right a la o lo;
  same = adds.same ∙ adds.made.same;
}

-- ---- the shares of one own action and observation
abbrev share_at : ℕ → ℕ → ℕ × ℤ → Branch
share_at a o item = record { own = a; seen = o; member = item.0; weight = item.1 }

items-before : (a o : ℕ) (items : List (ℕ × ℤ)) → AreRisingPairs items → AllBefore (split_branches a o items)
items-before a o [] h = tt
items-before a o (x ∷ xs) h = (
  each-map (IsBranchBefore (share_at a o x)) (share_at a o) xs
      (each-from (λ (y : ℕ × ℤ). x.0 < y.0) (λ (y : ℕ × ℤ). IsBranchBefore (share_at a o x) (share_at a o y)) xs (λ y l. inr (refl, inr (refl, l))) (later x xs h)),
  items-before a o xs (rest-rises x xs h),
)

items-at : (a o : ℕ) (items : List (ℕ × ℤ)) → AllByRecursion (IsAt a o) (split_branches a o items)
items-at a o [] = tt
items-at a o (x ∷ xs) = ((refl, refl), items-at a o xs)

pub each-both : {X : Type 0} (P Q R : X → Type 0) (xs : List X) → ((x : X) → P x → Q x → R x) → AllByRecursion P xs → AllByRecursion Q xs → AllByRecursion R xs
each-both P Q R [] h p q = tt
each-both P Q R (x ∷ xs) h p q = (h x p.0 q.0, each-both P Q R xs h p.1 q.1)

-- the items of shares
abbrev pub items_of : List Branch → List (ℕ × ℤ)
items_of shares = map (λ (b : Branch). (b.member, b.weight)) shares

items-back : (a o : ℕ) (items : List (ℕ × ℤ)) → items_of (split_branches a o items) ≡ items
items-back a o [] = refl
items-back a o ((k, w) ∷ xs) = ap (λ (ys : List (ℕ × ℤ)). (k, w) ∷ ys) (items-back a o xs)

pub items-are : (g : GameData) (belief : List ℤ) (mixes : MixesData) (wanted : List Branch) (points : List PointData) (a o : ℕ) (shares : List Branch)
    (h : AreSharesAfter g belief mixes wanted points a o shares) → items_of shares ≡ h.items
items-are g belief mixes wanted points a o shares h = ap items_of h.same ∙ items-back a o h.items

-- ---- all shares
placed : (g : GameData) (belief : List ℤ) (mixes : MixesData) (wanted : List Branch) (points : List PointData) (shares : List Branch)
    (h : AreShares g belief mixes wanted points shares) → ArePlaced g h.after
placed g belief mixes wanted points shares h = record {
  before = λ a o la lo. let s = h.right a o la lo in subst AllBefore (sym s.same) (items-before a o s.items s.right.rising);
  places = λ a o la lo. let s = h.right a o la lo in subst (AllByRecursion (IsAt a o)) (sym s.same) (items-at a o s.items);
}

pub shares-rise : (g : GameData) (belief : List ℤ) (mixes : MixesData) (wanted : List Branch) (points : List PointData) (shares : List Branch) → AreShares g belief mixes wanted points shares → AreRising shares
shares-rise g belief mixes wanted points shares h = subst AreRising (sym h.same) (over-pairs-rising g h.after (placed g belief mixes wanted points shares h))

pub shares-each : (g : GameData) (belief : List ℤ) (mixes : MixesData) (wanted : List Branch) (points : List PointData) (shares : List Branch) → AreShares g belief mixes wanted points shares →
    AllByRecursion (IsBranch (numbers g) (length points) most_share) shares
shares-each g belief mixes wanted points shares h =
    let P : Branch → Type 0 = IsBranch (numbers g) (length points) most_share in
    subst (AllByRecursion P) (sym h.same)
    (over-pairs-each P g h.after (λ a o la lo. let s = h.right a o la lo in
    subst (AllByRecursion P) (sym s.same)
    (each-map P (share_at a o) s.items
    (each-both (λ (item : ℕ × ℤ). item.0 < length points) (λ (item : ℕ × ℤ). IsWithin (pos 1) most_share item.1) (λ (item : ℕ × ℤ). P (share_at a o item)) s.items
    (λ item l w. record { own = la; seen = lo; member = l; weight = w }) s.right.inside s.right.weights))))

-- as the definition of a new point has them
pub shares-over : (g : GameData) (belief : List ℤ) (mixes : MixesData) (wanted : List Branch) (points : List PointData) (shares : List Branch) (h : AreShares g belief mixes wanted points shares) →
    shares ≡ over_pairs g (λ a o. split_branches a o (items_of (h.after a o)))
shares-over g belief mixes wanted points shares h =
    h.same
    ∙ flat_map-below (λ a. flat_map (λ o. h.after a o) (below g.shape.observations)) (λ a. flat_map (λ o. split_branches a o (items_of (h.after a o))) (below g.shape.observations)) g.shape.own_actions (λ a la.
    flat_map-below (λ o. h.after a o) (λ o. split_branches a o (items_of (h.after a o))) g.shape.observations (λ o lo.
    let s = h.right a o la lo in
    s.same ∙ sym (ap (split_branches a o) (items-are g belief mixes wanted points a o (h.after a o) s))))

-- ---- the split rule
shares-of : (a o : ℕ) (bs : List Branch) → filter (λ (share : Continuation). (share.own == a) && (share.seen == o)) (map continuation_of bs) ≡ map continuation_of (branches_at bs a o)
shares-of a o [] = refl
shares-of a o (b ∷ bs) =
    elim ((b.own == a) && (b.seen == o)) as (λ x. cond x (continuation_of b ∷ filter (λ (share : Continuation). (share.own == a) && (share.seen == o)) (map continuation_of bs)) (filter (λ (share : Continuation). (share.own == a) && (share.seen == o)) (map continuation_of bs))
    ≡ map continuation_of (cond x (b ∷ branches_at bs a o) (branches_at bs a o))) [
      | true ↦ ap (λ (ys : List Continuation). continuation_of b ∷ ys) (shares-of a o bs)
      | false ↦ shares-of a o bs
    ]

-- the shares of a point after an own action and an observation
pub shares-there : (g : GameData) (belief : List ℤ) (mixes : MixesData) (wanted : List Branch) (points : List PointData) (point : PointData) (h : AreShares g belief mixes wanted points point.splits) (a o : ℕ)
    (la : a < g.shape.own_actions) (lo : o < g.shape.observations) → shares_at (point_of point) a o ≡ map continuation_of (map (share_at a o) (h.right a o la lo).items)
shares-there g belief mixes wanted points point h a o la lo =
    shares-of a o point.splits
    ∙ ap (map continuation_of) (ap (λ (bs : List Branch). branches_at bs a o) h.same
    ∙ branches-of-pair g h.after a o la lo (placed g belief mixes wanted points point.splits h).places
    ∙ (h.right a o la lo).same)

-- a weight of a belief is not negative
weight-low : (g : GameData) (points : List PointData) → AllByRecursion (PointFits g most_points) points → (k t : ℕ) → k < length points → t < g.shape.states → pos 0 ≤ℤ at (point_at points k).belief t
weight-low g points fit k t lk lt =
    let right = (each-at (PointFits g most_points) no_point points k fit lk).belief in
    (each-at (IsWithin (pos 0) (pos (2 ^ 20))) (pos 0) (point_at points k).belief t right.each (subst (λ (n : ℕ). t < n) (sym right.long) lt)).0

abs-product : (w b : ℤ) → pos 1 ≤ℤ w → pos 0 ≤ℤ b → pos (unsigned_abs w * unsigned_abs b) ≡ w *ℤ b
abs-product w b lw lb =
    sym (ap (λ (z : ℤ). z *ℤ b) (magnitude-is w (omega (arith, ints))) ∙ ap (λ (z : ℤ). pos (unsigned_abs w) *ℤ z) (magnitude-is b lb))

-- what the shares bring is what the items make up
brought : (g : GameData) (points : List PointData) → AllByRecursion (PointFits g most_points) points → (a o t : ℕ) → t < g.shape.states → (items : List (ℕ × ℤ)) →
    AllByRecursion (λ (item : ℕ × ℤ). item.0 < length points) items → AllByRecursion (λ (item : ℕ × ℤ). IsWithin (pos 1) most_share item.1) items →
    pos (sum_by (λ (share : Continuation). share.weight * (points_of points share.member).belief t) (map continuation_of (map (share_at a o) items))) ≡ total (λ (item : ℕ × ℤ). item.1 *ℤ at (point_at points item.0).belief t) items
brought g points fit a o t lt items inside weights =
    let F : Continuation → ℕ = λ (share : Continuation). share.weight * (points_of points share.member).belief t in
    sym (total-pos F (map continuation_of (map (share_at a o) items)))
    ∙ total-map (λ (share : Continuation). pos (F share)) continuation_of (map (share_at a o) items)
    ∙ total-map (λ (b : Branch). pos (F (continuation_of b))) (share_at a o) items
    ∙ total-same (λ (item : ℕ × ℤ). pos (F (continuation_of (share_at a o item)))) (λ (item : ℕ × ℤ). item.1 *ℤ at (point_at points item.0).belief t) items
    (each-both (λ (item : ℕ × ℤ). item.0 < length points) (λ (item : ℕ × ℤ). IsWithin (pos 1) most_share item.1)
    (λ (item : ℕ × ℤ). pos (F (continuation_of (share_at a o item))) ≡ item.1 *ℤ at (point_at points item.0).belief t) items
    (λ item l w. abs-product item.1 (at (point_at points item.0).belief t) w.0 (weight-low g points fit item.0 t l lt)) inside weights)

pub splits-hold : (g : GameData) (wanted : List Branch) (points : List PointData) (point : PointData) → AllByRecursion (PointFits g most_points) points → AreShares g point.belief point.mixes wanted points point.splits →
    SplitsHold (numbers g) (points_of points) (point_of point)
splits-hold g wanted points point fit h a o t la lo lt =
    let s = h.right a o la lo in
    let m : ℕ → ℕ = λ u. mass_of (numbers g) (weight_at point.belief) (mix_weight point.mixes) a o u in
    let long : length (mass_after g point.belief point.mixes a o) ≡ g.shape.states = length-map-range_with_len (λ u. pos (m u)) 0 g.shape.states in
    let here : at (mass_after g point.belief point.mixes a o) t ≡ pos (m t) = get_or-map-range_with_len (λ u. pos (m u)) 0 g.shape.states t t (pos 0) lt (omega arith) in
    ap (sum_by (λ (share : Continuation). share.weight * (points_of points share.member).belief t)) (shares-there g point.belief point.mixes wanted points point h a o la lo)
    ∙ ap unsigned_abs (brought g points fit a o t lt s.items s.right.inside s.right.weights ∙ s.right.made t (subst (λ (n : ℕ). t < n) (sym long) lt) ∙ here)

-- ---- the wanted points as the program reads them
abbrev pub pairs_of : List ShareParts → List (ℕ × ℤ)
pairs_of shares = map {B = ℕ × ℤ} (λ (share : ShareParts). (share.k, share.weight)) shares

pub wanted-pairs : (a o : ℕ) (shares : List ShareParts) → pairs_of (filter (IsAfter a o) shares) ≡ wanted_at (map branch_of shares) a o
wanted-pairs a o [] = refl
wanted-pairs a o (x ∷ xs) =
    elim (IsAfter a o x) as (λ b. pairs_of (cond b (x ∷ filter (IsAfter a o) xs) (filter (IsAfter a o) xs)) ≡ items_of (cond b (branch_of x ∷ branches_at (map branch_of xs) a o) (branches_at (map branch_of xs) a o))) [
      | true ↦ ap (λ (ys : List (ℕ × ℤ)). (x.k, x.weight) ∷ ys) (wanted-pairs a o xs)
      | false ↦ wanted-pairs a o xs
    ]

-- ---- one split is added
pub shares-added : (g : GameData) (belief : List ℤ) (mixes : MixesData) (wanted : List Branch) (points : List PointData) (a o : ℕ) (pairs items : List (ℕ × ℤ)) (mass : List ℤ) (old new : List Branch) →
    pairs ≡ wanted_at wanted a o → mass ≡ mass_after g belief mixes a o → AreItemsOf points pairs mass items → new ≡ old ++ split_branches a o items → AddsSharesAfter g belief mixes wanted points a o old new
shares-added g belief mixes wanted points a o pairs items mass old new wants after right same = record {
  shares = split_branches a o items;
  right = record {
    items = items;
    right = subst (λ (xs : List ℤ). AreItemsOf points (wanted_at wanted a o) xs items) after (subst (λ (ws : List (ℕ × ℤ)). AreItemsOf points ws mass items) wants right);
    same = refl;
  };
  same = same;
}

-- what holds of an Ok
pub OnOk-then : {T E P Q : Type 0} (result : Result T E) → OnOk result P → (P → Q) → OnOk result Q
OnOk-then (Ok x) h step = step h
OnOk-then (Err e) h step = tt
