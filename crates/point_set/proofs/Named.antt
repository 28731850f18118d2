-- Points by number, and what shares bring.
use Rattle.std.proofs.Common.{◌≡◌, ℕ, ◌+◌, ◌*◌, ◌^◌, ◌<◌, ◌≤◌, true, false, cond, ◌==◌, ◌&&◌, List, [], ◌∷◌, length, get_or, map, filter, take, refl, ap, arith, sym, subst, ◌∙◌}
use Rattle.std.specs.Prelude.{ℤ, pos, ◌+ℤ◌, ◌*ℤ◌, unsigned_abs, FitsSigned, sum_by}
use Rattle.std.proofs.Common.{of_z, to_z}
use Rattle.std.specs.List.{AllByRecursion}
use Rattle.std.specs.Int.{w128}
use Rattle.std.proofs.lemmas.Int.{ints, fits_signed_from_abs, to_z-of_z}
use Rattle.std.proofs.lemmas.Nat.{mul-le}
use Rattle.std.proofs.lemmas.List.{get_or-map}
use Rattle.std.proofs.lemmas.List.Sums.{sum_by_more}
use Rattle.scaled_num.proofs.Sums.{each-at, sum_by-map}
use Rattle.game_model.specs.Branches.{Branch, Continuation, IsBranch, branch_of, continuation_of, continuations_at}
use Rattle.game_model.proofs.Continuations.{continuations-are, filter-map}
use Rattle.game_model.specs.Numbers.{Numbers}
use Rattle.game_model.proofs.Pay.{each-from}
use Rattle.belief.proofs.Landings.{each-filter}
use Rattle.game_model.specs.Game.{GameData, IsWithin, numbers}
use Rattle.game_model.proofs.Front.{length-map}
use Rattle.belief.proofs.Sums.{magnitude-small}
use Rattle.point_set.specs.Members.{IsAfter, IsMember, IsNamed, brought, data_of, most_points, point_data}
use Rattle.point_set.specs.Points.{Point, PointFits, SplitHolds, mass, most_share, no_point, point_of, points_of, shared}
use Rattle.point_set.specs.declared.points.Point.{Point as PointParts}
use Rattle.game_model.specs.declared.branches.Branch.{Branch as ShareParts}
use Rattle.point_set.proofs.Shares.{few-shares, no_share}
use Rattle.scaled_num.proofs.Each.{each-of-map}
use Rattle.scaled_num.proofs.Products.{magnitude-is}

pub data-at : (points : List PointParts) (k : ℕ) (x : PointParts) → k < length points → x ≡ get_or points k x → get_or (data_of points) k no_point ≡ point_data x
data-at points k x l e = get_or-map point_data points k x no_point l ∙ ap point_data (sym e)

pub point-at : (points : List PointParts) (k : ℕ) (x : PointParts) → k < length points → x ≡ get_or points k x → points_of (data_of points) k ≡ point_of (point_data x)
point-at points k x l e = ap point_of (data-at points k x l e)

pub fits-at : (g : GameData) (points : List PointParts) (k : ℕ) (x : PointParts) → AllByRecursion (PointFits g most_points) (data_of points) → k < length points → x ≡ get_or points k x → PointFits g most_points (point_data x)
fits-at g points k x h l e = subst (PointFits g most_points) (data-at points k x l e) (each-at (PointFits g most_points) no_point (data_of points) k h (subst (λ (n : ℕ). k < n) (sym (length-map point_data points)) l))

-- one more share of what shares bring
pub record NextShare (points : ℕ → Point) (xs : List ShareParts) (i s : ℕ) (y z : ℤ) : Type 0 where
  pub weight_fits : FitsSigned w128 (get_or xs i no_share).weight
  pub y_fits : FitsSigned w128 y
  pub product_fits : FitsSigned w128 ((get_or xs i no_share).weight *ℤ y)
  pub sum_fits : FitsSigned w128 (z +ℤ (get_or xs i no_share).weight *ℤ y)
  pub is : z +ℤ (get_or xs i no_share).weight *ℤ y ≡ pos (sum_by (brought points s) (take (i + 1) xs))
  pub small : sum_by (brought points s) (take (i + 1) xs) ≤ (i + 1) * 2 ^ 86

pub next-share : (points : ℕ → Point) (xs : List ShareParts) (i s : ℕ) (y z : ℤ) → i < length xs → length xs ≤ 1024 → AllByRecursion (λ (x : ShareParts). IsWithin (pos 1) most_share x.weight) xs →
    IsWithin (pos 0) (pos (2 ^ 20)) y → (points (get_or xs i no_share).k).belief s ≡ unsigned_abs y → z ≡ pos (sum_by (brought points s) (take i xs)) → sum_by (brought points s) (take i xs) ≤ i * 2 ^ 86 → NextShare points xs i s y z
next-share points xs i s y z l few weights wy e is small =
    let x : ShareParts = get_or xs i no_share in
    let w = each-at (λ (x : ShareParts). IsWithin (pos 1) most_share x.weight) no_share xs i weights l in
    let low = w.0 in
    let high = w.1 in
    let size : unsigned_abs x.weight ≤ 2 ^ 66 = omega (arith, ints) in
    let y_size : unsigned_abs y ≤ 2 ^ 20 = magnitude-small y (2 ^ 20) wy in
    let term : brought points s x ≤ 2 ^ 86 = rw e (mul-le (unsigned_abs x.weight) (unsigned_abs y) (2 ^ 66) (2 ^ 20) size y_size) in
    let product : x.weight *ℤ y ≡ pos (brought points s x) =
    ap (λ (v : ℤ). v *ℤ y) (magnitude-is x.weight (omega (arith, ints))) ∙ ap (λ (v : ℤ). pos (unsigned_abs x.weight) *ℤ v) (magnitude-is y wy.0) ∙ ap (λ (n : ℕ). pos (unsigned_abs x.weight * n)) (sym e) in
    let more : sum_by (brought points s) (take (i + 1) xs) ≡ sum_by (brought points s) (take i xs) + brought points s x = sum_by_more (brought points s) xs i no_share l in
    let next : z +ℤ x.weight *ℤ y ≡ pos (sum_by (brought points s) (take (i + 1) xs)) = ap (λ (v : ℤ). v +ℤ x.weight *ℤ y) is ∙ ap (λ (v : ℤ). pos (sum_by (brought points s) (take i xs)) +ℤ v) product ∙ ap pos (sym more) in
    let upto : sum_by (brought points s) (take (i + 1) xs) ≤ (i + 1) * 2 ^ 86 = omega arith in
    record {
      weight_fits = fits_signed_from_abs w128 x.weight (omega arith);
      y_fits = fits_signed_from_abs w128 y (omega arith);
      product_fits = rw product (fits_signed_from_abs w128 (pos (brought points s x)) (omega arith));
      sum_fits = rw next (fits_signed_from_abs w128 (pos (sum_by (brought points s) (take (i + 1) xs))) (omega arith));
      is = next;
      small = upto;
    }

-- the shares after an own action and an observation, as the rules see them
pub shares-at : (xs : List ShareParts) (a o : ℕ) → continuations_at (map continuation_of (map branch_of xs)) a o ≡ map continuation_of (map branch_of (filter (IsAfter a o) xs))
shares-at xs a o = continuations-are (map branch_of xs) a o ∙ ap (map continuation_of) (filter-map branch_of (λ b. (b.own == a) && (b.seen == o)) xs)

pub shared-is : (points : ℕ → Point) (p : PointParts) (a o t : ℕ) → shared points (point_of (point_data p)) a o t ≡ sum_by (brought points t) (filter (IsAfter a o) p.splits.items)
shared-is points p a o t =
    ap (sum_by (λ (share : Continuation). share.weight * (points share.member).belief t)) (shares-at p.splits.items a o)
    ∙ sum_by-map (λ (share : Continuation). share.weight * (points share.member).belief t) continuation_of (map branch_of (filter (IsAfter a o) p.splits.items))
    ∙ sum_by-map (λ (b : Branch). unsigned_abs b.weight * (points b.member).belief t) branch_of (filter (IsAfter a o) p.splits.items)

-- what the shares of a point keep
pub record SharesFit (points : List PointParts) (xs : List ShareParts) : Type 0 where
  pub named : AllByRecursion (IsNamed points) xs
  pub few : length xs ≤ 1024
  pub weights : AllByRecursion (λ (x : ShareParts). IsWithin (pos 1) most_share x.weight) xs

pub named-all : (g : GameData) (points : List PointParts) (p : PointParts) → IsMember g points p → AllByRecursion (IsNamed points) p.splits.items
named-all g points p h = each-of-map (λ (b : Branch). b.member < length points) branch_of p.splits.items h.named

pub shares-fit : (g : GameData) (points : List PointParts) (p : PointParts) → IsMember g points p → (a o : ℕ) → SharesFit points (filter (IsAfter a o) p.splits.items)
shares-fit g points p h a o =
    let xs : List ShareParts = p.splits.items in
    let each = each-of-map (IsBranch (numbers g) most_points most_share) branch_of xs h.fits.splits.each in
    record {
      named = each-filter (IsNamed points) (IsAfter a o) xs (named-all g points p h);
      few = few-shares a o most_points xs h.fits.splits.rising (each-from (λ (x : ShareParts). IsBranch (numbers g) most_points most_share (branch_of x)) (λ (x : ShareParts). x.k < most_points) xs (λ x i. i.member) each);
      weights = each-filter (λ (x : ShareParts). IsWithin (pos 1) most_share x.weight) (IsAfter a o) xs
          (each-from (λ (x : ShareParts). IsBranch (numbers g) most_points most_share (branch_of x)) (λ (x : ShareParts). IsWithin (pos 1) most_share x.weight) xs (λ x i. i.weight) each);
    }

-- the test of a split place
pub split-holds : (g : Numbers) (points : ℕ → Point) (p : PointParts) (a o t : ℕ) (ws : List ShareParts) (x y : ℤ) → ws ≡ filter (IsAfter a o) p.splits.items → x ≡ pos (sum_by (brought points t) ws) →
    y ≡ pos (mass g (point_of (point_data p)) a o t) → x ≡ y → SplitHolds g points (point_of (point_data p)) a o t
split-holds g points p a o t ws x y e i j same = shared-is points p a o t ∙ ap (sum_by (brought points t)) (sym e) ∙ ap unsigned_abs (sym i ∙ same ∙ j)

pub split-same : (g : Numbers) (points : ℕ → Point) (p : PointParts) (a o t : ℕ) (ws : List ShareParts) (x y : ℤ) → ws ≡ filter (IsAfter a o) p.splits.items → x ≡ pos (sum_by (brought points t) ws) →
    y ≡ pos (mass g (point_of (point_data p)) a o t) → SplitHolds g points (point_of (point_data p)) a o t → x ≡ y
split-same g points p a o t ws x y e i j h = i ∙ ap pos (ap (sum_by (brought points t)) e ∙ sym (shared-is points p a o t) ∙ h) ∙ sym j

-- numbers of the same bits
pub same-bits : (x y : ℤ) → FitsSigned w128 x → FitsSigned w128 y → of_z w128 x ≡ of_z w128 y → x ≡ y
same-bits x y fx fy e = sym (to_z-of_z w128 x fx) ∙ ap (to_z w128) e ∙ to_z-of_z w128 y fy
