-- A point that stands among points stands also where others come behind them.
use Rattle.std.proofs.Common.{◌≡◌, ℕ, ◌*◌, ◌++◌, List, length, ap, sym, subst, ◌∙◌}
use Rattle.std.specs.Prelude.{ℤ, pos, ◌+ℤ◌, ◌*ℤ◌, ◌≤ℤ◌, ◌==◌, ◌&&◌, unsigned_abs}
use Rattle.std.specs.List.{AllByRecursion}
use Rattle.std.proofs.lemmas.List.{get_or_append_left}
use Rattle.scaled_num.specs.Sums.{below, total}
use Rattle.scaled_num.proofs.Sums.{each-map, total-below, total-pos, total-same}
use Rattle.game_model.specs.Branches.{Branch, Continuation, IsBranch, continuation_of, mix_total}
use Rattle.game_model.specs.Game.{GameData, numbers, unit}
use Rattle.game_model.specs.Numbers.{Numbers}
use Rattle.game_model.proofs.Pay.{each-from}
use Rattle.belief.proofs.Landings.{each-filter}
use Rattle.point_set.specs.Points.{Point, PointData, PointStands, most_share, no_point, point_of, point_worth, points_of, shared, shares_at}

-- each share names the same point among both
abbrev AreSame : (ℕ → Point) → (ℕ → Point) → Point → Type 0
AreSame few many point = AllByRecursion (λ (share : Continuation). few share.member ≡ many share.member) point.splits

same-there : (few many : ℕ → Point) (point : Point) (a o : ℕ) → AreSame few many point → AllByRecursion (λ (share : Continuation). few share.member ≡ many share.member) (shares_at point a o)
same-there few many point a o h = each-filter (λ (share : Continuation). few share.member ≡ many share.member) (λ (share : Continuation). (share.own == a) && (share.seen == o)) point.splits h

same-shared : (few many : ℕ → Point) (point : Point) (a o t : ℕ) → AreSame few many point → shared few point a o t ≡ shared many point a o t
same-shared few many point a o t h =
    let F : (ℕ → Point) → Continuation → ℕ = λ points share. share.weight * (points share.member).belief t in
    ap unsigned_abs
    (sym (total-pos (F few) (shares_at point a o))
    ∙ total-same (λ (share : Continuation). pos (F few share)) (λ (share : Continuation). pos (F many share)) (shares_at point a o)
    (each-from (λ (share : Continuation). few share.member ≡ many share.member) (λ (share : Continuation). pos (F few share) ≡ pos (F many share)) (shares_at point a o)
    (λ share e. ap (λ (p : Point). pos (share.weight * p.belief t)) e) (same-there few many point a o h))
    ∙ total-pos (F many) (shares_at point a o))

same-worth : (g : Numbers) (few many : ℕ → Point) (point : Point) (a : ℕ) → AreSame few many point → point_worth g few point a ≡ point_worth g many point a
same-worth g few many point a h =
    ap (λ (z : ℤ). total (λ s. total (λ c. pos (point.belief s * point.mixes s c) *ℤ g.reward s a c *ℤ pos (unit * g.row_total * g.discount_under)) (below g.informed_actions)) (below g.states) +ℤ pos g.discount_over *ℤ z)
    (total-below g.observations _ _ (λ o lo.
    total-same (λ (share : Continuation). pos share.weight *ℤ (few share.member).value) (λ (share : Continuation). pos share.weight *ℤ (many share.member).value) (shares_at point a o)
    (each-from (λ (share : Continuation). few share.member ≡ many share.member) (λ (share : Continuation). pos share.weight *ℤ (few share.member).value ≡ pos share.weight *ℤ (many share.member).value) (shares_at point a o)
    (λ share e. ap (λ (p : Point). pos share.weight *ℤ p.value) e) (same-there few many point a o h))))

stands-same : (g : Numbers) (few many : ℕ → Point) (point : Point) → AreSame few many point → PointStands g few point → PointStands g many point
stands-same g few many point h stands = record {
  split = λ a o t la lo lt. sym (same-shared few many point a o t h) ∙ stands.split a o t la lo lt;
  value = λ a la. subst (λ (z : ℤ). z ≤ℤ (point.value *ℤ pos (mix_total * g.row_total * g.discount_under))) (same-worth g few many point a h) (stands.value a la);
}

pub stands-on : (g : GameData) (points more : List PointData) (point : PointData) → AllByRecursion (IsBranch (numbers g) (length points) most_share) point.splits →
    PointStands (numbers g) (points_of points) (point_of point) → PointStands (numbers g) (points_of (points ++ more)) (point_of point)
stands-on g points more point each stands =
    stands-same (numbers g) (points_of points) (points_of (points ++ more)) (point_of point)
    (each-map (λ (share : Continuation). points_of points share.member ≡ points_of (points ++ more) share.member) continuation_of point.splits
    (each-from (IsBranch (numbers g) (length points) most_share) (λ (b : Branch). points_of points b.member ≡ points_of (points ++ more) b.member) point.splits
    (λ b i. ap point_of (sym (get_or_append_left points more no_point b.member i.member))) each)) stands
