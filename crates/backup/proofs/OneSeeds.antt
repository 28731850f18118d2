-- A game has one list of seed nodes and one of seed points.
use Rattle.std.proofs.Common.{◌≡◌, ◌⊎◌, ℕ, zero, suc, ◌*◌, ◌^◌, ◌<◌, List, [], ◌∷◌, ◌++◌, inl, inr, refl, ap, ap₂, arith, sym, subst, ◌∙◌}
use Rattle.std.specs.Prelude.{ℤ, pos, ◌≤ℤ◌, ◌<ℤ◌, slice_index_or}
use Rattle.std.proofs.lemmas.Bool.{cases_order}
use Rattle.std.proofs.lemmas.Int.{by_lt_z, ints}
use Rattle.std.proofs.lemmas.List.{ext_get_or}
use Rattle.scaled_num.specs.Share.{at}
use Rattle.scaled_num.specs.Sums.{sum_of}
use Rattle.game_model.specs.Branches.{mix_total}
use Rattle.game_model.specs.Game.{GameData, IsGame, IsWithin, numbers, span}
use Rattle.game_model.proofs.Pay.{each-from}
use Rattle.game_model.specs.Numbers.{Numbers}
use Rattle.game_model.proofs.SeedVectors.{seeds-are_one}
use Rattle.belief.specs.Mixes.{MixesData, pure_mixes}
use Rattle.alpha_set.specs.Nodes.{NodeData, no_node}
use Rattle.point_set.specs.Points.{Point, PointData, point_of, point_worth, points_of}
use Rattle.backup.specs.Laws.{CornerValuesAreOne, EvaluationsAreOne, SeedNodesAreOne, SeedPointsAreOne}
use Rattle.backup.specs.Seeds.{AreCornerValues, AreCornersAfter, IsEvaluation, IsReply, IsRootPoint, IsSeedNode, IsSure, always_node, corner_points, corner_split}
use Rattle.backup.proofs.FallingCorners.{KeepsCorners, ceil-is_there, ceil-le, ceils-le}
use Rattle.backup.proofs.SeedPoints.{keeps-corners}
use Rattle.backup.proofs.Sure.{total-more, total-one}

equal : (x y : ℤ) → x ≤ℤ y → y ≤ℤ x → x ≡ y
equal x y l k = omega (arith, ints)

at-most : (x y : ℤ) → x ≡ y → x ≤ℤ y
at-most x y e = omega (arith, ints)

through : (x y z : ℤ) → x ≤ℤ y → y ≤ℤ z → x ≤ℤ z
through x y z h k = omega (arith, ints)

-- ---- nodes
node-one : (g : GameData) (a : ℕ) (node other : NodeData) → IsSeedNode g a node → IsSeedNode g a other → node ≡ other
node-one g a node other p q =
    p.same
    ∙ ap (always_node g a) (ext_get_or (pos 0) p.vector q.vector (p.long ∙ sym q.long)
    (λ s l. seeds-are_one (numbers g) (span g) a (at p.vector) (at q.vector) p.seed q.seed s (subst (λ (n : ℕ). s < n) p.long l)))
    ∙ sym q.same

pub nodes-one : SeedNodesAreOne
nodes-one g nodes others p q =
    ext_get_or no_node nodes others (p.count ∙ sym q.count)
    (λ a l. let inside = subst (λ (n : ℕ). a < n) p.count l in
    node-one g a (slice_index_or nodes a no_node) (slice_index_or others a no_node) (p.each a inside) (q.each a inside))

-- ---- the values of the corners
-- values that are no greater before a round are no greater after it
round-le : (g : Numbers) (span : ℕ) → KeepsCorners g span → (old before : ℕ → ℤ) (s c d : ℕ) (x y : ℤ) → ((t : ℕ) → t < g.states → old t ≤ℤ before t) →
    IsReply g old s c x → IsReply g before s d y → x ≤ℤ y
round-le g span keeps old before s c d x y le p q =
    let there = ceil-is_there g span keeps old s d in
    through x there.0 y (p.least d there.0 q.informed there.1) (ceils-le g old before s d there.0 y le there.1 q.here)

after-le : (g : Numbers) (span : ℕ) → KeepsCorners g span → (n : ℕ) (values others : ℕ → ℤ) → AreCornersAfter g span n values → AreCornersAfter g span n others →
    (s : ℕ) → s < g.states → values s ≤ℤ others s
after-le g span keeps zero values others p q s l = at-most (values s) (others s) (p s l ∙ sym (q s l))
after-le g span keeps (suc n) values others (old, corners, last) (before, was, next) s l =
    round-le g span keeps old before s (last s l).0 (next s l).0 (values s) (others s) (after-le g span keeps n old before corners was) (last s l).1 (next s l).1

-- the first of the replies with the least is one
reply-before : (g : Numbers) (span : ℕ) → KeepsCorners g span → (old before : ℕ → ℤ) (s c d : ℕ) (x y : ℤ) → ((t : ℕ) → t < g.states → before t ≤ℤ old t) →
    IsReply g old s c x → IsReply g before s d y → x ≡ y → c < d → ⊥
reply-before g span keeps old before s c d x y le p q e l =
    let there = ceil-is_there g span keeps before s c in
    apart x y there.0 e (q.first c there.0 l there.1) (ceils-le g before old s c there.0 x le there.1 p.here)
  where
    apart : (x y z : ℤ) → x ≡ y → y <ℤ z → z ≤ℤ x → ⊥
    apart x y z e l m = omega (arith, ints)

reply-one : (g : Numbers) (span : ℕ) → KeepsCorners g span → (old before : ℕ → ℤ) (s c d : ℕ) (x y : ℤ) →
    ((t : ℕ) → t < g.states → old t ≤ℤ before t) → ((t : ℕ) → t < g.states → before t ≤ℤ old t) →
    IsReply g old s c x → IsReply g before s d y → (x ≡ y) × (c ≡ d)
reply-one g span keeps old before s c d x y le ge p q =
    let value : x ≡ y = equal x y (round-le g span keeps old before s c d x y le p q) (round-le g span keeps before old s d c y x ge q p) in (
      value,
      elim (cases_order c d) [
        | inl e ↦ e
        | inr l ↦ elim l [
          | inl l ↦ absurd (reply-before g span keeps old before s c d x y ge p q value l)
          | inr l ↦ absurd (reply-before g span keeps before old s d c y x le q p (sym value) l)
        ]
      ],
    )

settled-one : (g : Numbers) (span : ℕ) → KeepsCorners g span → (values others : ℕ → ℤ) (replies choices : ℕ → ℕ) → AreCornerValues g span values replies → AreCornerValues g span others choices →
    (s : ℕ) → s < g.states → (values s ≡ others s) × (replies s ≡ choices s)
settled-one g span keeps values others replies choices p q s l =
    reply-one g span keeps p.old q.old s (replies s) (choices s) (values s) (others s)
    (after-le g span keeps 255 p.old q.old p.before q.before) (after-le g span keeps 255 q.old p.old q.before p.before) (p.last s l) (q.last s l)

pub corners-one : CornerValuesAreOne
corners-one g values others replies choices accepted p q = settled-one (numbers g) (span g) (keeps-corners g accepted) values others replies choices p q

-- ---- evaluations
evaluation-le : (g : Numbers) (points : ℕ → Point) (point : Point) (x y : ℤ) → IsEvaluation g points point x → IsEvaluation g points point y → x ≤ℤ y
evaluation-le g points point x y p q =
    let a = p.some.0 in
    let worth : ℤ = point_worth g points point a in
    ceil-le (mix_total * g.row_total * g.discount_under) x y worth worth p.some.2 (at-most worth worth refl) (q.each a p.some.1)

pub evaluations-one : EvaluationsAreOne
evaluations-one g points point x y p q = equal x y (evaluation-le g points point x y p q) (evaluation-le g points point y x q p)

-- ---- points
-- what a point must be worth does not depend on its own value
moved : (g : GameData) (points : ℕ → Point) (mixes : MixesData) (v w x : ℤ) → IsEvaluation (numbers g) points (point_of (corner_split g g.first v mixes)) x → IsEvaluation (numbers g) points (point_of (corner_split g g.first w mixes)) x
moved g points mixes v w x h = record { each = h.each; some = h.some }

root-one : (g : GameData) (corners : List PointData) (mixes : MixesData) (root other : PointData) → IsRootPoint g corners mixes root → IsRootPoint g corners mixes other → root ≡ other
root-one g corners mixes root other p q =
    p.same
    ∙ ap (λ (x : ℤ). corner_split g g.first x mixes)
    (evaluations-one (numbers g) (points_of corners) (point_of (corner_split g g.first q.value mixes)) p.value q.value
    (moved g (points_of corners) mixes p.value q.value p.value (subst (λ (point : PointData). IsEvaluation (numbers g) (points_of corners) (point_of point) p.value) p.same p.worth))
    (subst (λ (point : PointData). IsEvaluation (numbers g) (points_of corners) (point_of point) q.value) q.same q.worth))
    ∙ sym q.same

-- the first belief of a game is sure of a state, or of none
sure-or-not : (g : GameData) → IsGame g → IsSure g.first ⊎ (IsSure g.first → ⊥)
sure-or-not g accepted = by_lt_z (pos 1) (sum_of g.first)
    (λ more. inr (total-more g.first more))
    (λ upto. let low = accepted.first.sums.0 in inl (total-one g.first (each-from (IsWithin (pos 0) (pos (2 ^ 20))) (λ x. pos 0 ≤ℤ x) g.first (λ x w. w.0) accepted.first.each) (omega (arith, ints))))

pub points-one : SeedPointsAreOne
points-one g points others accepted p q =
    elim (sure-or-not g accepted) [
      | inl sure ↦ p.sure sure ∙ corners ∙ sym (q.sure sure)
      | inr unsure ↦
          let root = p.unsure unsure in
          let other = q.unsure unsure in
          root.2 ∙ ap₂ (λ (ps : List PointData) (r : PointData). ps ++ r ∷ []) corners
          (root-one g (corner_points g q.values (pure_mixes g q.replies)) (pure_mixes g q.replies) root.0 other.0
          (subst (λ (v : List ℤ). IsRootPoint g (corner_points g v (pure_mixes g q.replies)) (pure_mixes g q.replies) root.0) values
          (subst (λ (r : List ℕ). IsRootPoint g (corner_points g p.values (pure_mixes g r)) (pure_mixes g r) root.0) replies root.1)) other.1)
          ∙ sym other.2
    ]
  where
    both : (s : ℕ) → s < g.shape.states → (at p.values s ≡ at q.values s) × (slice_index_or p.replies s 0 ≡ slice_index_or q.replies s 0)
    both = corners-one g (at p.values) (at q.values) (λ s. slice_index_or p.replies s 0) (λ s. slice_index_or q.replies s 0) accepted p.corners q.corners

    values : p.values ≡ q.values
    values = ext_get_or (pos 0) p.values q.values (p.long ∙ sym q.long) (λ s l. (both s (subst (λ (n : ℕ). s < n) p.long l)).0)

    replies : p.replies ≡ q.replies
    replies = ext_get_or 0 p.replies q.replies (p.count ∙ sym q.count) (λ s l. (both s (subst (λ (n : ℕ). s < n) p.count l)).1)

    corners : corner_points g p.values (pure_mixes g p.replies) ≡ corner_points g q.values (pure_mixes g q.replies)
    corners = ap₂ (λ (v : List ℤ) (r : List ℕ). corner_points g v (pure_mixes g r)) values replies
