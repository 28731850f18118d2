-- The seeds: the first nodes and points, which bound every plan before any search.
use Rattle.std.specs.Prelude.{ℕ, zero, suc, ℤ, pos, Bool, List, [], ◌∷◌, ◌++◌, filter, flat_map, length, map, replicate, ltb, ◌-◌, slice_index_or, slice_set, unsigned_abs, ◌≡◌, ◌<◌, ◌*◌, ◌-ℤ◌, ◌*ℤ◌, ◌≤ℤ◌, ◌<ℤ◌}
use Rattle.scaled_num.specs.Share.{at}
use Rattle.scaled_num.specs.Sums.{below}
use Rattle.game_model.specs.Branches.{Branch, mix_total}
use Rattle.game_model.specs.Game.{GameData, numbers, span}
use Rattle.game_model.specs.Numbers.{Numbers}
use Rattle.game_model.specs.Seeds.{IsSeed, seed_rounds, stage_worth}
use Rattle.belief.specs.Beliefs.{corner_of, mix_weight, weight_at}
use Rattle.belief.specs.Mixes.{MixesData, mass_of, pure_mixes}
use Rattle.alpha_set.specs.Nodes.{NodeData, no_node}
use Rattle.point_set.specs.Points.{Point, PointData, point_of, point_worth, points_of}

-- ---- the seed nodes

-- all weight on one own action
abbrev pub pure_mix : GameData → ℕ → List ℤ
pure_mix g a = slice_set (replicate g.shape.own_actions (pos 0)) a (pos mix_total)

-- the node of the action a always plays it, and goes on with itself, whose number is a
abbrev pub always_node : GameData → ℕ → List ℤ → NodeData
always_node g a vector = record {
  vector = vector;
  mix = pure_mix g a;
  next = map (λ o. record { own = a; seen = o; member = a; weight = pos mix_total }) (below g.shape.observations);
}

-- the node of an action has its seed vector
pub record IsSeedNode (g : GameData) (a : ℕ) (node : NodeData) : Type 0 where
  pub vector : List ℤ
  pub long : length vector ≡ g.shape.states
  pub seed : IsSeed (numbers g) (span g) a (at vector)
  pub same : node ≡ always_node g a vector

-- the seed nodes: one for each own action, in order
pub record AreSeedNodes (g : GameData) (nodes : List NodeData) : Type 0 where
  pub count : length nodes ≡ g.shape.own_actions
  pub each : (a : ℕ) → a < g.shape.own_actions → IsSeedNode g a (slice_index_or nodes a no_node)

-- ---- the values of the corners

-- What player one may get at the state s against the informed action c, where values tell what each next state is
-- worth: the greatest, over the own actions, of a stage's worth divided by the row total and the discount's
-- denominator and rounded up.
pub record IsGreatestCeil (g : Numbers) (old : ℕ → ℤ) (s c : ℕ) (x : ℤ) : Type 0 where
  pub each : (a : ℕ) → a < g.own_actions → (stage_worth g a old s c) ≤ℤ (x *ℤ pos (g.row_total * g.discount_under))
  pub some : (a : ℕ) × (a < g.own_actions) × (((x -ℤ pos 1) *ℤ pos (g.row_total * g.discount_under)) <ℤ (stage_worth g a old s c))

-- c is the informed player's reply at the state s: the first action against which player one gets the least, x
pub record IsReply (g : Numbers) (old : ℕ → ℤ) (s c : ℕ) (x : ℤ) : Type 0 where
  pub informed : c < g.informed_actions
  pub here : IsGreatestCeil g old s c x
  pub least : (d : ℕ) (y : ℤ) → d < g.informed_actions → IsGreatestCeil g old s d y → x ≤ℤ y
  pub first : (d : ℕ) (y : ℤ) → d < c → IsGreatestCeil g old s d y → x <ℤ y

-- The values of the corners after so many rounds. They begin as the span; a round replaces all of them at once by
-- what the informed player's replies leave.
abbrev pub AreCornersAfter : Numbers → ℕ → ℕ → (ℕ → ℤ) → Type 0
AreCornersAfter g span zero new = (s : ℕ) → s < g.states → new s ≡ pos span
AreCornersAfter g span (suc n) new =
    (old : ℕ → ℤ) × AreCornersAfter g span n old × ((s : ℕ) → s < g.states → (c : ℕ) × IsReply g old s c (new s))

-- the values of the corners after all rounds, and the replies of the last one
pub record AreCornerValues (g : Numbers) (span : ℕ) (values : ℕ → ℤ) (replies : ℕ → ℕ) : Type 0 where
  pub old : ℕ → ℤ
  pub before : AreCornersAfter g span (seed_rounds - 1) old
  pub last : (s : ℕ) → s < g.states → IsReply g old s (replies s) (values s)

-- ---- the seed points

-- the mass that a belief and mixes bring on
abbrev pub mass_at : GameData → List ℤ → MixesData → ℕ → ℕ → ℕ → ℕ
mass_at g belief mixes a o t = mass_of (numbers g) (weight_at belief) (mix_weight mixes) a o t

abbrev pub has_weight : Branch → Bool
has_weight b = ltb 0 (unsigned_abs b.weight)

-- the shares that split each mass into corners: of every next state t with a mass, that mass times the point t
abbrev pub corner_shares : GameData → List ℤ → MixesData → List Branch
corner_shares g belief mixes =
    filter has_weight
    (flat_map (λ a. flat_map (λ o. map (λ t. record { own = a; seen = o; member = t; weight = pos (mass_at g belief mixes a o t) })
    (below g.shape.states)) (below g.shape.observations)) (below g.shape.own_actions))

-- a point whose masses are split into corners
abbrev pub corner_split : GameData → List ℤ → ℤ → MixesData → PointData
corner_split g belief value mixes = record { belief = belief; value = value; mixes = mixes; splits = corner_shares g belief mixes }

-- x is what a point must be worth among others: the greatest, over the own actions, of what one stage costs at
-- most, divided by the mix total, the row total and the discount's denominator and rounded up
pub record IsEvaluation (g : Numbers) (points : ℕ → Point) (point : Point) (x : ℤ) : Type 0 where
  pub each : (a : ℕ) → a < g.own_actions → (point_worth g points point a) ≤ℤ (x *ℤ pos (mix_total * g.row_total * g.discount_under))
  pub some : (a : ℕ) × (a < g.own_actions) × (((x -ℤ pos 1) *ℤ pos (mix_total * g.row_total * g.discount_under)) <ℤ (point_worth g points point a))

-- the corner points: one for each state, in order
abbrev pub corner_points : GameData → List ℤ → MixesData → List PointData
corner_points g values mixes = map (λ s. corner_split g (corner_of g.shape.states s) (at values s) mixes) (below g.shape.states)

-- a belief is sure of a state
abbrev pub IsSure : List ℤ → Type 0
IsSure belief = (s : ℕ) × (s < length belief) × (belief ≡ corner_of (length belief) s)

-- The point at the first belief, split into corners: its value is what it must be worth among the corner points.
pub record IsRootPoint (g : GameData) (corners : List PointData) (mixes : MixesData) (point : PointData) : Type 0 where
  pub value : ℤ
  pub same : point ≡ corner_split g g.first value mixes
  pub worth : IsEvaluation (numbers g) (points_of corners) (point_of point) value

-- the seed points: the corner points, and after them the root point where the first belief is no corner
pub record AreSeedPoints (g : GameData) (points : List PointData) : Type 0 where
  pub values : List ℤ
  pub replies : List ℕ
  pub long : length values ≡ g.shape.states
  pub count : length replies ≡ g.shape.states
  pub corners : AreCornerValues (numbers g) (span g) (at values) (λ s. slice_index_or replies s 0)
  pub sure : IsSure g.first → points ≡ corner_points g values (pure_mixes g replies)
  pub unsure : (IsSure g.first → ⊥) →
      (root : PointData) × IsRootPoint g (corner_points g values (pure_mixes g replies)) (pure_mixes g replies) root
      × (points ≡ corner_points g values (pure_mixes g replies) ++ root ∷ [])
