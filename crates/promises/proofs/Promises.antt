-- What the laws of history_model and of game_model say, said of strategies by history.
use Rattle.std.proofs.Common.{◌≡◌, ℕ, ◌*◌, ◌^◌, ◌<◌, [], length, arith, ap, subst, ◌∙◌}
use Rattle.std.specs.Prelude.{ℤ, pos, ◌+ℤ◌, ◌*ℤ◌, ◌≤ℤ◌, List, sum_by}
use Rattle.scaled_num.specs.Sums.{below, total}
use Rattle.scaled_num.proofs.Sums.{total-below, total-same}
use Rattle.alpha_set.specs.Nodes.{nodes_of}
use Rattle.controller.specs.Certificates.{CertificateData, CertificateStands}
use Rattle.controller.specs.Starts.{IsStart, most_from, most_over}
use Rattle.game_model.specs.Game.{GameData, first_at, numbers, span}
use Rattle.game_model.specs.Numbers.{Numbers, RowsAreFull}
use Rattle.game_model.specs.Play.{always, pay}
use Rattle.game_model.specs.Seeds.{FixedActionEarns, KeepsSpan}
use Rattle.game_model.proofs.Pay.{each-from}
use Rattle.history_model.specs.Courses.{chance, courses, earned}
use Rattle.history_model.specs.Halves.{common, node_plan, point_plan}
use Rattle.history_model.specs.Machines.{node_weights, one_action, point_weights}
use Rattle.history_model.specs.Strategies.{InformedStrategy, OwnStrategy, informed_weights, own_weights}
use Rattle.history_model.specs.Trees.{informed_tree, own_tree}
use Rattle.point_set.specs.Points.{points_of}
use Rattle.promises.specs.Told.{Told}
use Rattle.promises.specs.Promises.{ActionEarns, AreDrawn, DrawsExactly, Earns, EarnsAt, EarnsInTheMean, HoldsDown, HoldsInTheMean, StartsAreDrawn, drawn, units}

-- ---- a node pays what its machine earns, and so does a point
node-pays : Told → (g : GameData) (k : CertificateData) → CertificateStands g k → (n coins s : ℕ) (strategy : InformedStrategy) (i : ℕ) → i < length k.nodes →
    pay (numbers g) n s (node_plan k i n) (informed_tree strategy s coins n [])
    ≡ earned (numbers g) (length k.nodes) coins n s (node_weights (nodes_of k.nodes) i) (informed_weights strategy s)
node-pays told g k stands n coins s strategy i li =
    told.pay (numbers g) (length k.nodes) coins (node_weights (nodes_of k.nodes) i) (informed_weights strategy s) n s (node_plan k i n) (informed_tree strategy s coins n [])
    (told.nodes g k stands n i li) (told.informed_plays (numbers g) coins n s strategy)

point-pays : Told → (g : GameData) (k : CertificateData) → CertificateStands g k → (n coins s : ℕ) (strategy : OwnStrategy) (j : ℕ) → j < length k.points →
    pay (numbers g) n s (own_tree strategy coins n []) (point_plan g k j s n)
    ≡ earned (numbers g) coins (length k.points) n s (own_weights strategy) (point_weights (numbers g) (points_of k.points) (common g k) j s)
point-pays told g k stands n coins s strategy j lj =
    told.pay (numbers g) coins (length k.points) (own_weights strategy) (point_weights (numbers g) (points_of k.points) (common g k) j s) n s (own_tree strategy coins n []) (point_plan g k j s n)
    (told.own_plays (numbers g) coins n strategy) (told.points g k stands n j s lj)

-- ---- both draws are draws
nodes-are_drawn : (g : GameData) (k : CertificateData) → CertificateStands g k → AreDrawn (length k.nodes) k.start_nodes
nodes-are_drawn g k stands = each-from (IsStart (length k.nodes) (pos most_from)) _ k.start_nodes (λ start h. (h.0, h.1.0)) stands.fits.starts.from.each

points-are_drawn : (g : GameData) (k : CertificateData) → CertificateStands g k → AreDrawn (length k.points) k.start_points
points-are_drawn g k stands = each-from (IsStart (length k.points) (pos most_over)) _ k.start_points (λ start h. (h.0, h.1.0)) stands.fits.starts.over.each

pub starts-are_drawn : Told → (g : GameData) (k : CertificateData) → CertificateStands g k → StartsAreDrawn g k
starts-are_drawn told g k stands =
    record {
      nodes = nodes-are_drawn g k stands;
      some_node = told.some_node g k stands;
      points = points-are_drawn g k stands;
      some_point = stands.fits.starts.multiple.0;
      make_up_first = told.make_up_first g k stands;
    }

-- what is the same of all members is the same drawn
drawn-same : (count : ℕ) (starts : List (ℕ × ℤ)) (f h : ℕ → ℤ) → AreDrawn count starts → ((i : ℕ) → i < count → f i ≡ h i) → drawn starts f ≡ drawn starts h
drawn-same count starts f h are same =
    total-same _ _ starts (each-from (λ start. (start.0 < count) × (pos 1 ≤ℤ start.1)) _ starts (λ start is. ap (λ (z : ℤ). start.1 *ℤ z) (same start.0 is.0)) are)

-- ---- the weights of all courses
pub earns-mean : Told → (g : GameData) (k : CertificateData) → RowsAreFull (numbers g) → CertificateStands g k → EarnsInTheMean g k
earns-mean told g k full stands n coins whole s i strategy ls li is =
    told.mean (numbers g) (length k.nodes) coins (node_weights (nodes_of k.nodes) i) (informed_weights strategy s) units whole n s (node_plan k i n) (informed_tree strategy s coins n []) full ls
    (told.node_plans g k stands n i li) (told.informed_plans (numbers g) coins whole n s strategy ls is) (told.nodes g k stands n i li) (told.informed_plays (numbers g) coins n s strategy)

pub holds-mean : Told → (g : GameData) (k : CertificateData) → RowsAreFull (numbers g) → CertificateStands g k → HoldsInTheMean g k
holds-mean told g k full stands n coins whole s j strategy ls lj is =
    subst (λ (z : ℕ). sum_by (chance (numbers g) n s (own_weights strategy) (point_weights (numbers g) (points_of k.points) z j s)) (courses (numbers g) coins (length k.points) n)
    ≡ ((numbers g).row_total * whole * units * z) ^ n) (told.multiple (numbers g) (points_of k.points) (length k.points))
    (told.mean (numbers g) coins (length k.points) (own_weights strategy) (point_weights (numbers g) (points_of k.points) (common g k) j s) whole (units * common g k) n s
    (own_tree strategy coins n []) (point_plan g k j s n) full ls
    (told.own_plans (numbers g) coins whole n strategy is) (told.point_plans g k stands n j s lj ls) (told.own_plays (numbers g) coins n strategy) (told.points g k stands n j s lj)
    ∙ ap (λ (x : ℕ). x ^ n) (regroup ((numbers g).row_total * whole) units (common g k)))
  where
    regroup : (a b c : ℕ) → a * (b * c) ≡ a * b * c
    regroup a b c = omega arith

pub draws : Told → (g : GameData) (k : CertificateData) → DrawsExactly g k
draws told g k = told.divide (numbers g) (points_of k.points) (length k.points)

-- ---- both halves
at-least : (e : ℕ) (a b c : ℤ) → b ≡ c → a ≤ℤ (pos e *ℤ b) → a ≤ℤ (pos e *ℤ c)
at-least e a b c same = subst (λ (z : ℤ). a ≤ℤ (pos e *ℤ z)) same

at-most : (e : ℕ) (a b c : ℤ) → b ≡ c → (pos e *ℤ b) ≤ℤ a → (pos e *ℤ c) ≤ℤ a
at-most e a b c same = subst (λ (z : ℤ). (pos e *ℤ z) ≤ℤ a) same

pub earns : Told → (g : GameData) (k : CertificateData) → KeepsSpan (numbers g) (span g) → CertificateStands g k → Earns g k
earns told g k keeps stands n coins whole strategy is =
    at-least units _ _ _
    (total-below g.shape.states _ _ (λ s ls. ap (λ (z : ℤ). pos (first_at g s) *ℤ z)
    (drawn-same (length k.nodes) k.start_nodes _ _ (nodes-are_drawn g k stands) (node-pays told g k stands n coins s strategy))))
    (told.lower g k keeps stands whole n (λ s. informed_tree strategy s coins n []) (λ s ls. told.informed_plans (numbers g) coins whole n s strategy ls is))

pub earns-at : Told → (g : GameData) (k : CertificateData) → KeepsSpan (numbers g) (span g) → CertificateStands g k → EarnsAt g k
earns-at told g k keeps stands n coins whole s strategy ls is =
    at-least units _ _ _
    (drawn-same (length k.nodes) k.start_nodes _ _ (nodes-are_drawn g k stands) (node-pays told g k stands n coins s strategy))
    (told.lower_at g k keeps stands whole n s (informed_tree strategy s coins n []) ls (told.informed_plans (numbers g) coins whole n s strategy ls is))

pub holds-down : Told → (g : GameData) (k : CertificateData) → KeepsSpan (numbers g) (span g) → CertificateStands g k → HoldsDown g k
holds-down told g k keeps stands n coins whole strategy is =
    let q : ℕ = (numbers g).discount_under ^ n in
    let t : ℕ = (numbers g).discount_over ^ n * span g * sum_by (first_at g) (below g.shape.states) in
    let sum = λ (z s : ℕ). drawn k.start_points (λ j. pos ((points_of k.points j).belief s) *ℤ
    earned (numbers g) coins (length k.points) n s (own_weights strategy) (point_weights (numbers g) (points_of k.points) z j s)) in
    subst (λ (z : ℕ). (pos units *ℤ total (sum z) (below g.shape.states)) ≤ℤ ((k.upper.num *ℤ pos q +ℤ k.multiple *ℤ pos t) *ℤ pos (((numbers g).row_total * whole * units * z) ^ n)))
    (told.multiple (numbers g) (points_of k.points) (length k.points))
    (at-most units _ _ _
    (total-below g.shape.states _ (sum (common g k)) (λ s ls.
    drawn-same (length k.points) k.start_points _ _ (points-are_drawn g k stands) (λ j lj.
    ap (λ (z : ℤ). pos ((points_of k.points j).belief s) *ℤ z) (point-pays told g k stands n coins s strategy j lj))))
    (told.upper g k keeps stands whole n (own_tree strategy coins n []) (told.own_plans (numbers g) coins whole n strategy is)))

-- ---- always one action
pub action-earns : Told → (g : Numbers) (first : ℕ → ℕ) (width action : ℕ) (lower : ℤ) → FixedActionEarns g first width action lower → ActionEarns g first width action lower
action-earns told g first width action lower half n coins whole strategy is =
    at-least units _ _ _
    (total-below g.states _ _ (λ s ls. ap (λ (z : ℤ). pos (first s) *ℤ z)
    (told.pay g 1 coins (one_action action) (informed_weights strategy s) n s (always action n) (informed_tree strategy s coins n [])
    (told.actions g action n) (told.informed_plays g coins n s strategy))))
    (half n whole (λ s. informed_tree strategy s coins n []) (λ s ls. told.informed_plans g coins whole n s strategy ls is))
