-- The bounds of a certificate that stands are small enough for their decimal places.
use Rattle.std.proofs.Common.{◌≡◌, ℕ, ◌*◌, ◌^◌, ◌<◌, ◌≤◌, List, length, get_or, ap, arith, sym, subst, ◌∙◌}
use Rattle.std.specs.Prelude.{ℤ, pos, neg_ℤ, ◌*ℤ◌, ◌≤ℤ◌, sum_by, unsigned_abs}
use Rattle.std.specs.List.{AllByRecursion}
use Rattle.std.proofs.lemmas.Int.{ints, unsigned_abs-mul}
use Rattle.std.proofs.lemmas.Nat.{mul-le}
use Rattle.scaled_num.specs.Share.{at}
use Rattle.scaled_num.specs.Sums.{below, sum_of, total}
use Rattle.scaled_num.proofs.Products.{magnitude-is}
use Rattle.scaled_num.proofs.Sums.{below-each, each-at, total-below, total-places, total-pos, total-same, total-scale, total-swap}
use Rattle.game_model.specs.Game.{GameData, IsGame, IsWithin, first_at, span}
use Rattle.game_model.proofs.Pay.{each-from}
use Rattle.game_model.proofs.Worth.{span-small, total-bound}
use Rattle.alpha_set.specs.Nodes.{NodeData, NodeFits, no_node, nodes_of}
use Rattle.point_set.specs.Corners.{point_at}
use Rattle.point_set.specs.Points.{PointData, PointFits, no_point, points_of}
use Rattle.controller.proofs.Places.{rules}
use Rattle.controller.proofs.StartSums.{entries-small, first-total-within}
use Rattle.controller.specs.Certificates.{CertificateData, CertificateStands, first_total, node_product}
use Rattle.controller.specs.Starts.{IsStart, MakesUpMultiple, most_from, most_over, weights_sum}

-- a product of the first belief with a node's vector
product-size : (g : GameData) → IsGame g → (nodes : List NodeData) (i : ℕ) → NodeFits g (length nodes) (get_or nodes i no_node) → unsigned_abs (node_product g nodes i) ≤ 2 ^ 86
product-size g h nodes i node =
    let each : AllByRecursion (λ s. unsigned_abs (pos (first_at g s) *ℤ (nodes_of nodes i).vector s) ≤ first_at g s * 2 ^ 66) (below g.shape.states) =
    below-each (λ s. unsigned_abs (pos (first_at g s) *ℤ (nodes_of nodes i).vector s) ≤ first_at g s * 2 ^ 66) g.shape.states (λ s l.
    rw (unsigned_abs-mul (pos (first_at g s)) ((nodes_of nodes i).vector s))
    (mul-le (first_at g s) (unsigned_abs ((nodes_of nodes i).vector s)) (first_at g s) (2 ^ 66) (omega arith)
    (each-at (λ x. unsigned_abs x ≤ 2 ^ 66) (pos 0) (get_or nodes i no_node).vector s (entries-small g h (length nodes) (get_or nodes i no_node) node) (subst (λ (n : ℕ). s < n) (sym node.long) l)))) in
    let upto : unsigned_abs (node_product g nodes i) ≤ first_total g * 2 ^ 66 = total-bound (λ s. pos (first_at g s) *ℤ (nodes_of nodes i).vector s) (first_at g) (2 ^ 66) (below g.shape.states) each in
    let few = (first-total-within g h).1 in
    omega (arith, upto, few)

-- weights that are not negative sum to their magnitudes' sum
weights-size : (starts : List (ℕ × ℤ)) → AllByRecursion (λ (start : ℕ × ℤ). pos 0 ≤ℤ start.1) starts → pos (sum_by (λ (start : ℕ × ℤ). unsigned_abs start.1) starts) ≡ weights_sum starts
weights-size starts all =
    sym (total-pos (λ (start : ℕ × ℤ). unsigned_abs start.1) starts)
    ∙ total-same (λ (start : ℕ × ℤ). pos (unsigned_abs start.1)) (λ (start : ℕ × ℤ). start.1) starts
    (each-from (λ (start : ℕ × ℤ). pos 0 ≤ℤ start.1) (λ (start : ℕ × ℤ). pos (unsigned_abs start.1) ≡ start.1) starts (λ start l. sym (magnitude-is start.1 l)) all)

not_negative : (x most : ℤ) → IsWithin (pos 1) most x → pos 0 ≤ℤ x
not_negative x most w = let low = w.0 in omega (arith, ints)

pub lower-small : (g : GameData) (k : CertificateData) → IsGame g → CertificateStands g k → unsigned_abs k.lower.num ≤ 2 ^ 104
lower-small g k game stands =
    let fits = stands.fits in
    let each = fits.starts.from.each in
    let P : ℕ × ℤ → Type 0 = IsStart (length k.nodes) (pos most_from) in
    let size = total-bound (λ (start : ℕ × ℤ). start.1 *ℤ node_product g k.nodes start.0) (λ (start : ℕ × ℤ). unsigned_abs start.1) (2 ^ 86) k.start_nodes
    (each-from P (λ (start : ℕ × ℤ). unsigned_abs (start.1 *ℤ node_product g k.nodes start.0) ≤ unsigned_abs start.1 * 2 ^ 86) k.start_nodes (λ start i.
    rw (unsigned_abs-mul start.1 (node_product g k.nodes start.0))
    (mul-le (unsigned_abs start.1) (unsigned_abs (node_product g k.nodes start.0)) (unsigned_abs start.1) (2 ^ 86) (omega arith)
    (product-size g game k.nodes start.0 (each-at (NodeFits g (length k.nodes)) no_node k.nodes start.0 fits.nodes i.0)))) each) in
    let sum = weights-size k.start_nodes (each-from P (λ (start : ℕ × ℤ). pos 0 ≤ℤ start.1) k.start_nodes (λ start i. not_negative start.1 _ i.1) each) in
    subst (λ (z : ℤ). unsigned_abs z ≤ 2 ^ 104) (sym (rules g k stands.holds).bound.0.0)
    (most (unsigned_abs (total (λ (start : ℕ × ℤ). start.1 *ℤ node_product g k.nodes start.0) k.start_nodes)) (sum_by (λ (start : ℕ × ℤ). unsigned_abs start.1) k.start_nodes) (weights_sum k.start_nodes) sum fits.starts.from_sum size)
  where
    most : (n s : ℕ) (w : ℤ) → pos s ≡ w → w ≤ℤ pos most_from → n ≤ s * 2 ^ 86 → n ≤ 2 ^ 104
    most n s w e l h = let small : s ≤ 65536 = omega (arith, ints, e, l) in omega (arith, small, h)

-- ---- the start points
-- the total of a start point's belief, times its weight
brought : List PointData → ℕ × ℤ → ℤ
brought points start = start.1 *ℤ sum_of (point_at points start.0).belief

belief-sum : (g : GameData) (belief : List ℤ) → length belief ≡ g.shape.states → total (at belief) (below g.shape.states) ≡ sum_of belief
belief-sum g belief long = subst (λ (n : ℕ). total (at belief) (below n) ≡ sum_of belief) long (total-places (λ x. x) (pos 0) belief)

-- weights times totals of beliefs sum to the multiple of the first belief's total
brought-total : (g : GameData) (points : List PointData) (starts : List (ℕ × ℤ)) (times : ℤ) → IsGame g → AllByRecursion (PointFits g (length points)) points →
    AllByRecursion (IsStart (length points) (pos most_over)) starts → MakesUpMultiple points starts times g.first g.shape.states →
    total (λ (start : ℕ × ℤ). start.1 *ℤ sum_of (point_at points start.0).belief) starts ≡ times *ℤ sum_of g.first
brought-total g points starts times game all each sums =
    total-same (λ (start : ℕ × ℤ). start.1 *ℤ sum_of (point_at points start.0).belief) (λ (start : ℕ × ℤ). total (λ s. start.1 *ℤ at (point_at points start.0).belief s) (below g.shape.states)) starts
    (each-from (IsStart (length points) (pos most_over)) (λ (start : ℕ × ℤ). start.1 *ℤ sum_of (point_at points start.0).belief ≡ total (λ s. start.1 *ℤ at (point_at points start.0).belief s) (below g.shape.states)) starts
    (λ start i.
    let point = each-at (PointFits g (length points)) no_point points start.0 all i.0 in
    ap (λ (z : ℤ). start.1 *ℤ z) (sym (belief-sum g (point_at points start.0).belief point.belief.long)) ∙ sym (total-scale start.1 (at (point_at points start.0).belief) (below g.shape.states)))
    each)
    ∙ total-swap (λ (start : ℕ × ℤ) (s : ℕ). start.1 *ℤ at (point_at points start.0).belief s) starts (below g.shape.states)
    ∙ total-below g.shape.states (λ s. total (λ (start : ℕ × ℤ). start.1 *ℤ at (point_at points start.0).belief s) starts) (λ s. times *ℤ at g.first s) sums
    ∙ total-scale times (at g.first) (below g.shape.states)
    ∙ ap (λ (z : ℤ). times *ℤ z) (belief-sum g g.first game.first.long)

value-most : (V : ℕ) (t y : ℤ) → pos 0 ≤ℤ t → IsWithin (neg_ℤ (pos V *ℤ t)) (pos V *ℤ t) y → unsigned_abs y ≤ V * unsigned_abs t
value-most V t y lt w = by_abs (V * unsigned_abs t) y (subst (λ (z : ℤ). IsWithin (neg_ℤ (pos V *ℤ z)) (pos V *ℤ z) y) (magnitude-is t lt) w)
  where
    by_abs : (m : ℕ) (y : ℤ) → IsWithin (neg_ℤ (pos m)) (pos m) y → unsigned_abs y ≤ m
    by_abs m y w = let low = w.0 in let high = w.1 in omega (arith, ints)

pub upper-small : (g : GameData) (k : CertificateData) → IsGame g → CertificateStands g k → unsigned_abs k.upper.num ≤ 2 ^ 104
upper-small g k game stands =
    let fits = stands.fits in
    let each = fits.starts.over.each in
    let here = rules g k stands.holds in
    let P : ℕ × ℤ → Type 0 = IsStart (length k.points) (pos most_over) in
    let t : ℕ × ℤ → ℤ = λ start. sum_of (point_at k.points start.0).belief in
    let y : ℕ × ℤ → ℤ = λ start. (points_of k.points start.0).value in
    let w : ℕ × ℤ → ℕ = λ start. unsigned_abs start.1 * unsigned_abs (t start) in
    let size = total-bound (λ (start : ℕ × ℤ). start.1 *ℤ y start) w (2 ^ 66) k.start_points
    (each-from P (λ (start : ℕ × ℤ). unsigned_abs (start.1 *ℤ y start) ≤ w start * 2 ^ 66) k.start_points (λ start i.
    let point = each-at (PointFits g (length k.points)) no_point k.points start.0 fits.points i.0 in
    rw (unsigned_abs-mul start.1 (y start))
    (grown (unsigned_abs start.1) (unsigned_abs (y start)) (unsigned_abs (t start)) (span g) (span-small g game) (value-most (span g) (t start) (y start) (not_negative (t start) _ point.belief.sums) point.value))) each) in
    let same : total (λ start. pos (w start)) k.start_points ≡ total (λ (start : ℕ × ℤ). start.1 *ℤ t start) k.start_points =
    total-same (λ start. pos (w start)) (λ (start : ℕ × ℤ). start.1 *ℤ t start) k.start_points
    (each-from P (λ (start : ℕ × ℤ). pos (w start) ≡ start.1 *ℤ t start) k.start_points (λ start i.
    let point = each-at (PointFits g (length k.points)) no_point k.points start.0 fits.points i.0 in
    times-magnitudes start.1 (t start) (not_negative start.1 _ i.1) (not_negative (t start) _ point.belief.sums)) each) in
    let whole = sym (total-pos w k.start_points) ∙ same ∙ brought-total g k.points k.start_points k.multiple game fits.points each here.start in
    subst (λ (z : ℤ). unsigned_abs z ≤ 2 ^ 104) (sym here.bound.1.0)
    (most (unsigned_abs (total (λ (start : ℕ × ℤ). start.1 *ℤ y start) k.start_points)) (sum_by w k.start_points) k.multiple (sum_of g.first) whole fits.starts.multiple game.first.sums size)
  where
    grown : (z y t V : ℕ) → V ≤ 2 ^ 66 → y ≤ V * t → z * y ≤ z * t * 2 ^ 66
    grown z y t V lv ly =
        let first : z * y ≤ z * (V * t) = mul-le z y z (V * t) (omega arith) ly in
        let second : (z * t) * V ≤ (z * t) * 2 ^ 66 = mul-le (z * t) V (z * t) (2 ^ 66) (omega arith) lv in
        let same : z * (V * t) ≡ (z * t) * V = omega arith in
        omega (arith, first, second, same)

    times-magnitudes : (x t : ℤ) → pos 0 ≤ℤ x → pos 0 ≤ℤ t → pos (unsigned_abs x * unsigned_abs t) ≡ x *ℤ t
    times-magnitudes x t lx lt = sym (ap (λ (z : ℤ). z *ℤ t) (magnitude-is x lx) ∙ ap (λ (z : ℤ). pos (unsigned_abs x) *ℤ z) (magnitude-is t lt))

    most : (n s : ℕ) (m b : ℤ) → pos s ≡ m *ℤ b → IsWithin (pos 1) (pos most_from) m → IsWithin (pos 1) (pos (2 ^ 20)) b → n ≤ s * 2 ^ 66 → n ≤ 2 ^ 104
    most n s m b e lm lb h =
        let is : pos s ≡ pos (unsigned_abs m * unsigned_abs b) = e ∙ sym (times-magnitudes m b (not_negative m _ lm) (not_negative b _ lb)) in
        let product : unsigned_abs m * unsigned_abs b ≤ 2 ^ 16 * 2 ^ 20 = mul-le (unsigned_abs m) (unsigned_abs b) (2 ^ 16) (2 ^ 20) (size m (2 ^ 16) lm) (size b (2 ^ 20) lb) in
        let small : s ≤ 2 ^ 36 = down s (unsigned_abs m * unsigned_abs b) is product in
        omega (arith, small, h)
      where
        size : (x : ℤ) (n : ℕ) → IsWithin (pos 1) (pos n) x → unsigned_abs x ≤ n
        size x n w = let low = w.0 in let high = w.1 in omega (arith, ints)

        down : (s p : ℕ) → pos s ≡ pos p → p ≤ 2 ^ 16 * 2 ^ 20 → s ≤ 2 ^ 36
        down s p e l = omega (arith, ints, e, l)

pub tail-small : (g : GameData) (k : CertificateData) → IsGame g → CertificateStands g k → unsigned_abs k.tail.num ≤ 2 ^ 104
tail-small g k game stands =
    subst (λ (z : ℤ). unsigned_abs z ≤ 2 ^ 104) (sym (rules g k stands.holds).bound.2.0) (let h = span-small g game in omega arith)
