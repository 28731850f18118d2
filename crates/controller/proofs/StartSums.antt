-- Sums over starts: they are few, and the sums are small.
use Rattle.game_model.specs.Limits.{most_members}
use Rattle.std.proofs.Common.{◌≡◌, ℕ, zero, suc, ◌+◌, ◌*◌, ◌^◌, ◌<◌, ◌≤◌, List, [], ◌∷◌, length, get_or, ap, arith, sym, subst, ◌∙◌}
use Rattle.std.specs.Prelude.{ℤ, pos, neg_ℤ, ◌+ℤ◌, ◌*ℤ◌, ◌≤ℤ◌, ◌<ℤ◌, unsigned_abs, FitsSigned}
use Rattle.std.specs.Int.{w128}
use Rattle.std.specs.List.{AllByRecursion, range_with_len}
use Rattle.std.proofs.lemmas.Int.{fits_signed_from_abs, ints, unsigned_abs-mul}
use Rattle.std.proofs.lemmas.Nat.{mul-le}
use Rattle.scaled_num.specs.Share.{at}
use Rattle.scaled_num.specs.Sums.{below, sum_of, total}
use Rattle.scaled_num.proofs.Products.{abs-add, le-mulℤ, magnitude-is, sums}
use Rattle.scaled_num.proofs.Sums.{each-at, total-below, total-below-le, total-places, total-pos, total-scale}
use Rattle.game_model.specs.Game.{GameData, IsGame, IsWithin, first_at, span}
use Rattle.game_model.proofs.Pay.{each-from}
use Rattle.game_model.proofs.Worth.{span-small}
use Rattle.alpha_set.specs.Nodes.{NodeData, NodeFits, no_node, nodes_of}
use Rattle.point_set.specs.Corners.{point_at}
use Rattle.point_set.specs.Points.{PointData, PointFits, no_point, points_of}
use Rattle.controller.specs.Certificates.{first_total, node_product}
use Rattle.controller.specs.Starts.{AreStarts, IsStart, MakesUpMultiple, most_from, most_over, weights_sum}
use Rattle.controller.specs.Sums.{AreFewStarts, IsSmallValue}
use Rattle.controller.proofs.Totals.{each-below_total, starts-few}

-- the total of the first belief
pub first-total-is : (g : GameData) → IsGame g → sum_of g.first ≡ pos (first_total g)
first-total-is g h =
    sym (total-places (λ x. x) (pos 0) g.first)
    ∙ ap (λ (n : ℕ). total (λ i. get_or g.first i (pos 0)) (below n)) h.first.long
    ∙ total-below g.shape.states (λ i. get_or g.first i (pos 0)) (λ i. pos (first_at g i))
    (λ i l. magnitude-is (get_or g.first i (pos 0)) (each-at (IsWithin (pos 0) (pos (2 ^ 20))) (pos 0) g.first i h.first.each (subst (λ (n : ℕ). i < n) (sym h.first.long) l)).0)
    ∙ total-pos (first_at g) (below g.shape.states)

pub first-total-within : (g : GameData) → IsGame g → (1 ≤ first_total g) × (first_total g ≤ 2 ^ 20)
first-total-within g h =
    let w : IsWithin (pos 1) (pos (2 ^ 20)) (pos (first_total g)) = subst (IsWithin (pos 1) (pos (2 ^ 20))) (first-total-is g h) h.first.sums in
    let low = w.0 in
    let high = w.1 in
    (omega (arith, ints), omega (arith, ints))

-- the product of the first belief with a vector within the span
within : (V : ℕ) (x : ℤ) → IsWithin (neg_ℤ (pos V)) (pos V) x → unsigned_abs x ≤ V
within V x h = let low = h.0 in let high = h.1 in omega (arith, ints)

weight-small : (x : ℤ) → IsWithin (pos 0) (pos (2 ^ 20)) x → unsigned_abs x ≤ 2 ^ 20
weight-small x h = let low = h.0 in let high = h.1 in omega (arith, ints)

pub entries-small : (g : GameData) → IsGame g → (n : ℕ) (node : NodeData) → NodeFits g n node → AllByRecursion (λ x. unsigned_abs x ≤ 2 ^ 66) node.vector
entries-small g h n node f =
    each-from (IsWithin (neg_ℤ (pos (span g))) (pos (span g))) (λ x. unsigned_abs x ≤ 2 ^ 66) node.vector (λ x w. omega (arith, within (span g) x w, span-small g h)) f.entries

-- a sum is no larger than its terms times their number
range-most : (f : ℕ → ℤ) (a n most : ℕ) → ((i : ℕ) → a ≤ i → i < a + n → unsigned_abs (f i) ≤ most) → unsigned_abs (total f (range_with_len a n)) ≤ n * most
range-most f a zero most h = omega arith
range-most f a (suc n) most h =
    omega (arith, abs-add (f a) (total f (range_with_len (a + 1) n)), h a (omega arith) (omega arith), range-most f (a + 1) n most (λ i l m. h i (omega arith) (omega arith)))

below-most : (f : ℕ → ℤ) (n most : ℕ) → ((i : ℕ) → i < n → unsigned_abs (f i) ≤ most) → unsigned_abs (total f (below n)) ≤ n * most
below-most f n most h = range-most f 0 n most (λ i l m. h i (omega arith))

pub product-small : (g : GameData) → IsGame g → (nodes : List NodeData) (n i : ℕ) → NodeFits g n (get_or nodes i no_node) → unsigned_abs (node_product g nodes i) ≤ 2 ^ 90
product-small g h nodes n i node =
    let few = h.shape.states.1 in
    let upto = below-most (λ s. pos (first_at g s) *ℤ (nodes_of nodes i).vector s) g.shape.states (2 ^ 86) (λ s l.
    rw (unsigned_abs-mul (pos (first_at g s)) ((nodes_of nodes i).vector s))
    (mul-le (first_at g s) (unsigned_abs ((nodes_of nodes i).vector s)) (2 ^ 20) (2 ^ 66)
    (weight-small (get_or g.first s (pos 0)) (each-at (IsWithin (pos 0) (pos (2 ^ 20))) (pos 0) g.first s h.first.each (subst (λ (n : ℕ). s < n) (sym h.first.long) l)))
    (each-at (λ x. unsigned_abs x ≤ 2 ^ 66) (pos 0) (get_or nodes i no_node).vector s (entries-small g h n (get_or nodes i no_node) node) (subst (λ (n : ℕ). s < n) (sym node.long) l)))) in
    omega (arith, upto)

-- ---- starts are few
pub few-starts : (count : ℕ) (most : ℤ) (starts : List (ℕ × ℤ)) → count ≤ most_members → AreStarts count most starts → AreFewStarts count most starts
few-starts count most starts l h =
    record {
      few = omega (arith, l, starts-few count starts h.rising (each-from (IsStart count most) _ starts (λ start i. i.0) h.each));
      each = h.each;
    }

-- ---- the values of start points
start-weight : (x most : ℤ) → IsWithin (pos 1) most x → pos 0 ≤ℤ x
start-weight x most h = let low = h.0 in omega (arith, ints)

-- a point's belief, by states, sums to its total
belief-sum : (g : GameData) (belief : List ℤ) → length belief ≡ g.shape.states → total (at belief) (below g.shape.states) ≡ sum_of belief
belief-sum g belief long = subst (λ (n : ℕ). total (at belief) (below n) ≡ sum_of belief) long (total-places (λ x. x) (pos 0) belief)

not-negative-product : (x y : ℤ) → pos 0 ≤ℤ x → pos 0 ≤ℤ y → pos 0 ≤ℤ (x *ℤ y)
not-negative-product x y h k = rw (magnitude-is x h, magnitude-is y k) (omega (arith, ints))

-- points and starts among them that make up a multiple of the first belief
pub record MakeUp (g : GameData) (points : List PointData) (starts : List (ℕ × ℤ)) (times : ℤ) : Type 0 where
  pub game : IsGame g
  pub all : AllByRecursion (PointFits g (length points)) points
  pub each : AllByRecursion (IsStart (length points) (pos most_over)) starts
  pub within : IsWithin (pos 1) (pos most_from) times
  pub sums : MakesUpMultiple points starts times g.first g.shape.states

point-in : (g : GameData) (points : List PointData) → AllByRecursion (PointFits g (length points)) points → (j : ℕ) → j < length points → PointFits g (length points) (point_at points j)
point-in g points h j l = each-at (PointFits g (length points)) no_point points j h l

-- a start point brings no more to a state than all of them
part-most : (g : GameData) (points : List PointData) (starts : List (ℕ × ℤ)) (times : ℤ) → MakeUp g points starts times → (s : ℕ) → s < g.shape.states →
    AllByRecursion (λ (start : ℕ × ℤ). (start.1 *ℤ at (point_at points start.0).belief s) ≤ℤ (times *ℤ at g.first s)) starts
part-most g points starts times m s ls =
    subst (λ (z : ℤ). AllByRecursion (λ (start : ℕ × ℤ). (start.1 *ℤ at (point_at points start.0).belief s) ≤ℤ z) starts) (m.sums s ls)
    (each-below_total (λ (start : ℕ × ℤ). start.1 *ℤ at (point_at points start.0).belief s) starts
    (each-from (IsStart (length points) (pos most_over)) _ starts
    (λ start i.
    let point = point-in g points m.all start.0 i.0 in
    not-negative-product start.1 (at (point_at points start.0).belief s) (start-weight start.1 _ i.1)
    (each-at (IsWithin (pos 0) (pos (2 ^ 20))) (pos 0) (point_at points start.0).belief s point.belief.each (subst (λ (n : ℕ). s < n) (sym point.belief.long) ls)).0)
    m.each))

-- what holds of each at every index holds at every index of each
each-swap : {X : Type 0} (P : ℕ → X → Type 0) (n : ℕ) (xs : List X) → ((s : ℕ) → s < n → AllByRecursion (P s) xs) → AllByRecursion (λ x. (s : ℕ) → s < n → P s x) xs
each-swap P n [] h = tt
each-swap P n (x ∷ xs) h = (λ s l. (h s l).0, each-swap P n xs (λ s l. (h s l).1))

pub each-two : {X : Type 0} (P Q R : X → Type 0) (xs : List X) → ((x : X) → P x → Q x → R x) → AllByRecursion P xs → AllByRecursion Q xs → AllByRecursion R xs
each-two P Q R [] f p q = tt
each-two P Q R (x ∷ xs) f p q = (f x p.0 q.0, each-two P Q R xs f p.1 q.1)

-- so its weight times its belief's total is at most that of the multiple of the first belief
total-most : (g : GameData) (points : List PointData) (starts : List (ℕ × ℤ)) (times : ℤ) → MakeUp g points starts times →
    AllByRecursion (λ (start : ℕ × ℤ). (start.1 *ℤ sum_of (point_at points start.0).belief) ≤ℤ (times *ℤ sum_of g.first)) starts
total-most g points starts times m =
    let parts = each-swap (λ (s : ℕ) (start : ℕ × ℤ). (start.1 *ℤ at (point_at points start.0).belief s) ≤ℤ (times *ℤ at g.first s)) g.shape.states starts (part-most g points starts times m) in
    each-two (IsStart (length points) (pos most_over)) _ (λ (start : ℕ × ℤ). (start.1 *ℤ sum_of (point_at points start.0).belief) ≤ℤ (times *ℤ sum_of g.first)) starts
    (λ start i below_multiple.
    let point = point-in g points m.all start.0 i.0 in
    let upto = total-below-le g.shape.states (λ s. start.1 *ℤ at (point_at points start.0).belief s) (λ s. times *ℤ at g.first s) below_multiple in
    ends _ _ _ _ upto
    (total-scale start.1 (at (point_at points start.0).belief) (below g.shape.states) ∙ ap (λ (z : ℤ). start.1 *ℤ z) (belief-sum g (point_at points start.0).belief point.belief.long))
    (total-scale times (at g.first) (below g.shape.states) ∙ ap (λ (z : ℤ). times *ℤ z) (belief-sum g g.first m.game.first.long)))
    m.each parts
  where
    ends : (a b c d : ℤ) → a ≤ℤ b → a ≡ c → b ≡ d → c ≤ℤ d
    ends a b c d h e f = omega (arith, sums)

-- a weight times a value within the span
weighted-small : (V z y t m b : ℕ) → V ≤ 2 ^ 66 → y ≤ V * t → z * t ≤ m * b → m ≤ 2 ^ 16 → b ≤ 2 ^ 20 → z * y ≤ 2 ^ 102
weighted-small V z y t m b lv ly lt lm lb =
    let first : z * y ≤ z * (V * t) = mul-le z y z (V * t) (omega arith) ly in
    let same : z * (V * t) ≡ V * (z * t) = omega arith in
    let room : m * b ≤ 2 ^ 16 * 2 ^ 20 = mul-le m b (2 ^ 16) (2 ^ 20) lm lb in
    let second : V * (z * t) ≤ 2 ^ 66 * (2 ^ 16 * 2 ^ 20) = mul-le V (z * t) (2 ^ 66) (2 ^ 16 * 2 ^ 20) lv (omega (arith, lt, room)) in
    omega (arith, first, same, second)

pub values-tight : (g : GameData) (points : List PointData) (starts : List (ℕ × ℤ)) (times : ℤ) → MakeUp g points starts times →
    AllByRecursion (λ (start : ℕ × ℤ). unsigned_abs (start.1 *ℤ (points_of points start.0).value) ≤ 2 ^ 102) starts
values-tight g points starts times m =
    each-two (IsStart (length points) (pos most_over)) _ (λ (start : ℕ × ℤ). unsigned_abs (start.1 *ℤ (points_of points start.0).value) ≤ 2 ^ 102) starts
    (λ start i upto.
    let point = point-in g points m.all start.0 i.0 in
    let mass : ℤ = sum_of (point_at points start.0).belief in
    rw (unsigned_abs-mul start.1 (points_of points start.0).value)
    (weighted-small (span g) (unsigned_abs start.1) (unsigned_abs (points_of points start.0).value) (unsigned_abs mass) (unsigned_abs times) (unsigned_abs (sum_of g.first))
    (span-small g m.game)
    (value-most (span g) mass (points_of points start.0).value (one-low mass point.belief.sums) point.value)
    (magnitudes start.1 mass times (sum_of g.first) (start-weight start.1 _ i.1) (one-low mass point.belief.sums) (start-weight times _ m.within) (one-low (sum_of g.first) m.game.first.sums) upto)
    (most times m.within) (weight-small (sum_of g.first) (wider (sum_of g.first) m.game.first.sums))))
    m.each (total-most g points starts times m)
  where
    one-low : (x : ℤ) → IsWithin (pos 1) (pos (2 ^ 20)) x → pos 0 ≤ℤ x
    one-low x w = let low = w.0 in omega (arith, ints)

    wider : (x : ℤ) → IsWithin (pos 1) (pos (2 ^ 20)) x → IsWithin (pos 0) (pos (2 ^ 20)) x
    wider x w = let low = w.0 in (omega (arith, ints), w.1)

    most : (x : ℤ) → IsWithin (pos 1) (pos most_from) x → unsigned_abs x ≤ 2 ^ 16
    most x w = let low = w.0 in let high = w.1 in omega (arith, ints)

    value-most : (V : ℕ) (t y : ℤ) → pos 0 ≤ℤ t → IsWithin (neg_ℤ (pos V *ℤ t)) (pos V *ℤ t) y → unsigned_abs y ≤ V * unsigned_abs t
    value-most V t y lt w = by_abs (V * unsigned_abs t) y (subst (λ (z : ℤ). IsWithin (neg_ℤ (pos V *ℤ z)) (pos V *ℤ z) y) (magnitude-is t lt) w)
      where
        by_abs : (m : ℕ) (y : ℤ) → IsWithin (neg_ℤ (pos m)) (pos m) y → unsigned_abs y ≤ m
        by_abs m y w = let low = w.0 in let high = w.1 in omega (arith, ints)

    magnitudes : (z t m b : ℤ) → pos 0 ≤ℤ z → pos 0 ≤ℤ t → pos 0 ≤ℤ m → pos 0 ≤ℤ b → (z *ℤ t) ≤ℤ (m *ℤ b) → unsigned_abs z * unsigned_abs t ≤ unsigned_abs m * unsigned_abs b
    magnitudes z t m b lz lt lm lb h =
        down (unsigned_abs z * unsigned_abs t) (unsigned_abs m * unsigned_abs b)
        (subst (λ (x : ℤ). (x *ℤ pos (unsigned_abs t)) ≤ℤ (pos (unsigned_abs m * unsigned_abs b))) (magnitude-is z lz)
        (subst (λ (x : ℤ). (z *ℤ x) ≤ℤ (pos (unsigned_abs m * unsigned_abs b))) (magnitude-is t lt)
        (subst (λ (x : ℤ). (z *ℤ t) ≤ℤ (pos (unsigned_abs m) *ℤ x)) (magnitude-is b lb) (subst (λ (x : ℤ). (z *ℤ t) ≤ℤ (x *ℤ b)) (magnitude-is m lm) h))))
      where
        down : (x y : ℕ) → pos x ≤ℤ pos y → x ≤ y
        down x y l = omega (arith, ints)

pub values-small : (g : GameData) (points : List PointData) (starts : List (ℕ × ℤ)) (times : ℤ) → MakeUp g points starts times → AllByRecursion (IsSmallValue points) starts
values-small g points starts times m =
    each-from (λ (start : ℕ × ℤ). unsigned_abs (start.1 *ℤ (points_of points start.0).value) ≤ 2 ^ 102) (IsSmallValue points) starts (λ start l. omega (arith, l)) (values-tight g points starts times m)

-- ---- one term of a sum
pub record PartFits (x b : ℤ) : Type 0 where
  pub weight : FitsSigned w128 x
  pub number : FitsSigned w128 b
  pub product : FitsSigned w128 (x *ℤ b)
  pub small : unsigned_abs (x *ℤ b) ≤ 2 ^ 110

pub part-fits : (x b : ℤ) (m n : ℕ) → unsigned_abs x ≤ m → unsigned_abs b ≤ n → m ≤ 2 ^ 110 → n ≤ 2 ^ 110 → m * n ≤ 2 ^ 110 → PartFits x b
part-fits x b m n lx lb lm ln h =
    let small : unsigned_abs (x *ℤ b) ≤ 2 ^ 110 = rw (unsigned_abs-mul x b) (omega (arith, mul-le (unsigned_abs x) (unsigned_abs b) m n lx lb, h)) in
    record {
      weight = fits_signed_from_abs w128 x (omega arith);
      number = fits_signed_from_abs w128 b (omega arith);
      product = fits_signed_from_abs w128 (x *ℤ b) (omega arith);
      small = small;
    }

-- a weight of 1 to the most
pub weight-most : (x : ℤ) (most : ℕ) → IsWithin (pos 1) (pos most) x → unsigned_abs x ≤ most
weight-most x most w = let low = w.0 in let high = w.1 in omega (arith, ints)

-- an entry of a point's belief
pub belief-small : (g : GameData) (points : List PointData) → AllByRecursion (PointFits g (length points)) points → (j s : ℕ) → j < length points → s < g.shape.states →
    unsigned_abs (at (point_at points j).belief s) ≤ 2 ^ 20
belief-small g points all j s lj ls =
    let point = point-in g points all j lj in
    weight-small (at (point_at points j).belief s) (each-at (IsWithin (pos 0) (pos (2 ^ 20))) (pos 0) (point_at points j).belief s point.belief.each (subst (λ (n : ℕ). s < n) (sym point.belief.long) ls))

pub node-in : (g : GameData) (nodes : List NodeData) → AllByRecursion (NodeFits g (length nodes)) nodes → (i : ℕ) → i < length nodes → NodeFits g (length nodes) (get_or nodes i no_node)
node-in g nodes h i l = each-at (NodeFits g (length nodes)) no_node nodes i h l

pub belief-part : (g : GameData) (points : List PointData) (start : ℕ × ℤ) (s : ℕ) → AllByRecursion (PointFits g (length points)) points → IsStart (length points) (pos most_over) start → s < g.shape.states →
    PartFits start.1 (at (point_at points start.0).belief s)
belief-part g points start s all h ls =
    part-fits start.1 (at (point_at points start.0).belief s) (2 ^ 36) (2 ^ 20) (weight-most start.1 (2 ^ 36) h.1) (belief-small g points all start.0 s h.0 ls) (omega arith) (omega arith) (omega arith)

pub product-part : (g : GameData) → IsGame g → (nodes : List NodeData) (start : ℕ × ℤ) → AllByRecursion (NodeFits g (length nodes)) nodes → IsStart (length nodes) (pos most_from) start →
    PartFits start.1 (node_product g nodes start.0)
product-part g game nodes start all h =
    part-fits start.1 (node_product g nodes start.0) (2 ^ 16) (2 ^ 90) (weight-most start.1 (2 ^ 16) h.1) (product-small g game nodes (length nodes) start.0 (node-in g nodes all start.0 h.0)) (omega arith) (omega arith) (omega arith)

-- entries of a node's vector are narrow enough for its product with the first belief
pub entries-narrow : (g : GameData) → IsGame g → (nodes : List NodeData) (i : ℕ) → AllByRecursion (NodeFits g (length nodes)) nodes → i < length nodes →
    AllByRecursion (λ x. unsigned_abs x ≤ 2 ^ 70) (get_or nodes i no_node).vector
entries-narrow g game nodes i all li =
    each-from (λ x. unsigned_abs x ≤ 2 ^ 66) (λ x. unsigned_abs x ≤ 2 ^ 70) (get_or nodes i no_node).vector (λ x l. omega (arith, l))
    (entries-small g game (length nodes) (get_or nodes i no_node) (node-in g nodes all i li))

-- ---- the denominators of bounds
pub record DenominatorFits (x b : ℤ) : Type 0 where
  pub times : FitsSigned w128 x
  pub scale : FitsSigned w128 b
  pub product : FitsSigned w128 (x *ℤ b)
  pub positive : pos 0 <ℤ (x *ℤ b)

pub denominator-fits : (x b : ℤ) → IsWithin (pos 1) (pos most_from) x → pos 1 ≤ℤ b → b ≤ℤ pos (2 ^ 36) → DenominatorFits x b
denominator-fits x b w low high =
    let first = w.0 in
    let last = w.1 in
    let small : unsigned_abs (x *ℤ b) ≤ 2 ^ 52 = rw (unsigned_abs-mul x b) (omega (arith, mul-le (unsigned_abs x) (unsigned_abs b) (2 ^ 16) (2 ^ 36) (omega (arith, ints)) (omega (arith, ints)))) in
    let more : (pos (unsigned_abs x) *ℤ pos 1) ≤ℤ (pos (unsigned_abs x) *ℤ b) = le-mulℤ (unsigned_abs x) (pos 1) b low in
    let same : pos (unsigned_abs x) ≡ x = sym (magnitude-is x (omega (arith, ints))) in
    let one : pos (unsigned_abs x) *ℤ pos 1 ≡ pos (unsigned_abs x) = omega (arith, ints) in
    record {
      times = fits_signed_from_abs w128 x (omega (arith, ints));
      scale = fits_signed_from_abs w128 b (omega (arith, ints));
      product = fits_signed_from_abs w128 (x *ℤ b) (omega arith);
      positive = omega (arith, sums, more, one, same, first, ap (λ (z : ℤ). z *ℤ b) same);
    }

-- the weights of starts sum to at least 1
pub weights-positive : (starts : List (ℕ × ℤ)) (count : ℕ) (most : ℤ) → AreStarts count most starts → pos 1 ≤ℤ weights_sum starts
weights-positive starts count most h = first starts h.some (each-from (IsStart count most) _ starts (λ start i. i.1.0) h.each)
  where
    not_less : (starts : List (ℕ × ℤ)) → AllByRecursion (λ (start : ℕ × ℤ). pos 1 ≤ℤ start.1) starts → pos 0 ≤ℤ weights_sum starts
    not_less [] all = omega (arith, ints)
    not_less (x ∷ xs) all = join x.1 (weights_sum xs) all.0 (not_less xs all.1)
      where
        join : (x y : ℤ) → pos 1 ≤ℤ x → pos 0 ≤ℤ y → pos 0 ≤ℤ (x +ℤ y)
        join x y h k = omega (arith, ints)

    first : (starts : List (ℕ × ℤ)) → 1 ≤ length starts → AllByRecursion (λ (start : ℕ × ℤ). pos 1 ≤ℤ start.1) starts → pos 1 ≤ℤ weights_sum starts
    first [] l all = absurd (omega arith)
    first (x ∷ xs) l all = more x.1 (weights_sum xs) all.0 (not_less xs all.1)
      where
        more : (x y : ℤ) → pos 1 ≤ℤ x → pos 0 ≤ℤ y → pos 1 ≤ℤ (x +ℤ y)
        more x y h k = omega (arith, ints)

-- the weights of start nodes are those of which a sum is asked
pub from-within : (starts : List (ℕ × ℤ)) (count : ℕ) (most : ℤ) → AreStarts count most starts → AllByRecursion (λ (start : ℕ × ℤ). IsWithin (pos 1) most start.1) starts
from-within starts count most h = each-from (IsStart count most) _ starts (λ start i. i.1) h.each
