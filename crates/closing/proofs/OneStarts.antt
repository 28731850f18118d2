-- Certificates whose start on one side is one member.
use Rattle.std.proofs.Common.{◌≡◌, ℕ, ◌*◌, ◌^◌, ◌<◌, ◌≤◌, List, [], ◌∷◌, length, ap, ap₂, arith, false, refl, sym, subst, ◌∙◌}
use Rattle.std.specs.Prelude.{ℤ, pos, unsigned_abs, ◌+ℤ◌, ◌*ℤ◌, ◌≤ℤ◌}
use Rattle.std.specs.Int.Signed.{le_z}
use Rattle.std.proofs.lemmas.Int.{ints}
use Rattle.scaled_num.proofs.Products.{le-mulℤ, products, sums}
use Rattle.alpha_set.specs.Nodes.{NodeData}
use Rattle.alpha_set.specs.Worth.{AreWeighed, IsWorth}
use Rattle.controller.specs.Certificates.{BoundAt, CertificateData, CertificateFits, CertificateStands, Holds, StartAt, first_total, node_product}
use Rattle.controller.specs.Concluded.{HasSameMembers, IsConcluded}
use Rattle.controller.specs.Members.{Rules}
use Rattle.controller.specs.Starts.{most_from, most_over, weighted, weights_sum}
use Rattle.controller.proofs.Gap.{TimesFits, times-fits}
use Rattle.controller.proofs.OneStart.{one-makes-up, one-start, product-is}
use Rattle.controller.proofs.Places.{rules}
use Rattle.controller.proofs.StartSums.{node-in, product-small, values-tight, weight-most, weights-positive}
use Rattle.game_model.specs.Game.{GameData, IsGame, unit}
use Rattle.point_set.specs.Corners.{point_at}
use Rattle.point_set.specs.Points.{PointData, points_of}
use Rattle.stage_game.proofs.LowerEnds.{belief-mass}
use Rattle.closing.specs.Better.{AreNodes, ArePoints}
use Rattle.closing.specs.Closer.{IsBetter}
use Rattle.closing.specs.Starts.{IsStartNode, IsStartPoint}
use Rattle.closing.proofs.BetterMembers.{stands-by, standing-nodes, standing-points}
use Rattle.closing.proofs.Bounds.{at-most-by}
use Rattle.closing.proofs.Kept.{nodes-asked}

-- a certificate with one start node, or with one start point
abbrev pub from_node : ℕ → CertificateData → CertificateData
from_node number k = record k { start_nodes = (number, pos 1) ∷ [] }

abbrev pub from_point : ℕ → CertificateData → CertificateData
from_point number k = record k { start_points = (number, pos 1) ∷ []; multiple = pos 1 }

pub node-fits : (g : GameData) (k : CertificateData) (number : ℕ) → CertificateFits g k → IsStartNode g k number → CertificateFits g (from_node number k)
node-fits g k number fits is = record {
  some_node = fits.some_node;
  most_nodes = fits.most_nodes;
  some_points = fits.some_points;
  most_points = fits.most_points;
  nodes = fits.nodes;
  points = fits.points;
  starts = record {
    from = one-start (length k.nodes) number (pos most_from) is.inside (omega (arith, ints));
    from_sum = omega (arith, ints);
    over = fits.starts.over;
    multiple = fits.starts.multiple;
    single = λ _ one. is.single one;
  };
  gap = fits.gap;
  short = fits.short;
}

pub point-fits : (g : GameData) (k : CertificateData) (number : ℕ) → CertificateFits g k → IsStartPoint g k number → CertificateFits g (from_point number k)
point-fits g k number fits is = record {
  some_node = fits.some_node;
  most_nodes = fits.most_nodes;
  some_points = fits.some_points;
  most_points = fits.most_points;
  nodes = fits.nodes;
  points = fits.points;
  starts = record {
    from = fits.starts.from;
    from_sum = fits.starts.from_sum;
    over = one-start (length k.points) number (pos most_over) is.inside (omega (arith, ints));
    multiple = (omega (arith, ints), omega (arith, ints));
    single = λ _ _. refl;
  };
  gap = fits.gap;
  short = fits.short;
}

pub point-start : (g : GameData) (k : CertificateData) (number : ℕ) → IsStartPoint g k number → Holds g (from_point number k) StartAt
point-start g k number is = one-makes-up g k.points number is.here

-- ---- the bounds
-- a fraction over W * T against one over T
low-crossed : (a b c d S P W : ℤ) (T : ℕ) → a ≡ S → b ≡ W *ℤ pos T → c ≡ P → d ≡ pos T → S ≤ℤ (P *ℤ W) → (a *ℤ d) ≤ℤ (c *ℤ b)
low-crossed a b c d S P W T ea eb ec ed l =
    let scaled : (pos T *ℤ S) ≤ℤ (pos T *ℤ (P *ℤ W)) = le-mulℤ T S (P *ℤ W) l in
    rw (ea, eb, ec, ed) (omega (arith, sums, scaled, swap S (pos T), turn P W (pos T)))
  where
    swap : (x y : ℤ) → x *ℤ y ≡ y *ℤ x
    swap x y = simp products (omega (arith, sums))

    turn : (p w t : ℤ) → p *ℤ (w *ℤ t) ≡ t *ℤ (p *ℤ w)
    turn p w t = simp products (omega (arith, sums))

high-crossed : (a b c d V U M : ℤ) (T : ℕ) → a ≡ V → b ≡ pos T → c ≡ U → d ≡ M *ℤ pos T → (V *ℤ M) ≤ℤ U → (a *ℤ d) ≤ℤ (c *ℤ b)
high-crossed a b c d V U M T ea eb ec ed l =
    let scaled : (pos T *ℤ (V *ℤ M)) ≤ℤ (pos T *ℤ U) = le-mulℤ T (V *ℤ M) U l in
    rw (ea, eb, ec, ed) (omega (arith, sums, scaled, swap U (pos T), turn V M (pos T)))
  where
    swap : (x y : ℤ) → x *ℤ y ≡ y *ℤ x
    swap x y = simp products (omega (arith, sums))

    turn : (p w t : ℤ) → p *ℤ (w *ℤ t) ≡ t *ℤ (p *ℤ w)
    turn p w t = simp products (omega (arith, sums))

once : (z : ℤ) → pos 1 *ℤ z +ℤ pos 0 ≡ z
once z = omega (arith, ints)

alone : (n : ℕ) → (pos 1 +ℤ pos 0) *ℤ pos n ≡ pos n
alone n = omega (arith, ints)

single : (n : ℕ) → pos 1 *ℤ pos n ≡ pos n
single n = omega (arith, ints)

low : (x : ℤ) → pos 1 ≤ℤ x → pos 0 ≤ℤ x
low x l = omega (arith, ints)

itself : (x y : ℤ) → x ≡ y → x ≤ℤ y
itself x y e = omega (arith, ints)

pub node-better : (g : GameData) (k next : CertificateData) (number : ℕ) → CertificateStands g k → IsStartNode g k number → CertificateFits g next → IsConcluded g (from_node number k) next → IsBetter g k next
node-better g k next number stands is fits concluded = record {
  stands = stands-by g next fits (subst (AreNodes g) (sym same.nodes) (standing-nodes g k stands)) (subst (ArePoints g) (sym same.points) (standing-points g k stands))
      (rw (same.points, same.start_points, same.multiple) all.start) bound concluded.ends;
  gap = same.gap;
  no_worse = record {
    lower = low-crossed k.lower.num k.lower.den next.lower.num next.lower.den _ (node_product g k.nodes number) (weights_sum k.start_nodes) (first_total g * unit) all.bound.0.0 all.bound.0.1
        (bound.0.0 ∙ ap₂ (λ (nodes : List NodeData) (from : List (ℕ × ℤ)). weighted from (node_product g nodes)) same.nodes same.start_nodes ∙ once (node_product g k.nodes number))
        (bound.0.1 ∙ ap (λ (from : List (ℕ × ℤ)). weights_sum from *ℤ pos (first_total g * unit)) same.start_nodes ∙ alone (first_total g * unit)) is.higher;
    upper = at-most-by next.upper k.upper (low k.upper.den stands.fits.short.1.1)
        (bound.1.1 ∙ ap (λ (m : ℤ). m *ℤ pos (first_total g * unit)) same.multiple ∙ sym all.bound.1.1)
        (itself next.upper.num k.upper.num (bound.1.0 ∙ ap₂ (λ (points : List PointData) (over : List (ℕ × ℤ)). weighted over (λ j. (points_of points j).value)) same.points same.start_points ∙ sym all.bound.1.0));
  };
  ends = concluded.ends;
}
  where
    same : HasSameMembers (from_node number k) next
    same = concluded.same

    bound : Holds g next BoundAt
    bound = concluded.bound

    all : Rules g k
    all = rules g k stands.holds

pub point-better : (g : GameData) (k next : CertificateData) (number : ℕ) → CertificateStands g k → IsStartPoint g k number → CertificateFits g next → IsConcluded g (from_point number k) next → IsBetter g k next
point-better g k next number stands is fits concluded = record {
  stands = stands-by g next fits (subst (AreNodes g) (sym same.nodes) (standing-nodes g k stands)) (subst (ArePoints g) (sym same.points) (standing-points g k stands))
      (rw (same.points, same.start_points, same.multiple) (point-start g k number is)) bound concluded.ends;
  gap = same.gap;
  no_worse = record {
    lower = at-most-by k.lower next.lower (low next.lower.den fits.short.0.1)
        (all.bound.0.1 ∙ ap (λ (from : List (ℕ × ℤ)). weights_sum from *ℤ pos (first_total g * unit)) (sym same.start_nodes) ∙ sym bound.0.1)
        (itself k.lower.num next.lower.num (all.bound.0.0 ∙ sym (bound.0.0 ∙ ap₂ (λ (nodes : List NodeData) (from : List (ℕ × ℤ)). weighted from (node_product g nodes)) same.nodes same.start_nodes)));
    upper = high-crossed next.upper.num next.upper.den k.upper.num k.upper.den (point_at k.points number).value _ k.multiple (first_total g * unit)
        (bound.1.0 ∙ ap₂ (λ (points : List PointData) (over : List (ℕ × ℤ)). weighted over (λ j. (points_of points j).value)) same.points same.start_points ∙ once (point_at k.points number).value)
        (bound.1.1 ∙ ap (λ (m : ℤ). m *ℤ pos (first_total g * unit)) same.multiple ∙ single (first_total g * unit)) all.bound.1.0 all.bound.1.1 is.lower;
  };
  ends = concluded.ends;
}
  where
    same : HasSameMembers (from_point number k) next
    same = concluded.same

    bound : Holds g next BoundAt
    bound = concluded.bound

    all : Rules g k
    all = rules g k stands.holds

-- ---- what the tests form
most-sum : (x : ℤ) → pos 1 ≤ℤ x → x ≤ℤ pos most_from → unsigned_abs x ≤ 2 ^ 16
most-sum x l m = omega (arith, ints)

-- the product of the node that is worth the most, times the weights of the start nodes
pub node-times : (g : GameData) (k : CertificateData) (value : ℤ) (number : ℕ) → IsGame g → CertificateFits g k → IsWorth k.nodes g.first value number → TimesFits value (weights_sum k.start_nodes)
node-times g k value number game fits worth =
    times-fits value (weights_sum k.start_nodes) (2 ^ 90) (2 ^ 16)
    (subst (λ (z : ℤ). unsigned_abs z ≤ 2 ^ 90) (product-is g game k.nodes number ∙ sym worth.has) (product-small g game k.nodes (length k.nodes) number (node-in g k.nodes fits.nodes number worth.inside)))
    (most-sum (weights_sum k.start_nodes) (weights-positive k.start_nodes (length k.nodes) (pos most_from) fits.starts.from) fits.starts.from_sum)
    (omega arith) (omega arith) (omega arith)

-- the value of a point of the first belief, times the multiple
pub value-times : (g : GameData) (k : CertificateData) (number : ℕ) → IsGame g → CertificateFits g k → number < length k.points → (point_at k.points number).belief ≡ g.first → TimesFits (point_at k.points number).value k.multiple
value-times g k number game fits inside here =
    let one = one-start (length k.points) number (pos most_over) inside (omega (arith, ints)) in
    let tight = values-tight g k.points ((number, pos 1) ∷ []) (pos 1) (record {
      game = game;
      all = fits.points;
      each = one.each;
      within = (omega (arith, ints), omega (arith, ints));
      sums = one-makes-up g k.points number here;
    }) in
    times-fits (point_at k.points number).value k.multiple (2 ^ 102) (2 ^ 16)
    (subst (λ (z : ℤ). unsigned_abs z ≤ 2 ^ 102) (single-value (point_at k.points number).value) tight.0)
    (weight-most k.multiple most_from fits.starts.multiple)
    (omega arith) (omega arith) (omega arith)
  where
    single-value : (z : ℤ) → pos 1 *ℤ z ≡ z
    single-value z = omega (arith, ints)

-- the nodes of a certificate that stands may be weighed at the first belief
pub first-weighed : (g : GameData) (k : CertificateData) → IsGame g → CertificateStands g k → AreWeighed k.nodes g.first
first-weighed g k game stands = nodes-asked g k.nodes g.first game (standing-nodes g k stands) (belief-mass g game g.first game.first)

-- ---- what the tests tell
pub start-node : (g : GameData) (k : CertificateData) (value : ℤ) (number : ℕ) → IsGame g → CertificateStands g k → IsWorth k.nodes g.first value number → k.lower.num ≤ℤ (value *ℤ weights_sum k.start_nodes) → (length k.start_points ≡ 1 → k.multiple ≡ pos 1) → IsStartNode g k number
start-node g k value number game stands worth above one = record {
  inside = worth.inside;
  higher = through (sym (rules g k stands.holds).bound.0.0) above (ap (λ (z : ℤ). z *ℤ weights_sum k.start_nodes) (worth.has ∙ sym (product-is g game k.nodes number)));
  single = one;
}
  where
    through : {a b c d : ℤ} → a ≡ b → b ≤ℤ c → c ≡ d → a ≤ℤ d
    through e l f = rw (e, ← f) l

pub start-point : (g : GameData) (k : CertificateData) (number : ℕ) → CertificateStands g k → number < length k.points → (point_at k.points number).belief ≡ g.first → ((point_at k.points number).value *ℤ k.multiple) ≤ℤ k.upper.num → IsStartPoint g k number
start-point g k number stands inside here below = record {
  inside = inside;
  here = here;
  lower = subst (λ (z : ℤ). ((point_at k.points number).value *ℤ k.multiple) ≤ℤ z) (rules g k stands.holds).bound.1.0 below;
}

-- what is not at most another number is at least that
pub not-most : (a b : ℤ) → le_z a b ≡ false → b ≤ℤ a
not-most a b told = omega (arith, ints, told)
