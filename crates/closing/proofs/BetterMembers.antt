-- A certificate that stands, with members that are made better.
use Rattle.std.proofs.Common.{◌≡◌, ℕ, ◌*◌, ◌<◌, ◌≤◌, ◌==◌, Bool, cond, List, length, ap, ap₂, arith, inl, inr, refl, sym, subst, ◌∙◌}
use Rattle.std.proofs.lemmas.Bool.Decides.{eqb_tells}
use Rattle.std.proofs.lemmas.List.{get_or_default, same_lists}
use Rattle.std.proofs.lemmas.Int.{ints}
use Rattle.std.specs.List.{AllByRecursion}
use Rattle.std.specs.Prelude.{ℤ, pos, slice_index_or, unsigned_abs, ◌*ℤ◌, ◌≤ℤ◌}
use Rattle.scaled_num.specs.Share.{at}
use Rattle.scaled_num.proofs.Products.{le-mulℤ, magnitude-is}
use Rattle.scaled_num.proofs.Sums.{each-at, total-below-le, total-le, total-same}
use Rattle.alpha_set.specs.Nodes.{NodeData, nodes_of}
use Rattle.backup.proofs.GrownSets.{long-corner}
use Rattle.belief.specs.Beliefs.{corner_of}
use Rattle.controller.specs.Certificates.{BoundAt, CertificateData, CertificateFits, CertificateStands, Closed, Ending, FractionData, Holds, IsGap, IsWithinGap, OutcomeHolds, StartAt, first_total, lower_sum, node_product, places, upper_sum}
use Rattle.controller.specs.Concluded.{EndsByGap, IsConcluded, with_outcome}
use Rattle.controller.specs.Export.{IsExport}
use Rattle.controller.specs.Members.{Rules}
use Rattle.controller.specs.Parts.{PartsStand, certificate_of}
use Rattle.controller.specs.Starts.{AreStarts, IsStart, most_over, weighted, weights_sum}
use Rattle.controller.proofs.Bounded.{bounds-are, fraction-is, parts_of}
use Rattle.controller.proofs.Places.{hold-everywhere, rules}
use Rattle.game_model.specs.Game.{GameData, IsBelief, IsWithin, first_at, unit}
use Rattle.game_model.specs.Limits.{most_belief}
use Rattle.game_model.proofs.Pay.{each-from}
use Rattle.point_set.specs.Corners.{point_at}
use Rattle.point_set.specs.Points.{PointData, PointFits, no_point, points_of}
use Rattle.point_set.proofs.Rests.{corner-at, corner-other}
use Rattle.closing.specs.Better.{AreLowered, AreNodes, ArePoints, AreRaised}
use Rattle.closing.specs.Closer.{IsBetter, IsCloser, IsNoWorse}
use Rattle.closing.proofs.Bounds.{at-most-by, better-same, better-through, no-worse-same}

-- ---- the members of a certificate that stands
pub standing-nodes : (g : GameData) (k : CertificateData) → CertificateStands g k → AreNodes g k.nodes
standing-nodes g k stands = record {
  some = stands.fits.some_node;
  few = stands.fits.most_nodes;
  sound = record {
    fit = stands.fits.nodes;
    stand = λ i li s c ls lc. (rules g k stands.holds).node i s c li ls lc;
  };
}

-- a belief with weight 1 in one state and none elsewhere is that state's corner
corner-is : (states j : ℕ) (belief : List ℤ) → j < states → IsBelief states belief → ((s : ℕ) → s < states → unsigned_abs (slice_index_or belief s (pos 0)) ≡ cond (s == j) 1 0) → belief ≡ corner_of states j
corner-is states j belief lj fits here =
    same_lists belief (corner_of states j) (fits.long ∙ sym (long-corner states j))
    (λ s d ls. get_or_default belief s d (pos 0) ls ∙ at-both s (subst (λ (n : ℕ). s < n) fits.long ls) ls ∙ sym (get_or_default (corner_of states j) s d (pos 0) (subst (λ (n : ℕ). s < n) (fits.long ∙ sym (long-corner states j)) ls)))
  where
    weight : (s : ℕ) → s < length belief → at belief s ≡ pos (unsigned_abs (at belief s))
    weight s ls = magnitude-is (at belief s) (each-at (IsWithin (pos 0) (pos most_belief)) (pos 0) belief s fits.each ls).0

    at-both : (s : ℕ) → s < states → s < length belief → at belief s ≡ at (corner_of states j) s
    at-both s ls li = elim (eqb_tells s j) [
      | inl e ↦ weight s li ∙ ap pos (here s ls ∙ ap (λ (b : Bool). cond b 1 0) e.0) ∙ sym (ap (at (corner_of states j)) e.1 ∙ corner-at states j lj)
      | inr e ↦ weight s li ∙ ap pos (here s ls ∙ ap (λ (b : Bool). cond b 1 0) e.0) ∙ sym (corner-other states j s ls e.1)
    ]

pub standing-points : (g : GameData) (k : CertificateData) → CertificateStands g k → ArePoints g k.points
standing-points g k stands =
    let all : Rules g k = rules g k stands.holds in
    record {
      some = stands.fits.some_points;
      few = stands.fits.most_points;
      sound = record {
        fit = stands.fits.points;
        stand = λ j lj. record {
          split = λ a o t la lo lt. all.split j a o t lj la lo lt;
          value = λ a la. all.value j a lj la;
        };
      };
      corners = λ s ls.
          let inside : s < length k.points = omega (arith, stands.fits.some_points) in
          corner-is g.shape.states s (point_at k.points s).belief ls
          (each-at (PointFits g (length k.points)) no_point k.points s stands.fits.points inside).belief
          (all.corner s inside ls);
    }

-- ---- the bounds of better members
each-start : {count : ℕ} {most : ℤ} (starts : List (ℕ × ℤ)) → AreStarts count most starts → (f h : ℕ → ℤ) → ((i : ℕ) → i < count → f i ≤ℤ h i) → weighted starts f ≤ℤ weighted starts h
each-start {count} {most} starts are f h l =
    total-le (λ (start : ℕ × ℤ). start.1 *ℤ f start.0) (λ (start : ℕ × ℤ). start.1 *ℤ h start.0) starts
    (each-from (IsStart count most) (λ (start : ℕ × ℤ). (start.1 *ℤ f start.0) ≤ℤ (start.1 *ℤ h start.0)) starts
    (λ start i. scaled start.1 (f start.0) (h start.0) i.1.0 (l start.0 i.0)) are.each)
  where
    scaled : (w a b : ℤ) → pos 1 ≤ℤ w → a ≤ℤ b → (w *ℤ a) ≤ℤ (w *ℤ b)
    scaled w a b low l = subst (λ (z : ℤ). (z *ℤ a) ≤ℤ (z *ℤ b)) (sym (magnitude-is w (omega (arith, ints, low)))) (le-mulℤ (unsigned_abs w) a b l)

product-rises : (g : GameData) (before after : List NodeData) → AreRaised g before after → (i : ℕ) → i < length before → node_product g before i ≤ℤ node_product g after i
product-rises g before after raised i li =
    total-below-le g.shape.states (λ s. pos (first_at g s) *ℤ (nodes_of before i).vector s) (λ s. pos (first_at g s) *ℤ (nodes_of after i).vector s)
    (λ s ls. le-mulℤ (first_at g s) ((nodes_of before i).vector s) ((nodes_of after i).vector s) (raised.higher i s li ls))

pub lower-rises : (g : GameData) (given k : CertificateData) → CertificateFits g given → AreRaised g given.nodes k.nodes → k.start_nodes ≡ given.start_nodes → lower_sum g given ≤ℤ lower_sum g k
lower-rises g given k fits raised same =
    rw same (each-start given.start_nodes fits.starts.from (node_product g given.nodes) (node_product g k.nodes) (product-rises g given.nodes k.nodes raised))

pub upper-falls : (g : GameData) (given k : CertificateData) → CertificateFits g given → AreLowered given.points k.points → k.start_points ≡ given.start_points → upper_sum k ≤ℤ upper_sum given
upper-falls g given k fits lowered same =
    rw same (each-start given.start_points fits.starts.over (λ j. (points_of k.points j).value) (λ j. (points_of given.points j).value) lowered.values)

-- ---- a certificate with other members fits
starts-more : {most : ℤ} (count more : ℕ) (starts : List (ℕ × ℤ)) → count ≤ more → AreStarts count most starts → AreStarts more most starts
starts-more {most} count more starts l are = record {
  some = are.some;
  rising = are.rising;
  each = each-from (IsStart count most) (IsStart more most) starts (λ start i. (omega (arith, i.0, l), i.1)) are.each;
  coprime = are.coprime;
}

-- a certificate with other nodes and points
abbrev pub with_members : List NodeData → List PointData → CertificateData → CertificateData
with_members nodes points k = record k { nodes = nodes; points = points }

pub members-fit : (g : GameData) (given : CertificateData) (nodes : List NodeData) (points : List PointData) → CertificateFits g given → AreNodes g nodes → ArePoints g points → AreRaised g given.nodes nodes → AreLowered given.points points →
    CertificateFits g (with_members nodes points given)
members-fit g given nodes points fits are_nodes are_points raised lowered = record {
  some_node = are_nodes.some;
  most_nodes = are_nodes.few;
  some_points = are_points.some;
  most_points = are_points.few;
  nodes = are_nodes.sound.fit;
  points = are_points.sound.fit;
  starts = record {
    from = starts-more (length given.nodes) (length nodes) given.start_nodes raised.count fits.starts.from;
    from_sum = fits.starts.from_sum;
    over = starts-more (length given.points) (length points) given.start_points lowered.count fits.starts.over;
    multiple = fits.starts.multiple;
    single = fits.starts.single;
  };
  gap = fits.gap;
  short = fits.short;
}

pub members-start : (g : GameData) (given : CertificateData) (nodes : List NodeData) (points : List PointData) → CertificateFits g given → Holds g given StartAt → AreLowered given.points points → Holds g (with_members nodes points given) StartAt
members-start g given nodes points fits start lowered s ls =
    total-same (λ (x : ℕ × ℤ). x.1 *ℤ at (point_at points x.0).belief s) (λ (x : ℕ × ℤ). x.1 *ℤ at (point_at given.points x.0).belief s) given.start_points
    (each-from (IsStart (length given.points) (pos most_over)) (λ (x : ℕ × ℤ). x.1 *ℤ at (point_at points x.0).belief s ≡ x.1 *ℤ at (point_at given.points x.0).belief s) given.start_points
    (λ x i. ap (λ (belief : List ℤ). x.1 *ℤ at belief s) (lowered.beliefs x.0 i.0)) fits.starts.over.each)
    ∙ start s ls

-- ---- a certificate stands by its members, its start, its bounds and its end
corner-weight : (states j s : ℕ) → j < states → s < states → unsigned_abs (at (corner_of states j) s) ≡ cond (s == j) 1 0
corner-weight states j s lj ls = elim (eqb_tells s j) [
  | inl e ↦ ap unsigned_abs (ap (at (corner_of states j)) e.1 ∙ corner-at states j lj) ∙ sym (ap {B = ℕ} (λ (b : Bool). cond b 1 0) e.0)
  | inr e ↦ ap unsigned_abs (corner-other states j s ls e.1) ∙ sym (ap {B = ℕ} (λ (b : Bool). cond b 1 0) e.0)
]

outcome-holds : (k : CertificateData) → EndsByGap k → OutcomeHolds k k.outcome
outcome-holds k ends = elim ends [
  | inl e ↦ subst (OutcomeHolds k) (sym e.0) e.1
  | inr e ↦ subst (OutcomeHolds k) (sym e.0) e.1
]

pub stands-by : (g : GameData) (k : CertificateData) → CertificateFits g k → AreNodes g k.nodes → ArePoints g k.points → Holds g k StartAt → Holds g k BoundAt → EndsByGap k → CertificateStands g k
stands-by g k fits nodes points start bound ends = record {
  fits = fits;
  holds = hold-everywhere g k (record {
    node = λ i s c li ls lc. nodes.sound.stand i li s c ls lc;
    corner = λ j lj inside s ls. ap (λ (belief : List ℤ). unsigned_abs (at belief s)) (points.corners j inside) ∙ corner-weight g.shape.states j s inside ls;
    split = λ j a o s lj la lo ls. (points.sound.stand j lj).split a o s la lo ls;
    value = λ j a lj la. (points.sound.stand j lj).value a la;
    start = start;
    bound = bound;
    outcome = outcome-holds k ends;
  });
}

-- ---- the round
no-worse-members : (g : GameData) (given k : CertificateData) → CertificateFits g given → CertificateFits g k → Holds g given BoundAt → Holds g k BoundAt → AreRaised g given.nodes k.nodes → AreLowered given.points k.points →
    k.start_nodes ≡ given.start_nodes → k.start_points ≡ given.start_points → k.multiple ≡ given.multiple → IsNoWorse given k
no-worse-members g given k fits fits_k bound bound_k raised lowered from over multiple = record {
  lower = at-most-by given.lower k.lower (low fits_k.short.0.1)
      (bound.0.1 ∙ ap (λ (starts : List (ℕ × ℤ)). weights_sum starts *ℤ pos (first_total g * unit)) (sym from) ∙ sym bound_k.0.1)
      (through bound.0.0 (lower-rises g given k fits raised from) bound_k.0.0);
  upper = at-most-by k.upper given.upper (low fits.short.1.1)
      (bound_k.1.1 ∙ ap (λ (m : ℤ). m *ℤ pos (first_total g * unit)) multiple ∙ sym bound.1.1)
      (through bound_k.1.0 (upper-falls g given k fits lowered over) bound.1.0);
}
  where
    low : {x : ℤ} → pos 1 ≤ℤ x → pos 0 ≤ℤ x
    low l = omega (arith, ints)

    through : {a b c d : ℤ} → a ≡ b → b ≤ℤ c → d ≡ c → a ≤ℤ d
    through e l f = rw (e, f) l

pub round-better : (g : GameData) (given : CertificateData) (nodes : List NodeData) (points : List PointData) (k : CertificateData) → CertificateStands g given → AreNodes g nodes → ArePoints g points → AreRaised g given.nodes nodes → AreLowered given.points points →
    CertificateFits g k → IsConcluded g (with_members nodes points given) k → IsBetter g given k
round-better g given nodes points k stands are_nodes are_points raised lowered fits concluded =
    let same = concluded.same in
    let all : Rules g given = rules g given stands.holds in
    record {
      stands = stands-by g k fits (subst (AreNodes g) (sym same.nodes) are_nodes) (subst (ArePoints g) (sym same.points) are_points)
          (rw (same.points, same.start_points, same.multiple) (members-start g given nodes points stands.fits all.start lowered)) concluded.bound concluded.ends;
      gap = same.gap;
      no_worse = no-worse-members g given k stands.fits fits all.bound concluded.bound (subst (AreRaised g given.nodes) (sym same.nodes) raised) (subst (AreLowered given.points) (sym same.points) lowered) same.start_nodes same.start_points same.multiple;
      ends = concluded.ends;
    }

-- ---- another gap
-- a certificate by its numbers and members
abbrev made : FractionData → FractionData → FractionData → FractionData → Ending → List NodeData → List PointData → List (ℕ × ℤ) → List (ℕ × ℤ) → ℤ → CertificateData
made lower upper tail gap outcome nodes points from over multiple = record {
  lower = lower;
  upper = upper;
  tail = tail;
  gap = gap;
  outcome = outcome;
  nodes = nodes;
  points = points;
  start_nodes = from;
  start_points = over;
  multiple = multiple;
}

-- a certificate with the members and the starts of another has its bounds, where both have those that the starts prove
pub concluded-is : (g : GameData) (given k : CertificateData) → Holds g given BoundAt → IsConcluded g given k → k ≡ with_outcome k.outcome given
concluded-is g given k bound concluded =
    let same = concluded.same in
    let new = concluded.bound in
    let lower : k.lower ≡ given.lower = fraction-is k.lower given.lower (
      new.0.0 ∙ ap₂ (λ (nodes : List NodeData) (from : List (ℕ × ℤ)). weighted from (node_product g nodes)) same.nodes same.start_nodes ∙ sym bound.0.0,
      new.0.1 ∙ ap (λ (from : List (ℕ × ℤ)). weights_sum from *ℤ pos (first_total g * unit)) same.start_nodes ∙ sym bound.0.1,
    ) in
    let upper : k.upper ≡ given.upper = fraction-is k.upper given.upper (
      new.1.0 ∙ ap₂ (λ (points : List PointData) (over : List (ℕ × ℤ)). weighted over (λ j. (points_of points j).value)) same.points same.start_points ∙ sym bound.1.0,
      new.1.1 ∙ ap (λ (m : ℤ). m *ℤ pos (first_total g * unit)) same.multiple ∙ sym bound.1.1,
    ) in
    let tail : k.tail ≡ given.tail = fraction-is k.tail given.tail (new.2.0 ∙ sym bound.2.0, new.2.1 ∙ sym bound.2.1) in
    ap (λ (x : FractionData). made x k.upper k.tail k.gap k.outcome k.nodes k.points k.start_nodes k.start_points k.multiple) lower
    ∙ ap (λ (x : FractionData). made given.lower x k.tail k.gap k.outcome k.nodes k.points k.start_nodes k.start_points k.multiple) upper
    ∙ ap (λ (x : FractionData). made given.lower given.upper x k.gap k.outcome k.nodes k.points k.start_nodes k.start_points k.multiple) tail
    ∙ ap (λ (x : FractionData). made given.lower given.upper given.tail x k.outcome k.nodes k.points k.start_nodes k.start_points k.multiple) same.gap
    ∙ ap (λ (x : List NodeData). made given.lower given.upper given.tail given.gap k.outcome x k.points k.start_nodes k.start_points k.multiple) same.nodes
    ∙ ap (λ (x : List PointData). made given.lower given.upper given.tail given.gap k.outcome given.nodes x k.start_nodes k.start_points k.multiple) same.points
    ∙ ap (λ (x : List (ℕ × ℤ)). made given.lower given.upper given.tail given.gap k.outcome given.nodes given.points x k.start_points k.multiple) same.start_nodes
    ∙ ap (λ (x : List (ℕ × ℤ)). made given.lower given.upper given.tail given.gap k.outcome given.nodes given.points given.start_nodes x k.multiple) same.start_points
    ∙ ap (λ (x : ℤ). made given.lower given.upper given.tail given.gap k.outcome given.nodes given.points given.start_nodes given.start_points x) same.multiple

-- a certificate that stands, under another gap
abbrev pub under_gap : FractionData → CertificateData → CertificateData
under_gap gap k = record k { gap = gap }

pub gap-same : (g : GameData) (given : CertificateData) (gap : FractionData) (k : CertificateData) → CertificateStands g given → IsConcluded g (under_gap gap given) k → k ≡ with_outcome k.outcome (under_gap gap given)
gap-same g given gap k stands concluded = concluded-is g (under_gap gap given) k (rules g given stands.holds).bound concluded

pub gap-better : (g : GameData) (given : CertificateData) (gap : FractionData) (k : CertificateData) → CertificateStands g given → CertificateFits g k → IsConcluded g (under_gap gap given) k → IsBetter g (under_gap gap given) k
gap-better g given gap k stands fits concluded =
    let all : Rules g given = rules g given stands.holds in
    let is : k ≡ with_outcome k.outcome (under_gap gap given) = gap-same g given gap k stands concluded in
    record {
      stands = stands-by g k fits (subst (AreNodes g) (sym concluded.same.nodes) (standing-nodes g given stands)) (subst (ArePoints g) (sym concluded.same.points) (standing-points g given stands))
          (rw (concluded.same.points, concluded.same.start_points, concluded.same.multiple) all.start) concluded.bound concluded.ends;
      gap = concluded.same.gap;
      no_worse = no-worse-same (under_gap gap given) k (ap (λ (x : CertificateData). x.lower) is) (ap (λ (x : CertificateData). x.upper) is);
      ends = concluded.ends;
    }

pub better-itself : (g : GameData) (k : CertificateData) → CertificateStands g k → EndsByGap k → IsBetter g k k
better-itself g k stands ends = record { stands = stands; gap = refl; no_worse = no-worse-same k k refl refl; ends = ends }

-- ---- the export
pub parts-stand : (g : GameData) (k : CertificateData) → CertificateStands g k → PartsStand g (parts_of k)
parts-stand g k stands = subst (λ (x : CertificateData). AllByRecursion (Holds g x) (places g x)) (bounds-are g k (rules g k stands.holds).bound) stands.holds

pub export-better : (g : GameData) (given k : CertificateData) → CertificateStands g given → EndsByGap given → IsExport g (parts_of given) k → CertificateStands g k → IsBetter g given k
export-better g given k old ends exported stands =
    let are : given ≡ certificate_of g (parts_of given) = bounds-are g given (rules g given old.holds).bound in
    better-same g given k stands (ap (λ (x : CertificateData). x.gap) exported.same) (ap (λ (x : CertificateData). x.lower) exported.same ∙ sym (ap (λ (x : CertificateData). x.lower) are))
    (ap (λ (x : CertificateData). x.upper) exported.same ∙ sym (ap (λ (x : CertificateData). x.upper) are)) (ap (λ (x : CertificateData). x.outcome) exported.same) ends

-- ---- a closer certificate
gap-fits : (g : GameData) (given : CertificateData) (gap : FractionData) → CertificateFits g given → IsGap gap → CertificateFits g (under_gap gap given)
gap-fits g given gap fits is_gap = record {
  some_node = fits.some_node;
  most_nodes = fits.most_nodes;
  some_points = fits.some_points;
  most_points = fits.most_points;
  nodes = fits.nodes;
  points = fits.points;
  starts = fits.starts;
  gap = is_gap;
  short = fits.short;
}

-- what rounds make of a certificate that was not closed is closer
pub closer-by : (g : GameData) (given : CertificateData) (rounds : ℕ) (gap : FractionData) (first next k : CertificateData) → CertificateFits g given → IsGap gap → first ≡ with_outcome first.outcome (under_gap gap given) →
    IsBetter g (under_gap gap given) first → (rounds ≡ 0 → ⊥) → (first.outcome ≡ Closed → ⊥) → IsBetter g first next → IsBetter g next k → IsCloser g given rounds gap k
closer-by g given rounds gap first next k fits is_gap is begun some_round open_still improved exported = record {
  better = better-through g (under_gap gap given) first k (gap-fits g given gap fits is_gap) begun (better-through g first next k begun.stands.fits improved exported);
  kept = λ at_once. elim at_once [
    | inl none ↦ absurd (some_round none)
    | inr within ↦ elim begun.ends [
      | inl closed ↦ absurd (open_still closed.0)
      | inr far ↦ absurd (far.1 (subst IsWithinGap (sym is) within))
    ]
  ];
}

-- a certificate under another gap is closer itself
pub closer-itself : (g : GameData) (given : CertificateData) (rounds : ℕ) (gap : FractionData) (k : CertificateData) → k ≡ with_outcome k.outcome (under_gap gap given) → IsBetter g (under_gap gap given) k → IsCloser g given rounds gap k
closer-itself g given rounds gap k is better = record { better = better; kept = λ at_once. is }
