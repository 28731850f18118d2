-- What an export answers fits.
use Rattle.std.proofs.Common.{◌≡◌, ℕ, suc, ◌+◌, ◌*◌, ◌<◌, ◌≤◌, ◌^◌, Bool, List, [], ◌∷◌, length, arith, sym, subst, ◌∙◌}
use Rattle.std.specs.Prelude.{ℤ, pos, negsuc, unsigned_abs, ◌*ℤ◌, ◌≤ℤ◌}
use Rattle.std.specs.List.{AllByRecursion}
use Rattle.std.proofs.lemmas.Int.{ints, unsigned_abs-mul}
use Rattle.std.proofs.lemmas.Nat.{mul-le}
use Rattle.scaled_num.specs.Sums.{total}
use Rattle.scaled_num.proofs.Products.{abs-add}
use Rattle.alpha_set.specs.Nodes.{no_node}
use Rattle.game_model.specs.Game.{GameData, IsGame, IsWithin, unit}
use Rattle.game_model.specs.Limits.{most_members}
use Rattle.game_model.proofs.Pay.{each-from}
use Rattle.game_model.proofs.Worth.{span-small}
use Rattle.point_set.specs.Points.{no_point, points_of}
use Rattle.controller.specs.Certificates.{CertificateData, CertificateFits, IsShort, first_total, node_product, short_end}
use Rattle.controller.specs.Export.{IsExport, new_number, nodes_kept, parts_kept, points_kept, renumbered_node, renumbered_point, renumbered_starts}
use Rattle.controller.specs.Parts.{Parts, PartsFit, proved_lower, proved_tail, proved_upper, with_bounds}
use Rattle.controller.specs.Starts.{AreStarts, IsStart, MakesUpMultiple, StartsFit, most_from, most_over, weights_sum}
use Rattle.controller.proofs.KeptBranches.{StartKept, starts-long, starts-too, weights_sum-too}
use Rattle.controller.proofs.KeptParts.{AreClosed, are-closed, nodes-too, points-too}
use Rattle.controller.proofs.Renumbering.{members-long, number-few, number-most, number-rises, number-same}
use Rattle.controller.proofs.StartSums.{MakeUp, few-starts, first-total-within, node-in, product-small, values-tight, weight-most, weights-positive}

-- ---- the bounds have few digits
-- a sum of few terms, each of at most this magnitude
total-most : {X : Type 0} (f : X → ℤ) (most : ℕ) (xs : List X) → AllByRecursion (λ x. unsigned_abs (f x) ≤ most) xs → unsigned_abs (total f xs) ≤ length xs * most
total-most f most [] h = omega arith
total-most f most (x ∷ xs) h = one_more (unsigned_abs (f x)) (unsigned_abs (total f xs)) (length xs) most (abs-add (f x) (total f xs)) h.0 (total-most f most xs h.1)
  where
    one_more : {z : ℕ} (a b n most : ℕ) → z ≤ a + b → a ≤ most → b ≤ n * most → z ≤ suc n * most
    one_more a b n most l la lb = omega arith

short-sum : {X : Type 0} (f : X → ℤ) (xs : List X) → length xs ≤ most_members → AllByRecursion (λ x. unsigned_abs (f x) ≤ 2 ^ 106) xs → unsigned_abs (total f xs) < short_end
short-sum f xs few h = below_end (length xs) (unsigned_abs (total f xs)) few (total-most f (2 ^ 106) xs h)
  where
    below_end : (n z : ℕ) → n ≤ most_members → z ≤ n * 2 ^ 106 → z < short_end
    below_end n z l h = omega arith

short-den : (x : ℤ) (b : ℕ) → IsWithin (pos 1) (pos most_from) x → 1 ≤ b → b ≤ 2 ^ 20 → (pos 1 ≤ℤ (x *ℤ pos (b * unit))) × (unsigned_abs (x *ℤ pos (b * unit)) < short_end)
short-den x b w low high =
    let first = w.0 in
    let last = w.1 in
    let size : unsigned_abs (x *ℤ pos (b * unit)) ≡ unsigned_abs x * (b * unit) = unsigned_abs-mul x (pos (b * unit)) in
    let most : unsigned_abs x * (b * unit) ≤ 2 ^ 16 * 2 ^ 36 = mul-le (unsigned_abs x) (b * unit) (2 ^ 16) (2 ^ 36) (omega (arith, ints)) (omega arith) in
    let least : 1 * 1 ≤ unsigned_abs x * (b * unit) = mul-le 1 1 (unsigned_abs x) (b * unit) (omega (arith, ints)) (omega arith) in
    (positive x (b * unit) first (omega arith), omega arith)
  where
    positive : (x : ℤ) (n : ℕ) → pos 1 ≤ℤ x → 1 ≤ n → pos 1 ≤ℤ (x *ℤ pos n)
    positive (pos k) n h l = let more : 1 * 1 ≤ k * n = mul-le 1 1 k n (omega (arith, ints)) l in omega (arith, ints)
    positive (negsuc k) n h l = absurd (omega (arith, ints))

pub lower-short : (g : GameData) (parts : Parts) → IsGame g → PartsFit g parts → IsShort (proved_lower g parts)
lower-short g parts game fits =
    let few = few-starts (length parts.nodes) (pos most_from) parts.start_nodes fits.most_nodes fits.starts.from in
    let first = first-total-within g game in
    let den = short-den (weights_sum parts.start_nodes) (first_total g) (weights-positive parts.start_nodes (length parts.nodes) (pos most_from) fits.starts.from, fits.starts.from_sum) first.0 first.1 in (
      short-sum (λ (start : ℕ × ℤ). start.1 *ℤ node_product g parts.nodes start.0) parts.start_nodes few.few
          (each-from (IsStart (length parts.nodes) (pos most_from)) (λ (start : ℕ × ℤ). unsigned_abs (start.1 *ℤ node_product g parts.nodes start.0) ≤ 2 ^ 106) parts.start_nodes
          (λ start i. part start.1 (node_product g parts.nodes start.0) (weight-most start.1 (2 ^ 16) i.1) (product-small g game parts.nodes (length parts.nodes) start.0 (node-in g parts.nodes fits.nodes start.0 i.0))) few.each),
      den.0,
      den.1,
    )
  where
    part : (x y : ℤ) → unsigned_abs x ≤ 2 ^ 16 → unsigned_abs y ≤ 2 ^ 90 → unsigned_abs (x *ℤ y) ≤ 2 ^ 106
    part x y lx ly = rw (unsigned_abs-mul x y) (omega (arith, mul-le (unsigned_abs x) (unsigned_abs y) (2 ^ 16) (2 ^ 90) lx ly))

pub upper-short : (g : GameData) (parts : Parts) → IsGame g → PartsFit g parts → MakesUpMultiple parts.points parts.start_points parts.multiple g.first g.shape.states → IsShort (proved_upper g parts)
upper-short g parts game fits made =
    let few = few-starts (length parts.points) (pos most_over) parts.start_points fits.most_points fits.starts.over in
    let first = first-total-within g game in
    let den = short-den parts.multiple (first_total g) fits.starts.multiple first.0 first.1 in
    let made_up : MakeUp g parts.points parts.start_points parts.multiple = record { game = game; all = fits.points; each = fits.starts.over.each; within = fits.starts.multiple; sums = made } in (
      short-sum (λ (start : ℕ × ℤ). start.1 *ℤ (points_of parts.points start.0).value) parts.start_points few.few
          (each-from (λ (start : ℕ × ℤ). unsigned_abs (start.1 *ℤ (points_of parts.points start.0).value) ≤ 2 ^ 102) (λ (start : ℕ × ℤ). unsigned_abs (start.1 *ℤ (points_of parts.points start.0).value) ≤ 2 ^ 106) parts.start_points
          (λ start l. omega (arith, l)) (values-tight g parts.points parts.start_points parts.multiple made_up)),
      den.0,
      den.1,
    )

pub tail-short : (g : GameData) → IsGame g → IsShort (proved_tail g)
tail-short g game = let small = span-small g game in (omega arith, omega (arith, ints), omega arith)

-- ---- starts
some-kept : (kept : ℕ → Bool) (count : ℕ) (starts : List (ℕ × ℤ)) → StartKept kept count starts → 1 ≤ length starts → 1 ≤ new_number kept count
some-kept kept count [] k l = absurd (omega arith)
some-kept kept count (x ∷ xs) k l = omega (arith, number-rises kept x.0 count k.0.0 k.0.1)

starts-fit : (parts : Parts) (nodes points : ℕ → Bool) (n p : ℕ) → n ≡ new_number nodes (length parts.nodes) → p ≡ new_number points (length parts.points) →
    StartKept nodes (length parts.nodes) parts.start_nodes → StartKept points (length parts.points) parts.start_points →
    StartsFit (length parts.nodes) (length parts.points) parts.start_nodes parts.start_points parts.multiple →
    StartsFit n p (renumbered_starts nodes parts.start_nodes) (renumbered_starts points parts.start_points) parts.multiple
starts-fit parts nodes points n p en ep from over fits = record {
  from = subst (λ (m : ℕ). AreStarts m (pos most_from) (renumbered_starts nodes parts.start_nodes)) (sym en) (starts-too nodes (length parts.nodes) (pos most_from) parts.start_nodes from fits.from);
  from_sum = subst (λ (z : ℤ). z ≤ℤ pos most_from) (sym (weights_sum-too nodes parts.start_nodes)) fits.from_sum;
  over = subst (λ (m : ℕ). AreStarts m (pos most_over) (renumbered_starts points parts.start_points)) (sym ep) (starts-too points (length parts.points) (pos most_over) parts.start_points over fits.over);
  multiple = fits.multiple;
  single = λ one other. fits.single (sym (starts-long nodes parts.start_nodes) ∙ one) (sym (starts-long points parts.start_points) ∙ other);
}

-- ---- the whole
kept-fits : (g : GameData) (parts : Parts) (nodes points : ℕ → Bool) → IsGame g → PartsFit g parts → MakesUpMultiple parts.points parts.start_points parts.multiple g.first g.shape.states → AreClosed g parts nodes points →
    CertificateFits g (with_bounds (parts_kept nodes points parts) (proved_lower g parts) (proved_upper g parts) (proved_tail g))
kept-fits g parts nodes points game fits made closed =
    let en : length (nodes_kept nodes parts.nodes) ≡ new_number nodes (length parts.nodes) = members-long (renumbered_node nodes) no_node nodes parts.nodes in
    let ep : length (points_kept points parts.points) ≡ new_number points (length parts.points) = members-long (renumbered_point points) no_point points parts.points in
    let most_nodes = fits.most_nodes in
    let most_points = fits.most_points in
    record {
      some_node = omega (arith, en, some-kept nodes (length parts.nodes) parts.start_nodes closed.from fits.starts.from.some);
      most_nodes = omega (arith, en, number-few nodes (length parts.nodes));
      some_points = omega (arith, ep, number-same points g.shape.states closed.corners, number-most points g.shape.states (length parts.points) fits.some_points);
      most_points = omega (arith, ep, number-few points (length parts.points));
      nodes = nodes-too g parts nodes fits.nodes closed.steps;
      points = points-too g parts points fits.points closed.shares;
      starts = starts-fit parts nodes points (length (nodes_kept nodes parts.nodes)) (length (points_kept points parts.points)) en ep closed.from closed.over fits.starts;
      gap = fits.gap;
      short = (lower-short g parts game fits, upper-short g parts game fits made, tail-short g game);
    }

pub export-fits : (g : GameData) (parts : Parts) (k : CertificateData) → IsGame g → PartsFit g parts → MakesUpMultiple parts.points parts.start_points parts.multiple g.first g.shape.states → IsExport g parts k → CertificateFits g k
export-fits g parts k game fits made h =
    subst (CertificateFits g) (sym h.same) (kept-fits g parts h.nodes h.points game fits made (are-closed g parts h.nodes h.points fits h.nodes_reached h.points_reached))
