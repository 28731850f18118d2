-- A certificate with the bounds that its starts prove fits where one with the same members fits.
use Rattle.std.proofs.Common.{◌≡◌, ap, arith, ◌∙◌}
use Rattle.std.specs.Prelude.{ℤ, pos}
use Rattle.std.proofs.lemmas.Int.{ints}
use Rattle.game_model.specs.Game.{GameData, IsGame, span, unit}
use Rattle.controller.specs.Certificates.{BoundAt, CertificateData, CertificateFits, FractionData, Holds, IsFraction, IsShort, StartAt}
use Rattle.controller.specs.Concluded.{HasSameMembers}
use Rattle.controller.specs.Parts.{Parts, PartsFit, certificate_of, no_fraction, proved_lower, proved_tail, proved_upper}
use Rattle.controller.specs.Starts.{MakesUpMultiple}
use Rattle.controller.proofs.ExportFits.{lower-short, tail-short, upper-short}

-- the members, starts, gap and outcome of a certificate as parts
abbrev pub parts_of : CertificateData → Parts
parts_of k = record {
  nodes = k.nodes;
  points = k.points;
  start_nodes = k.start_nodes;
  start_points = k.start_points;
  multiple = k.multiple;
  gap = k.gap;
  outcome = k.outcome;
}

none-short : IsShort no_fraction
none-short = (omega arith, omega (arith, ints), omega arith)

parts-fit : (g : GameData) (given k : CertificateData) → CertificateFits g given → HasSameMembers given k → PartsFit g (parts_of k)
parts-fit g given k fits same = record {
  some_node = rw same.nodes fits.some_node;
  most_nodes = rw same.nodes fits.most_nodes;
  some_points = rw same.points fits.some_points;
  most_points = rw same.points fits.most_points;
  nodes = rw same.nodes fits.nodes;
  points = rw same.points fits.points;
  starts = rw (same.nodes, same.points, same.start_nodes, same.start_points, same.multiple) fits.starts;
  gap = rw same.gap fits.gap;
  short = (none-short, none-short, none-short);
}

short-from : (f : FractionData) (num den : ℤ) → IsFraction f num den → IsShort (record { num = num; den = den }) → IsShort f
short-from f num den is short = rw (is.0, is.1) short

pub fits-bounded : (g : GameData) (given k : CertificateData) → IsGame g → CertificateFits g given → Holds g given StartAt → HasSameMembers given k → Holds g k BoundAt → CertificateFits g k
fits-bounded g given k game fits start same bound =
    let fit : PartsFit g (parts_of k) = parts-fit g given k fits same in
    let made : MakesUpMultiple k.points k.start_points k.multiple g.first g.shape.states = rw (same.points, same.start_points, same.multiple) start in
    record {
      some_node = fit.some_node;
      most_nodes = fit.most_nodes;
      some_points = fit.some_points;
      most_points = fit.most_points;
      nodes = fit.nodes;
      points = fit.points;
      starts = fit.starts;
      gap = fit.gap;
      short = (
        short-from k.lower _ _ bound.0 (lower-short g (parts_of k) game fit),
        short-from k.upper _ _ bound.1 (upper-short g (parts_of k) game fit made),
        short-from k.tail (pos (span g)) (pos unit) bound.2 (tail-short g game),
      );
    }

-- ---- a certificate with the bounds that its starts prove is that of its parts
-- a fraction is that of its numerator and denominator
pub fraction-is : (f g : FractionData) → IsFraction f g.num g.den → f ≡ g
fraction-is f g h = ap (λ (n : ℤ). make n f.den) h.0 ∙ ap (λ (d : ℤ). make g.num d) h.1
  where
    make : ℤ → ℤ → FractionData
    make n d = record { num = n; den = d }

abbrev bounded_by : CertificateData → FractionData → FractionData → FractionData → CertificateData
bounded_by k lower upper tail = record k { lower = lower; upper = upper; tail = tail }

pub bounds-are : (g : GameData) (k : CertificateData) → Holds g k BoundAt → k ≡ certificate_of g (parts_of k)
bounds-are g k bound =
    ap (λ (x : FractionData). bounded_by k x k.upper k.tail) (fraction-is k.lower (proved_lower g (parts_of k)) bound.0)
    ∙ ap (λ (x : FractionData). bounded_by k (proved_lower g (parts_of k)) x k.tail) (fraction-is k.upper (proved_upper g (parts_of k)) bound.1)
    ∙ ap (λ (x : FractionData). bounded_by k (proved_lower g (parts_of k)) (proved_upper g (parts_of k)) x) (fraction-is k.tail (proved_tail g) bound.2)
