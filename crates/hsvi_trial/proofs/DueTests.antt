-- The tests of what is due.
use Rattle.std.proofs.Common.{◌≡◌, ℕ, List, Bool, true, false, length, refl, sym, subst, arith}
use Rattle.std.specs.Prelude.{ℤ, IsTrue, not, ◌↔◌, ◌≤ℤ◌, ◌<ℤ◌}
use Rattle.std.proofs.Math.Dec.{T}
use Rattle.std.proofs.lemmas.Int.{ints}
use Rattle.std.specs.Int.Signed.{lt_z, lt_z_no, lt_z_yes}
use Rattle.alpha_set.specs.Nodes.{NodeData}
use Rattle.alpha_set.specs.Worth.{IsWorth, worth_at}
use Rattle.alpha_set.proofs.One.{worth-one}
use Rattle.point_set.specs.Corners.{point_at}
use Rattle.point_set.specs.Points.{PointData}
use Rattle.point_set.specs.Sawtooth.{IsSawtooth}
use Rattle.point_set.proofs.One.{sawtooth-one}
use Rattle.hsvi_trial.specs.Due.{IsNodeDue, IsPointDue}
use Rattle.hsvi_trial.specs.Least.{IsLeastAt, NoneIsAt}

pub lt-to : (x y : ℤ) → IsTrue (lt_z x y) → x <ℤ y
lt-to x y e = lt_z_yes (subst T (sym e) tt)

pub lt-from : (x y : ℤ) → x <ℤ y → IsTrue (lt_z x y)
lt-from x y l = by (lt_z x y) refl
  where
    cross : (x y : ℤ) → x <ℤ y → y ≤ℤ x → ⊥
    cross x y l m = omega (arith, ints)

    by : (b : Bool) → lt_z x y ≡ b → IsTrue (lt_z x y)
    by true e = e
    by false e = absurd (cross x y l (lt_z_no (subst (λ (b : Bool). T (not b)) (sym e) tt)))

pub node-due : (nodes : List NodeData) (belief : List ℤ) (node : NodeData) (worth product : ℤ) (number : ℕ) → IsWorth nodes belief worth number → product ≡ worth_at belief node.vector →
    IsTrue (lt_z worth product) ↔ IsNodeDue nodes belief node
node-due nodes belief node worth product number is same = (
  λ e. (worth, (number, is, subst (λ (z : ℤ). worth <ℤ z) same (lt-to worth product e))),
  λ due. lt-from worth product
      (subst (λ (z : ℤ). z <ℤ product) (worth-one nodes belief due.0 worth due.1.0 number due.1.1 is).0 (subst (λ (z : ℤ). due.0 <ℤ z) (sym same) due.1.2)),
)

below-all : (x y z : ℤ) → x <ℤ y → y ≤ℤ z → x <ℤ z
below-all x y z l m = omega (arith, ints)

pub point-due-there : (points : List PointData) (belief : List ℤ) (point : PointData) (k : ℕ) → IsLeastAt points belief (length points) k →
    IsTrue (lt_z point.value (point_at points k).value) ↔ IsPointDue points belief point
point-due-there points belief point k least = (
  λ e. record {
    below_each = λ j l here. below-all point.value (point_at points k).value (point_at points j).value (lt-to point.value (point_at points k).value e) (least.least j l here);
    below_sawtooth = λ none. absurd (none k least.inside least.here);
  },
  λ due. lt-from point.value (point_at points k).value (due.below_each k least.inside least.here),
)

pub point-due-alone : (points : List PointData) (belief : List ℤ) (point : PointData) (value : ℤ) → NoneIsAt points belief (length points) → IsSawtooth points belief value →
    IsTrue (lt_z point.value value) ↔ IsPointDue points belief point
point-due-alone points belief point value none is = (
  λ e. record {
    below_each = λ j l here. absurd (none j l here);
    below_sawtooth = λ _. (value, is, lt-to point.value value e);
  },
  λ due. let below = due.below_sawtooth none in
      lt-from point.value value (subst (λ (z : ℤ). point.value <ℤ z) (sawtooth-one points belief below.0 value below.1 is) below.2),
)
