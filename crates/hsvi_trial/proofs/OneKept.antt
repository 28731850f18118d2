-- What is kept of a new member is one.
use Rattle.std.proofs.Common.{◌≡◌, ℕ, List, Option, Some, None, refl, ap, sym, ◌∙◌}
use Rattle.std.specs.Prelude.{ℤ}
use Rattle.alpha_set.specs.Nodes.{NodeData}
use Rattle.point_set.specs.Points.{PointData}
use Rattle.hsvi_trial.specs.Due.{KeepsNode, KeepsPoint}

pub node-kept_one : (before after others : List NodeData) (belief : List ℤ) (node : NodeData) (number other : Option ℕ) →
    KeepsNode before after belief node number → KeepsNode before others belief node other → (number ≡ other) × (after ≡ others)
node-kept_one before after others belief node None None p q = (refl, p.1 ∙ sym q.1)
node-kept_one before after others belief node None (Some m) p q = absurd (p.0 q.0 q.1)
node-kept_one before after others belief node (Some n) None p q = absurd (q.0 p.0 p.1)
node-kept_one before after others belief node (Some n) (Some m) p q = (ap Some (p.2 ∙ sym q.2), p.3 ∙ sym q.3)

pub point-kept_one : (Refused : Type 0) (before after others : List PointData) (belief : List ℤ) (point : PointData) (number other : Option ℕ) →
    KeepsPoint Refused before after belief point number → KeepsPoint Refused before others belief point other → (number ≡ other) × (after ≡ others)
point-kept_one Refused before after others belief point None None p q = (refl, p.1 ∙ sym q.1)
point-kept_one Refused before after others belief point None (Some m) p q = absurd (p.0 q.0 q.1 q.2)
point-kept_one Refused before after others belief point (Some n) None p q = absurd (q.0 p.0 p.1 p.2)
point-kept_one Refused before after others belief point (Some n) (Some m) p q = (ap Some (p.3 ∙ sym q.3), p.4 ∙ sym q.4)
