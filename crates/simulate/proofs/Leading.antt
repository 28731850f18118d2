-- The branch at a place of a list: it weighs something, and leads to a plan.
use Rattle.std.proofs.Common.{◌≡◌, ℕ, ◌+◌, ◌*◌, ◌<◌, ◌≤◌, List, length, get_or, map, flat_map, take, ap, arith, sym, subst, ◌∙◌}
use Rattle.std.proofs.lemmas.List.{get_or-map, length-map}
use Rattle.std.proofs.lemmas.List.Concat.{get_or-flat_map}
use Rattle.std.proofs.lemmas.List.Folds.{length-flat_map-take}
use Rattle.std.proofs.lemmas.Nat.{mul-le}

pub record Leads {X : Type 0} (branches : List (ℕ × X)) (place : ℕ) (none : ℕ × X) (left : X) : Type 0 where
  pub within : place < length branches
  pub weight : 1 ≤ (get_or branches place none).0
  pub plan : (get_or branches place none).1 ≡ left

-- branches made of the items of a list
pub items-lead : {X Z : Type 0} (w : Z → ℕ) (f : Z → X) (zs : List Z) (z : Z) (p : ℕ) (d : ℕ × X) → p < length zs → 1 ≤ w (get_or zs p z) →
    Leads (map (λ (x : Z). (w x, f x)) zs) p d (f (get_or zs p z))
items-lead {X} {Z} w f zs z p d l h =
    let branch : Z → ℕ × X = λ (x : Z). (w x, f x) in
    let is = get_or-map branch zs p z d l in
    record {
      within = subst (λ (n : ℕ). p < n) (sym (length-map zs branch)) l;
      weight = subst (λ (b : ℕ × X). 1 ≤ b.0) (sym is) h;
      plan = ap (λ (b : ℕ × X). b.1) is;
    }

-- branches of branches, with each weight times r
pub scaled-lead : {X Y : Type 0} (r : ℕ) (f : X → Y) (branches : List (ℕ × X)) (p : ℕ) (d : ℕ × X) (e : ℕ × Y) (plan : X) → 1 ≤ r → Leads branches p d plan →
    Leads (map (λ (b : ℕ × X). (r * b.0, f b.1)) branches) p e (f plan)
scaled-lead {X} {Y} r f branches p d e plan some h =
    let scaled : ℕ × X → ℕ × Y = λ (b : ℕ × X). (r * b.0, f b.1) in
    let is = get_or-map scaled branches p d e h.within in
    record {
      within = subst (λ (n : ℕ). p < n) (sym (length-map branches scaled)) h.within;
      weight = subst (λ (b : ℕ × Y). 1 ≤ b.0) (sym is) (mul-le 1 1 r (get_or branches p d).0 some h.weight);
      plan = ap (λ (b : ℕ × Y). b.1) is ∙ ap f h.plan;
    }

-- branches of several lists, one after another
pub joined-lead : {X Z : Type 0} (f : Z → List (ℕ × X)) (zs : List Z) (z : Z) (i p : ℕ) (d : ℕ × X) (plan : X) → i < length zs → Leads (f (get_or zs i z)) p d plan →
    Leads (flat_map f zs) (length (flat_map f (take i zs)) + p) d plan
joined-lead {X} {Z} f zs z i p d plan l h =
    let is = get_or-flat_map f zs i p z d l h.within in
    let fits = length-flat_map-take f zs i z l in
    let inside = h.within in
    record {
      within = omega (arith, fits, inside);
      weight = subst (λ (b : ℕ × X). 1 ≤ b.0) (sym is) h.weight;
      plan = ap (λ (b : ℕ × X). b.1) is ∙ h.plan;
    }
