-- What holds at every place holds at each one, and the other way round.
use Rattle.std.proofs.Common.{◌<◌, [], ◌∷◌, ◌++◌, length, map, flat_map, cond, ◌==◌, inl, inr, List, refl, subst, ℕ, eq-eqb}
use Rattle.std.specs.List.{AllByRecursion}
use Rattle.scaled_num.specs.Sums.{below}
use Rattle.controller.specs.Certificates.{CertificateData, CertificateFits, CertificateStands, CornerAt, BoundAt, Holds, NodeAt, OutcomeAt, Place, SplitAt, StartAt, ValueAt, corner_places, node_places, places, point_places, split_places, value_places}
use Rattle.controller.specs.Members.{Rules}
use Rattle.game_model.specs.Game.{GameData}
use Rattle.std.proofs.lemmas.Bool.Decides.{eqb_tells}
use Rattle.scaled_num.proofs.Each.{each-front, each-back, each-of-map, each-of-flat_map, at-below}
use Rattle.scaled_num.proofs.Sums.{below-each, each-append, each-flat_map, each-map}

pub rules : (g : GameData) (k : CertificateData) → AllByRecursion (Holds g k) (places g k) → Rules g k
rules g k h =
    let P = Holds g k in
    let points = flat_map (point_places g) (below (length k.points)) in
    let tail = StartAt ∷ BoundAt ∷ OutcomeAt ∷ [] in
    let rest = each-back P (node_places g k) (points ++ tail) h in
    let nodes = each-front P (node_places g k) (points ++ tail) h in
    let ends = each-back P points tail rest in
    let at_point = λ (j : ℕ) (l : j < length k.points). at-below _ (length k.points) j (each-of-flat_map P (point_places g) (below (length k.points)) (each-front P points tail rest)) l in
    let behind = λ (j : ℕ) (l : j < length k.points). each-back P (corner_places g j) (split_places g j ++ value_places g j) (at_point j l) in
    record {
      node = λ i s c li ls lc.
          at-below _ g.shape.informed_actions c
          (each-of-map P (λ c. NodeAt i s c) _
          (at-below _ g.shape.states s
          (each-of-flat_map P (λ s. map (λ c. NodeAt i s c) (below g.shape.informed_actions)) _
          (at-below _ (length k.nodes) i
          (each-of-flat_map P (λ i. flat_map (λ s. map (λ c. NodeAt i s c) (below g.shape.informed_actions)) (below g.shape.states)) _ nodes) li)) ls)) lc;
      corner = λ j l ls.
          corner_of P j
          (at-below (λ s. AllByRecursion P (cond (s == j) (CornerAt j ∷ []) [])) g.shape.states j
          (each-of-flat_map P (λ s. cond (s == j) (CornerAt j ∷ []) []) _ (each-front P (corner_places g j) (split_places g j ++ value_places g j) (at_point j l))) ls);
      split = λ j a o s l la lo ls.
          at-below _ g.shape.states s
          (each-of-map P (λ s. SplitAt j a o s) _
          (at-below _ g.shape.observations o
          (each-of-flat_map P (λ o. map (λ s. SplitAt j a o s) (below g.shape.states)) _
          (at-below _ g.shape.own_actions a
          (each-of-flat_map P (λ a. flat_map (λ o. map (λ s. SplitAt j a o s) (below g.shape.states)) (below g.shape.observations)) _
          (each-front P (split_places g j) (value_places g j) (behind j l))) la)) lo)) ls;
      value = λ j a l la.
          at-below _ g.shape.own_actions a (each-of-map P (λ a. ValueAt j a) _ (each-back P (split_places g j) (value_places g j) (behind j l))) la;
      start = ends.0;
      bound = ends.1.0;
      outcome = ends.1.1.0;
    }
  where
    corner_of : (P : Place → Type 0) (j : ℕ) → AllByRecursion P (cond (j == j) (CornerAt j ∷ []) []) → P (CornerAt j)
    corner_of P j h = (subst (λ b. AllByRecursion P (cond b (CornerAt j ∷ []) [])) (eq-eqb j j refl) h).0

-- ---- and back
of-flat : (P : Place → Type 0) (f : ℕ → List Place) (n : ℕ) → ((i : ℕ) → i < n → AllByRecursion P (f i)) → AllByRecursion P (flat_map f (below n))
of-flat P f n h = each-flat_map P f (below n) (below-each (λ i. AllByRecursion P (f i)) n h)

of-map : (P : Place → Type 0) (f : ℕ → Place) (n : ℕ) → ((i : ℕ) → i < n → P (f i)) → AllByRecursion P (map f (below n))
of-map P f n h = each-map P f (below n) (below-each (λ i. P (f i)) n h)

nodes-hold : (g : GameData) (k : CertificateData) → Rules g k → AllByRecursion (Holds g k) (node_places g k)
nodes-hold g k r =
    of-flat _ _ (length k.nodes) (λ i li. of-flat _ _ g.shape.states (λ s ls. of-map _ (λ c. NodeAt i s c) g.shape.informed_actions (λ c lc. r.node i s c li ls lc)))

corner-holds : (g : GameData) (k : CertificateData) → Rules g k → (j : ℕ) → j < length k.points → AllByRecursion (Holds g k) (corner_places g j)
corner-holds g k r j lj =
    of-flat _ _ g.shape.states (λ s ls.
    elim (eqb_tells s j) [
      | inl e ↦ rw e.0 (r.corner j lj (subst (λ (n : ℕ). n < g.shape.states) e.1 ls), tt)
      | inr e ↦ rw e.0 tt
    ])

splits-hold : (g : GameData) (k : CertificateData) → Rules g k → (j : ℕ) → j < length k.points → AllByRecursion (Holds g k) (split_places g j)
splits-hold g k r j lj =
    of-flat _ _ g.shape.own_actions (λ a la. of-flat _ _ g.shape.observations (λ o lo. of-map _ (λ s. SplitAt j a o s) g.shape.states (λ s ls. r.split j a o s lj la lo ls)))

points-hold : (g : GameData) (k : CertificateData) → Rules g k → AllByRecursion (Holds g k) (flat_map (point_places g) (below (length k.points)))
points-hold g k r =
    of-flat _ (point_places g) (length k.points) (λ j lj.
    each-append (Holds g k) (corner_places g j) (split_places g j ++ value_places g j) (corner-holds g k r j lj)
    (each-append (Holds g k) (split_places g j) (value_places g j) (splits-hold g k r j lj) (of-map _ (λ a. ValueAt j a) g.shape.own_actions (λ a la. r.value j a lj la))))

pub hold-everywhere : (g : GameData) (k : CertificateData) → Rules g k → AllByRecursion (Holds g k) (places g k)
hold-everywhere g k r =
    each-append (Holds g k) (node_places g k) _ (nodes-hold g k r)
    (each-append (Holds g k) (flat_map (point_places g) (below (length k.points))) _ (points-hold g k r) (r.start, (r.bound, (r.outcome, tt))))

pub stands : (g : GameData) (k : CertificateData) → CertificateFits g k → Rules g k → CertificateStands g k
stands g k fits r = record { fits = fits; holds = hold-everywhere g k r }
