-- The places of a certificate in their order: where members that fail first fail first among all places.
use Rattle.std.proofs.Common.{◌≡◌, ℕ, ◌<◌, cond, ◌==◌, inl, inr, List, [], ◌∷◌, ◌++◌, map, flat_map, refl, arith, subst, ◌∙◌, eq-eqb}
use Rattle.std.specs.List.{AllByRecursion}
use Rattle.std.proofs.lemmas.Bool.Decides.{eqb_tells}
use Rattle.std.proofs.lemmas.List.{map-append}
use Rattle.scaled_num.specs.Sums.{below}
use Rattle.scaled_num.proofs.Sums.{each-append}
use Rattle.game_model.specs.Game.{GameData, numbers}
use Rattle.alpha_set.specs.Faults.{NodeFailsFirst, rule_places, state_places}
use Rattle.alpha_set.specs.Nodes.{NodeStands, nodes_of}
use Rattle.point_set.specs.Faults as faults
use Rattle.point_set.specs.Faults.{HoldsAt, point_places as fault_places, split_place, split_places_after, split_places_seen, value_place}
use Rattle.point_set.specs.declared.stands.PointFault.{PointFault}
use Rattle.point_set.specs.declared.stands.PointFault.TheVariants.{Split, Value}
use Rattle.point_set.specs.Points.{PointStands, points_of}
use Rattle.controller.specs.Certificates.{CertificateData, CornerAt, Holds, NodeAt, Place, SplitAt, ValueAt, corner_places, split_places, value_places}
use Rattle.scaled_num.specs.First.{FirstIn}
use Rattle.scaled_num.proofs.First.{all-flat, all-map, first-flat, first-head, first-mapped, first-same, flat-same, map-flat, map-map}

-- the places of one node
abbrev pub places_of_node : GameData → ℕ → List Place
places_of_node g i = flat_map (λ s. map (λ c. NodeAt i s c) (below g.shape.informed_actions)) (below g.shape.states)

pub node-stands : (g : GameData) (k : CertificateData) (i : ℕ) → NodeStands (numbers g) (nodes_of k.nodes) (nodes_of k.nodes i) → AllByRecursion (Holds g k) (places_of_node g i)
node-stands g k i h =
    all-flat (Holds g k) (λ s. map (λ c. NodeAt i s c) (below g.shape.informed_actions)) g.shape.states (λ s ls.
    all-map (Holds g k) (λ c. NodeAt i s c) g.shape.informed_actions (λ c lc. h s c ls lc))

pub node-fails : (g : GameData) (k : CertificateData) (i : ℕ) (place : ℕ × ℕ) → NodeFailsFirst (numbers g) (nodes_of k.nodes) (nodes_of k.nodes i) place →
    FirstIn (Holds g k) (places_of_node g i) (NodeAt i place.0 place.1)
node-fails g k i place h =
    let at : ℕ × ℕ → Place = λ place. NodeAt i place.0 place.1 in
    subst (λ (ls : List Place). FirstIn (Holds g k) ls (at place))
    (map-flat at (state_places (numbers g)) (below g.shape.states)
    ∙ flat-same (λ s. map at (state_places (numbers g) s)) (λ s. map (λ c. NodeAt i s c) (below g.shape.informed_actions)) (below g.shape.states)
    (λ s. map-map at (λ (c : ℕ). (s, c)) (below g.shape.informed_actions)))
    (first-mapped (Holds g k) at (rule_places (numbers g)) place h)

-- the corner of a point
pub corner-none : (g : GameData) (k : CertificateData) (j : ℕ) → (j < g.shape.states → Holds g k (CornerAt j)) → AllByRecursion (Holds g k) (corner_places g j)
corner-none g k j h =
    all-flat (Holds g k) (λ s. cond (s == j) (CornerAt j ∷ []) []) g.shape.states (λ s ls.
    elim (eqb_tells s j) [
      | inl e ↦ rw e.0 (h (subst (λ (n : ℕ). n < g.shape.states) e.1 ls), tt)
      | inr e ↦ rw e.0 tt
    ])

pub corner-fails : (g : GameData) (k : CertificateData) (j : ℕ) → j < g.shape.states → ¬ (Holds g k (CornerAt j)) → FirstIn (Holds g k) (corner_places g j) (CornerAt j)
corner-fails g k j l fails =
    first-flat (Holds g k) (λ s. cond (s == j) (CornerAt j ∷ []) []) g.shape.states j (CornerAt j) l
    (λ s ls. elim (eqb_tells s j) [ inl e ↦ absurd (omega (arith, e.1)) | inr e ↦ rw e.0 tt ])
    (rw (eq-eqb j j refl) (first-head (Holds g k) (CornerAt j) [] fails))

-- the splits and the values of a point
pub point-stands : (g : GameData) (k : CertificateData) (j : ℕ) → PointStands (numbers g) (points_of k.points) (points_of k.points j) → AllByRecursion (Holds g k) (split_places g j ++ value_places g j)
point-stands g k j h =
    each-append (Holds g k) (split_places g j) (value_places g j)
    (all-flat (Holds g k) _ g.shape.own_actions (λ a la.
    all-flat (Holds g k) _ g.shape.observations (λ o lo.
    all-map (Holds g k) (λ s. SplitAt j a o s) g.shape.states (λ s ls. h.split a o s la lo ls))))
    (all-map (Holds g k) (λ a. ValueAt j a) g.shape.own_actions (λ a la. h.value a la))

-- the place of a certificate that a place of a point is
abbrev pub at_point : ℕ → PointFault → Place
at_point j (Split a o s) = SplitAt j a o s
at_point j (Value a) = ValueAt j a

places-are : (g : GameData) (j : ℕ) → map (at_point j) (fault_places (numbers g)) ≡ split_places g j ++ value_places g j
places-are g j =
    let splits : map (at_point j) (faults.split_places (numbers g)) ≡ split_places g j =
    map-flat (at_point j) (split_places_after (numbers g)) (below g.shape.own_actions)
    ∙ flat-same _ _ (below g.shape.own_actions) (λ a.
    map-flat (at_point j) (split_places_seen (numbers g) a) (below g.shape.observations)
    ∙ flat-same _ _ (below g.shape.observations) (λ o. map-map (at_point j) (λ (s : ℕ). split_place (a, o, s)) (below g.shape.states))) in
    let values : map (at_point j) (faults.value_places (numbers g)) ≡ value_places g j = map-map (at_point j) value_place (below g.shape.own_actions) in
    map-append (at_point j) (faults.split_places (numbers g)) (faults.value_places (numbers g)) ∙ cc

pub point-fails : (g : GameData) (k : CertificateData) (j : ℕ) (place : PointFault) → faults.FailsFirst (numbers g) (points_of k.points) (points_of k.points j) place →
    FirstIn (Holds g k) (split_places g j ++ value_places g j) (at_point j place)
point-fails g k j place h =
    subst (λ (ls : List Place). FirstIn (Holds g k) ls (at_point j place)) (places-are g j)
    (first-mapped (Holds g k) (at_point j) (fault_places (numbers g)) place
    (first-same (HoldsAt (numbers g) (points_of k.points) (points_of k.points j)) (λ (place : PointFault). Holds g k (at_point j place)) (fault_places (numbers g)) place there back h))
  where
    there : (place : PointFault) → HoldsAt (numbers g) (points_of k.points) (points_of k.points j) place → Holds g k (at_point j place)
    there (Split a o s) h = h
    there (Value a) h = h

    back : (place : PointFault) → Holds g k (at_point j place) → HoldsAt (numbers g) (points_of k.points) (points_of k.points j) place
    back (Split a o s) h = h
    back (Value a) h = h
