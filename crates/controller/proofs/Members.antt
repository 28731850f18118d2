-- What the nodes and the points of a certificate that fits have.
use Rattle.std.proofs.Common.{◌≡◌, ℕ, suc, ◌+◌, ◌*◌, ◌<◌, ◌≤◌, List, [], ◌∷◌, length, ap, arith, sym, ◌∙◌, subst, Bool, true, false, cond, ◌&&◌, ◌==◌, filter}
use Rattle.std.specs.Prelude.{ℤ, pos, neg_ℤ, ◌+ℤ◌, ◌*ℤ◌, ◌≤ℤ◌, sum_by, unsigned_abs, slice_index_or, get_or}
use Rattle.std.specs.List.{AllByRecursion}
use Rattle.std.proofs.lemmas.Int.{ints}
use Rattle.std.proofs.Math.Nat.{mul-le-mul_right}
use borrow.Author.Differences.{up}
use Rattle.scaled_num.specs.Sums.{below, total, sum_of}
use Rattle.scaled_num.proofs.Products.{sums}
use Rattle.scaled_num.proofs.Sums.{total-below, total-places, total-pos, total-same, each-at, each-map, sum_by-map}
use Rattle.alpha_set.specs.Nodes.{NodeData, NodeFits, no_node, node_of}
use Rattle.belief.specs.Mixes.{MixesData, mix_at, AreMixes}
use Rattle.controller.specs.Certificates.{CertificateData, CertificateFits}
use Rattle.controller.specs.Members.{NodeKeeps, NodesKeep, PointKeeps, PointsKeep, SharesNameMembers, StepsNameMembers, belief_total}
use Rattle.game_model.specs.Branches.{IsBranch, branches_at, continuation_of, mix_total}
use Rattle.game_model.specs.Game.{GameData, IsWithin, numbers, span}
use Rattle.game_model.proofs.Continuations.{continuations-are}
use Rattle.game_model.proofs.Pay.{each-from}
use Rattle.point_set.specs.Points.{PointData, PointFits, most_share, no_point, point_of}

-- a number that is not negative is its magnitude
pub same_abs : (x : ℤ) → pos 0 ≤ℤ x → pos (unsigned_abs x) ≡ x
same_abs x h = omega (arith, ints)

-- a sum of magnitudes of numbers that are not negative
pub sum-abs : {X : Type 0} (f : X → ℤ) (xs : List X) → AllByRecursion (λ x. pos 0 ≤ℤ f x) xs → pos (sum_by (λ x. unsigned_abs (f x)) xs) ≡ total f xs
sum-abs f xs h =
    sym (total-pos (λ x. unsigned_abs (f x)) xs)
    ∙ total-same (λ x. pos (unsigned_abs (f x))) f xs (each-from (λ x. pos 0 ≤ℤ f x) _ xs (λ x k. same_abs (f x) k) h)

pub pos_same : (m n : ℕ) → pos m ≡ pos n → m ≡ n
pos_same m n h = ap up h

-- what a filter keeps
pub each-filter : {X : Type 0} (P : X → Type 0) (p : X → Bool) (xs : List X) → AllByRecursion P xs → AllByRecursion P (filter p xs)
each-filter P p [] h = tt
each-filter P p (x ∷ xs) h = by (p x) (each-filter P p xs h.1)
  where
    by : (b : Bool) → AllByRecursion P (filter p xs) → AllByRecursion P (cond b (x ∷ filter p xs) (filter p xs))
    by true k = (h.0, k)
    by false k = k

-- the sum of a list of weights, by places
sum-places : (xs : List ℤ) (n : ℕ) → length xs ≡ n → AllByRecursion (λ x. pos 0 ≤ℤ x) xs →
    pos (sum_by (λ i. unsigned_abs (slice_index_or xs i (pos 0))) (below n)) ≡ sum_of xs
sum-places xs n l h =
    subst (λ (n : ℕ). pos (sum_by (λ i. unsigned_abs (slice_index_or xs i (pos 0))) (below n)) ≡ sum_of xs) l
    (sym (total-pos (λ i. unsigned_abs (get_or xs i (pos 0))) (below (length xs)))
    ∙ total-below (length xs) _ (λ i. get_or xs i (pos 0)) (λ i li. same_abs _ (each-at (λ x. pos 0 ≤ℤ x) (pos 0) xs i h li))
    ∙ total-places (λ x. x) (pos 0) xs)

pub node-keeps : (g : GameData) (count : ℕ) (node : NodeData) → NodeFits g count node → NodeKeeps (numbers g) mix_total (span g) count (node_of node)
node-keeps g count node fits =
    let each = λ (a o : ℕ). each-filter (IsBranch (numbers g) count (pos mix_total)) (λ b. (b.own == a) && (b.seen == o)) node.next fits.next.each in
    record {
      at_most = λ s ls. (each-at _ (pos 0) node.vector s fits.entries (subst (λ (n : ℕ). s < n) (sym fits.long) ls)).1;
      mix_sums = pos_same _ _ (sum-places node.mix g.shape.own_actions fits.mix.long (each-from _ _ node.mix (λ x h. h.0) fits.mix.each) ∙ fits.mix.sums);
      steps_sum = λ a o la lo. pos_same _ _
          (ap (λ steps. pos (sum_by (λ step. step.weight) steps)) (continuations-are node.next a o)
          ∙ ap pos (sum_by-map (λ step. step.weight) continuation_of (branches_at node.next a o))
          ∙ sum-abs (λ b. b.weight) (branches_at node.next a o) (each-from _ _ _ (λ b k. positive b.weight (pos mix_total) k.weight) (each a o))
          ∙ fits.sums a o la lo
          ∙ sym (same_abs _ (each-at (IsWithin (pos 0) (pos mix_total)) (pos 0) node.mix a fits.mix.each (subst (λ (n : ℕ). a < n) (sym fits.mix.long) la)).0));
      named = λ a o la lo. subst (AllByRecursion (λ step. step.member < count)) (sym (continuations-are node.next a o))
          (each-map _ continuation_of (branches_at node.next a o) (each-from _ _ _ (λ b k. k.member) (each a o)));
    }
  where
    positive : (x most : ℤ) → IsWithin (pos 1) most x → pos 0 ≤ℤ x
    positive x most h = omega (arith, ints, h.0)

-- the total of a belief that is not negative
pub belief-total : (g : GameData) (count : ℕ) (point : PointData) → PointFits g count point → pos (belief_total (numbers g) (point_of point)) ≡ sum_of point.belief
belief-total g count point fits = sum-places point.belief g.shape.states fits.belief.long (each-from _ _ point.belief (λ x h. h.0) fits.belief.each)

-- the place of a weight is in the list
place-inside : (states actions s c : ℕ) → s < states → c < actions → s * actions + c < states * actions
place-inside states actions s c ls lc =
    let rows : suc s * actions ≤ states * actions = mul-le-mul_right actions ls in
    omega arith

mix_sum : (mixes : MixesData) → AreMixes mixes → (actions s : ℕ) → mixes.actions ≡ actions → s < mixes.states →
    pos (sum_by (λ c. unsigned_abs (mix_at mixes s c)) (below actions)) ≡ pos mix_total
mix_sum mixes are actions s e ls =
    subst (λ (n : ℕ). pos (sum_by (λ c. unsigned_abs (mix_at mixes s c)) (below n)) ≡ pos mix_total) e
    (sym (total-pos (λ c. unsigned_abs (mix_at mixes s c)) (below mixes.actions))
    ∙ total-below mixes.actions _ (λ c. mix_at mixes s c)
    (λ c lc. same_abs _ (each-at _ (pos 0) mixes.weights (s * mixes.actions + c) are.each
    (subst (λ (n : ℕ). s * mixes.actions + c < n) (sym are.long) (place-inside mixes.states mixes.actions s c ls lc))).0)
    ∙ are.sums s ls)

pub point-keeps : (g : GameData) (count : ℕ) (point : PointData) → PointFits g count point → PointKeeps (numbers g) mix_total (span g) count (point_of point)
point-keeps g count point fits =
    let each = λ (a o : ℕ). each-filter (IsBranch (numbers g) count most_share) (λ b. (b.own == a) && (b.seen == o)) point.splits fits.splits.each in
    let total_is = belief-total g count point fits in
    record {
      at_least = least point.value (pos (span g)) (sum_of point.belief) (pos (span g * belief_total (numbers g) (point_of point))) (ap (λ z. pos (span g) *ℤ z) total_is) fits.value.0;
      mixes_sum = λ s ls. pos_same _ _ (mix_sum point.mixes fits.mixes g.shape.informed_actions s fits.actions (subst (λ (n : ℕ). s < n) (sym fits.states) ls));
      named = λ a o la lo. subst (AllByRecursion (λ share. share.member < count)) (sym (continuations-are point.splits a o))
          (each-map _ continuation_of (branches_at point.splits a o) (each-from _ _ _ (λ b k. k.member) (each a o)));
    }
  where
    least : (y v b k : ℤ) → k ≡ v *ℤ b → (neg_ℤ (v *ℤ b)) ≤ℤ y → pos 0 ≤ℤ (y +ℤ k)
    least y v b k e h = omega (arith, sums)

-- ---- of every member
pub nodes-keep : (g : GameData) (k : CertificateData) → CertificateFits g k → NodesKeep g k
nodes-keep g k fits i li = node-keeps g (length k.nodes) (slice_index_or k.nodes i no_node) (each-at (NodeFits g (length k.nodes)) no_node k.nodes i fits.nodes li)

pub points-keep : (g : GameData) (k : CertificateData) → CertificateFits g k → PointsKeep g k
points-keep g k fits j lj = point-keeps g (length k.points) (slice_index_or k.points j no_point) (each-at (PointFits g (length k.points)) no_point k.points j fits.points lj)

-- ---- what steps and shares name
pub steps-name : (g : GameData) (k : CertificateData) → CertificateFits g k → StepsNameMembers g k
steps-name g k fits i li =
    let node : NodeData = slice_index_or k.nodes i no_node in
    let node_fits = each-at (NodeFits g (length k.nodes)) no_node k.nodes i fits.nodes li in
    each-map _ continuation_of node.next (each-from _ _ node.next (λ b h. (h.own, h.seen, h.member)) node_fits.next.each)

pub shares-name : (g : GameData) (k : CertificateData) → CertificateFits g k → SharesNameMembers g k
shares-name g k fits j lj =
    let point : PointData = slice_index_or k.points j no_point in
    let point_fits = each-at (PointFits g (length k.points)) no_point k.points j fits.points lj in
    each-map _ continuation_of point.splits (each-from _ _ point.splits (λ b h. (h.own, h.seen, h.member)) point_fits.splits.each)
