-- The branches of the program after an own action and an observation, as continuations.
use Rattle.std.proofs.Common.{◌≡◌, ℕ, suc, ◌+◌, ◌*◌, ◌^◌, ◌<◌, ◌≤◌, List, [], ◌∷◌, length, get_or, map, filter, ap, arith, refl, sym, subst, ◌∙◌}
use Rattle.std.specs.Prelude.{ℤ, pos, unsigned_abs}
use Rattle.std.specs.List.{AllByRecursion, sum, sum_by}
use Rattle.std.proofs.lemmas.Int.{ints}
use Rattle.std.proofs.lemmas.Nat.{mul-le}
use Rattle.std.proofs.lemmas.List.{get_or-map, length-map}
use Rattle.std.proofs.lemmas.List.FromFn.{get_or-range_with_len, length-range_with_len}
use Rattle.std.proofs.lemmas.List.Sums.{get_or-le-sum_by, sum-map, sum_by-cons}
use Rattle.scaled_num.specs.Sums.{below}
use Rattle.scaled_num.proofs.Each.{each-of-map}
use Rattle.scaled_num.proofs.Sums.{each-at}
use Rattle.belief.proofs.Landings.{each-filter}
use Rattle.game_model.specs.Branches.{AreRising, Branch, Continuation, IsBranch, branch_of, continuation_of, continuations_at, mix_total}
use Rattle.game_model.specs.Game.{GameData, IsWithin, numbers}
use Rattle.game_model.specs.declared.branches.Branch.{Branch as BranchParts}
use Rattle.game_model.proofs.Pay.{each-from}
use Rattle.alpha_set.specs.Nodes.{NodeData, node_of, no_node, nodes_of, steps_at}
use Rattle.point_set.specs.Members.{IsAfter}
use Rattle.point_set.specs.Points.{PointData, PointFits, most_share, no_point, point_of, points_of, shares_at}
use Rattle.point_set.proofs.Named.{shares-at}
use Rattle.point_set.proofs.Shares.{few-shares}
use Rattle.controller.specs.Certificates.{CertificateData, CertificateFits}
use Rattle.simulate.specs.Choices.{IsLight}
use Rattle.simulate.specs.Plays.{no_continuation, share_weights, step_weights}
use Rattle.simulate.proofs.Moments.{mix-sum}

abbrev pub continued : List BranchParts → List Continuation
continued xs = map continuation_of (map branch_of xs)

-- the steps of a node, and the shares of a point
pub steps-are : (k : CertificateData) (i a o : ℕ) (node : NodeData) (xs steps : List BranchParts) → map branch_of xs ≡ node.next → node ≡ get_or k.nodes i no_node → steps ≡ filter (IsAfter a o) xs →
    continued steps ≡ steps_at (nodes_of k.nodes i) a o
steps-are k i a o node xs steps next at e =
    ap continued e ∙ sym (shares-at xs a o) ∙ ap (λ (bs : List Branch). continuations_at (map continuation_of bs) a o) next ∙ ap (λ (n : NodeData). steps_at (node_of n) a o) at

pub shares-are : (k : CertificateData) (j a o : ℕ) (point : PointData) (xs shares : List BranchParts) → map branch_of xs ≡ point.splits → point ≡ get_or k.points j no_point → shares ≡ filter (IsAfter a o) xs →
    continued shares ≡ shares_at (points_of k.points j) a o
shares-are k j a o point xs shares splits at e =
    ap continued e ∙ sym (shares-at xs a o) ∙ ap (λ (bs : List Branch). continuations_at (map continuation_of bs) a o) splits ∙ ap (λ (p : PointData). shares_at (point_of p) a o) at

-- their weights
pub weights-same : (xs : List BranchParts) → map (λ (b : BranchParts). unsigned_abs b.weight) xs ≡ step_weights (continued xs)
weights-same [] = refl
weights-same (x ∷ xs) = ap (λ ws. unsigned_abs x.weight ∷ ws) (weights-same xs)

pub brought-same : (k : CertificateData) (s : ℕ) (xs : List BranchParts) → map (λ (b : BranchParts). unsigned_abs b.weight * (points_of k.points b.k).belief s) xs ≡ share_weights k s (continued xs)
brought-same k s [] = refl
brought-same k s (x ∷ xs) = ap (λ ws. unsigned_abs x.weight * (points_of k.points x.k).belief s ∷ ws) (brought-same k s xs)

-- the member at a place
pub member-at : (xs : List BranchParts) (i : ℕ) (d : BranchParts) → i < length xs → (get_or xs i d).k ≡ (get_or (continued xs) i no_continuation).member
member-at xs i d l =
    let long : i < length (map branch_of xs) = subst (λ (n : ℕ). i < n) (sym (length-map xs branch_of)) l in
    sym (ap (λ (c : Continuation). c.member) (get_or-map continuation_of (map branch_of xs) i (branch_of d) no_continuation long ∙ ap continuation_of (get_or-map branch_of xs i d (branch_of d) l)))

-- ---- sizes
pub mix-small : (g : GameData) (k : CertificateData) (i a : ℕ) → CertificateFits g k → i < length k.nodes → a < g.shape.own_actions → (nodes_of k.nodes i).mix a ≤ mix_total
mix-small g k i a fits l la =
    let f : ℕ → ℕ = (nodes_of k.nodes i).mix in
    let at : f (get_or (below g.shape.own_actions) a 0) ≡ f a = ap f (get_or-range_with_len 0 g.shape.own_actions a 0 la ∙ omega arith) in
    let part = get_or-le-sum_by f (below g.shape.own_actions) a 0 (subst (λ (n : ℕ). a < n) (sym (length-range_with_len 0 g.shape.own_actions)) la) in
    omega (arith, part, at, mix-sum g k i fits l)

pub shares-light : (g : GameData) (k : CertificateData) (j a o : ℕ) (xs shares : List BranchParts) → CertificateFits g k → j < length k.points → map branch_of xs ≡ (get_or k.points j no_point).splits → shares ≡ filter (IsAfter a o) xs →
    AllByRecursion (λ (share : BranchParts). IsLight (length k.points) share.k share.weight) shares
shares-light g k j a o xs shares fits l splits e =
    let branches = (each-at (PointFits g (length k.points)) no_point k.points j fits.points l).splits.each in
    let each = each-of-map (IsBranch (numbers g) (length k.points) most_share) branch_of xs (subst (AllByRecursion (IsBranch (numbers g) (length k.points) most_share)) (sym splits) branches) in
    subst (AllByRecursion (λ (share : BranchParts). IsLight (length k.points) share.k share.weight)) (sym e)
    (each-filter (λ (share : BranchParts). IsLight (length k.points) share.k share.weight) (IsAfter a o) xs
    (each-from (λ (x : BranchParts). IsBranch (numbers g) (length k.points) most_share (branch_of x)) _ xs (λ x b. (b.member, light x.weight b.weight)) each))
  where
    light : (x : ℤ) → IsWithin (pos 1) (pos (2 ^ 66)) x → unsigned_abs x ≤ 2 ^ 66
    light x h = let low = h.0 in let high = h.1 in omega (arith, ints)

pub shares-few : (g : GameData) (k : CertificateData) (j a o : ℕ) (xs shares : List BranchParts) → CertificateFits g k → j < length k.points → map branch_of xs ≡ (get_or k.points j no_point).splits → shares ≡ filter (IsAfter a o) xs →
    length shares ≤ 1024
shares-few g k j a o xs shares fits l splits e =
    let branches = (each-at (PointFits g (length k.points)) no_point k.points j fits.points l).splits in
    let each = each-of-map (IsBranch (numbers g) (length k.points) most_share) branch_of xs (subst (AllByRecursion (IsBranch (numbers g) (length k.points) most_share)) (sym splits) branches.each) in
    let few = few-shares a o (length k.points) xs (subst AreRising (sym splits) branches.rising)
    (each-from (λ (x : BranchParts). IsBranch (numbers g) (length k.points) most_share (branch_of x)) (λ (x : BranchParts). x.k < length k.points) xs (λ x b. b.member) each) in
    omega (arith, few, fits.most_points, ap length e)

pub belief-small : (g : GameData) (k : CertificateData) (j s : ℕ) → CertificateFits g k → j < length k.points → s < g.shape.states → (points_of k.points j).belief s ≤ 2 ^ 20
belief-small g k j s fits l ls =
    let point = each-at (PointFits g (length k.points)) no_point k.points j fits.points l in
    small _ (each-at (IsWithin (pos 0) (pos (2 ^ 20))) (pos 0) (get_or k.points j no_point).belief s point.belief.each (subst (λ (n : ℕ). s < n) (sym point.belief.long) ls))
  where
    small : (x : ℤ) → IsWithin (pos 0) (pos (2 ^ 20)) x → unsigned_abs x ≤ 2 ^ 20
    small x h = let low = h.0 in let high = h.1 in omega (arith, ints)

sum-most : {X : Type 0} (f : X → ℕ) (m : ℕ) (xs : List X) → AllByRecursion (λ x. f x ≤ m) xs → sum_by f xs ≤ length xs * m
sum-most f m [] h = omega arith
sum-most f m (x ∷ xs) h =
    let first = h.0 in
    let more : suc (length xs) * m ≡ m + length xs * m = omega arith in
    omega (arith, sum_by-cons f x xs, first, sum-most f m xs h.1, more)

pub brought-small : (g : GameData) (k : CertificateData) (s : ℕ) (shares : List BranchParts) → CertificateFits g k → s < g.shape.states → length shares ≤ 1024 →
    AllByRecursion (λ (share : BranchParts). IsLight (length k.points) share.k share.weight) shares → sum (map (λ (b : BranchParts). unsigned_abs b.weight * (points_of k.points b.k).belief s) shares) ≤ 2 ^ 96
brought-small g k s shares fits ls few light =
    let f : BranchParts → ℕ = λ (b : BranchParts). unsigned_abs b.weight * (points_of k.points b.k).belief s in
    let each = each-from (λ (share : BranchParts). IsLight (length k.points) share.k share.weight) (λ (share : BranchParts). f share ≤ 2 ^ 66 * 2 ^ 20) shares
    (λ share h. mul-le (unsigned_abs share.weight) ((points_of k.points share.k).belief s) (2 ^ 66) (2 ^ 20) h.1 (belief-small g k share.k s fits h.0 ls)) light in
    let most = sum-most f (2 ^ 66 * 2 ^ 20) shares each in
    let whole = mul-le (length shares) (2 ^ 66 * 2 ^ 20) 1024 (2 ^ 66 * 2 ^ 20) few (omega arith) in
    omega (arith, sum-map f shares, most, whole)
