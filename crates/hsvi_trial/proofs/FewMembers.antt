-- The sets of a run have few members: the seeds are few, and a visit keeps none where its set is full.
use Rattle.std.proofs.Common.{◌≡◌, ℕ, ◌+◌, ◌≤◌, Bool, cond, List, [], ◌∷◌, ◌++◌, Option, Some, None, inl, inr, length, take, refl, ap, sym, subst, ◌∙◌, arith, length-append}
use Rattle.std.specs.Prelude.{ℤ, count_by, is_some}
use Rattle.std.proofs.lemmas.List.{append-nil, append_assoc, length-take-le}
use Rattle.std.proofs.lemmas.List.Sums.{sum_by-append, sum_by-cons}
use Rattle.alpha_set.specs.Nodes.{NodeData}
use Rattle.backup.specs.Seeds.{AreSeedPoints}
use Rattle.backup.proofs.SeedPoints.{corners-count, corners_of}
use Rattle.game_model.specs.Game.{GameData, IsGame}
use Rattle.game_model.specs.Limits.{most_members, most_states}
use Rattle.point_set.specs.Points.{PointData}
use Rattle.hsvi_trial.specs.Due.{KeepsNode, KeepsPoint}
use Rattle.hsvi_trial.specs.Run.{IsRunSoFar, Task}
use Rattle.hsvi_trial.specs.Sets.{Sets, kept_nodes, kept_points}
use Rattle.hsvi_trial.specs.declared.visits.Visit.{Visit}
use Rattle.hsvi_trial.proofs.Beginning.{sure-or-not}

-- ---- a count that no visit takes past the most
one-more : (kept : Visit → Bool) (earlier : List Visit) (visit : Visit) →
    count_by kept (earlier ++ visit ∷ []) ≡ count_by kept earlier + cond (kept visit) 1 0
one-more kept earlier visit =
    let one : Visit → ℕ = λ v. cond (kept v) 1 0 in
    omega (arith, sum_by-append one earlier (visit ∷ []), sum_by-cons one visit [])

never-more : (kept : Visit → Bool) (seeded : ℕ) (journal : List Visit) →
    ((earlier : List Visit) (visit : Visit) (later : List Visit) → journal ≡ earlier ++ visit ∷ later →
    seeded + count_by kept earlier ≤ most_members →
    seeded + count_by kept earlier + cond (kept visit) 1 0 ≤ most_members) →
    (earlier later : List Visit) → journal ≡ earlier ++ later → seeded + count_by kept earlier ≤ most_members →
    seeded + count_by kept journal ≤ most_members
never-more kept seeded journal step earlier [] e few =
    subst (λ (vs : List Visit). seeded + count_by kept vs ≤ most_members) (sym (e ∙ append-nil earlier)) few
never-more kept seeded journal step earlier (visit ∷ later) e few =
    never-more kept seeded journal step (earlier ++ visit ∷ []) later
    (e ∙ sym (append_assoc earlier (visit ∷ []) later))
    (omega (arith, one-more kept earlier visit, step earlier visit later e few))

-- earlier visits kept no more than all
kept-front : (kept : Visit → Bool) (journal earlier later : List Visit) → journal ≡ earlier ++ later →
    count_by kept earlier ≤ count_by kept journal
kept-front kept journal earlier later e =
    omega (arith, ap (count_by kept) e, sum_by-append (λ (v : Visit). cond (kept v) 1 0) earlier later)

-- ---- the nodes
keeps-node : (before after : List NodeData) (belief : List ℤ) (node : NodeData) (number : Option ℕ) →
    KeepsNode before after belief node number → length before ≤ most_members →
    length before + cond (is_some number) 1 0 ≤ most_members
keeps-node before after belief node None keeps few = omega arith
keeps-node before after belief node (Some n) keeps few = omega (arith, keeps.1)

pub few-nodes : (task : Task) (seeds sets : Sets) (journal : List Visit) (cut : Bool) → IsGame task.game →
    IsRunSoFar task seeds sets journal cut → length sets.nodes ≤ most_members
few-nodes task seeds sets journal cut game run =
    subst (λ (n : ℕ). n ≤ most_members) (sym run.held.all_nodes)
    (never-more (λ v. is_some v.node) (length seeds.nodes) journal step [] journal refl
    (let few = game.shape.own_actions.1 in omega (arith, run.held.are_seeds.first_nodes.count)))
  where
    step : (earlier : List Visit) (visit : Visit) (later : List Visit) → journal ≡ earlier ++ visit ∷ later →
        length seeds.nodes + kept_nodes earlier ≤ most_members →
        length seeds.nodes + kept_nodes earlier + cond (is_some visit.node) 1 0 ≤ most_members
    step earlier visit later e few =
        let n : ℕ = length seeds.nodes + kept_nodes earlier in
        let before : kept_nodes earlier ≤ kept_nodes journal = kept-front _ journal earlier (visit ∷ later) e in
        let inside : n ≤ length sets.nodes = omega (arith, run.held.all_nodes) in
        let long : length (take n sets.nodes) ≡ n = length-take-le n sets.nodes inside in
        let right = run.right earlier visit later e in
        subst (λ (m : ℕ). m + cond (is_some visit.node) 1 0 ≤ most_members) long
        (keeps-node (take n sets.nodes) _ visit.belief right.made.node visit.node right.node
        (subst (λ (m : ℕ). m ≤ most_members) (sym long) few))

-- ---- the points
seed-points-few : (g : GameData) → IsGame g → (points : List PointData) → AreSeedPoints g points →
    length points ≤ most_members
seed-points-few g game points seeds = elim (sure-or-not g game) [
  | inl sure ↦ omega (arith, ap length (seeds.sure sure), count, few)
  | inr not ↦
      let root = seeds.unsure not in
      let more = length-append (corners_of g seeds.values seeds.replies) (root.0 ∷ []) in
      omega (arith, ap length root.2, more, count, few)
]
  where
    count : length (corners_of g seeds.values seeds.replies) ≡ g.shape.states
    count = corners-count g seeds.values seeds.replies

    few : g.shape.states ≤ most_states
    few = game.shape.states.1

keeps-point : (Refused : Type 0) (before after : List PointData) (belief : List ℤ) (point : PointData)
    (number : Option ℕ) → KeepsPoint Refused before after belief point number → length before ≤ most_members →
    length before + cond (is_some number) 1 0 ≤ most_members
keeps-point Refused before after belief point None keeps few = omega arith
keeps-point Refused before after belief point (Some n) keeps few = omega (arith, keeps.1)

pub few-points : (task : Task) (seeds sets : Sets) (journal : List Visit) (cut : Bool) → IsGame task.game →
    IsRunSoFar task seeds sets journal cut → length sets.points ≤ most_members
few-points task seeds sets journal cut game run =
    subst (λ (n : ℕ). n ≤ most_members) (sym run.held.all_points)
    (never-more (λ v. is_some v.point) (length seeds.points) journal step [] journal refl
    (let few = seed-points-few task.game game seeds.points run.held.are_seeds.first_points in omega arith))
  where
    step : (earlier : List Visit) (visit : Visit) (later : List Visit) → journal ≡ earlier ++ visit ∷ later →
        length seeds.points + kept_points earlier ≤ most_members →
        length seeds.points + kept_points earlier + cond (is_some visit.point) 1 0 ≤ most_members
    step earlier visit later e few =
        let n : ℕ = length seeds.points + kept_points earlier in
        let before : kept_points earlier ≤ kept_points journal = kept-front _ journal earlier (visit ∷ later) e in
        let inside : n ≤ length sets.points = omega (arith, run.held.all_points) in
        let long : length (take n sets.points) ≡ n = length-take-le n sets.points inside in
        let right = run.right earlier visit later e in
        subst (λ (m : ℕ). m + cond (is_some visit.point) 1 0 ≤ most_members) long
        (keeps-point _ (take n sets.points) _ visit.belief right.made.point visit.point right.point
        (subst (λ (m : ℕ). m ≤ most_members) (sym long) few))
