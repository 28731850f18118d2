-- A search that holds the seeds and no visit.
use Rattle.std.proofs.Common.{◌≡◌, ◌⊎◌, ℕ, ◌+◌, ◌^◌, ◌<◌, ◌≤◌, List, [], ◌∷◌, ◌++◌, false, length, take, inl, inr, refl, ap, ap₂, sym, subst, ◌∙◌, arith, length-append}
use Rattle.std.proofs.Math.Seq.{get_or-append_seam, take-length}
use Rattle.std.proofs.lemmas.Bool.{false≢true}
use Rattle.std.proofs.lemmas.Int.{by_lt_z, ints}
use Rattle.std.proofs.lemmas.List.{get_or-take, get_or_append_left}
use Rattle.std.specs.List.{AllByRecursion}
use Rattle.std.specs.Prelude.{ℤ, pos, slice_index_or, ◌≤ℤ◌}
use Rattle.scaled_num.specs.Sums.{sum_of}
use Rattle.alpha_set.specs.Members.{most_nodes}
use Rattle.alpha_set.specs.Nodes.{NodeData, NodeFits, NodeStands, nodes_of}
use Rattle.backup.specs.Seeds.{AreSeedPoints, IsRootPoint, IsSure}
use Rattle.backup.proofs.SeedPoints.{corner-at, corners-count, corners_of}
use Rattle.backup.proofs.Sure.{total-more, total-one}
use Rattle.belief.specs.Beliefs.{corner_of}
use Rattle.belief.specs.Mixes.{pure_mixes}
use Rattle.game_model.specs.Game.{GameData, IsGame, IsWithin, numbers}
use Rattle.game_model.proofs.Pay.{each-from}
use Rattle.point_set.specs.Members.{most_points}
use Rattle.point_set.specs.Corners.{point_at}
use Rattle.point_set.specs.Points.{PointData, PointFits, PointStands, no_point, points_of}
use Rattle.simplex.specs.Solver.{State}
use Rattle.hsvi_trial.specs.Courses.{LeadsIn}
use Rattle.hsvi_trial.specs.Data.{SearchState}
use Rattle.hsvi_trial.specs.Founds.{HasStart}
use Rattle.backup.specs.Rooms.{HasRooms}
use Rattle.hsvi_trial.specs.Held.{IsHeld}
use Rattle.hsvi_trial.specs.Journal.{AreHeld}
use Rattle.hsvi_trial.specs.Least.{NoneIsAt}
use Rattle.hsvi_trial.specs.Run.{IsRunSoFar, IsWithinLimits, Task}
use Rattle.hsvi_trial.specs.Sets.{AreSeedSets, AreStanding, Sets}
use Rattle.hsvi_trial.specs.declared.courses.Course.{Course}
use Rattle.hsvi_trial.specs.declared.courses.Next.{Next}
use Rattle.hsvi_trial.specs.declared.courses.Next.TheVariants.{Down}
use Rattle.hsvi_trial.specs.declared.visits.Visit.{Visit}
use Rattle.hsvi_trial.proofs.Places.{begins-first}
use Rattle.hsvi_trial.proofs.Standing.{nodes-serve, points-serve}

pub sure-or-not : (g : GameData) → IsGame g → IsSure g.first ⊎ (IsSure g.first → ⊥)
sure-or-not g game = by_lt_z (pos 1) (sum_of g.first)
    (λ more. inr (total-more g.first more))
    (λ upto. let low = game.first.sums.0 in inl (total-one g.first (each-from (IsWithin (pos 0) (pos (2 ^ 20))) (λ x. pos 0 ≤ℤ x) g.first (λ x w. w.0) game.first.each) (omega (arith, ints))))

-- ---- the corners come first among the seed points, and one point is at the first belief
corner-there : (g : GameData) (values : List ℤ) (replies : List ℕ) (more : List PointData) (s : ℕ) → s < g.shape.states →
    (slice_index_or (corners_of g values replies ++ more) s no_point).belief ≡ corner_of g.shape.states s
corner-there g values replies more s l =
    ap (λ (p : PointData). p.belief) (get_or_append_left (corners_of g values replies) more no_point s (subst (λ (n : ℕ). s < n) (sym (corners-count g values replies)) l) ∙ corner-at g values replies s l)

seed-corners : (g : GameData) → IsGame g → (points : List PointData) → AreSeedPoints g points → (s : ℕ) → s < g.shape.states → (slice_index_or points s no_point).belief ≡ corner_of g.shape.states s
seed-corners g game points seeds s l = elim (sure-or-not g game) [
  | inl sure ↦ ap (λ (ps : List PointData). (slice_index_or ps s no_point).belief) (seeds.sure sure) ∙ ap (λ (p : PointData). p.belief) (corner-at g seeds.values seeds.replies s l)
  | inr not ↦ let root = seeds.unsure not in ap (λ (ps : List PointData). (slice_index_or ps s no_point).belief) root.2 ∙ corner-there g seeds.values seeds.replies (root.0 ∷ []) s l
]

abbrev HasFirst : GameData → List PointData → Type 0
HasFirst g points = (j : ℕ) × ((j < length points) × ((point_at points j).belief ≡ g.first))

seed-first : (g : GameData) → IsGame g → (points : List PointData) → AreSeedPoints g points → HasFirst g points
seed-first g game points seeds = elim (sure-or-not g game) [
  | inl sure ↦ at-corner sure
  | inr not ↦ at-root (seeds.unsure not)
]
  where
    at-corner : IsSure g.first → HasFirst g points
    at-corner sure =
        let inside : sure.0 < g.shape.states = subst (λ (n : ℕ). sure.0 < n) game.first.long sure.1 in (
          sure.0,
          (
            subst (λ (ps : List PointData). sure.0 < length ps) (sym (seeds.sure sure)) (subst (λ (n : ℕ). sure.0 < n) (sym (corners-count g seeds.values seeds.replies)) inside),
            seed-corners g game points seeds sure.0 inside ∙ ap (λ (n : ℕ). corner_of n sure.0) (sym game.first.long) ∙ sym sure.2,
          ),
        )

    use-root : (root : PointData) → root.belief ≡ g.first → points ≡ corners_of g seeds.values seeds.replies ++ root ∷ [] → HasFirst g points
    use-root root here is =
        let n : ℕ = length (corners_of g seeds.values seeds.replies) in (
          n,
          (
            subst (λ (ps : List PointData). n < length ps) (sym is) (omega (arith, length-append (corners_of g seeds.values seeds.replies) (root ∷ []))),
            ap (λ (ps : List PointData). (point_at ps n).belief) is ∙ ap (λ (p : PointData). p.belief) (get_or-append_seam (corners_of g seeds.values seeds.replies) root [] no_point) ∙ here,
          ),
        )

    at-root : (root : PointData) × IsRootPoint g (corners_of g seeds.values seeds.replies) (pure_mixes g seeds.replies) root × (points ≡ corners_of g seeds.values seeds.replies ++ root ∷ []) → HasFirst g points
    at-root found = use-root found.0 (ap (λ (p : PointData). p.belief) found.1.same) found.2

-- sets that hold the seeds have a point at the first belief
pub first-held : (g : GameData) → IsGame g → (seeds sets : Sets) (journal : List Visit) → AreHeld g seeds sets journal → NoneIsAt sets.points g.first (length sets.points) → ⊥
first-held g game seeds sets journal held none =
    let has = seed-first g game seeds.points held.are_seeds.first_points in
    let front : take (length seeds.points + 0) sets.points ≡ seeds.points = ap (λ (s : Sets). s.points) held.begin in
    let few : has.0 < length sets.points = omega (arith, held.all_points, has.1.0) in
    none has.0 few
    (ap (λ (p : PointData). p.belief) (sym (get_or-take (length seeds.points + 0) sets.points has.0 no_point (omega (arith, has.1.0))))
    ∙ ap (λ (ps : List PointData). (point_at ps has.0).belief) front ∙ has.1.1)

-- a search has a start
pub has-start : (state : SearchState) (course : Course) (solver : State) → IsGame state.task.game → IsHeld state course solver → HasStart state.task.game state.sets
has-start state course solver game held = record {
  nodes = held.nodes;
  points = held.points;
  first = first-held state.task.game game held.seeds state.sets state.journal held.run.held;
}

-- ---- the run without a visit
no-split : (earlier later : List Visit) (visit : Visit) → [] ≡ earlier ++ visit ∷ later → ⊥
no-split earlier later visit e = omega (arith, ap length e, length-append earlier (visit ∷ later))

all-taken : {X : Type 0} (xs : List X) (n : ℕ) → n ≡ length xs → take n xs ≡ xs
all-taken xs n e = subst (λ (m : ℕ). take m xs ≡ xs) (sym e) (take-length xs)

run-first : (task : Task) (seeds : Sets) → AreSeedSets task.game seeds → IsRunSoFar task seeds seeds [] false
run-first task seeds are = record {
  held = record {
    are_seeds = are;
    begin = ap₂ (λ (ns : List NodeData) (ps : List PointData). made ns ps) (all-taken seeds.nodes _ (omega arith)) (all-taken seeds.points _ (omega arith));
    all_nodes = omega arith;
    all_points = omega arith;
  };
  right = λ earlier visit later e. absurd (no-split earlier later visit e);
  linked = λ earlier visit next later e down deep. absurd (no-split earlier (next ∷ later) visit e);
  trials = [];
  last = [];
  shaped = record {
    whole = record { each = λ number l. absurd (omega arith) };
    joined = refl;
    ahead = [];
    front = record {
      down = [];
      back = [];
      both = refl;
      way_down = record { each = tt; depths = refl; first = tt; go_on = λ earlier later x next e. absurd (no-split earlier (next ∷ later) x e) };
      each_back = tt;
      mirrored = refl;
      turned = λ l. absurd (omega arith);
    };
  };
  opened = λ earlier visit later e top down. absurd (no-split earlier later visit e);
  some = λ cut. absurd (false≢true cut);
}
  where
    made : List NodeData → List PointData → Sets
    made ns ps = record { nodes = ns; points = ps }

pub held-first : (task : Task) (seeds : Sets) (solver : State) → IsGame task.game → IsWithinLimits task → AreSeedSets task.game seeds →
    AllByRecursion (NodeFits task.game (length seeds.nodes)) seeds.nodes → AllByRecursion (PointFits task.game (length seeds.points)) seeds.points →
    ((i : ℕ) → i < length seeds.nodes → NodeStands (numbers task.game) (nodes_of seeds.nodes) (nodes_of seeds.nodes i)) →
    ((j : ℕ) → j < length seeds.points → PointStands (numbers task.game) (points_of seeds.points) (points_of seeds.points j)) →
    length seeds.nodes ≤ most_nodes → length seeds.points ≤ most_points → HasRooms task.game solver →
    IsHeld (record { task = task; sets = seeds; journal = []; cut = false }) (record { trial = 0; first = 0; next = Down task.game.first }) solver
held-first task seeds solver game limits are nodes_fit points_fit nodes_stand points_stand few_nodes few_points rooms = record {
  limits = limits;
  standing = standing;
  nodes = nodes-serve task.game seeds standing (let some = game.shape.own_actions.0 in omega (arith, are.first_nodes.count)) few_nodes;
  points = points-serve task.game seeds game standing few_points;
  seeds = seeds;
  run = run-first task seeds are;
  goes = begins-first task.game (LeadsIn task.game seeds seeds);
  beliefs = tt;
  next = record { right = game.first; coprime = game.coprime };
  rooms = rooms;
}
  where
    standing : AreStanding task.game seeds
    standing = record {
      nodes_fit = nodes_fit;
      points_fit = points_fit;
      nodes_stand = nodes_stand;
      points_stand = points_stand;
      corners = seed-corners task.game game seeds.points are.first_points;
    }

abbrev course_of : ℕ → ℕ → Next → Course
course_of trial first next = record { trial = trial; first = first; next = next }

-- the same, for a journal and a course as they are made
pub held-new : (task : Task) (seeds : Sets) (journal : List Visit) (course : Course) (solver : State) → IsGame task.game → IsWithinLimits task → AreSeedSets task.game seeds →
    AllByRecursion (NodeFits task.game (length seeds.nodes)) seeds.nodes → AllByRecursion (PointFits task.game (length seeds.points)) seeds.points →
    ((i : ℕ) → i < length seeds.nodes → NodeStands (numbers task.game) (nodes_of seeds.nodes) (nodes_of seeds.nodes i)) →
    ((j : ℕ) → j < length seeds.points → PointStands (numbers task.game) (points_of seeds.points) (points_of seeds.points j)) →
    length seeds.nodes ≤ most_nodes → length seeds.points ≤ most_points → HasRooms task.game solver → journal ≡ [] → course.trial ≡ 0 → course.first ≡ 0 → course.next ≡ Down task.game.first →
    IsHeld (record { task = task; sets = seeds; journal = journal; cut = false }) course solver
held-new task seeds journal course solver game limits are nodes_fit points_fit nodes_stand points_stand few_nodes few_points rooms none trial first next =
    subst (λ (vs : List Visit). IsHeld (record { task = task; sets = seeds; journal = vs; cut = false }) course solver) (sym none)
    (subst (λ (k : Course). IsHeld (record { task = task; sets = seeds; journal = []; cut = false }) k solver) (sym same)
    (held-first task seeds solver game limits are nodes_fit points_fit nodes_stand points_stand few_nodes few_points rooms))
  where
    same : course ≡ record { trial = 0; first = 0; next = Down task.game.first }
    same = ap₂ (λ (t f : ℕ). course_of t f course.next) trial first ∙ ap (λ (n : Next). course_of 0 0 n) next
