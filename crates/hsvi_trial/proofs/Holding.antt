-- What a search holds is kept by a visit, and serves the calls of one.
use Rattle.std.proofs.Common.{◌≡◌, ℕ, ◌+◌, ◌*◌, ◌-◌, ◌<◌, ◌≤◌, List, Option, Some, None, [], ◌∷◌, ◌++◌, Bool, true, false, cond, ◌==◌, length, refl, ap, sym, subst, arith, length-append}
use Rattle.std.proofs.lemmas.List.{get_or_append_left}
use Rattle.std.specs.List.{AllByRecursion}
use Rattle.std.specs.Prelude.{ℤ}
use Rattle.scaled_num.proofs.Sums.{each-append, each-at}
use Rattle.alpha_set.specs.Members.{most_nodes}
use Rattle.alpha_set.specs.Nodes.{NodeData, NodeFits}
use Rattle.belief.specs.Beliefs.{corner_of}
use Rattle.game_model.specs.Game.{GameData, IsGame}
use Rattle.point_set.specs.Corners.{HasCorner, point_at}
use Rattle.point_set.specs.Members.{most_points}
use Rattle.point_set.specs.Points.{PointData, PointFits, no_point}
use Rattle.point_set.proofs.Fitting.{fits-more}
use Rattle.simplex.specs.Solver.{State}
use Rattle.stage_game.specs.Asked.{BeliefFits, NodesServe, PointsServe}
use Rattle.hsvi_trial.specs.Courses.{BeginsTrial, GoesOn, HasPlace, IsPlace, course_after, next_after}
use Rattle.hsvi_trial.specs.Data.{SearchState}
use Rattle.hsvi_trial.specs.Due.{KeepsNode, KeepsPoint}
use Rattle.backup.specs.Rooms.{HasRooms}
use Rattle.hsvi_trial.specs.Held.{IsHeld, NextFits, VisitFits}
use Rattle.hsvi_trial.specs.Next.{visits_of}
use Rattle.hsvi_trial.specs.Run.{IsRunSoFar, Task}
use Rattle.hsvi_trial.specs.Sets.{AreStanding, Sets}
use Rattle.hsvi_trial.specs.Starts.{AreOpen}
use Rattle.hsvi_trial.specs.declared.courses.Course.{Course}
use Rattle.hsvi_trial.specs.declared.courses.Next.{Next}
use Rattle.hsvi_trial.specs.declared.courses.Next.TheVariants.{Back, Down}
use Rattle.hsvi_trial.specs.declared.courses.Place.{Place}
use Rattle.hsvi_trial.specs.declared.visits.Visit.{Visit}
use Rattle.backup.proofs.GrownSets.{node-fits-more}
use Rattle.hsvi_trial.proofs.Short.{few-trials, runs-are-short}
use Rattle.hsvi_trial.proofs.Stepping.{IsVisitAt, inside-back, stepped}

-- ---- what a visit keeps goes on to serve
pub nodes-go-on : (g : GameData) (before after : List NodeData) (belief : List ℤ) (node : NodeData) (number : Option ℕ) → NodesServe g before → KeepsNode before after belief node number → NodeFits g (length before) node → NodesServe g after
nodes-go-on g before after belief node None serve k fits = subst (NodesServe g) (sym k.1) serve
nodes-go-on g before after belief node (Some n) serve k fits = subst (NodesServe g) (sym k.3) (record {
  some = omega (arith, length-append before (node ∷ []), serve.some);
  fit = each-append (NodeFits g most_nodes) before (node ∷ []) serve.fit (node-fits-more g (length before) most_nodes node (less k.1) fits, tt);
})
  where
    less : {n m : ℕ} → n < m → n ≤ m
    less l = omega arith

corner-stays : (points more : List PointData) (s : ℕ) → HasCorner points s → HasCorner (points ++ more) s
corner-stays points more s h = record {
  number = h.number;
  inside = omega (arith, length-append points more, h.inside);
  corner = record {
    state = subst (λ (p : PointData). s < length p.belief) (sym there) h.corner.state;
    belief = subst (λ (p : PointData). p.belief ≡ corner_of (length p.belief) s) (sym there) h.corner.belief;
  };
}
  where
    there : point_at (points ++ more) h.number ≡ point_at points h.number
    there = get_or_append_left points more no_point h.number h.inside

pub points-go-on : (Refused : Type 0) (g : GameData) (before after : List PointData) (belief : List ℤ) (point : PointData) (number : Option ℕ) → PointsServe g before → KeepsPoint Refused before after belief point number → PointFits g (length before) point → PointsServe g after
points-go-on Refused g before after belief point None serve k fits = subst (PointsServe g) (sym k.1) serve
points-go-on Refused g before after belief point (Some n) serve k fits = subst (PointsServe g) (sym k.4) (record {
  corners = λ s l. corner-stays before (point ∷ []) s (serve.corners s l);
  fit = each-append (PointFits g most_points) before (point ∷ []) serve.fit (fits-more g (length before) most_points point (less k.1) fits, tt);
})
  where
    less : {n m : ℕ} → n < m → n ≤ m
    less l = omega arith

-- ---- what the calls of a step ask
pub place-there : (g : GameData) (seeds sets : Sets) (journal : List Visit) (trial first : ℕ) (next : Next) → GoesOn g seeds sets journal trial first next → HasPlace (length journal) first next
place-there g seeds sets journal trial first (Down belief) goes = omega (arith, ap length goes.joined, length-append (visits_of goes.trials) goes.down, goes.behind.start)
place-there g seeds sets journal trial first (Back ahead) goes = (goes.some, inside-back g journal trial first ahead goes)

pub place-fits : (g : GameData) (journal : List Visit) (first : ℕ) (next : Next) (place : Place) → AllByRecursion (VisitFits g) journal → NextFits g next → HasPlace (length journal) first next → IsPlace journal first next place → BeliefFits g place.belief
place-fits g journal first (Down belief) place all fits has at = subst (BeliefFits g) (sym at.belief_is) fits
place-fits g journal first (Back ahead) place all fits has at =
    subst (BeliefFits g) (sym at.belief) (subst (λ (v : Visit). BeliefFits g v.belief) at.there
    (each-at (VisitFits g) at.visit journal (first + ahead - 1) all (let a = has.0 in let b = has.1 in omega arith)))

pub trial-within : (task : Task) (seeds sets : Sets) (journal : List Visit) (cut : Bool) (trial first : ℕ) (next : Next) → IsRunSoFar task seeds sets journal cut → GoesOn task.game seeds sets journal trial first next → trial ≤ task.trials
trial-within task seeds sets journal cut trial first (Down belief) run goes =
    subst (λ (n : ℕ). n ≤ task.trials) (sym goes.behind.count) (few-trials task seeds sets journal cut run goes.trials goes.down goes.behind.whole goes.joined)
trial-within task seeds sets journal cut trial first (Back ahead) run goes =
    subst (λ (n : ℕ). n ≤ task.trials) (sym goes.behind.count) (few-trials task seeds sets journal cut run goes.trials (goes.down ++ goes.back) goes.behind.whole goes.joined)

pub few-visits : (state : SearchState) (course : Course) (solver : State) → IsHeld state course solver → length state.journal ≤ 1300000
few-visits state course solver held = by (length state.journal) state.task.trials (runs-are-short state.task held.seeds state.sets state.journal state.cut held.run) held.limits.trials
  where
    by : (n t : ℕ) → n ≤ t * 130 → t ≤ 10000 → n ≤ 1300000
    by n t h l = omega arith

-- ---- the search after a visit
next-fits : (g : GameData) → IsGame g → (course : Course) (way : Next) (depth count : ℕ) (next : Option (List ℤ)) → ((belief : List ℤ) → next ≡ Some belief → BeliefFits g belief) → NextFits g (next_after g course way depth count next).next
next-fits g game course (Down here) depth count (Some belief) fits = fits belief refl
next-fits g game course (Down here) depth count None fits = tt
next-fits g game course (Back ahead) depth count next fits = by (ahead == 1)
  where
    by : (b : Bool) → NextFits g (cond {A = Course} b (record { trial = course.trial + 1; first = count; next = Down g.first }) (record { trial = course.trial; first = course.first; next = Back (ahead - 1) })).next
    by true = record { right = game.first; coprime = game.coprime }
    by false = tt

pub held-next : (state : SearchState) (course : Course) (solver solver_next : State) (new : Sets) (place : Place) (cut : Bool) (visit : Visit) (next : Option (List ℤ)) → IsGame state.task.game →
    IsHeld state course solver → state.cut ≡ false → IsPlace state.journal course.first course.next place →
    (BeginsTrial (length state.journal) course.first course.next → AreOpen state.task.game state.task.gap state.sets × (course.trial < state.task.trials)) →
    IsVisitAt state.task state.sets new course.trial place cut visit next → ((belief : List ℤ) → next ≡ Some belief → BeliefFits state.task.game belief) →
    AreStanding state.task.game new → NodesServe state.task.game new.nodes → PointsServe state.task.game new.points → HasRooms state.task.game solver_next →
    IsHeld (record { task = state.task; sets = new; journal = state.journal ++ visit ∷ []; cut = cut }) (course_after state.task.game course place.depth (length state.journal + 1) next) solver_next
held-next state course solver solver_next new place cut visit next game held uncut at opened made fits standing nodes points rooms =
    let there = place-there state.task.game held.seeds state.sets state.journal course.trial course.first course.next held.goes in
    let step = stepped state.task held.seeds state.sets new state.journal course place cut visit next (subst (IsRunSoFar state.task held.seeds state.sets state.journal) uncut held.run) held.goes at opened made in
    record {
      limits = held.limits;
      standing = standing;
      nodes = nodes;
      points = points;
      seeds = held.seeds;
      run = step.run;
      goes = step.goes;
      beliefs = each-append (VisitFits state.task.game) state.journal (visit ∷ []) held.beliefs
          (subst (BeliefFits state.task.game) (sym made.belief_is) (place-fits state.task.game state.journal course.first course.next place held.beliefs held.next there at), tt);
      next = next-fits state.task.game game course course.next place.depth (length state.journal + 1) next fits;
      rooms = rooms;
    }
