-- What a search holds after a step, from what its calls say.
use Rattle.std.proofs.Common.{◌≡◌, ◌⊎◌, ℕ, ◌+◌, ◌≤◌, ◌&&◌, List, Option, Some, None, [], ◌∷◌, ◌++◌, Bool, true, false, not, length, inl, inr, refl, ap, ap₂, sym, subst, ◌∙◌, arith, length-append}
use Rattle.std.proofs.lemmas.Bool.{false≢true}
use Rattle.std.specs.Prelude.{ℤ, IfSome, IsTrue, ◌↔◌}
use Rattle.alpha_set.specs.Nodes.{NodeData, NodeFits, NodeStands, node_of, nodes_of}
use Rattle.controller.specs.Certificates.{Ending}
use Rattle.game_model.specs.Game.{IsGame, numbers}
use Rattle.point_set.specs.Points.{PointData, PointFits, PointStands, point_of, points_of}
use Rattle.simplex.specs.Solver.{State}
use Rattle.stage_game.specs.Asked.{BeliefFits, NodesServe, PointsServe}
use Rattle.hsvi_trial.specs.Courses.{BeginsTrial, GoesOn, HasPlace, IsPlace, LeadsIn, course_after}
use Rattle.hsvi_trial.specs.Data.{EndsWith, SearchState}
use Rattle.hsvi_trial.specs.Due.{IsCut, IsNodeRefused, KeepsNode, KeepsPoint}
use Rattle.hsvi_trial.specs.Ends.{IsEnd, IsOnward}
use Rattle.hsvi_trial.specs.Held.{IsHeld}
use Rattle.hsvi_trial.specs.Looks.{IsLook, looks_from}
use Rattle.hsvi_trial.specs.Next.{GoesDown, visits_of}
use Rattle.hsvi_trial.specs.RightVisit.{IsMade, Made, view_of}
use Rattle.hsvi_trial.specs.Run.{IsOutcome, IsRunSoFar}
use Rattle.hsvi_trial.specs.Sets.{Sets}
use Rattle.hsvi_trial.specs.Starts.{AreClosed}
use Rattle.hsvi_trial.specs.declared.courses.Course.{Course}
use Rattle.hsvi_trial.specs.declared.courses.Next.{Next}
use Rattle.hsvi_trial.specs.declared.courses.Next.TheVariants.{Back, Down}
use Rattle.hsvi_trial.specs.declared.courses.Place.{Place}
use Rattle.hsvi_trial.specs.declared.visits.Visit.{Visit}
use Rattle.hsvi_trial.proofs.Holding.{held-next}
use Rattle.backup.proofs.Rooms.{rooms-moved}
use Rattle.hsvi_trial.proofs.Standing.{standing-kept}
use Rattle.hsvi_trial.proofs.VisitParts.{visit-at, visit_of}

-- more visits have a place too
pub place-more : (few many first : ℕ) (next : Next) → few ≤ many → HasPlace few first next → HasPlace many first next
place-more few many first (Down belief) l h = omega arith
place-more few many first (Back ahead) l h = (h.0, let k = h.1 in omega arith)

some-fits : (P : List ℤ → Type 0) (o : Option (List ℤ)) (belief : List ℤ) → IfSome o P → o ≡ Some belief → P belief
some-fits P None belief h e = absurd (none belief e)
  where
    none : (x : List ℤ) → None ≡ Some x → ⊥
    none x e = cc
some-fits P (Some x) belief h e = subst P (same x belief e) h
  where
    same : (x y : List ℤ) → Some x ≡ Some y → x ≡ y
    same x y e = cc

-- what the calls of a step say
pub record IsStep (state : SearchState) (course : Course) (begins : Bool) (place : Place) (made : Made) (nodes : List NodeData) (points : List PointData) (new : Sets) (node point : Option ℕ) (cut : Bool)
    (chosen : Option (ℕ × ℕ)) (next : Option (List ℤ)) : Type 0 where
  pub at : IsPlace state.journal course.first course.next place
  pub begin : BeginsTrial (length state.journal) course.first course.next → IsTrue begins
  pub onward : IsOnward state.task state.sets state.cut begins course.trial
  pub is_made : IsMade state.task.game state.sets place.belief made
  pub same_nodes : nodes ≡ state.sets.nodes
  pub same_points : points ≡ state.sets.points
  pub keeps_node : KeepsNode nodes new.nodes place.belief made.node node
  pub keeps_point : KeepsPoint (IsNodeRefused nodes place.belief made.node) points new.points place.belief made.point point
  pub is_cut : IsTrue cut ↔ IsCut (record { nodes = nodes; points = points }) place.belief made.node made.point
  pub node_fits : NodeFits state.task.game (length state.sets.nodes) made.node
  pub point_fits : PointFits state.task.game (length state.sets.points) made.point
  pub node_stays : (more : List NodeData) → NodeStands (numbers state.task.game) (nodes_of (state.sets.nodes ++ more)) (node_of made.node)
  pub point_stays : (more : List PointData) → PointStands (numbers state.task.game) (points_of (state.sets.points ++ more)) (point_of made.point)
  pub serve_nodes : NodesServe state.task.game new.nodes
  pub serve_points : PointsServe state.task.game new.points
  pub look : IsLook state.task.game (looks_from state.task.game place.depth (place.down && not cut)) (view_of state.task.game state.task.gap new (visit_of course.trial place node point chosen) made) chosen next
  pub fits : IfSome next (BeliefFits state.task.game)

held-on : (state : SearchState) (course : Course) (solver solver_next : State) (begins : Bool) (place : Place) (made : Made) (nodes : List NodeData) (points : List PointData) (new : Sets) (node point : Option ℕ) (cut : Bool)
    (chosen : Option (ℕ × ℕ)) (next : Option (List ℤ)) → IsGame state.task.game → IsHeld state course solver → IsStep state course begins place made nodes points new node point cut chosen next →
    solver_next.most_rows ≡ solver.most_rows → solver_next.most_variables ≡ solver.most_variables →
    IsHeld (record { task = state.task; sets = new; journal = state.journal ++ visit_of course.trial place node point chosen ∷ []; cut = cut })
    (course_after state.task.game course place.depth (length state.journal + 1) next) solver_next
held-on state course solver solver_next begins place made nodes points new node point cut chosen next game held step rows variables =
    held-next state course solver solver_next new place cut (visit_of course.trial place node point chosen) next game held step.onward.uncut step.at
    (λ b. step.onward.opened (step.begin b))
    (visit-at state.task state.sets new course.trial place cut node point chosen next made step.is_made
    (subst (λ (s : Sets). IsTrue cut ↔ IsCut s place.belief made.node made.point) (ap₂ (λ (ns : List NodeData) (ps : List PointData). record { nodes = ns; points = ps }) step.same_nodes step.same_points) step.is_cut)
    keeps_node keeps_point step.look)
    (λ belief e. some-fits (BeliefFits state.task.game) next belief step.fits e)
    (standing-kept (IsNodeRefused state.sets.nodes place.belief made.node) state.task.game game state.sets new place.belief made.node made.point node point held.standing keeps_node keeps_point step.node_fits step.point_fits step.node_stays step.point_stays)
    step.serve_nodes step.serve_points (rooms-moved solver solver_next state.task.game rows variables held.rooms)
  where
    keeps_node : KeepsNode state.sets.nodes new.nodes place.belief made.node node
    keeps_node = subst (λ (ns : List NodeData). KeepsNode ns new.nodes place.belief made.node node) step.same_nodes step.keeps_node

    keeps_point : KeepsPoint (IsNodeRefused state.sets.nodes place.belief made.node) state.sets.points new.points place.belief made.point point
    keeps_point = subst (λ (ns : List NodeData). KeepsPoint (IsNodeRefused ns place.belief made.node) state.sets.points new.points place.belief made.point point) step.same_nodes
        (subst (λ (ps : List PointData). KeepsPoint (IsNodeRefused nodes place.belief made.node) ps new.points place.belief made.point point) step.same_points step.keeps_point)

pub held-stepped : (state : SearchState) (course after : Course) (solver solver_next : State) (begins : Bool) (place : Place) (made : Made) (nodes : List NodeData) (points : List PointData) (new : Sets) (node point : Option ℕ) (cut : Bool)
    (chosen : Option (ℕ × ℕ)) (next : Option (List ℤ)) (journal items : List Visit) (count : ℕ) → IsGame state.task.game → IsHeld state course solver →
    IsStep state course begins place made nodes points new node point cut chosen next → solver_next.most_rows ≡ solver.most_rows → solver_next.most_variables ≡ solver.most_variables →
    after ≡ course_after state.task.game course place.depth count next → count ≡ length state.journal + 1 → items ≡ journal ++ visit_of course.trial place node point chosen ∷ [] → journal ≡ state.journal →
    IsHeld (record { task = state.task; sets = new; journal = items; cut = cut }) after solver_next
held-stepped state course after solver solver_next begins place made nodes points new node point cut chosen next journal items count game held step rows variables is_after is_count is_items is_journal =
    subst (λ (vs : List Visit). IsHeld (record { task = state.task; sets = new; journal = vs; cut = cut }) after solver_next)
    (sym (is_items ∙ ap (λ (vs : List Visit). vs ++ visit_of course.trial place node point chosen ∷ []) is_journal))
    (subst (λ (k : Course). IsHeld (record { task = state.task; sets = new; journal = state.journal ++ visit_of course.trial place node point chosen ∷ []; cut = cut }) k solver_next)
    (sym (is_after ∙ ap (λ (n : ℕ). course_after state.task.game course place.depth n next) is_count))
    (held-on state course solver solver_next begins place made nodes points new node point cut chosen next game held step rows variables))

-- ---- a run that has ended
-- where a trial would begin, all trials are whole
at-begin : (state : SearchState) (course : Course) (seeds : Sets) (belief : List ℤ) (outcome : Ending) (L : List Visit → Visit → List ℤ → Type 0) → IsRunSoFar state.task seeds state.sets state.journal state.cut → state.cut ≡ false →
    GoesDown state.task.game L state.journal course.trial course.first belief → course.first ≡ length state.journal → (AreClosed state.task.game state.task.gap state.sets ⊎ (course.trial ≡ state.task.trials)) →
    IsOutcome state.task state.sets state.cut outcome → EndsWith state outcome
at-begin state course seeds belief outcome L run uncut goes begins why is = record {
  seeds = seeds;
  run = record {
    held = run.held;
    right = run.right;
    linked = run.linked;
    trials = goes.trials;
    last = [];
    shaped = record {
      whole = goes.behind.whole;
      joined = goes.joined ∙ ap (λ (vs : List Visit). visits_of goes.trials ++ vs) (none goes.down (omega (arith, begins, goes.behind.start, ap length goes.joined, length-append (visits_of goes.trials) goes.down)));
      ahead = [];
      front = record {
        down = [];
        back = [];
        both = refl;
        way_down = record { each = tt; depths = refl; first = tt; go_on = λ earlier later x next e. absurd (omega (arith, ap length e, length-append earlier (x ∷ next ∷ later))) };
        each_back = tt;
        mirrored = refl;
        turned = λ l. absurd (omega arith);
      };
    };
    opened = run.opened;
    some = λ cut. absurd (false≢true (sym uncut ∙ cut));
  };
  ended = inr (refl, elim why [ inl closed ↦ inl closed | inr used ↦ inr (sym goes.behind.count ∙ used) ]);
  outcome_is = is;
}
  where
    none : (xs : List Visit) → length xs ≡ 0 → xs ≡ []
    none [] e = refl
    none (x ∷ xs) e = absurd (omega arith)

begun : (state : SearchState) (course : Course) (solver : State) (way : Next) (outcome : Ending) → (held : IsHeld state course solver) → course.next ≡ way → state.cut ≡ false → BeginsTrial (length state.journal) course.first way →
    (AreClosed state.task.game state.task.gap state.sets ⊎ (course.trial ≡ state.task.trials)) → IsOutcome state.task state.sets state.cut outcome → EndsWith state outcome
begun state course solver (Down belief) outcome held e uncut begins why is =
    at-begin state course held.seeds belief outcome (LeadsIn state.task.game held.seeds state.sets) held.run uncut
    (subst (λ (n : Next). GoesOn state.task.game held.seeds state.sets state.journal course.trial course.first n) e held.goes) begins why is
begun state course solver (Back ahead) outcome held e uncut begins why is = absurd begins

pub ends-with : (state : SearchState) (course : Course) (solver : State) (begins : Bool) (outcome : Ending) → IsHeld state course solver → (IsTrue begins → BeginsTrial (length state.journal) course.first course.next) →
    IsEnd state.task state.sets state.cut begins course.trial outcome → EndsWith state outcome
ends-with state course solver begins outcome held begin end = by state.cut refl
  where
    by : (b : Bool) → state.cut ≡ b → EndsWith state outcome
    by true e = record { seeds = held.seeds; run = held.run; ended = inl e; outcome_is = end.outcome_is }
    by false e = elim end.ended [
      | inl cut ↦ absurd (false≢true (sym e ∙ cut))
      | inr more ↦ begun state course solver course.next outcome held refl e (begin more.0) more.1 end.outcome_is
    ]
