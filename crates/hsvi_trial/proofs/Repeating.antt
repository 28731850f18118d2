-- Visits that repeat: the visit a trial back is the next one, and the search goes on as it did.
use Rattle.std.proofs.Common.{◌≡◌, ◌⊎◌, ℕ, zero, suc, ◌+◌, ◌-◌, ◌<◌, ◌≤◌, List, Option, Some, None, [], ◌∷◌, ◌++◌, Bool, true, false, cond, ◌==◌, drop, length, inl, inr, refl, ap, ap₂, sym, subst, ◌∙◌, arith, length-append, add-one}
use Rattle.std.proofs.Math.ListN.{get_or-append}
use Rattle.std.proofs.Math.Seq.{drop-append_seam, get_or-append_seam}
use Rattle.std.proofs.lemmas.List.{append_assoc, get_or-append-add, get_or_default}
use Rattle.std.specs.List.{AllByRecursion}
use Rattle.std.specs.Prelude.{ℤ, IsTrue, is_some, slice_index_or}
use Rattle.scaled_num.proofs.Sums.{each-at}
use Rattle.alpha_set.specs.Nodes.{NodeData}
use Rattle.game_model.specs.Game.{GameData, IsGame}
use Rattle.point_set.specs.Points.{PointData}
use Rattle.simplex.specs.Solver.{State}
use Rattle.stage_game.specs.Asked.{BeliefFits}
use Rattle.hsvi_trial.specs.Copies.{renumbered}
use Rattle.hsvi_trial.specs.Courses.{BeginsTrial, GoesOn, IsPlace, IsPlaceDown, IsPlaceOf, LeadsIn, course_after, next_after}
use Rattle.hsvi_trial.specs.Cursors.{Cursor, Down as CursorDown, at_end, moved, raised, start}
use Rattle.hsvi_trial.specs.Data.{SearchState}
use Rattle.hsvi_trial.specs.Ends.{IsOnward}
use Rattle.hsvi_trial.specs.Held.{IsHeld, VisitFits}
use Rattle.hsvi_trial.specs.Journal.{cut_before}
use Rattle.hsvi_trial.specs.Next.{GoesBack, GoesDown, places_back, visits_of}
use Rattle.hsvi_trial.specs.Repeats.{IsCopied, IsRepeat, KeptNothing, Repeats, goes_to}
use Rattle.hsvi_trial.specs.RightVisit.{IsNextBelief, IsRightVisit, looks_on}
use Rattle.hsvi_trial.specs.Run.{IsRunSoFar, Task}
use Rattle.hsvi_trial.specs.Sets.{Sets, kept_nodes, kept_points, sets_after}
use Rattle.hsvi_trial.specs.Starts.{AreOpen}
use Rattle.hsvi_trial.specs.Trials.{BeginsAt, place_of}
use Rattle.hsvi_trial.specs.declared.courses.Course.{Course}
use Rattle.hsvi_trial.specs.declared.courses.Next.{Next}
use Rattle.hsvi_trial.specs.declared.courses.Next.TheVariants.{Back, Down}
use Rattle.hsvi_trial.specs.declared.courses.Place.{Place}
use Rattle.hsvi_trial.specs.declared.visits.Visit.{Visit}
use Rattle.hsvi_trial.proofs.Cursors.{Fits, Walks, end-append, so-far-end, so-far-walks, walks-at}
use Rattle.hsvi_trial.proofs.Growing.{kept_nodes-append, kept_points-append, nodes-stay, points-stay, right-under_any_number}
use Rattle.hsvi_trial.proofs.Holding.{held-next}
use Rattle.hsvi_trial.proofs.OneBeginnings.{whole-sets}
use Rattle.hsvi_trial.proofs.Places.{longer}
use Rattle.hsvi_trial.proofs.Raised.{back-cursor, down-cursor, fits-back, fits-down, fits-next, raised-moved}
use Rattle.hsvi_trial.proofs.Stepping.{IsVisitAt, leads-by}
use Rattle.hsvi_trial.proofs.Steps.{no_cut}

-- ---- lists of visits
none-or-some : (visits : List Visit) → (visits ≡ []) ⊎ (0 < length visits)
none-or-some [] = inl refl
none-or-some (x ∷ xs) = inr (omega arith)

empty : {X : Type 0} (xs : List X) → length xs ≡ 0 → xs ≡ []
empty [] e = refl
empty (x ∷ xs) e = absurd (omega arith)

-- two visits and more
record AreTwo (visits : List Visit) : Type 0 where
  visit : Visit
  next : Visit
  rest : List Visit
  same : visits ≡ visit ∷ next ∷ rest

two : (visits : List Visit) → 2 ≤ length visits → AreTwo visits
two [] l = absurd (omega arith)
two (x ∷ []) l = absurd (omega arith)
two (x ∷ y ∷ rest) l = record { visit = x; next = y; rest = rest; same = refl }

-- a journal whose last visits repeat, from the visit that is to be made once more
pub record IsBack (journal : List Visit) (course : Course) (back : ℕ) (visit next : Visit) : Type 0 where
  pub earlier : List Visit
  pub rest : List Visit
  pub parts : journal ≡ earlier ++ visit ∷ next ∷ rest
  pub long : length rest + 2 ≡ back
  pub no_node : kept_nodes (visit ∷ next ∷ rest) ≡ 0
  pub no_point : kept_points (visit ∷ next ∷ rest) ≡ 0
  pub later : at_end start journal ≡ raised (at_end start earlier)
  pub there : (belief : List ℤ) → course.next ≡ Down belief → course.first < length journal → visit.belief ≡ belief

copied-back : (g : GameData) (journal : List Visit) (course : Course) (back : ℕ) (longer : List Visit) (after : Course) → IsRepeat journal course back →
    (copied : IsCopied g journal course back longer after) → IsBack journal course back copied.visit copied.next
copied-back g journal course back longer after repeat copied = by (two repeat.last (omega (arith, repeat.some, repeat.long)))
  where
    by : AreTwo repeat.last → IsBack journal course back copied.visit copied.next
    by t = subst (λ (x : Visit). IsBack journal course back x copied.next) visit_is
        (subst (λ (y : Visit). IsBack journal course back t.visit y) next_is (record {
          earlier = repeat.earlier;
          rest = t.rest;
          parts = parts;
          long = omega (arith, ap length t.same, repeat.long);
          no_node = sym (ap kept_nodes t.same) ∙ repeat.no_node;
          no_point = sym (ap kept_points t.same) ∙ repeat.no_point;
          later = repeat.later;
          there = λ belief e l. subst (BeginsAt belief) t.same (repeat.there belief e l);
        }))
      where
        parts : journal ≡ repeat.earlier ++ t.visit ∷ t.next ∷ t.rest
        parts = repeat.parts ∙ ap (λ (vs : List Visit). repeat.earlier ++ vs) t.same

        at : length journal - back ≡ length repeat.earlier
        at = omega (arith, ap length repeat.parts, length-append repeat.earlier repeat.last, repeat.long)

        visit_is : t.visit ≡ copied.visit
        visit_is =
            sym (get_or-append_seam repeat.earlier t.visit (t.next ∷ t.rest) copied.visit)
            ∙ sym (ap₂ (λ (vs : List Visit) (i : ℕ). slice_index_or vs i copied.visit) parts at)
            ∙ copied.there

        next_is : t.next ≡ copied.next
        next_is =
            sym (get_or-append-add repeat.earlier (t.visit ∷ t.next ∷ t.rest) 1 copied.next)
            ∙ sym (ap₂ (λ (vs : List Visit) (i : ℕ). slice_index_or vs (i + 1) copied.next) parts at)
            ∙ copied.next_there

-- ---- the sets stay
sets-stay : (task : Task) (seeds sets : Sets) (journal : List Visit) (cut : Bool) (visits later : List Visit) → IsRunSoFar task seeds sets journal cut →
    journal ≡ visits ++ later → kept_nodes later ≡ 0 → kept_points later ≡ 0 → sets_after seeds sets visits ≡ sets
sets-stay task seeds sets journal cut visits later run parts no_node no_point =
    ap₂ (λ (ns : List NodeData) (ps : List PointData). made ns ps) (sym (nodes-stay seeds sets visits later no_node)) (sym (points-stay seeds sets visits later no_point))
    ∙ ap (sets_after seeds sets) (sym parts)
    ∙ whole-sets task seeds sets journal cut run
  where
    made : List NodeData → List PointData → Sets
    made ns ps = record { nodes = ns; points = ps }

rest-none : (all first rest : ℕ) → all ≡ first + rest → all ≡ 0 → rest ≡ 0
rest-none all first rest e z = omega arith

-- ---- where a copy goes on
some-none : {X : Type 0} (x : X) → Some x ≡ None → ⊥
some-none x e = cc

goes-nowhere : (chosen : Option (ℕ × ℕ)) (belief : List ℤ) → goes_to chosen belief ≡ None → chosen ≡ None
goes-nowhere None belief e = refl
goes-nowhere (Some pair) belief e = absurd (some-none belief e)

abbrev Chosen : Option (ℕ × ℕ) → Type 0
Chosen chosen = (pair : ℕ × ℕ) × (chosen ≡ Some pair)

goes-there : (chosen : Option (ℕ × ℕ)) (here belief : List ℤ) → goes_to chosen here ≡ Some belief → Chosen chosen × (here ≡ belief)
goes-there None here belief e = absurd (some-none belief (sym e))
goes-there (Some pair) here belief e = ((pair, refl), same here belief e)
  where
    same : (x y : List ℤ) → Some x ≡ Some y → x ≡ y
    same x y e = cc

-- a visit that chose is on a way down
chose-down : (g : GameData) (visit : Visit) (cut : Bool) (pair : ℕ × ℕ) → ((looks_on g visit cut ≡ false) → visit.chosen ≡ None) → visit.chosen ≡ Some pair → visit.down ≡ true
chose-down g visit cut pair stays chosen = by visit.down refl
  where
    by : (down : Bool) → visit.down ≡ down → visit.down ≡ true
    by true e = e
    by false e = absurd (some-none pair (sym chosen ∙ stays (ap (λ (b : Bool). looks b) e)))
      where
        looks : Bool → Bool
        looks b = looks_on g (record visit { down = b }) cut

-- ---- the next visit
abbrev place-at : Visit → Place
place-at visit = record { depth = visit.depth; belief = visit.belief; down = visit.down }

-- what is known where a visit is made once more
pub record IsAgain (state : SearchState) (course : Course) (solver : State) (back : ℕ) (visit next : Visit) : Type 0 where
  pub held : IsHeld state course solver
  pub uncut : state.cut ≡ false
  pub is_back : IsBack state.journal course back visit next

fits-cursor : (state : SearchState) (course : Course) (solver : State) (back : ℕ) (visit next : Visit) → (again : IsAgain state course solver back visit next) →
    Fits state.task.game (at_end start again.is_back.earlier) visit × Fits state.task.game (moved (at_end start again.is_back.earlier) visit) next
fits-cursor state course solver back visit next again = (
  walks-at state.task.game start earlier visit (next ∷ again.is_back.rest) (subst (Walks state.task.game start) again.is_back.parts walks),
  subst (λ (cursor : Cursor). Fits state.task.game cursor next) (end-append start earlier (visit ∷ []))
      (walks-at state.task.game start (earlier ++ visit ∷ []) next again.is_back.rest
      (subst (Walks state.task.game start) (again.is_back.parts ∙ sym (append_assoc earlier (visit ∷ []) (next ∷ again.is_back.rest))) walks)),
)
  where
    earlier : List Visit
    earlier = again.is_back.earlier

    walks : Walks state.task.game start state.journal
    walks = so-far-walks state.task.game state.journal again.held.run.trials again.held.run.last again.held.run.shaped

-- the place of the next visit is that of the visit
down-place : (state : SearchState) (course : Course) (solver : State) (back : ℕ) (visit next : Visit) (belief : List ℤ) → (again : IsAgain state course solver back visit next) → course.next ≡ Down belief →
    GoesDown state.task.game (LeadsIn state.task.game again.held.seeds state.sets) state.journal course.trial course.first belief → IsPlaceDown state.journal course.first belief (place-at visit)
down-place state course solver back visit next belief again is goes =
    let below = down-cursor state.task.game (LeadsIn state.task.game again.held.seeds state.sets) state.journal course.trial course.first belief (leads-by state.task.game again.held.seeds state.sets) goes in
    let fits = fits-cursor state course solver back visit next again in
    let there = fits-down state.task.game (at_end start again.is_back.earlier) visit course.trial below.behind fits.0 (sym again.is_back.later ∙ below.is) in
    let long : length state.journal ≡ course.first + length goes.down = omega (arith, ap length goes.joined, length-append (visits_of goes.trials) goes.down, goes.behind.start) in
    record {
      down = there.is_down;
      deep = omega (arith, there.deep, below.deep_is, long);
      belief_is = elim (none-or-some goes.down) [
        | inl none ↦ there.begins (empty below.behind (below.deep_is ∙ ap length none)) ∙ sym (goes.begins none)
        | inr some ↦ again.is_back.there belief is (omega (arith, some, long))
      ];
    }

back-place : (state : SearchState) (course : Course) (solver : State) (back : ℕ) (visit next : Visit) (k : ℕ) → IsAgain state course solver back visit next →
    GoesBack state.task.game state.journal course.trial course.first (k + 1) → IsPlaceOf state.journal (course.first + (k + 1) - 1) (place-at visit)
back-place state course solver back visit next k again goes =
    let fits = fits-cursor state course solver back visit next again in
    let there = fits-back state.task.game (at_end start again.is_back.earlier) visit course.trial (place_of (slice_index_or goes.down k visit)) (places_back k goes.down) fits.0
    (sym again.is_back.later ∙ back-cursor state.task.game state.journal course.trial course.first k visit goes) in
    record {
      back = there.0;
      visit = slice_index_or goes.down k visit;
      there = same (slice_index_or goes.down k visit);
      depth = ap (λ (place : ℕ × List ℤ). place.0) there.1;
      belief = ap (λ (place : ℕ × List ℤ). place.1) there.1;
    }
  where
    same : (d : Visit) → slice_index_or state.journal (course.first + (k + 1) - 1) d ≡ slice_index_or goes.down k visit
    same d =
        ap₂ (λ (vs : List Visit) (i : ℕ). slice_index_or vs i d) goes.joined at
        ∙ get_or-append-add (visits_of goes.trials) (goes.down ++ goes.back) k d
        ∙ get_or-append goes.down goes.back d k inside
        ∙ get_or_default goes.down k d visit inside
      where
        at : course.first + (k + 1) - 1 ≡ length (visits_of goes.trials) + k
        at = omega (arith, goes.behind.start)

        inside : k < length goes.down
        inside = omega (arith, goes.within)

place-again : (state : SearchState) (course : Course) (solver : State) (back : ℕ) (visit next : Visit) → IsAgain state course solver back visit next →
    IsPlace state.journal course.first course.next (place-at visit)
place-again state course solver back visit next again = by course.next refl again.held.goes
  where
    by : (way : Next) → course.next ≡ way → GoesOn state.task.game again.held.seeds state.sets state.journal course.trial course.first way → IsPlace state.journal course.first way (place-at visit)
    by (Down belief) e goes = down-place state course solver back visit next belief again e goes
    by (Back zero) e goes = absurd (omega (arith, goes.some))
    by (Back (suc k)) e goes =
        subst (λ (n : ℕ). IsPlaceOf state.journal (course.first + n - 1) (place-at visit)) (add-one k)
        (back-place state course solver back visit next k again (subst (GoesBack state.task.game state.journal course.trial course.first) (sym (add-one k)) goes))

visit-again : (state : SearchState) (course : Course) (solver : State) (back : ℕ) (visit next : Visit) → IsAgain state course solver back visit next →
    IsVisitAt state.task state.sets state.sets course.trial (place-at visit) false (renumbered course.trial visit) (goes_to visit.chosen next.belief)
visit-again state course solver back visit next again = record {
  trial_is = refl;
  depth_is = refl;
  belief_is = refl;
  down_is = refl;
  right = right-under_any_number game state.task.gap state.sets state.sets false visit course.trial right;
  leads = λ belief e. leads belief (goes-there visit.chosen next.belief belief e);
  stops = λ e. goes-nowhere visit.chosen next.belief e;
}
  where
    game : GameData
    game = state.task.game

    seeds : Sets
    seeds = again.held.seeds

    run : IsRunSoFar state.task seeds state.sets state.journal state.cut
    run = again.held.run

    earlier : List Visit
    earlier = again.is_back.earlier

    later : List Visit
    later = next ∷ again.is_back.rest

    before : sets_after seeds state.sets earlier ≡ state.sets
    before = sets-stay state.task seeds state.sets state.journal state.cut earlier (visit ∷ later) run again.is_back.parts again.is_back.no_node again.is_back.no_point

    after : sets_after seeds state.sets (earlier ++ visit ∷ []) ≡ state.sets
    after = sets-stay state.task seeds state.sets state.journal state.cut (earlier ++ visit ∷ []) later run
        (again.is_back.parts ∙ sym (append_assoc earlier (visit ∷ []) later))
        (rest-none (kept_nodes (visit ∷ later)) (kept_nodes (visit ∷ [])) (kept_nodes later) (kept_nodes-append (visit ∷ []) later) again.is_back.no_node)
        (rest-none (kept_points (visit ∷ later)) (kept_points (visit ∷ [])) (kept_points later) (kept_points-append (visit ∷ []) later) again.is_back.no_point)

    uncut : cut_before state.cut later ≡ false
    uncut = ap (λ (cut : Bool). cut_before cut later) again.uncut ∙ no_cut later

    right : IsRightVisit game state.task.gap state.sets state.sets false visit
    right =
        subst (λ (s : Sets). IsRightVisit game state.task.gap s state.sets false visit) before
        (subst (λ (s : Sets). IsRightVisit game state.task.gap (sets_after seeds state.sets earlier) s false visit) after
        (subst (λ (cut : Bool). IsRightVisit game state.task.gap (sets_after seeds state.sets earlier) (sets_after seeds state.sets (earlier ++ visit ∷ [])) cut visit) uncut
        (run.right earlier visit later again.is_back.parts)))

    on : IsNextBelief game state.sets visit next.belief → IsNextBelief game state.sets (renumbered course.trial visit) next.belief
    on n = record { a = n.a; o = n.o; chosen = n.chosen; advice = n.advice; node = n.node; is_lower = n.is_lower; reduced = n.reduced }

    leads : (belief : List ℤ) → Chosen visit.chosen × (next.belief ≡ belief) → IsNextBelief game state.sets (renumbered course.trial visit) belief
    leads belief chose =
        let down : visit.down ≡ true = chose-down game visit false chose.0.0 right.stays chose.0.1 in
        let fits = fits-cursor state course solver back visit next again in
        let below = fits-next game (at_end start earlier) visit next chose.0.0 fits.0 fits.1 down chose.0.1 in
        subst (IsNextBelief game state.sets (renumbered course.trial visit)) chose.1
        (on (subst (λ (s : Sets). IsNextBelief game s visit next.belief) before
        (run.linked earlier visit next again.is_back.rest again.is_back.parts below.0 below.1)))

-- ---- what a search holds with the copy
held-again : (state : SearchState) (course : Course) (solver : State) (back : ℕ) (visit next : Visit) → IsGame state.task.game → IsAgain state course solver back visit next →
    (BeginsTrial (length state.journal) course.first course.next → AreOpen state.task.game state.task.gap state.sets × (course.trial < state.task.trials)) →
    IsHeld (record { task = state.task; sets = state.sets; journal = state.journal ++ renumbered course.trial visit ∷ []; cut = false })
    (course_after state.task.game course visit.depth (length state.journal + 1) (goes_to visit.chosen next.belief)) solver
held-again state course solver back visit next game again opened =
    held-next state course solver solver state.sets (place-at visit) false (renumbered course.trial visit) (goes_to visit.chosen next.belief) game again.held again.uncut
    (place-again state course solver back visit next again) opened (visit-again state course solver back visit next again)
    (λ belief e. subst (BeliefFits state.task.game) (goes-there visit.chosen next.belief belief e).1 fits)
    again.held.standing again.held.nodes again.held.points again.held.rooms
  where
    there : slice_index_or state.journal (length again.is_back.earlier + 1) next ≡ next
    there = ap (λ (vs : List Visit). slice_index_or vs (length again.is_back.earlier + 1) next) again.is_back.parts
        ∙ get_or-append-add again.is_back.earlier (visit ∷ next ∷ again.is_back.rest) 1 next

    inside : length again.is_back.earlier + 1 < length state.journal
    inside = omega (arith, ap length again.is_back.parts, length-append again.is_back.earlier (visit ∷ next ∷ again.is_back.rest))

    fits : BeliefFits state.task.game next.belief
    fits = subst (VisitFits state.task.game) there (each-at (VisitFits state.task.game) next state.journal (length again.is_back.earlier + 1) again.held.beliefs inside)

pub held-copied : (state : SearchState) (course after : Course) (solver : State) (begins : Bool) (back : ℕ) (items : List Visit) → IsGame state.task.game → IsHeld state course solver →
    (BeginsTrial (length state.journal) course.first course.next → IsTrue begins) → IsOnward state.task state.sets state.cut begins course.trial →
    IsRepeat state.journal course back → IsCopied state.task.game state.journal course back items after →
    IsHeld (record { task = state.task; sets = state.sets; journal = items; cut = state.cut }) after solver
held-copied state course after solver begins back items game held begin onward repeat copied =
    subst (λ (cut : Bool). IsHeld (record { task = state.task; sets = state.sets; journal = items; cut = cut }) after solver) (sym onward.uncut)
    (subst (λ (vs : List Visit). IsHeld (record { task = state.task; sets = state.sets; journal = vs; cut = false }) after solver) (sym copied.longer_is)
    (subst (λ (c : Course). IsHeld (record { task = state.task; sets = state.sets; journal = state.journal ++ renumbered course.trial copied.visit ∷ []; cut = false }) c solver) (sym copied.after_is)
    (held-again state course solver back copied.visit copied.next game
    (record { held = held; uncut = onward.uncut; is_back = copied-back state.task.game state.journal course back items after repeat copied })
    (λ b. onward.opened (begin b)))))

-- ---- what repeats then
-- the next visit repeats too
goes-below : (g : GameData) (course : Course) (way : Next) (depth count : ℕ) (chosen : Option (ℕ × ℕ)) (here belief : List ℤ) →
    (next_after g course way depth count (goes_to chosen here)).next ≡ Down belief → (next_after g course way depth count (goes_to chosen here)).first < count → here ≡ belief
goes-below g course (Down place) depth count None here belief e l = absurd (unlike (depth + 1) belief e)
  where
    unlike : (k : ℕ) (b : List ℤ) → Back k ≡ Down b → ⊥
    unlike k b e = cc
goes-below g course (Down place) depth count (Some pair) here belief e l = same here belief e
  where
    same : (x y : List ℤ) → Down x ≡ Down y → x ≡ y
    same x y e = cc
goes-below g course (Back ahead) depth count chosen here belief e l = by (ahead == 1) e l
  where
    unlike : (k : ℕ) (b : List ℤ) → Back k ≡ Down b → ⊥
    unlike k b e = cc

    ends : Course
    ends = record { trial = course.trial + 1; first = count; next = Down g.first }

    on : Course
    on = record { trial = course.trial; first = course.first; next = Back (ahead - 1) }

    by : (b : Bool) → (cond b ends on).next ≡ Down belief → (cond b ends on).first < count → here ≡ belief
    by true e l = absurd (omega arith)
    by false e l = absurd (unlike (ahead - 1) belief e)

repeat-again : (g : GameData) (journal : List Visit) (course : Course) (back : ℕ) (visit next : Visit) → IsBack journal course back visit next →
    IsRepeat (journal ++ renumbered course.trial visit ∷ []) (course_after g course visit.depth (length journal + 1) (goes_to visit.chosen next.belief)) back
repeat-again g journal course back visit next is = record {
  some = omega (arith, is.long);
  earlier = is.earlier ++ visit ∷ [];
  last = (next ∷ is.rest) ++ copy ∷ [];
  parts = ap (λ (vs : List Visit). vs ++ copy ∷ []) (is.parts ∙ sym (append_assoc is.earlier (visit ∷ []) (next ∷ is.rest)))
      ∙ append_assoc (is.earlier ++ visit ∷ []) (next ∷ is.rest) (copy ∷ []);
  long = omega (arith, length-append (next ∷ is.rest) (copy ∷ []), is.long);
  no_node = rolled (kept_nodes (visit ∷ next ∷ is.rest)) (kept_nodes (visit ∷ [])) (kept_nodes (next ∷ is.rest)) (kept_nodes ((next ∷ is.rest) ++ copy ∷ []))
      (kept_nodes-append (visit ∷ []) (next ∷ is.rest)) (kept_nodes-append (next ∷ is.rest) (copy ∷ [])) is.no_node;
  no_point = rolled (kept_points (visit ∷ next ∷ is.rest)) (kept_points (visit ∷ [])) (kept_points (next ∷ is.rest)) (kept_points ((next ∷ is.rest) ++ copy ∷ []))
      (kept_points-append (visit ∷ []) (next ∷ is.rest)) (kept_points-append (next ∷ is.rest) (copy ∷ [])) is.no_point;
  later = end-append start journal (copy ∷ [])
      ∙ ap (λ (cursor : Cursor). moved cursor copy) is.later
      ∙ raised-moved (at_end start is.earlier) visit course.trial
      ∙ sym (ap raised (end-append start is.earlier (visit ∷ [])));
  there = λ belief e l. goes-below g course course.next visit.depth (length journal + 1) visit.chosen next.belief belief e (omega (arith, l, length-append journal (copy ∷ [])));
}
  where
    copy : Visit
    copy = renumbered course.trial visit

    rolled : (all one rest more : ℕ) → all ≡ one + rest → more ≡ rest + one → all ≡ 0 → more ≡ 0
    rolled all one rest more a b z = omega arith

pub repeat-copied : (g : GameData) (journal : List Visit) (course after : Course) (back : ℕ) (items : List Visit) → IsRepeat journal course back → IsCopied g journal course back items after → IsRepeat items after back
repeat-copied g journal course after back items repeat copied =
    subst (λ (vs : List Visit). IsRepeat vs after back) (sym copied.longer_is)
    (subst (λ (c : Course). IsRepeat (journal ++ renumbered course.trial copied.visit ∷ []) c back) (sym copied.after_is)
    (repeat-again g journal course back copied.visit copied.next (copied-back g journal course back items after repeat copied)))

-- ---- a trial that kept nothing has ended
no-node : (visit : Visit) → KeptNothing visit → kept_nodes (visit ∷ []) ≡ 0
no-node visit none = ap (λ (number : Option ℕ). 0 + cond (is_some number) 1 0) none.node

no-nodes : (visits : List Visit) → AllByRecursion KeptNothing visits → kept_nodes visits ≡ 0
no-nodes [] each = refl
no-nodes (visit ∷ visits) each = omega (arith, kept_nodes-append (visit ∷ []) visits, no-node visit each.0, no-nodes visits each.1)

no-point : (visit : Visit) → KeptNothing visit → kept_points (visit ∷ []) ≡ 0
no-point visit none = ap (λ (number : Option ℕ). 0 + cond (is_some number) 1 0) none.point

no-points : (visits : List Visit) → AllByRecursion KeptNothing visits → kept_points visits ≡ 0
no-points [] each = refl
no-points (visit ∷ visits) each = omega (arith, kept_points-append (visit ∷ []) visits, no-point visit each.0, no-points visits each.1)

repeat-whole : (g : GameData) (journal : List Visit) (course after : Course) (visit : Visit) (back depth : ℕ) (next : Option (List ℤ)) → course.next ≡ Back 1 →
    GoesBack g journal course.trial course.first 1 → after ≡ course_after g course depth (length journal + 1) next → course.first + back ≡ length (journal ++ visit ∷ []) →
    AllByRecursion KeptNothing (drop course.first (journal ++ visit ∷ [])) → IsRepeat (journal ++ visit ∷ []) after back
repeat-whole g journal course after visit back depth next way goes is_after long nothing = record {
  some = omega (arith, long, total, length-append goes.down goes.back, goes.behind.start, goes.within, length-append (goes.down ++ goes.back) (visit ∷ []));
  earlier = visits_of goes.trials;
  last = last;
  parts = parts;
  long = omega (arith, long, total, goes.behind.start);
  no_node = no-nodes last kept;
  no_point = no-points last kept;
  later = end-append start journal (visit ∷ [])
      ∙ ap (λ (cursor : Cursor). moved cursor visit) (back-cursor g journal course.trial course.first 0 visit goes)
      ∙ ap raised (ap (λ (n : ℕ). CursorDown n []) goes.behind.count ∙ sym (so-far-end g goes.trials goes.behind.whole));
  there = λ belief e l. absurd (omega (arith, l, length-append journal (visit ∷ []), first));
}
  where
    last : List Visit
    last = (goes.down ++ goes.back) ++ visit ∷ []

    parts : journal ++ visit ∷ [] ≡ visits_of goes.trials ++ last
    parts = longer journal goes.trials (goes.down ++ goes.back) visit goes.joined

    total : length (journal ++ visit ∷ []) ≡ length (visits_of goes.trials) + length last
    total = ap length parts ∙ length-append (visits_of goes.trials) last

    kept : AllByRecursion KeptNothing last
    kept = subst (AllByRecursion KeptNothing)
        (ap₂ (λ (n : ℕ) (vs : List Visit). drop n vs) goes.behind.start parts ∙ drop-append_seam (visits_of goes.trials) last) nothing

    first : after.first ≡ length journal + 1
    first = ap (λ (c : Course). c.first) is_after ∙ ap (λ (way : Next). (next_after g course way depth (length journal + 1) next).first) way

-- what repeats after a visit that may have ended a trial
pub repeats-stepped : (g : GameData) (seeds sets : Sets) (journal : List Visit) (course after : Course) (visit : Visit) (back depth count : ℕ) (next : Option (List ℤ)) (items slice : List Visit) →
    GoesOn g seeds sets journal course.trial course.first course.next → after ≡ course_after g course depth count next → count ≡ length journal + 1 → items ≡ journal ++ visit ∷ [] → slice ≡ items →
    (0 < back → course.next ≡ Back 1) → (0 < back → course.first + back ≡ length slice) → (0 < back → AllByRecursion KeptNothing (drop course.first slice)) → Repeats items after back
repeats-stepped g seeds sets journal course after visit back depth count next items slice goes is_after is_count is_items is_slice ends long nothing = λ some.
    subst (λ (vs : List Visit). IsRepeat vs after back) (sym is_items)
    (repeat-whole g journal course after visit back depth next (ends some)
    (subst (GoesOn g seeds sets journal course.trial course.first) (ends some) goes)
    (is_after ∙ ap (λ (n : ℕ). course_after g course depth n next) is_count)
    (long some ∙ ap (λ (vs : List Visit). length vs) (is_slice ∙ is_items))
    (subst (λ (vs : List Visit). AllByRecursion KeptNothing (drop course.first vs)) (is_slice ∙ is_items) (nothing some)))
