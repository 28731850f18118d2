-- A search that has made one more visit.
use Rattle.std.proofs.Common.{◌≡◌, ◌⊎◌, ℕ, zero, suc, ◌+◌, ◌-◌, ◌<◌, ◌≤◌, List, Option, Some, None, [], ◌∷◌, ◌++◌, Bool, false, cond, ◌==◌, length, inl, inr, refl, ap, ap₂, sym, subst, ◌∙◌, arith, length-append}
use Rattle.std.proofs.lemmas.Bool.{false≢true, ne_eqb}
use Rattle.std.proofs.lemmas.List.{append_assoc, get_or_default}
use Rattle.std.specs.Prelude.{ℤ, IsSome, IsTrue, slice_index_or}
use Rattle.game_model.specs.Game.{GameData}
use Rattle.hsvi_trial.specs.Courses.{BeginsTrial, GoesOn, IsPlace, IsPlaceDown, IsPlaceOf, LeadsIn, course_after, next_after}
use Rattle.hsvi_trial.specs.Growth.{IsNextVisit}
use Rattle.hsvi_trial.specs.Next.{GoesBack, GoesDown, places_back, visits_of}
use Rattle.hsvi_trial.specs.RightVisit.{IsNextBelief, IsRightVisit}
use Rattle.hsvi_trial.specs.Run.{IsRunSoFar, Task}
use Rattle.hsvi_trial.specs.Sets.{Sets, sets_after}
use Rattle.hsvi_trial.specs.Starts.{AreOpen}
use Rattle.hsvi_trial.specs.Trials.{AreTrialsSoFar, place_of}
use Rattle.hsvi_trial.specs.declared.courses.Course.{Course}
use Rattle.hsvi_trial.specs.declared.courses.Next.{Next}
use Rattle.hsvi_trial.specs.declared.courses.Next.TheVariants.{Back, Down}
use Rattle.hsvi_trial.specs.declared.courses.Place.{Place}
use Rattle.hsvi_trial.specs.declared.visits.Visit.{Visit}
use Rattle.hsvi_trial.proofs.Parting.{last-same}
use Rattle.hsvi_trial.proofs.Places.{IsBackVisit, IsDownVisit, LeadsBy, back-front, back-with, begins-next, down-front, goes-on-back, goes-on-down, next-down, turns}
use Rattle.hsvi_trial.proofs.Steps.{one-more_visit, sets-before}
use Rattle.hsvi_trial.proofs.Ways.{way-down-more}

-- what the code of a visit made, at a place
pub record IsVisitAt (task : Task) (sets new : Sets) (trial : ℕ) (place : Place) (cut : Bool) (visit : Visit) (next : Option (List ℤ)) : Type 0 where
  pub trial_is : visit.trial ≡ trial
  pub depth_is : visit.depth ≡ place.depth
  pub belief_is : visit.belief ≡ place.belief
  pub down_is : visit.down ≡ place.down
  pub right : IsRightVisit task.game task.gap sets new cut visit
  pub leads : (belief : List ℤ) → next ≡ Some belief → IsNextBelief task.game sets visit belief
  pub stops : next ≡ None → visit.chosen ≡ None

pub leads-by : (g : GameData) (seeds sets : Sets) → LeadsBy (LeadsIn g seeds sets)
leads-by g seeds sets earlier last belief leads = subst (λ (o : Option (ℕ × ℕ)). IsSome o) (sym leads.chosen) refl

-- the form of trials with the visit, and where the search goes on then
record Formed (g : GameData) (seeds new : Sets) (journal : List Visit) (visit : Visit) (after : Course) : Type 0 where
  pub trials : List (List Visit)
  pub last : List Visit
  pub shaped : AreTrialsSoFar g (journal ++ visit ∷ []) trials last
  pub some : 0 < length last
  pub goes : GoesOn g seeds new (journal ++ visit ∷ []) after.trial after.first after.next

-- ---- down
down-visit : (task : Task) (sets new : Sets) (journal : List Visit) (trial first : ℕ) (belief : List ℤ) (place : Place) (cut : Bool) (visit : Visit) (next : Option (List ℤ)) →
    IsPlaceDown journal first belief place → IsVisitAt task sets new trial place cut visit next → IsDownVisit trial first journal belief visit
down-visit task sets new journal trial first belief place cut visit next at made = record {
  trial_is = made.trial_is;
  is_down = made.down_is ∙ at.down;
  deep = ap (λ (n : ℕ). n + first) made.depth_is ∙ at.deep;
  belief_is = made.belief_is ∙ at.belief_is;
}

down-formed : (task : Task) (seeds sets new : Sets) (journal : List Visit) (course : Course) (belief : List ℤ) (place : Place) (cut : Bool) (visit : Visit) (next : Option (List ℤ)) →
    sets_after seeds new journal ≡ sets → GoesDown task.game (LeadsIn task.game seeds sets) journal course.trial course.first belief → IsPlaceDown journal course.first belief place →
    IsVisitAt task sets new course.trial place cut visit next →
    Formed task.game seeds new journal visit (next_after task.game course (Down belief) place.depth (length journal + 1) next)
down-formed task seeds sets new journal course belief place cut visit (Some more) before goes at made = record {
  trials = goes.trials;
  last = goes.down ++ visit ∷ [];
  shaped = down-front task.game journal course.trial course.first goes.trials goes.down visit goes.behind goes.joined
      (way-down-more task.game course.trial goes.down visit goes.way_down (next-down task.game (LeadsIn task.game seeds sets) journal course.trial course.first belief visit by goes is));
  some = omega (arith, length-append goes.down (visit ∷ []));
  goes = goes-on-down task.game (LeadsIn task.game seeds sets) (LeadsIn task.game seeds new) journal course.trial course.first belief more visit by goes is
      (subst (λ (s : Sets). IsNextBelief task.game s visit more) (sym before) (made.leads more refl));
}
  where
    by : LeadsBy (LeadsIn task.game seeds sets)
    by = leads-by task.game seeds sets

    is : IsDownVisit course.trial course.first journal belief visit
    is = down-visit task sets new journal course.trial course.first belief place cut visit (Some more) at made
down-formed task seeds sets new journal course belief place cut visit None before goes at made = record {
  trials = goes.trials;
  last = goes.down ++ visit ∷ [];
  shaped = down-front task.game journal course.trial course.first goes.trials goes.down visit goes.behind goes.joined
      (way-down-more task.game course.trial goes.down visit goes.way_down (next-down task.game (LeadsIn task.game seeds sets) journal course.trial course.first belief visit by goes is));
  some = omega (arith, length-append goes.down (visit ∷ []));
  goes = subst (λ (n : ℕ). GoesBack task.game (journal ++ visit ∷ []) course.trial course.first (n + 1)) made.depth_is
      (turns task.game (LeadsIn task.game seeds sets) journal course.trial course.first belief visit by goes is (made.stops refl));
}
  where
    by : LeadsBy (LeadsIn task.game seeds sets)
    by = leads-by task.game seeds sets

    is : IsDownVisit course.trial course.first journal belief visit
    is = down-visit task sets new journal course.trial course.first belief place cut visit None at made

-- ---- back
any-default : {X : Type 0} (xs : List X) (i : ℕ) (d e : X) → i < length xs → slice_index_or xs i d ≡ slice_index_or xs i e
any-default xs i d e l = get_or_default xs i d e l

pub inside-back : (g : GameData) (journal : List Visit) (trial first ahead : ℕ) → GoesBack g journal trial first ahead → first + ahead ≤ length journal
inside-back g journal trial first ahead goes =
    omega (arith, ap length goes.joined, length-append (visits_of goes.trials) (goes.down ++ goes.back), length-append goes.down goes.back, goes.behind.start, goes.within)

back-visit : (task : Task) (sets new : Sets) (journal : List Visit) (trial first ahead : ℕ) (place : Place) (cut : Bool) (visit : Visit) (next : Option (List ℤ)) →
    GoesBack task.game journal trial first (ahead + 1) → IsPlaceOf journal (first + (ahead + 1) - 1) place → IsVisitAt task sets new trial place cut visit next → IsBackVisit journal trial first ahead visit
back-visit task sets new journal trial first ahead place cut visit next goes at made = record {
  trial_is = made.trial_is;
  is_back = made.down_is ∙ at.back;
  place_is = ap₂ (λ (d : ℕ) (b : List ℤ). pair d b) (made.depth_is ∙ at.depth) (made.belief_is ∙ at.belief) ∙ ap place_of (sym there);
}
  where
    pair : ℕ → List ℤ → ℕ × List ℤ
    pair d b = (d, b)

    there : slice_index_or journal (first + ahead) visit ≡ at.visit
    there = any-default journal (first + ahead) visit at.visit (omega (arith, inside-back task.game journal trial first (ahead + 1) goes))
        ∙ ap (λ (i : ℕ). slice_index_or journal i at.visit) (omega arith) ∙ at.there

-- the way back goes on
back-goes-on : (task : Task) (seeds new : Sets) (journal : List Visit) (course : Course) (ahead : ℕ) (visit : Visit) → GoesBack task.game journal course.trial course.first (ahead + 1) → IsBackVisit journal course.trial course.first ahead visit →
    (left : ℕ) → ahead ≡ left → 0 < ahead → Formed task.game seeds new journal visit (record { trial = course.trial; first = course.first; next = Back left })
back-goes-on task seeds new journal course ahead visit goes is left same some = record {
  trials = goes.trials;
  last = goes.down ++ (goes.back ++ visit ∷ []);
  shaped = back-front task.game journal course.trial course.first goes.trials goes.down goes.back (places_back ahead goes.down) visit goes.behind goes.joined
      (back-with task.game journal course.trial course.first ahead visit goes is);
  some = omega (arith, length-append goes.down (goes.back ++ visit ∷ []), length-append goes.back (visit ∷ []));
  goes = subst (GoesBack task.game (journal ++ visit ∷ []) course.trial course.first) same (goes-on-back task.game journal course.trial course.first ahead visit goes is some);
}

back-formed : (task : Task) (seeds sets new : Sets) (journal : List Visit) (course : Course) (ahead : ℕ) (place : Place) (cut : Bool) (visit : Visit) (next : Option (List ℤ)) →
    GoesBack task.game journal course.trial course.first ahead → IsPlaceOf journal (course.first + ahead - 1) place → IsVisitAt task sets new course.trial place cut visit next →
    Formed task.game seeds new journal visit (next_after task.game course (Back ahead) place.depth (length journal + 1) next)
back-formed task seeds sets new journal course zero place cut visit next goes at made = absurd (omega (arith, goes.some))
back-formed task seeds sets new journal course (suc zero) place cut visit next goes at made = record {
  trials = goes.trials;
  last = goes.down ++ (goes.back ++ visit ∷ []);
  shaped = back-front task.game journal course.trial course.first goes.trials goes.down goes.back [] visit goes.behind goes.joined
      (back-with task.game journal course.trial course.first 0 visit goes is);
  some = omega (arith, length-append goes.down (goes.back ++ visit ∷ []), length-append goes.back (visit ∷ []));
  goes = begins-next task.game (LeadsIn task.game seeds new) journal course.trial course.first visit goes is;
}
  where
    is : IsBackVisit journal course.trial course.first 0 visit
    is = back-visit task sets new journal course.trial course.first 0 place cut visit next goes at made
back-formed task seeds sets new journal course (suc (suc k)) place cut visit next goes at made =
    subst (λ (b : Bool). Formed task.game seeds new journal visit (cond b ends on)) (sym more)
    (back-goes-on task seeds new journal course (k + 1) visit (subst (GoesBack task.game journal course.trial course.first) same goes) is (suc (suc k) - 1) (omega arith) (omega arith))
  where
    same : suc (suc k) ≡ k + 1 + 1
    same = omega arith

    is : IsBackVisit journal course.trial course.first (k + 1) visit
    is = back-visit task sets new journal course.trial course.first (k + 1) place cut visit next (subst (GoesBack task.game journal course.trial course.first) same goes)
        (subst (λ (n : ℕ). IsPlaceOf journal (course.first + n - 1) place) same at) made

    more : (suc (suc k) == 1) ≡ false
    more = ne_eqb (suc (suc k)) 1 (λ e. omega arith)

    ends : Course
    ends = record { trial = course.trial + 1; first = length journal + 1; next = Down task.game.first }

    on : Course
    on = record { trial = course.trial; first = course.first; next = Back (suc (suc k) - 1) }

formed : (task : Task) (seeds sets new : Sets) (journal : List Visit) (course : Course) (way : Next) (place : Place) (cut : Bool) (visit : Visit) (next : Option (List ℤ)) →
    sets_after seeds new journal ≡ sets → GoesOn task.game seeds sets journal course.trial course.first way → IsPlace journal course.first way place →
    IsVisitAt task sets new course.trial place cut visit next → Formed task.game seeds new journal visit (next_after task.game course way place.depth (length journal + 1) next)
formed task seeds sets new journal course (Down belief) place cut visit next before goes at made = down-formed task seeds sets new journal course belief place cut visit next before goes at made
formed task seeds sets new journal course (Back ahead) place cut visit next before goes at made = back-formed task seeds sets new journal course ahead place cut visit next goes at made

-- ---- the visit is the next one
snoc : {X : Type 0} (xs : List X) → (xs ≡ []) ⊎ ((front : List X) × ((last : X) × (xs ≡ front ++ last ∷ [])))
snoc [] = inl refl
snoc {X} (x ∷ xs) = inr (elim (snoc xs) [
  | inl e ↦ ([], (x, ap (λ (ys : List X). x ∷ ys) e))
  | inr p ↦ (x ∷ p.0, (p.1.0, ap (λ (ys : List X). x ∷ ys) p.1.1))
])

linked : (task : Task) (seeds sets : Sets) (journal : List Visit) (trial first : ℕ) (way : Next) (place : Place) (visit : Visit) →
    GoesOn task.game seeds sets journal trial first way → IsPlace journal first way place → visit.depth ≡ place.depth → visit.belief ≡ place.belief → visit.down ≡ place.down →
    (earlier : List Visit) (last : Visit) → journal ≡ earlier ++ last ∷ [] → IsTrue visit.down → visit.depth ≡ suc last.depth → IsNextBelief task.game (sets_after seeds sets earlier) last visit.belief
linked task seeds sets journal trial first (Back ahead) place visit goes at depth belief down earlier last e is_down deep = absurd (false≢true (sym at.back ∙ sym down ∙ is_down))
linked task seeds sets journal trial first (Down here) place visit goes at depth belief down earlier last e is_down deep =
    elim (snoc goes.down) [
      | inl none ↦ absurd (omega (arith, deep, depth, at.deep, ap length goes.joined, length-append (visits_of goes.trials) goes.down, ap length none, goes.behind.start))
      | inr p ↦ there p.0 p.1.0 p.1.1
    ]
  where
    there : (front : List Visit) (x : Visit) → goes.down ≡ front ++ x ∷ [] → IsNextBelief task.game (sets_after seeds sets earlier) last visit.belief
    there front x is =
        let same = last-same (visits_of goes.trials ++ front) x earlier last
        (append_assoc (visits_of goes.trials) front (x ∷ []) ∙ ap (λ (vs : List Visit). visits_of goes.trials ++ vs) (sym is) ∙ sym goes.joined ∙ e) in
        subst (λ (b : List ℤ). IsNextBelief task.game (sets_after seeds sets earlier) last b) (sym (belief ∙ at.belief_is))
        (subst (λ (vs : List Visit). IsNextBelief task.game (sets_after seeds sets vs) last here) (sym same.0)
        (subst (λ (w : Visit). IsNextBelief task.game (sets_after seeds sets (visits_of goes.trials ++ front)) w here) (sym same.1) (goes.leads front x is)))

opens : (journal : List Visit) (first : ℕ) (way : Next) (place : Place) → IsPlace journal first way place → place.depth ≡ 0 → IsTrue place.down → BeginsTrial (length journal) first way
opens journal first (Down belief) place at top down = omega (arith, at.deep)
opens journal first (Back ahead) place at top down = absurd (false≢true (sym at.back ∙ down))

-- what a search holds after the visit
pub record IsStepped (task : Task) (seeds new : Sets) (journal : List Visit) (cut : Bool) (after : Course) : Type 0 where
  pub run : IsRunSoFar task seeds new journal cut
  pub goes : GoesOn task.game seeds new journal after.trial after.first after.next

pub stepped : (task : Task) (seeds sets new : Sets) (journal : List Visit) (course : Course) (place : Place) (cut : Bool) (visit : Visit) (next : Option (List ℤ)) →
    IsRunSoFar task seeds sets journal false → GoesOn task.game seeds sets journal course.trial course.first course.next → IsPlace journal course.first course.next place →
    (BeginsTrial (length journal) course.first course.next → AreOpen task.game task.gap sets × (course.trial < task.trials)) →
    IsVisitAt task sets new course.trial place cut visit next →
    IsStepped task seeds new (journal ++ visit ∷ []) cut (course_after task.game course place.depth (length journal + 1) next)
stepped task seeds sets new journal course place cut visit next run goes at opened made =
    let form = formed task seeds sets new journal course course.next place cut visit next (sets-before task seeds sets new journal cut visit run.held made.right) goes at made in
    record {
      run = one-more_visit task seeds sets new journal cut visit form.trials form.last run is_next form.shaped form.some;
      goes = form.goes;
    }
  where
    is_next : IsNextVisit task seeds sets new journal cut visit
    is_next = record {
      right = made.right;
      linked = linked task seeds sets journal course.trial course.first course.next place visit goes at made.depth_is made.belief_is made.down_is;
      opened = λ top down.
          let both = opened (opens journal course.first course.next place at (sym made.depth_is ∙ top) (sym made.down_is ∙ down)) in
          (both.0, subst (λ (n : ℕ). n < task.trials) (sym made.trial_is) both.1);
    }
