-- Of two runs so far from the same seeds the shorter one begins the other.
use Rattle.std.proofs.Common.{◌≡◌, ◌⊎◌, ℕ, suc, ◌+◌, ◌≤◌, List, Option, Some, None, [], ◌∷◌, ◌++◌, Bool, true, take, length, inl, inr, refl, ap, ap₂, sym, subst, ◌∙◌, arith}
use Rattle.std.proofs.Math.Seq.{take-length}
use Rattle.std.proofs.lemmas.List.{append-nil, append_assoc, take-take}
use Rattle.alpha_set.specs.Nodes.{NodeData}
use Rattle.game_model.specs.Game.{GameData}
use Rattle.point_set.specs.Points.{PointData}
use Rattle.hsvi_trial.specs.Journal.{cut_before}
use Rattle.hsvi_trial.specs.Laws.{Begins}
use Rattle.hsvi_trial.specs.RightVisit.{IsNextBelief, IsRightVisit}
use Rattle.hsvi_trial.specs.Run.{IsRunSoFar, Task}
use Rattle.hsvi_trial.specs.Sets.{Sets, kept_nodes, kept_points, sets_after}
use Rattle.hsvi_trial.specs.Trials.{place_of}
use Rattle.hsvi_trial.specs.declared.visits.Visit.{Visit}
use Rattle.hsvi_trial.specs.Cursors.{Back, Cursor, Down, Place, at_end, gone_back, moved, start, turned}
use Rattle.hsvi_trial.proofs.Cursors.{Fits, IsNextBack, IsNextDown, Walks, end-append, so-far-walks, walks-at}
use Rattle.hsvi_trial.proofs.Growing.{kept_nodes-append, kept_points-append}
use Rattle.hsvi_trial.proofs.OneLists.{head-same, none-some, tail-same}
use Rattle.hsvi_trial.proofs.OneNext.{next-one}
use Rattle.hsvi_trial.proofs.OneVisits.{AreAlike, AreOne, VisitsAreOne, right-one}

-- ---- the sets before later visits
all-taken : {X : Type 0} (n : ℕ) (xs : List X) → length xs ≡ n → take n xs ≡ xs
all-taken n xs e = subst (λ (m : ℕ). take m xs ≡ xs) e (take-length xs)

-- what the whole journal leaves are the sets
pub whole-sets : (task : Task) (seeds sets : Sets) (journal : List Visit) (cut : Bool) → IsRunSoFar task seeds sets journal cut → sets_after seeds sets journal ≡ sets
whole-sets task seeds sets journal cut run =
    ap₂ (λ (ns : List NodeData) (ps : List PointData). both ns ps) (all-taken _ sets.nodes run.held.all_nodes) (all-taken _ sets.points run.held.all_points)
  where
    both : List NodeData → List PointData → Sets
    both ns ps = record { nodes = ns; points = ps }

-- what visits leave is read from what they and later ones leave
pub sets-back : (seeds sets : Sets) (visits later : List Visit) → sets_after seeds (sets_after seeds sets (visits ++ later)) visits ≡ sets_after seeds sets visits
sets-back seeds sets visits later =
    ap₂ (λ (ns : List NodeData) (ps : List PointData). both ns ps)
    (take-take (length seeds.nodes + kept_nodes visits) (length seeds.nodes + kept_nodes (visits ++ later)) sets.nodes
    (more (length seeds.nodes) (kept_nodes visits) (kept_nodes later) (kept_nodes (visits ++ later)) (kept_nodes-append visits later)))
    (take-take (length seeds.points + kept_points visits) (length seeds.points + kept_points (visits ++ later)) sets.points
    (more (length seeds.points) (kept_points visits) (kept_points later) (kept_points (visits ++ later)) (kept_points-append visits later)))
  where
    both : List NodeData → List PointData → Sets
    both ns ps = record { nodes = ns; points = ps }

    more : (seeded few rest all : ℕ) → all ≡ few + rest → seeded + few ≤ seeded + all
    more seeded few rest all e = omega arith

pub same-before : (seeds sets others : Sets) (visits later : List Visit) → sets_after seeds sets (visits ++ later) ≡ sets_after seeds others (visits ++ later) →
    sets_after seeds sets visits ≡ sets_after seeds others visits
same-before seeds sets others visits later e =
    sym (sets-back seeds sets visits later) ∙ ap (λ (s : Sets). sets_after seeds s visits) e ∙ sets-back seeds others visits later

-- ---- the last visit of a way down
-- a list of visits is none, or has a last one
pub record HasLast (visits : List Visit) : Type 0 where
  pub earlier : List Visit
  pub last : Visit
  pub same : visits ≡ earlier ++ last ∷ []

pub last-or_none : (visits : List Visit) → (visits ≡ []) ⊎ HasLast visits
last-or_none [] = inl refl
last-or_none (x ∷ xs) = inr (with-last x xs)
  where
    with-last : (x : Visit) (xs : List Visit) → HasLast (x ∷ xs)
    with-last x [] = record { earlier = []; last = x; same = refl }
    with-last x (y ∷ ys) =
        let rest = with-last y ys in
        record { earlier = x ∷ rest.earlier; last = rest.last; same = ap (λ (vs : List Visit). x ∷ vs) rest.same }

-- the places of a way down
abbrev pub behind-of : Cursor → List Place
behind-of (Down n behind) = behind
behind-of (Back n ahead) = []

pub unlike : (m : ℕ) (ahead : List Place) (n : ℕ) (behind : List Place) → Back m ahead ≡ Down n behind → ⊥
unlike m ahead n behind e = cc

by-chosen : (m : ℕ) (there : Place) (places : List Place) (chosen : Option (ℕ × ℕ)) (n : ℕ) (here : Place) (behind : List Place) →
    turned m (there ∷ places) chosen ≡ Down n (here ∷ behind) → places ≡ behind
by-chosen m there places None n here behind e = absurd (unlike m (there ∷ places) n (here ∷ behind) e)
by-chosen m there places (Some pair) n here behind e = tail-same there here places behind (ap behind-of e)

by-ahead : (m : ℕ) (ahead : List Place) (n : ℕ) (here : Place) (behind : List Place) → gone_back m ahead ≡ Down n (here ∷ behind) → ⊥
by-ahead m [] n here behind e = none-some here behind (ap behind-of e)
by-ahead m (p ∷ []) n here behind e = none-some here behind (ap behind-of e)
by-ahead m (p ∷ q ∷ rest) n here behind e = unlike m (q ∷ rest) n (here ∷ behind) e

-- a visit to which a way down goes on has the depth of its place
last-deep : (g : GameData) (cursor : Cursor) (visit : Visit) (n : ℕ) (here : Place) (behind : List Place) → Fits g cursor visit → moved cursor visit ≡ Down n (here ∷ behind) → visit.depth ≡ length behind
last-deep g (Down m places) visit n here behind fits e = fits.deep ∙ ap length (by-chosen m (place_of visit) places visit.chosen n here behind e)
last-deep g (Back m places) visit n here behind fits e = absurd (by-ahead m places n here behind e)

-- ---- the next visits of two runs
-- two runs so far with the same seeds and the same first visits, each with one more
pub record AreTogether (task : Task) (seeds sets others : Sets) (journal other : List Visit) (earlier : List Visit) (visit next : Visit) (later more : List Visit) : Type 0 where
  pub cut : Bool
  pub other_cut : Bool
  pub run : IsRunSoFar task seeds sets journal cut
  pub run_other : IsRunSoFar task seeds others other other_cut
  pub parts : journal ≡ earlier ++ visit ∷ later
  pub parts_other : other ≡ earlier ++ next ∷ more
  pub same : sets_after seeds sets earlier ≡ sets_after seeds others earlier

-- where both go on from one last visit, they go on to one belief
linked-one : (task : Task) (seeds sets others : Sets) (journal other earlier : List Visit) (visit next : Visit) (later more : List Visit) →
    VisitsAreOne task.game → (both : AreTogether task seeds sets others journal other earlier visit next later more) → (has : HasLast earlier) →
    visit.down ≡ true → next.down ≡ true → visit.depth ≡ suc has.last.depth → next.depth ≡ suc has.last.depth → visit.belief ≡ next.belief
linked-one task seeds sets others journal other earlier visit next later more one both has down down_other deep deep_other =
    next-one task.game task.gap (sets_after seeds sets has.earlier) (sets_after seeds sets (has.earlier ++ has.last ∷ [])) (cut_before both.cut (visit ∷ later)) has.last visit.belief next.belief one
    (both.run.right has.earlier has.last (visit ∷ later) parts)
    (both.run.linked has.earlier has.last visit later parts down deep)
    (subst (λ (s : Sets). IsNextBelief task.game s has.last next.belief) (sym same)
    (both.run_other.linked has.earlier has.last next more parts_other down_other deep_other))
  where
    parts : journal ≡ has.earlier ++ has.last ∷ visit ∷ later
    parts = both.parts ∙ ap (λ (vs : List Visit). vs ++ visit ∷ later) has.same ∙ append_assoc has.earlier (has.last ∷ []) (visit ∷ later)

    parts_other : other ≡ has.earlier ++ has.last ∷ next ∷ more
    parts_other = both.parts_other ∙ ap (λ (vs : List Visit). vs ++ next ∷ more) has.same ∙ append_assoc has.earlier (has.last ∷ []) (next ∷ more)

    same : sets_after seeds sets has.earlier ≡ sets_after seeds others has.earlier
    same = same-before seeds sets others has.earlier (has.last ∷ []) (subst (λ (vs : List Visit). sets_after seeds sets vs ≡ sets_after seeds others vs) has.same both.same)

-- visits of one trial at one depth, both down
alike-down : (g : GameData) (n : ℕ) (behind : List Place) (visit next : Visit) → IsNextDown g n behind visit → IsNextDown g n behind next → visit.belief ≡ next.belief → AreAlike visit next
alike-down g n behind visit next p q belief = record {
  trial_is = p.trial_is ∙ sym q.trial_is;
  depth_is = p.deep ∙ sym q.deep;
  belief_is = belief;
  down_is = p.is_down ∙ sym q.is_down;
}

alike-back : (n : ℕ) (ahead : List Place) (visit next : Visit) → IsNextBack n ahead visit → IsNextBack n ahead next → AreAlike visit next
alike-back n ahead visit next p q = record {
  trial_is = p.trial_is ∙ sym q.trial_is;
  depth_is = ap (λ (place : Place). place.0) place;
  belief_is = ap (λ (place : Place). place.1) place;
  down_is = p.is_back ∙ sym q.is_back;
}
  where
    place : place_of visit ≡ place_of next
    place = head-same (place_of visit) (place_of next) p.rest q.rest (sym p.place ∙ q.place)

-- the next visits are at one place
alike-next : (task : Task) (seeds sets others : Sets) (journal other earlier : List Visit) (visit next : Visit) (later more : List Visit) →
    VisitsAreOne task.game → AreTogether task seeds sets others journal other earlier visit next later more → AreAlike visit next
alike-next task seeds sets others journal other earlier visit next later more one both = by-cursor (at_end start earlier) refl fits fits_other
  where
    walks : Walks task.game start (earlier ++ visit ∷ later)
    walks = subst (Walks task.game start) both.parts (so-far-walks task.game journal both.run.trials both.run.last both.run.shaped)

    fits : Fits task.game (at_end start earlier) visit
    fits = walks-at task.game start earlier visit later walks

    fits_other : Fits task.game (at_end start earlier) next
    fits_other = walks-at task.game start earlier next more
        (subst (Walks task.game start) both.parts_other (so-far-walks task.game other both.run_other.trials both.run_other.last both.run_other.shaped))

    empty-start : (n : ℕ) (here : Place) (behind : List Place) → earlier ≡ [] → at_end start earlier ≡ Down n (here ∷ behind) → ⊥
    empty-start n here behind none e = none-some here behind (ap behind-of (sym (ap (at_end start) none) ∙ e))

    deeper : (n : ℕ) (here : Place) (behind : List Place) → at_end start earlier ≡ Down n (here ∷ behind) → IsNextDown task.game n (here ∷ behind) visit → IsNextDown task.game n (here ∷ behind) next →
        (has : HasLast earlier) → visit.belief ≡ next.belief
    deeper n here behind e p q has =
        let depth : has.last.depth ≡ length behind =
        last-deep task.game (at_end start has.earlier) has.last n here behind
        (walks-at task.game start has.earlier has.last (visit ∷ later)
        (subst (Walks task.game start) (ap (λ (vs : List Visit). vs ++ visit ∷ later) has.same ∙ append_assoc has.earlier (has.last ∷ []) (visit ∷ later)) walks))
        (sym (end-append start has.earlier (has.last ∷ [])) ∙ sym (ap (at_end start) has.same) ∙ e) in
        linked-one task seeds sets others journal other earlier visit next later more one both has p.is_down q.is_down
        (p.deep ∙ ap suc (sym depth)) (q.deep ∙ ap suc (sym depth))

    by-cursor : (cursor : Cursor) → at_end start earlier ≡ cursor → Fits task.game cursor visit → Fits task.game cursor next → AreAlike visit next
    by-cursor (Back n ahead) e p q = alike-back n ahead visit next p q
    by-cursor (Down n []) e p q = alike-down task.game n [] visit next p q (p.begins refl ∙ sym (q.begins refl))
    by-cursor (Down n (here ∷ behind)) e p q = alike-down task.game n (here ∷ behind) visit next p q (elim (last-or_none earlier) [
      | inl none ↦ absurd (empty-start n here behind none e)
      | inr has ↦ deeper n here behind e p q has
    ])

-- the next visits are one, and leave the same sets
pub next-same : (task : Task) (seeds sets others : Sets) (journal other earlier : List Visit) (visit next : Visit) (later more : List Visit) →
    VisitsAreOne task.game → (both : AreTogether task seeds sets others journal other earlier visit next later more) →
    AreOne (sets_after seeds sets (earlier ++ visit ∷ [])) (sets_after seeds others (earlier ++ next ∷ [])) (cut_before both.cut later) (cut_before both.other_cut more) visit next
next-same task seeds sets others journal other earlier visit next later more one both =
    right-one task.game task.gap (sets_after seeds sets earlier) (sets_after seeds sets (earlier ++ visit ∷ [])) (sets_after seeds others (earlier ++ next ∷ []))
    (cut_before both.cut later) (cut_before both.other_cut more) visit next one
    (alike-next task seeds sets others journal other earlier visit next later more one both)
    (both.run.right earlier visit later both.parts)
    (subst (λ (s : Sets). IsRightVisit task.game task.gap s (sets_after seeds others (earlier ++ next ∷ [])) (cut_before both.other_cut more) next) (sym both.same)
    (both.run_other.right earlier next more both.parts_other))

-- ---- the beginning
pub begins-from : (task : Task) (seeds sets others : Sets) (journal other : List Visit) (cut other_cut : Bool) → VisitsAreOne task.game →
    IsRunSoFar task seeds sets journal cut → IsRunSoFar task seeds others other other_cut →
    (earlier later more : List Visit) → journal ≡ earlier ++ later → other ≡ earlier ++ more → sets_after seeds sets earlier ≡ sets_after seeds others earlier →
    length later ≤ length more → Begins seeds sets journal others other
begins-from task seeds sets others journal other cut other_cut one run run_other earlier [] more e f same l = record {
  later = more;
  longer = f ∙ ap (λ (vs : List Visit). vs ++ more) (sym all);
  sets_there = ap (sets_after seeds others) all ∙ sym same ∙ ap (sets_after seeds sets) (sym all) ∙ whole-sets task seeds sets journal cut run;
}
  where
    all : journal ≡ earlier
    all = e ∙ append-nil earlier
begins-from task seeds sets others journal other cut other_cut one run run_other earlier (x ∷ later) [] e f same l = absurd (omega arith)
begins-from task seeds sets others journal other cut other_cut one run run_other earlier (x ∷ later) (y ∷ more) e f same l =
    begins-from task seeds sets others journal other cut other_cut one run run_other (earlier ++ x ∷ []) later more
    (e ∙ sym (append_assoc earlier (x ∷ []) later))
    (f ∙ ap (λ (v : Visit). earlier ++ v ∷ more) (sym next.visit_is) ∙ sym (append_assoc earlier (x ∷ []) more))
    (next.sets ∙ ap (λ (v : Visit). sets_after seeds others (earlier ++ v ∷ [])) (sym next.visit_is))
    (omega arith)
  where
    next : AreOne (sets_after seeds sets (earlier ++ x ∷ [])) (sets_after seeds others (earlier ++ y ∷ [])) (cut_before cut later) (cut_before other_cut more) x y
    next = next-same task seeds sets others journal other earlier x y later more one
        (record { cut = cut; other_cut = other_cut; run = run; run_other = run_other; parts = e; parts_other = f; same = same })

pub begins-same : (task : Task) (seeds sets others : Sets) (journal other : List Visit) (cut other_cut : Bool) → VisitsAreOne task.game →
    IsRunSoFar task seeds sets journal cut → IsRunSoFar task seeds others other other_cut → length journal ≤ length other → Begins seeds sets journal others other
begins-same task seeds sets others journal other cut other_cut one run run_other l =
    begins-from task seeds sets others journal other cut other_cut one run run_other [] journal other refl refl (run.held.begin ∙ sym run_other.held.begin) l
