-- A run that has ended goes no further, and the run of solve is one.
use Rattle.std.proofs.Common.{◌≡◌, ℕ, ◌<◌, ◌≤◌, List, [], ◌∷◌, ◌++◌, Bool, true, false, cond, length, inl, inr, refl, ap, ap₂, sym, subst, ◌∙◌, arith, length-append}
use Rattle.std.proofs.lemmas.List.{append-nil, append_assoc}
use Rattle.std.proofs.lemmas.Bool.{both_ways, cases_lt, ne_eqb}
use Rattle.std.specs.Prelude.{IsTrue}
use Rattle.alpha_set.specs.Nodes.{NodeData}
use Rattle.backup.proofs.OneSeeds.{nodes-one, points-one}
use Rattle.controller.specs.Certificates.{Closed, Ending, Full, Trials}
use Rattle.game_model.specs.Game.{GameData, IsGame}
use Rattle.point_set.specs.Points.{PointData}
use Rattle.hsvi_trial.specs.Journal.{cut_before}
use Rattle.hsvi_trial.specs.Laws.{Begins, OneRunFor}
use Rattle.hsvi_trial.specs.Next.{visits_of}
use Rattle.hsvi_trial.specs.Run.{HasEnded, IsOutcome, IsRunSoFar, IsSolveRun, SolvedData, Task}
use Rattle.hsvi_trial.specs.Sets.{AreSeedSets, Sets, sets_after}
use Rattle.hsvi_trial.specs.Starts.{AreOpen, IsStart, StartData}
use Rattle.hsvi_trial.specs.declared.visits.Visit.{Visit}
use Rattle.hsvi_trial.specs.Cursors.{Cursor, Down, at_end, start}
use Rattle.hsvi_trial.proofs.Cursors.{Fits, so-far-end, so-far-walks, walks-at}
use Rattle.hsvi_trial.proofs.OneBeginnings.{HasLast, begins-same, last-or_none, next-same, same-before, whole-sets}
use Rattle.hsvi_trial.proofs.OneStarts.{open-closed, start-one}
use Rattle.hsvi_trial.proofs.OneVisits.{AreOne, VisitsAreOne}

-- ---- seeds are one
pub seeds-one : (g : GameData) (seeds others : Sets) → IsGame g → AreSeedSets g seeds → AreSeedSets g others → seeds ≡ others
seeds-one g seeds others game p q =
    ap₂ (λ (ns : List NodeData) (ps : List PointData). both ns ps) (nodes-one g seeds.nodes others.nodes p.first_nodes q.first_nodes)
    (points-one g seeds.points others.points game p.first_points q.first_points)
  where
    both : List NodeData → List PointData → Sets
    both ns ps = record { nodes = ns; points = ps }

-- a run so far from other seeds is one from the same seeds
from-seeds : (task : Task) (seeds others sets : Sets) (journal : List Visit) (cut : Bool) → IsGame task.game → AreSeedSets task.game seeds →
    IsRunSoFar task others sets journal cut → IsRunSoFar task seeds sets journal cut
from-seeds task seeds others sets journal cut game are run =
    subst (λ (s : Sets). IsRunSoFar task s sets journal cut) (seeds-one task.game others seeds game run.held.are_seeds are) run

pub one-beginning : (task : Task) (seeds sets other_seeds other_sets : Sets) (journal other : List Visit) (cut other_cut : Bool) → VisitsAreOne task.game →
    IsGame task.game → IsRunSoFar task seeds sets journal cut → IsRunSoFar task other_seeds other_sets other other_cut →
    length journal ≤ length other → Begins seeds sets journal other_sets other
one-beginning task seeds sets other_seeds other_sets journal other cut other_cut one game run run_other l =
    begins-same task seeds sets other_sets journal other cut other_cut one run (from-seeds task seeds other_seeds other_sets other other_cut game run.held.are_seeds run_other) l

-- ---- a run whose last visit is cut
-- the last visits of two runs with the same visits up to there are cut alike
cuts-there : (task : Task) (seeds sets others : Sets) (journal later : List Visit) (cut other_cut : Bool) → VisitsAreOne task.game →
    IsRunSoFar task seeds sets journal cut → IsRunSoFar task seeds others (journal ++ later) other_cut → HasLast journal → cut ≡ cut_before other_cut later
cuts-there task seeds sets others journal later cut other_cut one run run_other has = next.cut_is
  where
    begins : Begins seeds sets journal others (journal ++ later)
    begins = begins-same task seeds sets others journal (journal ++ later) cut other_cut one run run_other (omega (arith, length-append journal later))

    same : sets_after seeds sets has.earlier ≡ sets_after seeds others has.earlier
    same = same-before seeds sets others has.earlier (has.last ∷ [])
        (subst (λ (vs : List Visit). sets_after seeds sets vs ≡ sets_after seeds others vs) has.same (whole-sets task seeds sets journal cut run ∙ sym begins.sets_there))

    next : AreOne (sets_after seeds sets (has.earlier ++ has.last ∷ [])) (sets_after seeds others (has.earlier ++ has.last ∷ [])) (cut_before cut []) (cut_before other_cut later) has.last has.last
    next = next-same task seeds sets others journal (journal ++ later) has.earlier has.last has.last [] later one
        (record {
          cut = cut;
          other_cut = other_cut;
          run = run;
          run_other = run_other;
          parts = has.same;
          parts_other = ap (λ (vs : List Visit). vs ++ later) has.same ∙ append_assoc has.earlier (has.last ∷ []) later;
          same = same;
        })

some-visit : (task : Task) (seeds sets : Sets) (journal : List Visit) (cut : Bool) → IsRunSoFar task seeds sets journal cut → IsTrue cut → HasLast journal
some-visit task seeds sets journal cut run yes_cut = elim (last-or_none journal) [
  | inl none ↦ absurd (omega (arith, ap length run.shaped.joined, ap length none, length-append (visits_of run.trials) run.last, run.some yes_cut))
  | inr has ↦ has
]

-- ---- a run with no trial under way
-- the next visit begins a trial
begins-trial : (task : Task) (seeds sets others : Sets) (journal : List Visit) (visit : Visit) (later : List Visit) (cut other_cut : Bool) (run : IsRunSoFar task seeds sets journal cut) →
    IsRunSoFar task seeds others (journal ++ visit ∷ later) other_cut → run.last ≡ [] → AreOpen task.game task.gap (sets_after seeds others journal) × (length run.trials < task.trials)
begins-trial task seeds sets others journal visit later cut other_cut run run_other none =
    let open_there = run_other.opened journal visit later refl (fits.deep) (fits.is_down) in
    (open_there.0, subst (λ (n : ℕ). n < task.trials) fits.trial_is open_there.1)
  where
    ends : at_end start journal ≡ Down (length run.trials) []
    ends =
        ap (at_end start) (run.shaped.joined ∙ ap (λ (vs : List Visit). visits_of run.trials ++ vs) none ∙ append-nil (visits_of run.trials))
        ∙ so-far-end task.game run.trials run.shaped.whole

    fits : Fits task.game (Down (length run.trials) []) visit
    fits = subst (λ (c : Cursor). Fits task.game c visit) ends
        (walks-at task.game start journal visit later (so-far-walks task.game (journal ++ visit ∷ later) run_other.trials run_other.last run_other.shaped))

not-last : (cut : Bool) (visit : Visit) (later : List Visit) → cut_before cut (visit ∷ later) ≡ false
not-last cut visit later = ap (λ (b : Bool). cond b cut false) (ne_eqb (length (visit ∷ later)) 0 (λ e. omega arith))

no-more : (task : Task) (seeds sets others : Sets) (journal : List Visit) (visit : Visit) (later : List Visit) (cut other_cut : Bool) → VisitsAreOne task.game →
    (run : IsRunSoFar task seeds sets journal cut) → HasEnded task seeds sets journal cut run → IsRunSoFar task seeds others (journal ++ visit ∷ later) other_cut → ⊥
no-more task seeds sets others journal visit later cut other_cut one run (inl is_cut) run_other =
    both_ways cut (cuts-there task seeds sets others journal (visit ∷ later) cut other_cut one run run_other (some-visit task seeds sets journal cut run is_cut) ∙ not-last other_cut visit later) is_cut
no-more task seeds sets others journal visit later cut other_cut one run (inr (none, inl closed)) run_other =
    let begins : Begins seeds sets journal others (journal ++ visit ∷ later) =
    begins-same task seeds sets others journal (journal ++ visit ∷ later) cut other_cut one run run_other (omega (arith, length-append journal (visit ∷ later))) in
    open-closed task.game task.gap sets
    (subst (λ (s : Sets). AreOpen task.game task.gap s) begins.sets_there (begins-trial task seeds sets others journal visit later cut other_cut run run_other none).0) closed
no-more task seeds sets others journal visit later cut other_cut one run (inr (none, inr used)) run_other =
    let room : length run.trials < task.trials = (begins-trial task seeds sets others journal visit later cut other_cut run run_other none).1 in
    absurd (omega arith)

pub ends-there : (task : Task) (seeds sets more_seeds more_sets : Sets) (journal later : List Visit) (cut more_cut : Bool) → VisitsAreOne task.game → IsGame task.game →
    (run : IsRunSoFar task seeds sets journal cut) → HasEnded task seeds sets journal cut run →
    IsRunSoFar task more_seeds more_sets (journal ++ later) more_cut → later ≡ []
ends-there task seeds sets more_seeds more_sets journal [] cut more_cut one game run ended more = refl
ends-there task seeds sets more_seeds more_sets journal (visit ∷ later) cut more_cut one game run ended more =
    absurd (no-more task seeds sets more_sets journal visit later cut more_cut one run ended
    (from-seeds task seeds more_seeds more_sets (journal ++ visit ∷ later) more_cut game run.held.are_seeds more))

-- ---- the run of solve
-- the flag of a journal is one
cut-one : (task : Task) (seeds sets others : Sets) (journal : List Visit) (cut other_cut : Bool) → VisitsAreOne task.game →
    IsRunSoFar task seeds sets journal cut → IsRunSoFar task seeds others journal other_cut → cut ≡ other_cut
cut-one task seeds sets others journal cut other_cut one run run_other = elim (last-or_none journal) [
  | inl none ↦ never cut run none ∙ sym (never other_cut run_other none)
  | inr has ↦ cuts-there task seeds sets others journal [] cut other_cut one run
      (subst (λ (vs : List Visit). IsRunSoFar task seeds others vs other_cut) (sym (append-nil journal)) run_other) has
]
  where
    never : {ss : Sets} (flag : Bool) → IsRunSoFar task seeds ss journal flag → journal ≡ [] → flag ≡ false
    never false r none = refl
    never true r none = absurd (omega (arith, ap length r.shaped.joined, ap length none, length-append (visits_of r.trials) r.last, r.some refl))

outcome-one : (task : Task) (sets : Sets) (cut : Bool) (outcome other : Ending) → IsOutcome task sets cut outcome → IsOutcome task sets cut other → outcome ≡ other
outcome-one task sets cut Closed Closed p q = refl
outcome-one task sets cut Closed Full p q = absurd (open-closed task.game task.gap sets q.0 p)
outcome-one task sets cut Closed Trials p q = absurd (open-closed task.game task.gap sets q.0 p)
outcome-one task sets cut Full Closed p q = absurd (open-closed task.game task.gap sets p.0 q)
outcome-one task sets cut Full Full p q = refl
outcome-one task sets cut Full Trials p q = absurd (both_ways cut q.1 p.1)
outcome-one task sets cut Trials Closed p q = absurd (open-closed task.game task.gap sets p.0 q)
outcome-one task sets cut Trials Full p q = absurd (both_ways cut p.1 q.1)
outcome-one task sets cut Trials Trials p q = refl

solved-from : (solved other : SolvedData) → solved.sets ≡ other.sets → solved.start ≡ other.start → solved.outcome ≡ other.outcome → solved.journal ≡ other.journal → solved ≡ other
solved-from solved other a b c d =
    ap₂ (λ (s : Sets) (t : StartData). whole s t solved.outcome solved.journal) a b ∙ ap₂ (λ (o : Ending) (j : List Visit). whole other.sets other.start o j) c d
  where
    whole : Sets → StartData → Ending → List Visit → SolvedData
    whole s t o j = record { sets = s; start = t; outcome = o; journal = j }

-- the run with the shorter journal is the other one
shorter-one : (task : Task) (solved other : SolvedData) → VisitsAreOne task.game → IsGame task.game → IsSolveRun task solved → IsSolveRun task other →
    length solved.journal ≤ length other.journal → solved ≡ other
shorter-one task solved other one game p q l = solved-from solved other sets starts outcomes (sym journals)
  where
    begins : Begins p.seeds solved.sets solved.journal other.sets other.journal
    begins = one-beginning task p.seeds solved.sets q.seeds other.sets solved.journal other.journal p.cut q.cut one game p.run q.run l

    nothing : begins.later ≡ []
    nothing = ends-there task p.seeds solved.sets q.seeds other.sets solved.journal begins.later p.cut q.cut one game p.run p.ended
        (subst (λ (vs : List Visit). IsRunSoFar task q.seeds other.sets vs q.cut) begins.longer q.run)

    journals : other.journal ≡ solved.journal
    journals = begins.longer ∙ ap (λ (vs : List Visit). solved.journal ++ vs) nothing ∙ append-nil solved.journal

    -- the other run, with this one's seeds and journal
    run_other : IsRunSoFar task p.seeds other.sets solved.journal q.cut
    run_other = subst (λ (vs : List Visit). IsRunSoFar task p.seeds other.sets vs q.cut) journals (from-seeds task p.seeds q.seeds other.sets other.journal q.cut game p.run.held.are_seeds q.run)

    sets : solved.sets ≡ other.sets
    sets = sym begins.sets_there ∙ whole-sets task p.seeds other.sets solved.journal q.cut run_other

    starts : solved.start ≡ other.start
    starts = start-one task.game other.sets solved.start other.start (subst (λ (s : Sets). IsStart task.game s solved.start) sets p.start) q.start

    cut_is : p.cut ≡ q.cut
    cut_is = cut-one task p.seeds solved.sets other.sets solved.journal p.cut q.cut one p.run run_other

    outcomes : solved.outcome ≡ other.outcome
    outcomes = outcome-one task other.sets q.cut solved.outcome other.outcome
        (subst (λ (s : Sets). IsOutcome task s q.cut solved.outcome) sets (subst (λ (c : Bool). IsOutcome task solved.sets c solved.outcome) cut_is p.outcome)) q.outcome

pub solve-one : (task : Task) (solved other : SolvedData) → VisitsAreOne task.game → IsGame task.game → IsSolveRun task solved → IsSolveRun task other → solved ≡ other
solve-one task solved other one game p q = elim (cases_lt (length other.journal) (length solved.journal)) [
  | inl l ↦ sym (shorter-one task other solved one game q p (omega arith))
  | inr l ↦ shorter-one task solved other one game p q l
]

pub one-run_for : (g : GameData) → VisitsAreOne g → IsGame g → OneRunFor g
one-run_for g one game task solved other e p q = solve-one task solved other (subst VisitsAreOne (sym e) one) (subst IsGame (sym e) game) p q
