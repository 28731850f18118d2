-- A run so far has at most 130 visits in each of its trials.
use Rattle.std.proofs.Common.{◌≡◌, ℕ, suc, ◌+◌, ◌*◌, ◌<◌, ◌≤◌, List, Option, [], ◌∷◌, ◌++◌, Bool, true, length, inl, inr, refl, ap, sym, subst, ◌∙◌, arith, length-append}
use Rattle.std.proofs.lemmas.Bool.{and_parts, both_ways, cases_Bool, ltb-true}
use Rattle.std.proofs.lemmas.List.{append_assoc, length-reverse}
use Rattle.std.specs.Prelude.{IsSome, is_some, ltb, map, not, ◌&&◌}
use Rattle.std.specs.List.{AllByRecursion}
use Rattle.controller.specs.Certificates.{FractionData}
use Rattle.game_model.proofs.Front.{length-map}
use Rattle.game_model.specs.Game.{GameData, numbers}
use Rattle.hsvi_trial.specs.Journal.{cut_before}
use Rattle.hsvi_trial.specs.Laws.{RunsAreShort, most_visits}
use Rattle.hsvi_trial.specs.Next.{visits_of}
use Rattle.hsvi_trial.specs.RightVisit.{IsRightVisit, looks_on}
use Rattle.hsvi_trial.specs.Run.{IsRunSoFar, Task}
use Rattle.hsvi_trial.specs.Sets.{Sets, sets_after}
use Rattle.hsvi_trial.specs.Thresholds.{most_depth}
use Rattle.hsvi_trial.specs.Trials.{IsTrial, IsTrialFront, place_of}
use Rattle.hsvi_trial.specs.declared.visits.Visit.{Visit}
use Rattle.hsvi_trial.specs.Cursors.{Cursor, Down, Place, at_end, start}
use Rattle.hsvi_trial.proofs.Cursors.{AreDeepFrom, AreTrialsFrom, EachGoesOn, Fits, LastTurns, deep-from, each-goes_on, end-append, last-turns, so-far-end, so-far-from, so-far-walks, trial-ends, Walks, walks-at}

-- a visit that chose is above the greatest depth
abbrev IsShallow : Visit → Type 0
IsShallow visit = IsSome visit.chosen → visit.depth < most_depth

looks-shallow : (g : GameData) (visit : Visit) (cut : Bool) → looks_on g visit cut ≡ true → visit.depth < most_depth
looks-shallow g visit cut h =
    let first = and_parts visit.down (not cut && (ltb 0 (numbers g).discount_over && ltb visit.depth most_depth)) h in
    let second = and_parts (not cut) (ltb 0 (numbers g).discount_over && ltb visit.depth most_depth) first.1 in
    let third = and_parts (ltb 0 (numbers g).discount_over) (ltb visit.depth most_depth) second.1 in
    ltb-true visit.depth most_depth third.1

chose-shallow : (g : GameData) (gap : FractionData) (before after : Sets) (cut : Bool) (visit : Visit) → IsRightVisit g gap before after cut visit → IsShallow visit
chose-shallow g gap before after cut visit right chose = elim (cases_Bool (looks_on g visit cut)) [
  | inl looks ↦ looks-shallow g visit cut looks
  | inr stays ↦ absurd (both_ways (is_some visit.chosen) (ap (λ (c : Option (ℕ × ℕ)). is_some c) (right.stays stays)) chose)
]

-- ---- lists of visits
each-of : (P : Visit → Type 0) (visits : List Visit) → ((earlier : List Visit) (visit : Visit) (later : List Visit) → visits ≡ earlier ++ visit ∷ later → P visit) → AllByRecursion P visits
each-of P [] h = tt
each-of P (x ∷ xs) h = (h [] x xs refl, each-of P xs (λ earlier v later e. h (x ∷ earlier) v later (ap (λ (vs : List Visit). x ∷ vs) e)))

each-front : (P : Visit → Type 0) (xs ys : List Visit) → AllByRecursion P (xs ++ ys) → AllByRecursion P xs
each-front P [] ys h = tt
each-front P (x ∷ xs) ys h = (h.0, each-front P xs ys h.1)

each-behind : (P : Visit → Type 0) (xs ys : List Visit) → AllByRecursion P (xs ++ ys) → AllByRecursion P ys
each-behind P [] ys h = h
each-behind P (x ∷ xs) ys h = each-behind P xs ys h.1

-- ---- one trial
way-short : (visits : List Visit) (depth : ℕ) → depth ≤ most_depth → AreDeepFrom depth visits → EachGoesOn visits → AllByRecursion IsShallow visits → depth + length visits ≤ suc most_depth
way-short [] depth l deep go each = omega arith
way-short (visit ∷ []) depth l deep go each = omega arith
way-short (visit ∷ next ∷ later) depth l deep go each =
    let shallow : visit.depth < most_depth = each.0 go.0 in
    let here : visit.depth ≡ depth = deep.0 in
    let rest : suc depth + length (next ∷ later) ≤ suc most_depth = way-short (next ∷ later) (suc depth) (omega arith) deep.1 go.1 each.1 in
    omega arith

front-short : (g : GameData) (n : ℕ) (visits : List Visit) (ahead : List Place) → IsTrialFront g n visits ahead → AllByRecursion IsShallow visits → length visits ≤ most_visits
front-short g n visits ahead front each =
    both (length front.down) (length front.back) (length ahead) (length visits)
    (way-short front.down 0 (omega arith) (deep-from front.down 0 front.way_down.depths) (each-goes_on front.down front.way_down.go_on)
    (each-front IsShallow front.down front.back (subst (AllByRecursion IsShallow) front.both each)))
    (ap length front.both ∙ length-append front.down front.back)
    (ap (λ (n : ℕ). n + length ahead) (sym (length-map place_of front.back)) ∙ sym (length-append (map place_of front.back) ahead) ∙ ap length front.mirrored
    ∙ length-reverse (map place_of front.down) ∙ length-map place_of front.down)
  where
    both : (down back ahead all : ℕ) → 0 + down ≤ suc most_depth → all ≡ down + back → back + ahead ≡ down → all ≤ most_visits
    both down back ahead all l e m = omega arith

-- ---- whole trials
trials-short : (g : GameData) (n : ℕ) (trials : List (List Visit)) → AreTrialsFrom g n trials → AllByRecursion IsShallow (visits_of trials) → length (visits_of trials) ≤ length trials * most_visits
trials-short g n [] each shallow = omega arith
trials-short g n (trial ∷ trials) each shallow =
    let here : length trial ≤ most_visits = front-short g n trial [] each.0.front (each-front IsShallow trial (visits_of trials) shallow) in
    let rest : length (visits_of trials) ≤ length trials * most_visits = trials-short g (suc n) trials each.1 (each-behind IsShallow trial (visits_of trials) shallow) in
    omega (arith, length-append trial (visits_of trials))

none-turns : (visits : List Visit) → LastTurns visits → length visits ≡ 0 → ⊥
none-turns [] last e = last
none-turns (x ∷ xs) last e = omega arith

-- a whole trial has a visit
some-trial : (g : GameData) (n : ℕ) → IsTrial g n [] → ⊥
some-trial g n trial = none-turns trial.front.down (last-turns trial.front.down trial.ended) (omega (arith, ap length trial.front.both, length-append trial.front.down trial.front.back))

-- ---- the numbers of trials
-- where a trial begins, its number is below the budget
opens : (task : Task) (seeds sets : Sets) (journal : List Visit) (cut : Bool) → IsRunSoFar task seeds sets journal cut →
    (earlier : List Visit) (visit : Visit) (later : List Visit) (n : ℕ) → journal ≡ earlier ++ visit ∷ later → at_end start earlier ≡ Down n [] → n < task.trials
opens task seeds sets journal cut run earlier visit later n e ends =
    subst (λ (m : ℕ). m < task.trials) fits.trial_is (run.opened earlier visit later e fits.deep fits.is_down).1
  where
    fits : Fits task.game (Down n []) visit
    fits = subst (λ (c : Cursor). Fits task.game c visit) ends
        (walks-at task.game start earlier visit later (subst (λ (vs : List Visit). Walks task.game start vs) e (so-far-walks task.game journal run.trials run.last run.shaped)))

few-from : (task : Task) (seeds sets : Sets) (journal : List Visit) (cut : Bool) → IsRunSoFar task seeds sets journal cut →
    (n : ℕ) (trials : List (List Visit)) (earlier last : List Visit) → AreTrialsFrom task.game n trials → journal ≡ earlier ++ (visits_of trials ++ last) → at_end start earlier ≡ Down n [] →
    n ≤ task.trials → n + length trials ≤ task.trials
few-from task seeds sets journal cut run n [] earlier last each e ends l = omega arith
few-from task seeds sets journal cut run n ([] ∷ trials) earlier last each e ends l = absurd (some-trial task.game n each.0)
few-from task seeds sets journal cut run n ((visit ∷ trial) ∷ trials) earlier last each e ends l =
    let room : n < task.trials = opens task seeds sets journal cut run earlier visit (trial ++ (visits_of trials ++ last)) n (e ∙ ap (λ (vs : List Visit). earlier ++ vs) (append_assoc (visit ∷ trial) (visits_of trials) last)) ends in
    let rest : suc n + length trials ≤ task.trials =
    few-from task seeds sets journal cut run (suc n) trials (earlier ++ visit ∷ trial) last each.1
    (e ∙ ap (λ (vs : List Visit). earlier ++ vs) (append_assoc (visit ∷ trial) (visits_of trials) last) ∙ sym (append_assoc earlier (visit ∷ trial) (visits_of trials ++ last)))
    (end-append start earlier (visit ∷ trial) ∙ ap (λ (c : Cursor). at_end c (visit ∷ trial)) ends ∙ trial-ends task.game n (visit ∷ trial) each.0)
    room in
    omega arith

-- with the trial under way, where there is one
few-with : (task : Task) (seeds sets : Sets) (journal : List Visit) (cut : Bool) (run : IsRunSoFar task seeds sets journal cut) (last : List Visit) → run.last ≡ last → length last ≤ most_visits →
    length run.trials * most_visits + length last ≤ task.trials * most_visits
few-with task seeds sets journal cut run [] e l =
    let few : 0 + length run.trials ≤ task.trials =
    few-from task seeds sets journal cut run 0 run.trials [] run.last (so-far-from task.game run.trials run.shaped.whole) run.shaped.joined refl (omega arith) in
    omega arith
few-with task seeds sets journal cut run (visit ∷ later) e l =
    let room : length run.trials < task.trials =
    opens task seeds sets journal cut run (visits_of run.trials) visit later (length run.trials) (run.shaped.joined ∙ ap (λ (vs : List Visit). visits_of run.trials ++ vs) e)
    (so-far-end task.game run.trials run.shaped.whole) in
    omega arith

pub runs-short : RunsAreShort
runs-short task seeds sets journal cut run =
    let trials : length (visits_of run.trials) ≤ length run.trials * most_visits =
    trials-short task.game 0 run.trials (so-far-from task.game run.trials run.shaped.whole) (each-front IsShallow (visits_of run.trials) run.last shallow) in
    let last : length run.last ≤ most_visits =
    front-short task.game (length run.trials) run.last run.shaped.ahead run.shaped.front (each-behind IsShallow (visits_of run.trials) run.last shallow) in
    let all : length run.trials * most_visits + length run.last ≤ task.trials * most_visits = few-with task seeds sets journal cut run run.last refl last in
    omega (arith, ap length run.shaped.joined, length-append (visits_of run.trials) run.last)
  where
    shallow : AllByRecursion IsShallow (visits_of run.trials ++ run.last)
    shallow = subst (AllByRecursion IsShallow) run.shaped.joined
        (each-of IsShallow journal (λ earlier visit later e. chose-shallow task.game task.gap (sets_after seeds sets earlier) (sets_after seeds sets (earlier ++ visit ∷ [])) (cut_before cut later) visit (run.right earlier visit later e)))
