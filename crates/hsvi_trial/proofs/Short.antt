-- A run so far has few visits: at most 130 in each trial, and no more trials than its budget.
use Rattle.std.proofs.Common.{◌≡◌, ◌⊎◌, ℕ, zero, suc, ◌+◌, ◌*◌, ◌<◌, ◌≤◌, List, [], ◌∷◌, ◌++◌, Bool, true, false, take, drop, length, inl, inr, refl, ap, sym, subst, ◌∙◌, arith, length-append}
use Rattle.std.proofs.Math.Bool.{false≢true}
use Rattle.std.proofs.Math.Seq.{drop-cons}
use Rattle.std.proofs.lemmas.Bool.{ltb-true}
use Rattle.std.proofs.lemmas.List.{append_assoc, append-nil, length-map, length-reverse, take-append-drop}
use Rattle.std.proofs.lemmas.List.FromFn.{get_or-range_with_len}
use Rattle.std.specs.Prelude.{ℤ, IsSome, ltb, map, not, reverse, slice_index_or, ◌&&◌}
use Rattle.scaled_num.proofs.Each.{get-map}
use Rattle.game_model.specs.Game.{GameData, numbers}
use Rattle.hsvi_trial.specs.Journal.{cut_before}
use Rattle.hsvi_trial.specs.Laws.{RunsAreShort}
use Rattle.hsvi_trial.specs.Next.{visits_of}
use Rattle.hsvi_trial.specs.RightVisit.{IsRightVisit, looks_on}
use Rattle.hsvi_trial.specs.Run.{IsRunSoFar, Task}
use Rattle.hsvi_trial.specs.Sets.{Sets, sets_after}
use Rattle.hsvi_trial.specs.Trials.{AreTrials, IsTrial, IsTrialFront, IsWayDown, place_of}
use Rattle.hsvi_trial.specs.declared.visits.Visit.{Visit}

-- ---- a visit that chose is above the greatest depth
and-last : (a b : Bool) → (a && b) ≡ true → b ≡ true
and-last true b e = e
and-last false b e = absurd (false≢true e)

looks-deep : (g : GameData) (v : Visit) (cut : Bool) → looks_on g v cut ≡ true → v.depth < 64
looks-deep g v cut e =
    ltb-true v.depth 64 (and-last (ltb 0 (numbers g).discount_over) (ltb v.depth 64) (and-last (not cut) _ (and-last v.down _ e)))

chose-deep : (task : Task) (before after : Sets) (cut : Bool) (v : Visit) → IsRightVisit task.game task.gap before after cut v → IsSome v.chosen → v.depth < 64
chose-deep task before after cut v right chose = by (looks_on task.game v cut) refl
  where
    by : (b : Bool) → looks_on task.game v cut ≡ b → v.depth < 64
    by true e = looks-deep task.game v cut e
    by false e = absurd (false≢true (subst IsSome (right.stays e) chose))

-- each visit of a list that chose is above the greatest depth
abbrev Deep : List Visit → Type 0
Deep visits = (earlier later : List Visit) (v : Visit) → visits ≡ earlier ++ v ∷ later → IsSome v.chosen → v.depth < 64

run-deep : (task : Task) (seeds sets : Sets) (journal : List Visit) (cut : Bool) → IsRunSoFar task seeds sets journal cut → Deep journal
run-deep task seeds sets journal cut run earlier later v e chose =
    chose-deep task (sets_after seeds sets earlier) (sets_after seeds sets (earlier ++ v ∷ [])) (cut_before cut later) v (run.right earlier v later e) chose

part-is : (a earlier later b : List Visit) (v : Visit) → a ++ ((earlier ++ v ∷ later) ++ b) ≡ (a ++ earlier) ++ v ∷ (later ++ b)
part-is a earlier later b v = ap (λ (vs : List Visit). a ++ vs) (append_assoc earlier (v ∷ later) b) ∙ sym (append_assoc a earlier (v ∷ (later ++ b)))

part-deep : (journal a visits b : List Visit) → journal ≡ a ++ (visits ++ b) → Deep journal → Deep visits
part-deep journal a visits b e deep earlier later v here chose =
    deep (a ++ earlier) (later ++ b) v (e ∙ ap (λ (vs : List Visit). a ++ (vs ++ b)) here ∙ part-is a earlier later b v) chose

-- ---- a way down is short
two-parted : {X : Type 0} (xs : List X) (i : ℕ) (d : X) → i + 1 < length xs → xs ≡ take i xs ++ (slice_index_or xs i d ∷ (slice_index_or xs (suc i) d ∷ drop (suc (suc i)) xs))
two-parted xs i d l =
    sym (take-append-drop i xs)
    ∙ ap (λ ys. take i xs ++ ys) (drop-cons xs i d (omega arith) ∙ ap (λ ys. slice_index_or xs i d ∷ ys) (drop-cons xs (suc i) d (omega arith)))

either : (n m : ℕ) → (n ≤ m) ⊎ (m < n)
either n m = grind arith

way-short : (g : GameData) (t : ℕ) (down : List Visit) → IsWayDown g t down → Deep down → length down ≤ 65
way-short g t [] way deep = omega arith
way-short g t (x ∷ xs) way deep = elim (either (length (x ∷ xs)) 65) [ inl l ↦ l | inr l ↦ absurd (too-deep l) ]
  where
    too-deep : 65 < length (x ∷ xs) → ⊥
    too-deep l =
        let v : Visit = slice_index_or (x ∷ xs) 64 x in
        let next : Visit = slice_index_or (x ∷ xs) 65 x in
        let parts : x ∷ xs ≡ take 64 (x ∷ xs) ++ (v ∷ (next ∷ drop 66 (x ∷ xs))) = two-parted (x ∷ xs) 64 x (omega arith) in
        let depth : v.depth ≡ 64 =
        sym (get-map (λ (w : Visit). w.depth) (x ∷ xs) 64 x 0 (omega arith))
        ∙ ap (λ (ds : List ℕ). slice_index_or ds 64 0) way.depths ∙ get_or-range_with_len 0 (length (x ∷ xs)) 64 0 (omega arith) in
        let low : v.depth < 64 = deep (take 64 (x ∷ xs)) (next ∷ drop 66 (x ∷ xs)) v parts (way.go_on (take 64 (x ∷ xs)) (drop 66 (x ∷ xs)) v next parts) in
        omega arith

front-short : (g : GameData) (t : ℕ) (visits : List Visit) (ahead : List (ℕ × List ℤ)) → IsTrialFront g t visits ahead → Deep visits → length visits ≤ 130
front-short g t visits ahead front deep =
    let down : length front.down ≤ 65 = way-short g t front.down front.way_down (part-deep visits [] front.down front.back front.both deep) in
    let mirror : length (map place_of front.back ++ ahead) ≡ length (reverse (map place_of front.down)) = ap length front.mirrored in
    omega (arith, down, ap length front.both, length-append front.down front.back, mirror, length-append (map place_of front.back) ahead, length-map front.back place_of, length-reverse (map place_of front.down), length-map front.down place_of)

-- ---- all trials
flat-split : (trials : List (List Visit)) (number : ℕ) → number < length trials → (a : List Visit) × ((b : List Visit) × (visits_of trials ≡ a ++ (slice_index_or trials number [] ++ b)))
flat-split [] number l = absurd (omega arith)
flat-split (t ∷ ts) zero l = ([], (visits_of ts, refl))
flat-split (t ∷ ts) (suc number) l =
    let rest = flat-split ts number (omega arith) in
    (t ++ rest.0, (rest.1.0, ap (λ (vs : List Visit). t ++ vs) rest.1.1 ∙ sym (append_assoc t rest.0 (slice_index_or ts number [] ++ rest.1.0))))

all-short : (trials : List (List Visit)) (m : ℕ) → ((number : ℕ) → number < length trials → length (slice_index_or trials number []) ≤ m) → length (visits_of trials) ≤ length trials * m
all-short [] m h = omega arith
all-short (t ∷ ts) m h =
    let first : length t ≤ m = h 0 (omega arith) in
    let rest : length (visits_of ts) ≤ length ts * m = all-short ts m (λ number l. h (suc number) (omega arith)) in
    omega (arith, length-append t (visits_of ts), first, rest)

-- the first visit of a trial so far
first-in : (g : GameData) (t : ℕ) (visits : List Visit) (ahead : List (ℕ × List ℤ)) → IsTrialFront g t visits ahead → 0 < length visits →
    (v : Visit) × ((rest : List Visit) × (visits ≡ v ∷ rest) × (v.depth ≡ 0) × (v.down ≡ true) × (v.trial ≡ t))
first-in g t visits ahead front some = by front.down front.back front.way_down front.both front.mirrored
  where
    by : (down back : List Visit) → IsWayDown g t down → visits ≡ down ++ back → map place_of back ++ ahead ≡ reverse (map place_of down) →
        (v : Visit) × ((rest : List Visit) × (visits ≡ v ∷ rest) × (v.depth ≡ 0) × (v.down ≡ true) × (v.trial ≡ t))
    by [] back way both mirrored =
        absurd (omega (arith, some, ap length both, ap length mirrored, length-append (map place_of back) ahead, length-map back place_of))
    by (x ∷ xs) back way both mirrored =
        (x, (xs ++ back, both, ap (λ (ds : List ℕ). slice_index_or ds 0 0) way.depths, way.each.0.1, way.each.0.0))

opened-there : (task : Task) (seeds sets : Sets) (journal : List Visit) (cut : Bool) → IsRunSoFar task seeds sets journal cut → (t : ℕ) (a visits b : List Visit) (ahead : List (ℕ × List ℤ)) →
    journal ≡ a ++ (visits ++ b) → IsTrialFront task.game t visits ahead → 0 < length visits → t < task.trials
opened-there task seeds sets journal cut run t a visits b ahead e front some =
    let first = first-in task.game t visits ahead front some in
    subst (λ (n : ℕ). n < task.trials) first.1.4
    (run.opened a first.0 (first.1.0 ++ b) (e ∙ ap (λ (vs : List Visit). a ++ (vs ++ b)) first.1.1) first.1.2 first.1.3).1

trial-some : (g : GameData) (t : ℕ) (visits : List Visit) → IsTrial g t visits → 0 < length visits
trial-some g t visits trial =
    omega (arith, ap length trial.front.both, length-append trial.front.down trial.front.back, ap length trial.ended.1.1, length-append trial.ended.0 (trial.ended.1.0 ∷ []))

-- whole trials of a run so far are no more than its budget
pub few-trials : (task : Task) (seeds sets : Sets) (journal : List Visit) (cut : Bool) → IsRunSoFar task seeds sets journal cut → (trials : List (List Visit)) (last : List Visit) →
    AreTrials task.game trials → journal ≡ visits_of trials ++ last → length trials ≤ task.trials
few-trials task seeds sets journal cut run trials last whole joined = by (length trials) refl
  where
    by : (n : ℕ) → length trials ≡ n → length trials ≤ task.trials
    by zero e = omega arith
    by (suc k) e =
        let inside : k < length trials = omega arith in
        let trial = whole.each k inside in
        let parts = flat-split trials k inside in
        let low : k < task.trials =
        opened-there task seeds sets journal cut run k parts.0 (slice_index_or trials k []) (parts.1.0 ++ last) []
        (joined ∙ ap (λ (vs : List Visit). vs ++ last) parts.1.1 ∙ append_assoc parts.0 (slice_index_or trials k [] ++ parts.1.0) last
        ∙ ap (λ (vs : List Visit). parts.0 ++ vs) (append_assoc (slice_index_or trials k []) parts.1.0 last))
        trial.front (trial-some task.game k (slice_index_or trials k []) trial) in
        omega arith

pub runs-are-short : RunsAreShort
runs-are-short task seeds sets journal cut run =
    let deep = run-deep task seeds sets journal cut run in
    let trials = run.trials in
    let last = run.last in
    let joined = run.shaped.joined in
    let whole : length (visits_of trials) ≤ length trials * 130 = all-short trials 130 (λ k l.
    let parts = flat-split trials k l in
    let here = joined ∙ ap (λ (vs : List Visit). vs ++ last) parts.1.1 ∙ append_assoc parts.0 (slice_index_or trials k [] ++ parts.1.0) last
    ∙ ap (λ (vs : List Visit). parts.0 ++ vs) (append_assoc (slice_index_or trials k []) parts.1.0 last) in
    front-short task.game k (slice_index_or trials k []) [] (run.shaped.whole.each k l).front (part-deep journal parts.0 (slice_index_or trials k []) (parts.1.0 ++ last) here deep)) in
    let end : journal ≡ visits_of trials ++ (last ++ []) = joined ∙ ap (λ (vs : List Visit). visits_of trials ++ vs) (sym (append-nil last)) in
    let more : length last ≤ 130 = front-short task.game (length trials) last run.shaped.ahead run.shaped.front (part-deep journal (visits_of trials) last [] end deep) in
    let few : length trials ≤ task.trials = few-trials task seeds sets journal cut run trials last run.shaped.whole joined in
    by (length last) (length trials) (length (visits_of trials)) (length journal) task.trials whole more few (ap length joined ∙ length-append (visits_of trials) last)
    (λ some. opened-there task seeds sets journal cut run (length trials) (visits_of trials) last [] run.shaped.ahead end run.shaped.front some)
  where
    by : (last trials flat all budget : ℕ) → flat ≤ trials * 130 → last ≤ 130 → trials ≤ budget → all ≡ flat + last → (0 < last → trials < budget) → all ≤ budget * 130
    by zero trials flat all budget a b c d e = omega arith
    by (suc n) trials flat all budget a b c d e = let l : trials < budget = e (omega arith) in omega arith
