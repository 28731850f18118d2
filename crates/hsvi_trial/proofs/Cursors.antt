-- The trials of a run so far keep to the cursor that its visits move.
use Rattle.std.proofs.Common.{◌≡◌, ℕ, suc, ◌+◌, ◌<◌, List, Option, Some, None, [], ◌∷◌, ◌++◌, true, false, length, refl, ap, sym, subst, ◌∙◌, arith, add-one}
use Rattle.std.specs.Prelude.{IsSome, map, reverse, slice_index_or}
use Rattle.std.specs.List.{AllByRecursion, range_with_len}
use Rattle.std.proofs.lemmas.Bool.{both_ways}
use Rattle.std.proofs.lemmas.List.{append-nil, append_assoc, length-reverse, reverse-append}
use Rattle.game_model.proofs.Front.{length-map}
use Rattle.game_model.specs.Game.{GameData}
use Rattle.hsvi_trial.specs.Cursors.{Back, Cursor, Down, Place, at_end, moved, start, turned}
use Rattle.hsvi_trial.specs.Next.{visits_of}
use Rattle.hsvi_trial.specs.Trials.{AreTrials, AreTrialsSoFar, BeginsAt, GoOn, IsBackIn, IsDownIn, IsEnded, IsTrial, IsTrialFront, IsWayDown, place_of}
use Rattle.hsvi_trial.specs.declared.visits.Visit.{Visit}
use Rattle.hsvi_trial.proofs.OneLists.{head-same, some-none, tail-same}

-- a visit below places of the way down
pub record IsNextDown (g : GameData) (n : ℕ) (behind : List Place) (visit : Visit) : Type 0 where
  pub trial_is : visit.trial ≡ n
  pub is_down : visit.down ≡ true
  pub deep : visit.depth ≡ length behind
  pub begins : behind ≡ [] → visit.belief ≡ g.first

-- a visit at the next place ahead
pub record IsNextBack (n : ℕ) (ahead : List Place) (visit : Visit) : Type 0 where
  pub trial_is : visit.trial ≡ n
  pub is_back : visit.down ≡ false
  pub rest : List Place
  pub place : ahead ≡ place_of visit ∷ rest

-- a visit where the cursor is
abbrev pub Fits : GameData → Cursor → Visit → Type 0
Fits g (Down n behind) visit = IsNextDown g n behind visit
Fits g (Back n ahead) visit = IsNextBack n ahead visit

-- each visit is where the cursor is after those before it
abbrev pub Walks : GameData → Cursor → List Visit → Type 0
Walks g cursor [] = Unit {0}
Walks g cursor (visit ∷ visits) = Fits g cursor visit × Walks g (moved cursor visit) visits

-- ---- lists of visits
pub end-append : (cursor : Cursor) (visits later : List Visit) → at_end cursor (visits ++ later) ≡ at_end (at_end cursor visits) later
end-append cursor [] later = refl
end-append cursor (visit ∷ visits) later = end-append (moved cursor visit) visits later

pub walks-append : (g : GameData) (cursor : Cursor) (visits later : List Visit) → Walks g cursor visits → Walks g (at_end cursor visits) later → Walks g cursor (visits ++ later)
walks-append g cursor [] later w v = v
walks-append g cursor (visit ∷ visits) later w v = (w.0, walks-append g (moved cursor visit) visits later w.1 v)

pub walks-at : (g : GameData) (cursor : Cursor) (visits : List Visit) (visit : Visit) (later : List Visit) → Walks g cursor (visits ++ visit ∷ later) → Fits g (at_end cursor visits) visit
walks-at g cursor [] visit later w = w.0
walks-at g cursor (x ∷ visits) visit later w = walks-at g (moved cursor x) visits visit later w.1

-- ---- a way down, read from its first visit on
abbrev pub AreDeepFrom : ℕ → List Visit → Type 0
AreDeepFrom depth [] = Unit {0}
AreDeepFrom depth (visit ∷ visits) = (visit.depth ≡ depth) × AreDeepFrom (suc depth) visits

abbrev pub EachGoesOn : List Visit → Type 0
EachGoesOn [] = Unit {0}
EachGoesOn (visit ∷ []) = Unit {0}
EachGoesOn (visit ∷ next ∷ later) = IsSome visit.chosen × EachGoesOn (next ∷ later)

abbrev pub LastTurns : List Visit → Type 0
LastTurns [] = ⊥
LastTurns (visit ∷ []) = visit.chosen ≡ None
LastTurns (visit ∷ next ∷ later) = LastTurns (next ∷ later)

pub deep-from : (visits : List Visit) (depth : ℕ) → map (λ (visit : Visit). visit.depth) visits ≡ range_with_len depth (length visits) → AreDeepFrom depth visits
deep-from [] depth e = tt
deep-from (visit ∷ visits) depth e = (
  head-same visit.depth depth (map (λ (visit : Visit). visit.depth) visits) (range_with_len (depth + 1) (length visits)) e,
  subst (λ (d : ℕ). AreDeepFrom d visits) (add-one depth)
      (deep-from visits (depth + 1) (tail-same visit.depth depth (map (λ (visit : Visit). visit.depth) visits) (range_with_len (depth + 1) (length visits)) e)),
)

pub each-goes_on : (visits : List Visit) → GoOn visits → EachGoesOn visits
each-goes_on [] go = tt
each-goes_on (visit ∷ []) go = tt
each-goes_on (visit ∷ next ∷ later) go =
    (go [] later visit next refl, each-goes_on (next ∷ later) (λ earlier rest x y e. go (visit ∷ earlier) rest x y (ap (λ (vs : List Visit). visit ∷ vs) e)))

pub last-turns : (visits : List Visit) → IsEnded visits → LastTurns visits
last-turns visits ended = subst LastTurns (sym ended.1.1) (at ended.0)
  where
    at : (earlier : List Visit) → LastTurns (earlier ++ ended.1.0 ∷ [])
    at [] = ended.1.2
    at (x ∷ []) = ended.1.2
    at (x ∷ y ∷ earlier) = at (y ∷ earlier)

-- the cursor after a visit that chose
pub goes-on : (n : ℕ) (places : List Place) (chosen : Option (ℕ × ℕ)) → IsSome chosen → turned n places chosen ≡ Down n places
goes-on n places None some = absurd (both_ways false refl some)
goes-on n places (Some pair) some = refl

turns : (n : ℕ) (places : List Place) (chosen : Option (ℕ × ℕ)) → chosen ≡ None → turned n places chosen ≡ Back n places
turns n places chosen none = ap (turned n places) none

pub walks-down : (g : GameData) (n : ℕ) (behind : List Place) (visits : List Visit) → AllByRecursion (IsDownIn n) visits → AreDeepFrom (length behind) visits →
    (behind ≡ [] → BeginsAt g.first visits) → EachGoesOn visits → Walks g (Down n behind) visits
walks-down g n behind [] each deep first go = tt
walks-down g n behind (visit ∷ []) each deep first go = (record { trial_is = each.0.0; is_down = each.0.1; deep = deep.0; begins = first }, tt)
walks-down g n behind (visit ∷ next ∷ later) each deep first go = (
  record { trial_is = each.0.0; is_down = each.0.1; deep = deep.0; begins = first },
  subst (λ (cursor : Cursor). Walks g cursor (next ∷ later)) (sym (goes-on n (place_of visit ∷ behind) visit.chosen go.0))
      (walks-down g n (place_of visit ∷ behind) (next ∷ later) each.1 deep.1 (λ none. absurd (some-none (place_of visit) behind none)) go.1),
)

around : (place : Place) (places behind : List Place) → reverse (place ∷ places) ++ behind ≡ reverse places ++ place ∷ behind
around place places behind = ap (λ (ps : List Place). ps ++ behind) (reverse-append (place ∷ []) places) ∙ append_assoc (reverse places) (place ∷ []) behind

end-down : (n : ℕ) (behind : List Place) (visits : List Visit) → EachGoesOn visits → LastTurns visits → at_end (Down n behind) visits ≡ Back n (reverse (map place_of visits) ++ behind)
end-down n behind [] go last = absurd last
end-down n behind (visit ∷ []) go last = turns n (place_of visit ∷ behind) visit.chosen last
end-down n behind (visit ∷ next ∷ later) go last =
    ap (λ (cursor : Cursor). at_end cursor (next ∷ later)) (goes-on n (place_of visit ∷ behind) visit.chosen go.0)
    ∙ end-down n (place_of visit ∷ behind) (next ∷ later) go.1 last
    ∙ ap (Back n) (sym (around (place_of visit) (map place_of (next ∷ later)) behind))

-- ---- a way back
pub walks-back : (g : GameData) (n : ℕ) (visits : List Visit) (ahead : List Place) → AllByRecursion (IsBackIn n) visits → Walks g (Back n (map place_of visits ++ ahead)) visits
walks-back g n [] ahead each = tt
walks-back g n (visit ∷ []) ahead each = (record { trial_is = each.0.0; is_back = each.0.1; rest = ahead; place = refl }, tt)
walks-back g n (visit ∷ next ∷ later) ahead each =
    (record { trial_is = each.0.0; is_back = each.0.1; rest = map place_of (next ∷ later) ++ ahead; place = refl }, walks-back g n (next ∷ later) ahead each.1)

end-back : (n : ℕ) (visit : Visit) (visits : List Visit) → at_end (Back n (map place_of (visit ∷ visits) ++ [])) (visit ∷ visits) ≡ Down (suc n) []
end-back n visit [] = refl
end-back n visit (next ∷ later) = end-back n next later

-- ---- trials
way-walks : (g : GameData) (n : ℕ) (visits : List Visit) → IsWayDown g n visits → Walks g (Down n []) visits
way-walks g n visits way = walks-down g n [] visits way.each (deep-from visits 0 way.depths) (λ _. way.first) (each-goes_on visits way.go_on)

pub way-ends : (g : GameData) (n : ℕ) (visits : List Visit) → IsWayDown g n visits → IsEnded visits → at_end (Down n []) visits ≡ Back n (reverse (map place_of visits))
way-ends g n visits way ended =
    end-down n [] visits (each-goes_on visits way.go_on) (last-turns visits ended) ∙ ap (Back n) (append-nil (reverse (map place_of visits)))

pub front-walks : (g : GameData) (n : ℕ) (visits : List Visit) (ahead : List Place) → IsTrialFront g n visits ahead → Walks g (Down n []) visits
front-walks g n visits ahead front = subst (Walks g (Down n [])) (sym front.both) (by-back front.back front.each_back front.mirrored front.turned)
  where
    by-back : (back : List Visit) → AllByRecursion (IsBackIn n) back → map place_of back ++ ahead ≡ reverse (map place_of front.down) → (0 < length back → IsEnded front.down) →
        Walks g (Down n []) (front.down ++ back)
    by-back [] each mirrored turned = subst (Walks g (Down n [])) (sym (append-nil front.down)) (way-walks g n front.down front.way_down)
    by-back (x ∷ back) each mirrored turned =
        walks-append g (Down n []) front.down (x ∷ back) (way-walks g n front.down front.way_down)
        (subst (λ (cursor : Cursor). Walks g cursor (x ∷ back)) (sym (way-ends g n front.down front.way_down (turned (omega arith)) ∙ ap (Back n) (sym mirrored)))
        (walks-back g n (x ∷ back) ahead each))

pub trial-ends : (g : GameData) (n : ℕ) (visits : List Visit) → IsTrial g n visits → at_end (Down n []) visits ≡ Down (suc n) []
trial-ends g n visits trial = subst (λ (vs : List Visit). at_end (Down n []) vs ≡ Down (suc n) []) (sym trial.front.both) (by-back trial.front.back trial.front.mirrored)
  where
    down : List Visit
    down = trial.front.down

    none : (visits : List Visit) → LastTurns visits → length visits ≡ 0 → ⊥
    none [] last e = last
    none (x ∷ xs) last e = omega arith

    by-back : (back : List Visit) → map place_of back ++ [] ≡ reverse (map place_of down) → at_end (Down n []) (down ++ back) ≡ Down (suc n) []
    by-back [] mirrored = absurd (none down (last-turns down trial.ended) (sym (length-map place_of down) ∙ sym (length-reverse (map place_of down)) ∙ sym (ap length mirrored)))
    by-back (x ∷ back) mirrored =
        end-append (Down n []) down (x ∷ back)
        ∙ ap (λ (cursor : Cursor). at_end cursor (x ∷ back)) (way-ends g n down trial.front.way_down trial.ended ∙ ap (Back n) (sym mirrored))
        ∙ end-back n x back

and-none : (n : ℕ) → n ≡ n + 0
and-none n = omega arith

and-one : (n k : ℕ) → suc n + k ≡ n + suc k
and-one n k = omega arith

plain : (k : ℕ) → k ≡ 0 + k
plain k = omega arith

-- whole trials from a number on
abbrev pub AreTrialsFrom : GameData → ℕ → List (List Visit) → Type 0
AreTrialsFrom g n [] = Unit {0}
AreTrialsFrom g n (trial ∷ trials) = IsTrial g n trial × AreTrialsFrom g (suc n) trials

pub trials-from : (g : GameData) (trials : List (List Visit)) (n : ℕ) → ((number : ℕ) → number < length trials → IsTrial g (n + number) (slice_index_or trials number [])) → AreTrialsFrom g n trials
trials-from g [] n each = tt
trials-from g (trial ∷ trials) n each = (
  subst (λ (m : ℕ). IsTrial g m trial) (sym (and-none n)) (each 0 (omega arith)),
  trials-from g trials (suc n) (λ number l. subst (λ (m : ℕ). IsTrial g m (slice_index_or trials number [])) (sym (and-one n number)) (each (suc number) (omega arith))),
)

pub trials-walk : (g : GameData) (n : ℕ) (trials : List (List Visit)) → AreTrialsFrom g n trials → Walks g (Down n []) (visits_of trials)
trials-walk g n [] each = tt
trials-walk g n (trial ∷ trials) each =
    walks-append g (Down n []) trial (visits_of trials) (front-walks g n trial [] each.0.front)
    (subst (λ (cursor : Cursor). Walks g cursor (visits_of trials)) (sym (trial-ends g n trial each.0)) (trials-walk g (suc n) trials each.1))

pub trials-end : (g : GameData) (n : ℕ) (trials : List (List Visit)) → AreTrialsFrom g n trials → at_end (Down n []) (visits_of trials) ≡ Down (n + length trials) []
trials-end g n [] each = ap (λ (m : ℕ). Down m []) (and-none n)
trials-end g n (trial ∷ trials) each =
    end-append (Down n []) trial (visits_of trials)
    ∙ ap (λ (cursor : Cursor). at_end cursor (visits_of trials)) (trial-ends g n trial each.0)
    ∙ trials-end g (suc n) trials each.1
    ∙ ap (λ (m : ℕ). Down m []) (and-one n (length trials))

pub so-far-from : (g : GameData) (trials : List (List Visit)) → AreTrials g trials → AreTrialsFrom g 0 trials
so-far-from g trials whole = trials-from g trials 0 (λ number l. subst (λ (m : ℕ). IsTrial g m (slice_index_or trials number [])) (plain number) (whole.each number l))

pub so-far-end : (g : GameData) (trials : List (List Visit)) → AreTrials g trials → at_end start (visits_of trials) ≡ Down (length trials) []
so-far-end g trials whole = trials-end g 0 trials (so-far-from g trials whole) ∙ ap (λ (m : ℕ). Down m []) (sym (plain (length trials)))

-- the journal of trials so far keeps to the cursor
pub so-far-walks : (g : GameData) (journal : List Visit) (trials : List (List Visit)) (last : List Visit) → AreTrialsSoFar g journal trials last → Walks g start journal
so-far-walks g journal trials last shaped =
    subst (Walks g start) (sym shaped.joined)
    (walks-append g start (visits_of trials) last (trials-walk g 0 trials (so-far-from g trials shaped.whole))
    (subst (λ (cursor : Cursor). Walks g cursor last) (sym (so-far-end g trials shaped.whole)) (front-walks g (length trials) last shaped.ahead shaped.front)))
