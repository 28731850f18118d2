-- Where a search goes on after one more visit.
use Rattle.std.proofs.Common.{◌≡◌, ℕ, ◌+◌, ◌<◌, List, None, [], ◌∷◌, ◌++◌, true, false, take, length, refl, ap, sym, subst, ◌∙◌, arith, length-append, add-one}
use Rattle.std.proofs.Math.ListN.{get_or-append}
use Rattle.std.proofs.Math.Seq.{take-length, take-suc}
use Rattle.std.proofs.lemmas.List.{append-nil, append_assoc, get_or-append-add, map-append, reverse-append}
use Rattle.std.specs.Prelude.{ℤ, IsSome, map, reverse, slice_index_or}
use Rattle.game_model.specs.Game.{GameData}
use Rattle.hsvi_trial.specs.Next.{AreBehind, GoesBack, GoesDown, IsOnWayBack, places_back, visits_of}
use Rattle.hsvi_trial.specs.Trials.{AreTrialsSoFar, IsTrial, IsTrialFront, IsWayDown, place_of}
use Rattle.hsvi_trial.specs.declared.visits.Visit.{Visit}
use Rattle.hsvi_trial.proofs.Parting.{last-same}
use Rattle.hsvi_trial.proofs.Ways.{IsNextDown, front-back, front-down, trials-more, visits-more, way-back-more, way-down-more, whole-trial}

reverse-more : {X : Type 0} (xs : List X) (x : X) → reverse (xs ++ x ∷ []) ≡ x ∷ reverse xs
reverse-more xs x = reverse-append xs (x ∷ [])

-- the place that comes next on a way back, and those that come then
pub places-next : (visits : List Visit) (k : ℕ) (d : Visit) → k < length visits → places_back (k + 1) visits ≡ place_of (slice_index_or visits k d) ∷ places_back k visits
places-next visits k d l =
    ap (λ (vs : List Visit). reverse (map place_of vs)) (ap (λ (n : ℕ). take n visits) (add-one k) ∙ take-suc visits k d l)
    ∙ ap reverse (map-append place_of (take k visits) (slice_index_or visits k d ∷ []))
    ∙ reverse-more (map place_of (take k visits)) (place_of (slice_index_or visits k d))

-- a visit that goes on as the search goes on
pub record IsDownVisit (trial first : ℕ) (journal : List Visit) (belief : List ℤ) (v : Visit) : Type 0 where
  pub trial_is : v.trial ≡ trial
  pub is_down : v.down ≡ true
  pub deep : v.depth + first ≡ length journal
  pub belief_is : v.belief ≡ belief

abbrev pub LeadsBy : (List Visit → Visit → List ℤ → Type 0) → Type 0
LeadsBy Leads = (earlier : List Visit) (last : Visit) (belief : List ℤ) → Leads earlier last belief → IsSome last.chosen

pub next-down : (g : GameData) (Leads : List Visit → Visit → List ℤ → Type 0) (journal : List Visit) (trial first : ℕ) (belief : List ℤ) (v : Visit) →
    LeadsBy Leads → (goes : GoesDown g Leads journal trial first belief) → IsDownVisit trial first journal belief v → IsNextDown g trial goes.down v
next-down g Leads journal trial first belief v by goes is = record {
  trial_is = is.trial_is;
  is_down = is.is_down;
  deep = omega (arith, ap length goes.joined, length-append (visits_of goes.trials) goes.down, goes.behind.start, is.deep);
  begins = λ none. is.belief_is ∙ goes.begins none;
  chose = λ earlier last e. by (visits_of goes.trials ++ earlier) last belief (goes.leads earlier last e);
}

pub longer : (journal : List Visit) (trials : List (List Visit)) (visits : List Visit) (v : Visit) → journal ≡ visits_of trials ++ visits → journal ++ v ∷ [] ≡ visits_of trials ++ (visits ++ v ∷ [])
longer journal trials visits v joined = ap (λ (vs : List Visit). vs ++ v ∷ []) joined ∙ append_assoc (visits_of trials) visits (v ∷ [])

-- ---- trials so far with one more visit

pub down-front : (g : GameData) (journal : List Visit) (trial first : ℕ) (trials : List (List Visit)) (down : List Visit) (v : Visit) →
    AreBehind g trial first trials → journal ≡ visits_of trials ++ down → IsWayDown g trial (down ++ v ∷ []) → AreTrialsSoFar g (journal ++ v ∷ []) trials (down ++ v ∷ [])
down-front g journal trial first trials down v behind joined way = record {
  whole = behind.whole;
  joined = longer journal trials down v joined;
  ahead = reverse (map place_of (down ++ v ∷ []));
  front = subst (λ (n : ℕ). IsTrialFront g n (down ++ v ∷ []) (reverse (map place_of (down ++ v ∷ [])))) behind.count (front-down g trial (down ++ v ∷ []) way);
}

pub back-front : (g : GameData) (journal : List Visit) (trial first : ℕ) (trials : List (List Visit)) (down back : List Visit) (ahead : List (ℕ × List ℤ)) (v : Visit) →
    AreBehind g trial first trials → journal ≡ visits_of trials ++ (down ++ back) → IsOnWayBack g trial down (back ++ v ∷ []) ahead →
    AreTrialsSoFar g (journal ++ v ∷ []) trials (down ++ (back ++ v ∷ []))
back-front g journal trial first trials down back ahead v behind joined way = record {
  whole = behind.whole;
  joined = longer journal trials (down ++ back) v joined ∙ ap (λ (vs : List Visit). visits_of trials ++ vs) (append_assoc down back (v ∷ []));
  ahead = ahead;
  front = subst (λ (n : ℕ). IsTrialFront g n (down ++ (back ++ v ∷ [])) ahead) behind.count (front-back g trial down (back ++ v ∷ []) ahead way);
}

-- ---- where the search goes on then

-- the way down goes on to where the visit leads
pub goes-on-down : (g : GameData) (Leads Then : List Visit → Visit → List ℤ → Type 0) (journal : List Visit) (trial first : ℕ) (belief next : List ℤ) (v : Visit) →
    LeadsBy Leads → GoesDown g Leads journal trial first belief → IsDownVisit trial first journal belief v → Then journal v next →
    GoesDown g Then (journal ++ v ∷ []) trial first next
goes-on-down g Leads Then journal trial first belief next v by goes is leads = record {
  trials = goes.trials;
  down = goes.down ++ v ∷ [];
  behind = goes.behind;
  joined = longer journal goes.trials goes.down v goes.joined;
  way_down = way-down-more g trial goes.down v goes.way_down (next-down g Leads journal trial first belief v by goes is);
  begins = λ e. absurd (omega (arith, ap length e, length-append goes.down (v ∷ [])));
  leads = λ earlier last e.
      let same = last-same goes.down v earlier last e in
      subst (λ (w : Visit). Then (visits_of goes.trials ++ earlier) w next) (sym same.1)
      (subst (λ (vs : List Visit). Then vs v next) (goes.joined ∙ ap (λ (vs : List Visit). visits_of goes.trials ++ vs) (sym same.0)) leads);
}

-- the way down has ended, and all of it is ahead once more
pub turns : (g : GameData) (Leads : List Visit → Visit → List ℤ → Type 0) (journal : List Visit) (trial first : ℕ) (belief : List ℤ) (v : Visit) →
    LeadsBy Leads → GoesDown g Leads journal trial first belief → IsDownVisit trial first journal belief v → v.chosen ≡ None →
    GoesBack g (journal ++ v ∷ []) trial first (v.depth + 1)
turns g Leads journal trial first belief v by goes is none = record {
  trials = goes.trials;
  down = goes.down ++ v ∷ [];
  back = [];
  behind = goes.behind;
  joined = longer journal goes.trials goes.down v goes.joined ∙ ap (λ (vs : List Visit). visits_of goes.trials ++ vs) (sym (append-nil (goes.down ++ v ∷ [])));
  way_back = record {
    way_down = way-down-more g trial goes.down v goes.way_down next;
    each_back = tt;
    mirrored = ap (λ (vs : List Visit). reverse (map place_of vs)) (subst (λ (n : ℕ). take n (goes.down ++ v ∷ []) ≡ goes.down ++ v ∷ []) long (take-length (goes.down ++ v ∷ [])));
    ended = (goes.down, (v, refl, none));
  };
  some = omega arith;
  within = omega (arith, long);
}
  where
    next : IsNextDown g trial goes.down v
    next = next-down g Leads journal trial first belief v by goes is

    long : length (goes.down ++ v ∷ []) ≡ v.depth + 1
    long = length-append goes.down (v ∷ []) ∙ ap (λ (n : ℕ). n + 1) (sym next.deep)

-- a visit that goes on back
pub record IsBackVisit (journal : List Visit) (trial first ahead : ℕ) (v : Visit) : Type 0 where
  pub trial_is : v.trial ≡ trial
  pub is_back : v.down ≡ false
  pub place_is : place_of v ≡ place_of (slice_index_or journal (first + ahead) v)

-- the trial on its way back with the visit
pub back-with : (g : GameData) (journal : List Visit) (trial first ahead : ℕ) (v : Visit) →
    (goes : GoesBack g journal trial first (ahead + 1)) → IsBackVisit journal trial first ahead v → IsOnWayBack g trial goes.down (goes.back ++ v ∷ []) (places_back ahead goes.down)
back-with g journal trial first ahead v goes is =
    way-back-more g trial goes.down goes.back (place_of (slice_index_or goes.down ahead v)) (places_back ahead goes.down) v
    (subst (IsOnWayBack g trial goes.down goes.back) (places-next goes.down ahead v inside) goes.way_back)
    (record { trial_is = is.trial_is; is_back = is.is_back; place_is = is.place_is ∙ ap place_of there })
  where
    inside : ahead < length goes.down
    inside = omega (arith, goes.within)

    there : slice_index_or journal (first + ahead) v ≡ slice_index_or goes.down ahead v
    there =
        ap (λ (vs : List Visit). slice_index_or vs (first + ahead) v) goes.joined
        ∙ ap (λ (n : ℕ). slice_index_or (visits_of goes.trials ++ (goes.down ++ goes.back)) (n + ahead) v) goes.behind.start
        ∙ get_or-append-add (visits_of goes.trials) (goes.down ++ goes.back) ahead v
        ∙ get_or-append goes.down goes.back v ahead inside

-- the way back goes on
pub goes-on-back : (g : GameData) (journal : List Visit) (trial first ahead : ℕ) (v : Visit) → GoesBack g journal trial first (ahead + 1) → IsBackVisit journal trial first ahead v →
    0 < ahead → GoesBack g (journal ++ v ∷ []) trial first ahead
goes-on-back g journal trial first ahead v goes is some = record {
  trials = goes.trials;
  down = goes.down;
  back = goes.back ++ v ∷ [];
  behind = goes.behind;
  joined = longer journal goes.trials (goes.down ++ goes.back) v goes.joined ∙ ap (λ (vs : List Visit). visits_of goes.trials ++ vs) (append_assoc goes.down goes.back (v ∷ []));
  way_back = back-with g journal trial first ahead v goes is;
  some = some;
  within = omega (arith, goes.within);
}

-- the trial is whole, and the next one begins at the first belief
pub begins-next : (g : GameData) (Then : List Visit → Visit → List ℤ → Type 0) (journal : List Visit) (trial first : ℕ) (v : Visit) →
    GoesBack g journal trial first 1 → IsBackVisit journal trial first 0 v → GoesDown g Then (journal ++ v ∷ []) (trial + 1) (length journal + 1) g.first
begins-next g Then journal trial first v goes is = record {
  trials = goes.trials ++ (goes.down ++ (goes.back ++ v ∷ [])) ∷ [];
  down = [];
  behind = record {
    whole = trials-more g goes.trials (goes.down ++ (goes.back ++ v ∷ [])) goes.behind.whole
        (subst (λ (n : ℕ). IsTrial g n (goes.down ++ (goes.back ++ v ∷ []))) goes.behind.count (whole-trial g trial goes.down (goes.back ++ v ∷ []) way));
    count = omega (arith, goes.behind.count, length-append goes.trials ((goes.down ++ (goes.back ++ v ∷ [])) ∷ []));
    start = sym (ap length joined ∙ length-append journal (v ∷ []));
  };
  joined = sym joined ∙ sym (append-nil _);
  way_down = record { each = tt; depths = refl; first = tt; go_on = λ earlier later x next e. absurd (omega (arith, ap length e, length-append earlier (x ∷ next ∷ later))) };
  begins = λ _. refl;
  leads = λ earlier last e. absurd (omega (arith, ap length e, length-append earlier (last ∷ [])));
}
  where
    way : IsOnWayBack g trial goes.down (goes.back ++ v ∷ []) []
    way = back-with g journal trial first 0 v goes is

    joined : visits_of (goes.trials ++ (goes.down ++ (goes.back ++ v ∷ [])) ∷ []) ≡ journal ++ v ∷ []
    joined = visits-more goes.trials (goes.down ++ (goes.back ++ v ∷ []))
        ∙ ap (λ (vs : List Visit). visits_of goes.trials ++ vs) (sym (append_assoc goes.down goes.back (v ∷ [])))
        ∙ sym (longer journal goes.trials (goes.down ++ goes.back) v goes.joined)

-- before any visit the first trial begins at the first belief
pub begins-first : (g : GameData) (Leads : List Visit → Visit → List ℤ → Type 0) → GoesDown g Leads [] 0 0 g.first
begins-first g Leads = record {
  trials = [];
  down = [];
  behind = record { whole = record { each = λ number l. absurd (omega arith) }; count = refl; start = refl };
  joined = refl;
  way_down = record { each = tt; depths = refl; first = tt; go_on = λ earlier later x next e. absurd (omega (arith, ap length e, length-append earlier (x ∷ next ∷ later))) };
  begins = λ _. refl;
  leads = λ earlier last e. absurd (omega (arith, ap length e, length-append earlier (last ∷ [])));
}
