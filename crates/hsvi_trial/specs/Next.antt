-- Where a search goes on: down at a belief, or back by the beliefs of the way down.
use Rattle.std.specs.Prelude.{ℕ, ℤ, List, [], ◌∷◌, ◌++◌, flat_map, length, map, reverse, take, ◌≡◌, ◌<◌, ◌≤◌}
use Rattle.std.specs.List.{AllByRecursion}
use Rattle.game_model.specs.Game.{GameData}
use Rattle.hsvi_trial.specs.Trials.{AreTrials, IsBackIn, IsEnded, IsWayDown, place_of}
use Rattle.hsvi_trial.specs.declared.visits.Visit.{Visit}

-- the visits of trials in order
abbrev pub visits_of : List (List Visit) → List Visit
visits_of trials = flat_map (λ trial. trial) trials

-- whole trials: how many they are, and how many visits they have
pub record AreBehind (g : GameData) (trial first : ℕ) (trials : List (List Visit)) : Type 0 where
  pub whole : AreTrials g trials
  pub count : trial ≡ length trials
  pub start : first ≡ length (visits_of trials)

-- A way down goes on at a belief: at the first belief where it has no visit yet, and else where its last visit leads.
-- `Leads earlier last belief` says that the visit `last`, which comes after the visits `earlier`, leads to a belief.
pub record GoesDown (g : GameData) (Leads : List Visit → Visit → List ℤ → Type 0) (journal : List Visit) (trial first : ℕ) (belief : List ℤ) : Type 0 where
  pub trials : List (List Visit)
  pub down : List Visit
  pub behind : AreBehind g trial first trials
  pub joined : journal ≡ visits_of trials ++ down
  pub way_down : IsWayDown g trial down
  pub begins : down ≡ [] → belief ≡ g.first
  pub leads : (earlier : List Visit) (last : Visit) → down ≡ earlier ++ last ∷ [] → Leads (visits_of trials ++ earlier) last belief

-- depths and beliefs of the first so many visits, in reverse
abbrev pub places_back : ℕ → List Visit → List (ℕ × List ℤ)
places_back count visits = reverse (map place_of (take count visits))

-- a trial on its way back: its way down has ended, and of the depths and beliefs in reverse these are ahead
pub record IsOnWayBack (g : GameData) (trial : ℕ) (down back : List Visit) (ahead : List (ℕ × List ℤ)) : Type 0 where
  pub way_down : IsWayDown g trial down
  pub each_back : AllByRecursion (IsBackIn trial) back
  pub mirrored : map place_of back ++ ahead ≡ reverse (map place_of down)
  pub ended : IsEnded down

-- a way back goes on: so many visits of it are ahead
pub record GoesBack (g : GameData) (journal : List Visit) (trial first ahead : ℕ) : Type 0 where
  pub trials : List (List Visit)
  pub down : List Visit
  pub back : List Visit
  pub behind : AreBehind g trial first trials
  pub joined : journal ≡ visits_of trials ++ (down ++ back)
  pub way_back : IsOnWayBack g trial down back (places_back ahead down)
  pub some : 0 < ahead
  pub within : ahead ≤ length down
