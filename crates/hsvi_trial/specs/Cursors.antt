-- Where a journal goes on: a cursor that its visits move.
use Rattle.std.specs.Prelude.{ℕ, suc, ℤ, List, [], ◌∷◌, Option, Some, None}
use Rattle.hsvi_trial.specs.Trials.{place_of}
use Rattle.hsvi_trial.specs.declared.visits.Visit.{Visit}

abbrev pub Place : Type 0
Place = ℕ × List ℤ

-- a trial goes down below these places, the last one first; or goes back over those ahead
pub data Cursor : Type 0 where
  Down : (trial : ℕ) (behind : List Place) → Cursor
  Back : (trial : ℕ) (ahead : List Place) → Cursor

-- after a visit on the way down, by what it chose
abbrev pub turned : ℕ → List Place → Option (ℕ × ℕ) → Cursor
turned n places None = Back n places
turned n places (Some pair) = Down n places

-- after a visit on the way back, by what is ahead of it
abbrev pub gone_back : ℕ → List Place → Cursor
gone_back n [] = Down n []
gone_back n (here ∷ []) = Down (suc n) []
gone_back n (here ∷ there ∷ ahead) = Back n (there ∷ ahead)

abbrev pub moved : Cursor → Visit → Cursor
moved (Down n behind) visit = turned n (place_of visit ∷ behind) visit.chosen
moved (Back n ahead) visit = gone_back n ahead

-- the cursor after visits
abbrev pub at_end : Cursor → List Visit → Cursor
at_end cursor [] = cursor
at_end cursor (visit ∷ visits) = at_end (moved cursor visit) visits

-- the cursor of a search before any visit
abbrev pub start : Cursor
start = Down 0 []

-- the same place one trial later
abbrev pub raised : Cursor → Cursor
raised (Down n behind) = Down (suc n) behind
raised (Back n ahead) = Back (suc n) ahead
