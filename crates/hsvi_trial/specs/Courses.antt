-- Where a search goes on, as the program keeps it.
use Rattle.std.specs.Prelude.{ℕ, ℤ, true, false, List, Option, Some, None, cond, length, slice_index_or, ◌==◌, ◌+◌, ◌-◌, ◌≡◌, ◌<◌, ◌≤◌}
use Rattle.game_model.specs.Game.{GameData}
use Rattle.hsvi_trial.specs.Next.{GoesBack, GoesDown}
use Rattle.hsvi_trial.specs.RightVisit.{IsNextBelief}
use Rattle.hsvi_trial.specs.Sets.{Sets, sets_after}
use Rattle.hsvi_trial.specs.declared.courses.Course.{Course}
use Rattle.hsvi_trial.specs.declared.courses.Next.{Next}
use Rattle.hsvi_trial.specs.declared.courses.Next.TheVariants.{Back, Down}
use Rattle.hsvi_trial.specs.declared.courses.Place.{Place}
use Rattle.hsvi_trial.specs.declared.visits.Visit.{Visit}

-- a visit after earlier ones leads to a belief, where the sets hold the seeds and what visits kept
abbrev pub LeadsIn : GameData → Sets → Sets → List Visit → Visit → List ℤ → Type 0
LeadsIn g seeds sets earlier last belief = IsNextBelief g (sets_after seeds sets earlier) last belief

-- after a journal a search goes on so
abbrev pub GoesOn : GameData → Sets → Sets → List Visit → ℕ → ℕ → Next → Type 0
GoesOn g seeds sets journal trial first (Down belief) = GoesDown g (LeadsIn g seeds sets) journal trial first belief
GoesOn g seeds sets journal trial first (Back ahead) = GoesBack g journal trial first ahead

-- the next visit begins a trial, after so many visits
abbrev pub BeginsTrial : ℕ → ℕ → Next → Type 0
BeginsTrial count first (Down belief) = first ≡ count
BeginsTrial count first (Back ahead) = ⊥

-- after so many visits there is a place for the next one
abbrev pub HasPlace : ℕ → ℕ → Next → Type 0
HasPlace count first (Down belief) = first ≤ count
HasPlace count first (Back ahead) = (0 < ahead) × (first + ahead ≤ count)

-- a place is that of a visit of a journal, on the way back
pub record IsPlaceOf (journal : List Visit) (i : ℕ) (place : Place) : Type 0 where
  pub back : place.down ≡ false
  pub visit : Visit
  pub there : slice_index_or journal i visit ≡ visit
  pub depth : place.depth ≡ visit.depth
  pub belief : place.belief ≡ visit.belief

-- the place of the next visit down
pub record IsPlaceDown (journal : List Visit) (first : ℕ) (belief : List ℤ) (place : Place) : Type 0 where
  pub down : place.down ≡ true
  pub deep : place.depth + first ≡ length journal
  pub belief_is : place.belief ≡ belief

abbrev pub IsPlace : List Visit → ℕ → Next → Place → Type 0
IsPlace journal first (Down belief) place = IsPlaceDown journal first belief place
IsPlace journal first (Back ahead) place = IsPlaceOf journal (first + ahead - 1) place

-- the course after a visit at a depth, which the journal has so many visits with
abbrev pub next_after : GameData → Course → Next → ℕ → ℕ → Option (List ℤ) → Course
next_after g course (Down belief) depth count (Some next) = record { trial = course.trial; first = course.first; next = Down next }
next_after g course (Down belief) depth count None = record { trial = course.trial; first = course.first; next = Back (depth + 1) }
next_after g course (Back ahead) depth count next =
    cond (ahead == 1)
    (record { trial = course.trial + 1; first = count; next = Down g.first })
    (record { trial = course.trial; first = course.first; next = Back (ahead - 1) })

abbrev pub course_after : GameData → Course → ℕ → ℕ → Option (List ℤ) → Course
course_after g course depth count next = next_after g course course.next depth count next
