-- Visits that repeat: while nothing is kept, a visit is that of a trial back with its trial's number raised.
use Rattle.std.specs.Prelude.{ℕ, ℤ, List, Option, Some, None, ◌∷◌, [], ◌++◌, length, slice_index_or, ◌+◌, ◌-◌, ◌≡◌, ◌<◌, ◌≤◌}
use Rattle.game_model.specs.Game.{GameData}
use Rattle.hsvi_trial.specs.Copies.{renumbered}
use Rattle.hsvi_trial.specs.Courses.{course_after}
use Rattle.hsvi_trial.specs.Cursors.{at_end, raised, start}
use Rattle.hsvi_trial.specs.Sets.{kept_nodes, kept_points}
use Rattle.hsvi_trial.specs.Trials.{BeginsAt}
use Rattle.hsvi_trial.specs.declared.courses.Course.{Course}
use Rattle.hsvi_trial.specs.declared.courses.Next.TheVariants.{Down}
use Rattle.hsvi_trial.specs.declared.visits.Visit.{Visit}

-- a visit that kept nothing
pub record KeptNothing (visit : Visit) : Type 0 where
  pub node : visit.node ≡ None
  pub point : visit.point ≡ None

-- The last so many visits of a journal kept nothing, and a search goes on after them as it did before them, one trial
-- later: where it is below the first belief, at the belief of the first of them.
pub record IsRepeat (journal : List Visit) (course : Course) (back : ℕ) : Type 0 where
  pub some : 2 ≤ back
  pub earlier : List Visit
  pub last : List Visit
  pub parts : journal ≡ earlier ++ last
  pub long : length last ≡ back
  pub no_node : kept_nodes last ≡ 0
  pub no_point : kept_points last ≡ 0
  pub later : at_end start journal ≡ raised (at_end start earlier)
  pub there : (belief : List ℤ) → course.next ≡ Down belief → course.first < length journal → BeginsAt belief last

-- so many visits back the next one stands already; or it is to be made, where they are none
abbrev pub Repeats : List Visit → Course → ℕ → Type 0
Repeats journal course back = 0 < back → IsRepeat journal course back

-- where a visit that chose goes on, by the belief of the visit after it
abbrev pub goes_to : Option (ℕ × ℕ) → List ℤ → Option (List ℤ)
goes_to None belief = None
goes_to (Some pair) belief = Some belief

-- a journal and a course with the visit so many visits back once more
pub record IsCopied (g : GameData) (journal : List Visit) (course : Course) (back : ℕ) (longer : List Visit) (after : Course) : Type 0 where
  pub visit : Visit
  pub next : Visit
  pub there : slice_index_or journal (length journal - back) visit ≡ visit
  pub next_there : slice_index_or journal (length journal - back + 1) next ≡ next
  pub longer_is : longer ≡ journal ++ renumbered course.trial visit ∷ []
  pub after_is : after ≡ course_after g course visit.depth (length journal + 1) (goes_to visit.chosen next.belief)
