-- Flags of members, and the members that are marked so far.
use Rattle.std.specs.Prelude.{ℕ, ℤ, Bool, false, IsTrue, List, count_by, length, map, not, slice_index_or, ◌+◌, ◌++◌, ◌<◌, ◌≡◌, ◌↔◌, ◌⊎◌}
use Rattle.std.specs.List.{AllByRecursion}
use Rattle.scaled_num.specs.Sums.{below}
use Rattle.alpha_set.specs.Nodes.{NodeData}
use Rattle.controller.specs.Export.{AreKept, IsAtCornerOrStart, IsAtStart, new_number, nodes_kept, points_kept, renumbered_starts, shares_of, steps_of}
use Rattle.game_model.specs.Branches.{Branch}
use Rattle.controller.specs.declared.found.Found.{Found}
use Rattle.point_set.specs.Points.{PointData}

-- the flag of a member
abbrev pub flag_at : List Bool → ℕ → Bool
flag_at flags j = slice_index_or flags j false

-- a list has the number j at some place
pub record IsListed (numbers : List ℕ) (j : ℕ) : Type 0 where
  pub place : ℕ
  pub inside : place < length numbers
  pub is : slice_index_or numbers place 0 ≡ j

-- numbers of members: just the marked ones are listed, each once, so that all others would still fit
pub record AreFound (flags : List Bool) (numbers : List ℕ) : Type 0 where
  pub marked : AllByRecursion (λ j. IsTrue (flag_at flags j)) numbers
  pub listed : (j : ℕ) → j < length flags → IsTrue (flag_at flags j) → IsListed numbers j
  pub few : length numbers + count_by not flags ≡ length flags

-- a list goes on behind another
pub record GoesOn (before after : List ℕ) : Type 0 where
  pub more : List ℕ
  pub is : after ≡ before ++ more

-- of as many flags, just those are marked that were, and those of further members
pub record MarksAlso (before after : List Bool) (IsMarked : ℕ → Type 0) : Type 0 where
  pub long : length after ≡ length before
  pub marked : (j : ℕ) → j < length before → IsTrue (flag_at after j) ↔ (IsTrue (flag_at before j) ⊎ IsMarked j)

-- what is marked further, and where it is listed
pub record ListsAlso (before : List Bool) (known : List ℕ) (after : List Bool) (later : List ℕ)
    (IsMarked : ℕ → Type 0) : Type 0 where
  pub found : AreFound after later
  pub goes_on : GoesOn known later
  pub marks : MarksAlso before after IsMarked

-- what is found is marked and listed; what is found further
abbrev pub IsFound : Found → Type 0
IsFound found = AreFound found.flags.items found.numbers.items

abbrev pub FindsAlso : Found → Found → (ℕ → Type 0) → Type 0
FindsAlso before after = ListsAlso before.flags.items before.numbers.items after.flags.items after.numbers.items

-- the members of starts
abbrev pub starts_of : List (ℕ × ℤ) → List ℕ
starts_of starts = map (λ start. start.0) starts

-- the members that branches name
abbrev pub members_of : List Branch → List ℕ
members_of branches = map (λ b. b.member) branches

-- each branch of each member of so many names a member
abbrev pub NameMembers : ℕ → (ℕ → List Branch) → Type 0
NameMembers count branches = (i : ℕ) → i < count → AllByRecursion (λ b. b.member < count) (branches i)

-- the new number of each member, by these flags
abbrev pub new_numbers : List Bool → List ℕ
new_numbers flags = map (new_number (flag_at flags)) (below (length flags))

-- just these nodes are reached from starts by steps, and just these points from corners and starts by shares
abbrev pub AreReachedNodes : List NodeData → List (ℕ × ℤ) → (ℕ → Bool) → Type 0
AreReachedNodes nodes starts kept = AreKept (steps_of nodes) (IsAtStart starts) (length nodes) kept

abbrev pub AreReachedPoints : ℕ → List PointData → List (ℕ × ℤ) → (ℕ → Bool) → Type 0
AreReachedPoints states points starts kept = AreKept (shares_of points) (IsAtCornerOrStart states starts) (length points) kept

-- the reached nodes, and the starts, under new numbers
pub record AreExportedNodes (nodes : List NodeData) (starts : List (ℕ × ℤ)) (new : List NodeData)
    (new_starts : List (ℕ × ℤ)) : Type 0 where
  pub kept : ℕ → Bool
  pub reached : AreReachedNodes nodes starts kept
  pub members : new ≡ nodes_kept kept nodes
  pub starts_too : new_starts ≡ renumbered_starts kept starts

-- the reached points, and the starts, under new numbers
pub record AreExportedPoints (states : ℕ) (points : List PointData) (starts : List (ℕ × ℤ)) (new : List PointData)
    (new_starts : List (ℕ × ℤ)) : Type 0 where
  pub kept : ℕ → Bool
  pub reached : AreReachedPoints states points starts kept
  pub members : new ≡ points_kept kept points
  pub starts_too : new_starts ≡ renumbered_starts kept starts
