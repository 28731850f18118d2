-- What each line of a game text must keep, and which kinds of fault apply to a line behind those before it.
use Rattle.std.specs.Prelude.{◌≡◌, ◌≢◌, ◌⊎◌, ℕ, ◌<◌, max, List, [], ◌∷◌, ℤ, pos, neg_ℤ, ◌+ℤ◌, ◌*ℤ◌, ◌≤ℤ◌, ◌<ℤ◌, unsigned_abs, codes, ⊤}
use Rattle.game_model.specs.Limits.{most_actions, most_belief, most_discount, most_observations, most_reward, most_row_total, most_states, most_width}
use Rattle.std.specs.List.{AllByRecursion}
use Rattle.scaled_num.specs.Sums.{sum_of}
use Rattle.text_words.specs.Lines.{Line}
use Rattle.text_words.specs.Forms.{number_at}
use Rattle.game_model.specs.declared.parts.Landing.{Landing}
use Rattle.game_model.specs.Game.{IsWithin}
use Rattle.game_text.specs.declared.fault.Kind.{Kind}
use Rattle.game_text.specs.declared.fault.Kind.TheVariants as kinds
use Rattle.game_text.specs.Fault.{number_of_kind}
use Rattle.game_text.specs.Forms.{state_at, own_at, informed_at}
use Rattle.game_text.specs.Entries.{Entry, Out, shape_in, begun_in, sum_in}
use Rattle.game_text.specs.Due.{Form, SizeLine, TotalLine, DiscountLine, FirstLine, StepLine, OutLine, EndLine, due, IsOneOf, IsOf, SayNumbers, landing_in, entry_in}

-- a number from 0 below a limit
abbrev pub IsBelow : ℕ → ℤ → Type 0
IsBelow limit n = (pos 0 ≤ℤ n) × (n <ℤ pos limit)

pub record AreSizes (ns : List ℤ) : Type 0 where
  pub states : IsWithin (pos 1) (pos most_states) (number_at ns 0)
  pub own_actions : IsWithin (pos 1) (pos most_actions) (number_at ns 1)
  pub informed_actions : IsWithin (pos 1) (pos most_actions) (number_at ns 2)
  pub observations : IsWithin (pos 1) (pos most_observations) (number_at ns 3)

pub record AreStep (before : List Entry) (ns : List ℤ) : Type 0 where
  pub state : IsBelow (shape_in before).states (number_at ns 0)
  pub own : IsBelow (shape_in before).own_actions (number_at ns 1)
  pub informed : IsBelow (shape_in before).informed_actions (number_at ns 2)
  pub reward : IsWithin (neg_ℤ (pos most_reward)) (pos most_reward) (number_at ns 3)

-- the triple is the next one, in rising order
pub record IsNextTriple (before : List Entry) (ns : List ℤ) : Type 0 where
  pub state : unsigned_abs (number_at ns 0) ≡ state_at (shape_in before) (begun_in before)
  pub own : unsigned_abs (number_at ns 1) ≡ own_at (shape_in before) (begun_in before)
  pub informed : unsigned_abs (number_at ns 2) ≡ informed_at (shape_in before) (begun_in before)

pub record AreOut (before : List Entry) (ns : List ℤ) : Type 0 where
  pub seen : IsBelow (shape_in before).observations (number_at ns 0)
  pub to : IsBelow (shape_in before).states (number_at ns 1)
  pub weight : IsWithin (pos 1) (shape_in before).row_total (number_at ns 2)

-- greater than the pair of an `out` line just before
abbrev pub IsLater : List Entry → Landing → Type 0
IsLater (Out landing ∷ before) l = (landing.seen < l.seen) ⊎ ((landing.seen ≡ l.seen) × (landing.to < l.to))
IsLater _ l = ⊤

-- the row that was begun last has the row total
abbrev pub IsRowFull : List Entry → Type 0
IsRowFull before = (begun_in before ≡ 0) ⊎ (sum_in before ≡ (shape_in before).row_total)

-- the width rule: D * Q * Q * max(1, |r|) <= 2^72
abbrev pub IsNarrow : List Entry → ℤ → Type 0
IsNarrow before reward =
    ((shape_in before).row_total *ℤ (shape_in before).discount.1 *ℤ (shape_in before).discount.1 *ℤ pos (max 1 (unsigned_abs reward))) ≤ℤ pos most_width

-- What the numbers of a line of this form must keep: where they do not, this kind applies.
abbrev pub Rule : List Entry → Form → Kind → List ℤ → Type 0
Rule before SizeLine kinds.Range ns = AreSizes ns
Rule before TotalLine kinds.Range ns = IsWithin (pos 1) (pos most_row_total) (number_at ns 0)
Rule before DiscountLine kinds.Range ns =
    (pos 0 ≤ℤ number_at ns 0) × (number_at ns 0 <ℤ number_at ns 1) × (number_at ns 1 ≤ℤ pos most_discount)
Rule before FirstLine kinds.Range ns = AllByRecursion (IsWithin (pos 0) (pos most_belief)) ns
Rule before FirstLine kinds.Belief ns = IsWithin (pos 1) (pos most_belief) (sum_of ns)
Rule before StepLine kinds.Range ns = AreStep before ns
Rule before StepLine kinds.Order ns = IsNextTriple before ns
Rule before StepLine kinds.Total ns = IsRowFull before
Rule before StepLine kinds.Wide ns = IsNarrow before (number_at ns 3)
Rule before OutLine kinds.Range ns = AreOut before ns
Rule before OutLine kinds.Order ns = IsLater before (landing_in ns)
Rule before OutLine kinds.Total ns = (sum_in before +ℤ number_at ns 2) ≤ℤ (shape_in before).row_total
Rule before EndLine kinds.Total ns = IsRowFull before
Rule before form kind ns = ⊤

-- a line of a due form, behind these entries, with these words
abbrev pub IsDueLine : List Entry → Line → Form → Line → Type 0
IsDueLine before line form words = IsOneOf (due before) form × IsOf before form line words

-- The kind applies to the line behind these entries.
abbrev pub Applies : List Entry → Line → Kind → Type 0
Applies before line kinds.Version = (before ≡ []) × (line ≢ codes "osposg" ∷ codes "1" ∷ [])
Applies before line kinds.Shape = (before ≢ []) × ((form : Form) (words : Line) → IsDueLine before line form words → ⊥)
Applies before line kinds.Number =
    (form : Form) × (words : Line) × IsDueLine before line form words × ((ns : List ℤ) → SayNumbers form words ns → ⊥)
Applies before line kind =
    (form : Form) × (words : Line) × (ns : List ℤ) × IsDueLine before line form words × SayNumbers form words ns × (Rule before form kind ns → ⊥)

-- The line behind these entries says this entry.
abbrev pub Says : List Entry → Line → Entry → Type 0
Says before line entry =
    (form : Form) × (words : Line) × (ns : List ℤ) × IsDueLine before line form words × SayNumbers form words ns × (entry ≡ entry_in form ns)

-- no kind applies to the line, and it says this entry
abbrev pub IsPassed : List Entry → Line → Entry → Type 0
IsPassed before line entry = Says before line entry × ((kind : Kind) → Applies before line kind → ⊥)

-- the kind applies to the line, and none of a lesser number does
abbrev pub IsLeast : List Entry → Line → Kind → Type 0
IsLeast before line kind =
    Applies before line kind × ((lesser : Kind) → number_of_kind lesser < number_of_kind kind → Applies before line lesser → ⊥)
