-- What `floor` chooses, what it writes, and what that promises.
use Rattle.std.specs.Prelude.{ℕ, ◌<◌, ◌≡◌, ℤ, pos, ◌*ℤ◌, ◌≤ℤ◌, ◌<ℤ◌, List, [], ◌∷◌, ◌++◌, codes, decimal}
use Rattle.game_model.specs.Game.{GameData, first_at, numbers, span, unit}
use Rattle.game_model.specs.Seeds.{FixedActionEarns, IsSeed}
use Rattle.game_model.specs.Numbers.{product}
use Rattle.game_text.specs.Text.{IsWholeTextOf}
use Rattle.osposg_cli.specs.declared.status.Status.{Status}
use Rattle.osposg_cli.specs.declared.status.Status.TheVariants.{Done}
use Rattle.osposg_cli.specs.Inputs.{AnswersGame}
use Rattle.scaled_num.specs.Printed.{fraction_text}
use Rattle.scaled_num.specs.Sums.{sum_of}

-- the product of the first belief with the seed vector of the action a
abbrev pub IsSeedProduct : GameData → ℕ → ℤ → Type 0
IsSeedProduct g a lower = (vector : ℕ → ℤ) × IsSeed (numbers g) (span g) a vector × (product (numbers g) (first_at g) vector ≡ lower)

-- a is the first action whose seed vector has the greatest product with the first belief, and lower is that product
pub record IsFloor (g : GameData) (a : ℕ) (lower : ℤ) : Type 0 where
  pub vectors : ℕ → ℕ → ℤ
  pub seeds : (b : ℕ) → b < g.shape.own_actions → IsSeed (numbers g) (span g) b (vectors b)
  pub inside : a < g.shape.own_actions
  pub value : product (numbers g) (first_at g) (vectors a) ≡ lower
  pub greatest : (b : ℕ) → b < g.shape.own_actions → product (numbers g) (first_at g) (vectors b) ≤ℤ lower
  pub before : (b : ℕ) → b < a → product (numbers g) (first_at g) (vectors b) <ℤ lower

-- three lines: an action and two fractions
abbrev pub floor_lines : ℕ → List ℕ → List ℕ → List ℕ
floor_lines action lower tail = codes "action " ++ (decimal action ++ (codes "\nlower " ++ (lower ++ (codes "\ntail " ++ (tail ++ 10 ∷ [])))))

-- the action; its product over the first belief's total times the unit; the span over the unit
abbrev pub floor_text : GameData → ℕ → ℤ → List ℕ
floor_text g a lower = floor_lines a (fraction_text lower (sum_of g.first *ℤ pos unit)) (fraction_text (pos (span g)) (pos unit))

-- the answer to a game
abbrev pub IsBound : GameData → Status → List ℕ → Type 0
IsBound g status text = (a : ℕ) × (lower : ℤ) × IsFloor g a lower × (status ≡ Done) × (text ≡ floor_text g a lower)

-- the answer of `floor` to an input
abbrev pub AnswersFloor : List ℕ → Status → List ℕ → Type 0
AnswersFloor input status text = AnswersGame IsBound input status text

-- always playing the action earns the bound less the tail, against every plan of the informed player
abbrev pub FloorEarns : GameData → ℕ → ℤ → Type 0
FloorEarns g a lower = FixedActionEarns (numbers g) (first_at g) (span g) a lower

-- What the text of `floor` promises of the game that the input spells: it is of an own action that earns the printed bound.
abbrev pub FloorPromises : List ℕ → List ℕ → Type 0
FloorPromises input text =
    (g : GameData) → IsWholeTextOf g input → (a : ℕ) × (lower : ℤ) × (text ≡ floor_text g a lower) × (a < g.shape.own_actions) × FloorEarns g a lower

-- an answer keeps this promise
abbrev pub KeepsFloor : Type 0
KeepsFloor = (input text : List ℕ) → AnswersFloor input Done text → FloorPromises input text
