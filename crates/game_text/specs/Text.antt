-- The texts of a game, spelled out from its numbers.
use Rattle.std.specs.Prelude.{ℕ, ◌*ℤ◌, ◌≤◌, ◌≡◌, List, [], ◌∷◌, ◌++◌, length, map, flat_map, ℤ, pos, codes}
use Rattle.scaled_num.specs.Sums.{below}
use Rattle.text_words.specs.Lines.{Line}
use Rattle.text_words.specs.Lines.{lines_of as plain_lines}
use Rattle.text_words.specs.Spelled.{line_of}
use Rattle.game_text.specs.Plain.{IsWordless, after_lines, completed, lines_of}
use Rattle.game_model.specs.declared.parts.Landing.{Landing}
use Rattle.game_model.specs.Game.{GameData, IsGame, IsBelief, reward_at, row_at}

abbrev pub landing_line : Landing → List ℕ
landing_line l = line_of (codes "out") (pos l.seen ∷ pos l.to ∷ l.weight ∷ [])

abbrev pub step_line : ℕ → ℕ → ℕ → ℤ → List ℕ
step_line s a c reward = line_of (codes "step") (pos s ∷ pos a ∷ pos c ∷ reward ∷ [])

-- the lines of a row
abbrev pub row_text : GameData → ℕ → ℕ → ℕ → List ℕ
row_text g s a c = step_line s a c (reward_at g s a c) ++ flat_map landing_line (row_at g s a c)

-- the rows of a state and an own action, of all informed actions in rising order
abbrev pub informed_text : GameData → ℕ → ℕ → List ℕ
informed_text g s a = flat_map (λ c. row_text g s a c) (below g.shape.informed_actions)

-- the rows of a state, of all own and informed actions, in rising order
abbrev pub state_text : GameData → ℕ → List ℕ
state_text g s = flat_map (λ a. informed_text g s a) (below g.shape.own_actions)

-- the rows of all triples (s, a, c), in rising order
abbrev pub rows_text : GameData → List ℕ
rows_text g = flat_map (λ s. state_text g s) (below g.shape.states)

-- the line of the sizes
abbrev pub size_text : GameData → List ℕ
size_text g = line_of (codes "size") (pos g.shape.states ∷ pos g.shape.own_actions ∷ pos g.shape.informed_actions ∷ pos g.shape.observations ∷ [])

-- the lines before the rows, of which the last has these numbers
abbrev pub header_text : GameData → List ℤ → List ℕ
header_text g first =
    line_of (codes "osposg") (pos 1 ∷ [])
    ++ (size_text g
    ++ (line_of (codes "total") (g.shape.row_total ∷ [])
    ++ (line_of (codes "discount") (g.shape.discount.0 ∷ g.shape.discount.1 ∷ [])
    ++ line_of (codes "first") first)))

-- the text of a game whose `first` line has these numbers
abbrev pub text_of : GameData → List ℤ → List ℕ
text_of g first = header_text g first ++ (rows_text g ++ line_of (codes "end") [])

-- the canonical text of a game: its first belief is the coprime one
abbrev pub canonical_text : GameData → List ℕ
canonical_text g = text_of g g.first

-- so many times the first belief
abbrev pub scaled : ℕ → List ℤ → List ℤ
scaled times weights = map (λ b. pos times *ℤ b) weights

-- The text has the lines of this plain text, its numbers in whatever spelling, and then comes the rest: what stands behind
-- the last of those lines.
pub record Spells (plain text rest : List ℕ) : Type 0 where
  pub after : List Line
  pub lines : lines_of text ≡ plain_lines plain ++ after
  pub ends : after_lines (length (plain_lines plain)) text ≡ rest

-- The bytes are a text of this game, whose `first` line has a multiple of its first belief that keeps the limits,
-- and then the rest.
pub record IsTextOf (g : GameData) (text rest : List ℕ) : Type 0 where
  pub game : IsGame g
  pub times : ℕ
  pub some : 1 ≤ times
  pub first : IsBelief g.shape.states (scaled times g.first)
  pub same : Spells (text_of g (scaled times g.first)) text rest

-- The whole of the bytes is a text of this game: behind its `end` line, which may lack its line end, no line has words.
abbrev pub IsWholeTextOf : GameData → List ℕ → Type 0
IsWholeTextOf g text = (rest : List ℕ) × IsTextOf g (completed text) rest × IsWordless rest
