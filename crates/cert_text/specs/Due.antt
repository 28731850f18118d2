-- The forms of the lines of a certificate text, what the lines before say, and which forms are due behind them.
use Rattle.std.specs.Prelude.{◌≡◌, ◌⊎◌, ℕ, ◌+◌, ◌==◌, nat_lt, List, [], ◌∷◌, length, Some, Ok, ℤ, pos, drop, unsigned_abs, if◌then◌else◌, slice_index_or, codes, ⊤}
use Rattle.std.specs.Str.{bytes_eq}
use Rattle.scaled_num.specs.Sums.{sum_of, total}
use Rattle.text_words.specs.Lines.{Line, Word}
use Rattle.text_words.specs.Numbers.{numbers_of}
use Rattle.text_words.specs.Forms.{number_at}
use Rattle.game_model.specs.Branches.{Branch, branches_at}
use Rattle.game_model.specs.Game.{GameData}
use Rattle.controller.specs.Certificates.{Closed, Ending, FractionData, Full, Trials}
use Rattle.cert_text.specs.Text.{outcome_word}
use Rattle.cert_text.specs.Forms.{fraction_of}
use Rattle.cert_text.specs.Entries.{Entry, Version, Outcome, Gap, Lower, Upper, Tail, Sizes, Start, Multiple, From, Over, Node, Vector, Mix, Next, Point, Belief, Value, Mixes, Split, End}

-- the forms of lines; a `StateLine` is the `mix` line of a state of a point
pub data Form : Type 0 where
  VersionLine : Form
  OutcomeLine : Form
  GapLine : Form
  LowerLine : Form
  UpperLine : Form
  TailLine : Form
  SizesLine : Form
  StartLine : Form
  MultipleLine : Form
  FromLine : Form
  OverLine : Form
  FirstNodeLine : Form
  NodeLine : Form
  VectorLine : Form
  MixLine : Form
  NextLine : Form
  FirstPointLine : Form
  PointLine : Form
  BeliefLine : Form
  ValueLine : Form
  StateLine : Form
  SplitLine : Form
  EndLine : Form

-- ---- what the lines before say; lists of entries have the latest first

-- the numbers of the `sizes` line
abbrev pub nodes_in : List Entry → ℕ
nodes_in [] = 0
nodes_in (Sizes nodes points ∷ before) = nodes
nodes_in (entry ∷ before) = nodes_in before

abbrev pub points_in : List Entry → ℕ
points_in [] = 0
points_in (Sizes nodes points ∷ before) = points
points_in (entry ∷ before) = points_in before

-- the number of the first line
abbrev pub version_in : List Entry → ℕ
version_in [] = 0
version_in (Version number ∷ before) = number
version_in (entry ∷ before) = version_in before

-- the start nodes and start points of the `from` and `over` lines with their weights, the latest first
abbrev pub from_in : List Entry → List (ℕ × ℤ)
from_in [] = []
from_in (From node weight ∷ before) = (node, weight) ∷ from_in before
from_in (entry ∷ before) = from_in before

abbrev pub over_in : List Entry → List (ℕ × ℤ)
over_in [] = []
over_in (Over point weight ∷ before) = (point, weight) ∷ over_in before
over_in (entry ∷ before) = over_in before

-- the number behind that of the latest node or point
abbrev pub next_in : List Entry → ℕ
next_in [] = 0
next_in (Node number ∷ before) = number + 1
next_in (Point number ∷ before) = number + 1
next_in (entry ∷ before) = next_in before

-- the state of the latest point whose mix is due
abbrev pub state_in : List Entry → ℕ
state_in [] = 0
state_in (Value value ∷ before) = 0
state_in (Mixes state weights ∷ before) = state + 1
state_in (entry ∷ before) = state_in before

-- the total of the latest belief
abbrev pub total_in : List Entry → ℤ
total_in [] = pos 0
total_in (Belief parts ∷ before) = sum_of parts
total_in (entry ∷ before) = total_in before

-- the latest node's mix, and its steps so far
abbrev pub mix_in : List Entry → List ℤ
mix_in [] = []
mix_in (Mix weights ∷ before) = weights
mix_in (entry ∷ before) = mix_in before

abbrev pub steps_in : List Entry → List Branch
steps_in [] = []
steps_in (Mix weights ∷ before) = []
steps_in (Next branch ∷ before) = branch ∷ steps_in before
steps_in (entry ∷ before) = steps_in before

-- the sum at a pair of an own action and an observation of the latest node, and what it must reach
abbrev pub sum_at : List Entry → ℕ → ℕ → ℤ
sum_at before a o = total (λ b. b.weight) (branches_at (steps_in before) a o)

abbrev pub must_reach : List Entry → ℕ → ℤ
must_reach before a = slice_index_or (mix_in before) a (pos 0)

-- ---- which forms are due

-- after a node's `mix` or `next` line
abbrev pub after_node : List Entry → Form
after_node before = if nat_lt (next_in before) (nodes_in before) then NodeLine else FirstPointLine

-- after a point's last `mix` line or a `split` line
abbrev pub after_point : List Entry → Form
after_point before = if nat_lt (next_in before) (points_in before) then PointLine else EndLine

abbrev pub due : GameData → List Entry → List Form
due g [] = VersionLine ∷ []
due g (Version number ∷ before) = OutcomeLine ∷ []
due g (Outcome ending ∷ before) = GapLine ∷ []
due g (Gap f ∷ before) = LowerLine ∷ []
due g (Lower f ∷ before) = UpperLine ∷ []
due g (Upper f ∷ before) = TailLine ∷ []
due g (Tail f ∷ before) = SizesLine ∷ []
due g (Sizes nodes points ∷ before) = if version_in before == 1 then StartLine ∷ [] else MultipleLine ∷ []
due g (Start node point ∷ before) = FirstNodeLine ∷ []
due g (Multiple multiple ∷ before) = FromLine ∷ []
due g (From node weight ∷ before) = FromLine ∷ OverLine ∷ []
due g (Over point weight ∷ before) = OverLine ∷ FirstNodeLine ∷ []
due g (Node number ∷ before) = VectorLine ∷ []
due g (Vector entries ∷ before) = MixLine ∷ []
due g (Mix weights ∷ before) = NextLine ∷ after_node before ∷ []
due g (Next branch ∷ before) = NextLine ∷ after_node before ∷ []
due g (Point number ∷ before) = BeliefLine ∷ []
due g (Belief parts ∷ before) = ValueLine ∷ []
due g (Value value ∷ before) = StateLine ∷ []
due g (Mixes state weights ∷ before) =
    if nat_lt (state + 1) g.shape.states then StateLine ∷ [] else SplitLine ∷ after_point before ∷ []
due g (Split branch ∷ before) = SplitLine ∷ after_point before ∷ []
due g (End ∷ before) = []

-- one of these forms
abbrev pub IsOneOf : List Form → Form → Type 0
IsOneOf [] form = ⊥
IsOneOf (other ∷ forms) form = (form ≡ other) ⊎ IsOneOf forms form

-- ---- the words and numbers of a form

abbrev pub name_of : Form → Word
name_of VersionLine = codes "certificate"
name_of OutcomeLine = codes "outcome"
name_of GapLine = codes "gap"
name_of LowerLine = codes "lower"
name_of UpperLine = codes "upper"
name_of TailLine = codes "tail"
name_of SizesLine = codes "sizes"
name_of StartLine = codes "start"
name_of MultipleLine = codes "multiple"
name_of FromLine = codes "from"
name_of OverLine = codes "over"
name_of FirstNodeLine = codes "node"
name_of NodeLine = codes "node"
name_of VectorLine = codes "vector"
name_of MixLine = codes "mix"
name_of NextLine = codes "next"
name_of FirstPointLine = codes "point"
name_of PointLine = codes "point"
name_of BeliefLine = codes "belief"
name_of ValueLine = codes "value"
name_of StateLine = codes "mix"
name_of SplitLine = codes "split"
name_of EndLine = codes "end"

-- how many words follow the first one
abbrev pub words_after : GameData → Form → ℕ
words_after g SizesLine = 2
words_after g StartLine = 2
words_after g FromLine = 2
words_after g OverLine = 2
words_after g VectorLine = g.shape.states
words_after g MixLine = g.shape.own_actions
words_after g NextLine = 4
words_after g BeliefLine = g.shape.states
words_after g StateLine = g.shape.informed_actions + 1
words_after g SplitLine = 4
words_after g EndLine = 0
words_after g form = 1

-- the word of an `outcome` line is one of three
abbrev pub AreWords : Form → Line → Type 0
AreWords OutcomeLine words = (ending : Ending) × (words ≡ outcome_word ending ∷ [])
AreWords form words = ⊤

-- the line is of this form, with these words behind the first one
abbrev pub IsOf : GameData → Form → Line → Line → Type 0
IsOf g form line words = (line ≡ name_of form ∷ words) × (length words ≡ words_after g form) × AreWords form words

-- a word says a fraction of these two numbers
abbrev pub IsFraction : Line → List ℤ → Type 0
IsFraction words ns = (word : Word) × (f : FractionData) × (words ≡ word ∷ []) × (fraction_of word ≡ Ok f) × (ns ≡ f.num ∷ f.den ∷ [])

-- the words say these numbers
abbrev pub SayNumbers : Form → Line → List ℤ → Type 0
SayNumbers VersionLine words ns = ns ≡ []
SayNumbers OutcomeLine words ns = ns ≡ []
SayNumbers GapLine words ns = IsFraction words ns
SayNumbers LowerLine words ns = IsFraction words ns
SayNumbers UpperLine words ns = IsFraction words ns
SayNumbers TailLine words ns = IsFraction words ns
SayNumbers form words ns = numbers_of words ≡ Some ns

-- ---- what a line says

abbrev pub ending_in : Line → Ending
ending_in [] = Closed
ending_in (word ∷ words) =
    if bytes_eq word (outcome_word Closed) then Closed else if bytes_eq word (outcome_word Trials) then Trials else Full

abbrev pub version_of : Line → ℕ
version_of [] = 0
version_of (word ∷ words) = if bytes_eq word (codes "1") then 1 else 2

abbrev pub fraction_in : List ℤ → FractionData
fraction_in ns = record { num = number_at ns 0; den = number_at ns 1 }

abbrev pub branch_in : List ℤ → Branch
branch_in ns = record {
  own = unsigned_abs (number_at ns 0);
  seen = unsigned_abs (number_at ns 1);
  member = unsigned_abs (number_at ns 2);
  weight = number_at ns 3;
}

-- what a line of this form with these words and numbers says
abbrev pub entry_in : Form → Line → List ℤ → Entry
entry_in VersionLine words ns = Version (version_of words)
entry_in OutcomeLine words ns = Outcome (ending_in words)
entry_in GapLine words ns = Gap (fraction_in ns)
entry_in LowerLine words ns = Lower (fraction_in ns)
entry_in UpperLine words ns = Upper (fraction_in ns)
entry_in TailLine words ns = Tail (fraction_in ns)
entry_in SizesLine words ns = Sizes (unsigned_abs (number_at ns 0)) (unsigned_abs (number_at ns 1))
entry_in StartLine words ns = Start (unsigned_abs (number_at ns 0)) (unsigned_abs (number_at ns 1))
entry_in MultipleLine words ns = Multiple (number_at ns 0)
entry_in FromLine words ns = From (unsigned_abs (number_at ns 0)) (number_at ns 1)
entry_in OverLine words ns = Over (unsigned_abs (number_at ns 0)) (number_at ns 1)
entry_in FirstNodeLine words ns = Node (unsigned_abs (number_at ns 0))
entry_in NodeLine words ns = Node (unsigned_abs (number_at ns 0))
entry_in VectorLine words ns = Vector ns
entry_in MixLine words ns = Mix ns
entry_in NextLine words ns = Next (branch_in ns)
entry_in FirstPointLine words ns = Point (unsigned_abs (number_at ns 0))
entry_in PointLine words ns = Point (unsigned_abs (number_at ns 0))
entry_in BeliefLine words ns = Belief ns
entry_in ValueLine words ns = Value (number_at ns 0)
entry_in StateLine words ns = Mixes (unsigned_abs (number_at ns 0)) (drop 1 ns)
entry_in SplitLine words ns = Split (branch_in ns)
entry_in EndLine words ns = End
