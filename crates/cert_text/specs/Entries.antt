-- What a line says behind those before it, and how far the reading is then.
use Rattle.std.specs.Prelude.{ℕ, ◌+◌, ◌*◌, ◌/◌, ◌^◌, nat_lt, List, [], ◌∷◌, map, replicate, take, drop, Result, Ok, Err, ℤ, pos, neg_ℤ, ◌-ℤ◌, ◌*ℤ◌, if◌then◌else◌, slice_index_or, slice_set, codes, ◌==◌, ◌+ℤ◌, true, false, unsigned_abs}
use Rattle.game_model.specs.Limits.{most_belief}
use Rattle.scaled_num.specs.Sums.{below, sum_of}
use Rattle.text_words.specs.Lines.{Line}
use Rattle.text_words.specs.Forms.{◌>>=◌, number_at, begins, limited, below_limit, each_within}
use Rattle.game_model.specs.Branches.{Branch, mix_total}
use Rattle.game_model.specs.Game.{GameData, span}
use Rattle.point_set.specs.Points.{most_share}
use Rattle.controller.specs.Starts.{most_from, most_over}
use Rattle.controller.specs.Certificates.{Ending, FractionData, most_gap, most_gap_under}
use Rattle.cert_text.specs.declared.fault.CertKind.{CertKind}
use Rattle.cert_text.specs.declared.fault.CertKind.TheVariants as kinds
use Rattle.cert_text.specs.declared.progress.Latest.{Latest}
use Rattle.cert_text.specs.declared.progress.Latest.TheVariants as latest
use Rattle.cert_text.specs.declared.progress.Limits.{Limits}
use Rattle.cert_text.specs.declared.progress.Progress.{Progress}
use Rattle.cert_text.specs.declared.progress.Starts.{Starts}
use Rattle.cert_text.specs.declared.progress.Weights.{Weights}
use Rattle.cert_text.specs.Forms.{version_line, numbers_after, word_after, outcome_of, fraction_of, at_least, is_due, member_below, few, later_branch, above_from, above_over, within_sum, coprime, whole_starts, divisor_within, sums_to_mix, belief_total, none_lacks, fits_lack}

-- what a line says
pub data Entry : Type 0 where
  Version : (number : ℕ) → Entry
  Outcome : (ending : Ending) → Entry
  Gap : (f : FractionData) → Entry
  Lower : (f : FractionData) → Entry
  Upper : (f : FractionData) → Entry
  Tail : (f : FractionData) → Entry
  Sizes : (nodes points : ℕ) → Entry
  Start : (node point : ℕ) → Entry
  Multiple : (multiple : ℤ) → Entry
  From : (node : ℕ) (weight : ℤ) → Entry
  Over : (point : ℕ) (weight : ℤ) → Entry
  Node : (number : ℕ) → Entry
  Vector : (entries : List ℤ) → Entry
  Mix : (weights : List ℤ) → Entry
  Next : (branch : Branch) → Entry
  Point : (number : ℕ) → Entry
  Belief : (parts : List ℤ) → Entry
  Value : (value : ℤ) → Entry
  Mixes : (state : ℕ) (weights : List ℤ) → Entry
  Split : (branch : Branch) → Entry
  End : Entry

-- ---- the lines before the nodes

unfoldable pub version_said : Line → Result Entry CertKind
version_said line = do
  number ← version_line line
  Ok (Version number)

unfoldable pub outcome_said : Line → Result Entry CertKind
outcome_said line = do
  word ← word_after (codes "outcome") line
  ending ← outcome_of word
  Ok (Outcome ending)

-- a gap: its numerator is 0 to 2^40, and its denominator 1 to 2^20
unfoldable pub gap_said : Line → Result Entry CertKind
gap_said line = do
  word ← word_after (codes "gap") line
  f ← fraction_of word
  num ← limited kinds.Range (pos 0) (pos most_gap) f.num
  den ← limited kinds.Range (pos 1) (pos most_gap_under) f.den
  Ok (Gap (record { num = num; den = den }))

-- a bound has a positive denominator
unfoldable pub bound_said : List ℕ → Line → Result FractionData CertKind
bound_said name line = do
  word ← word_after name line
  f ← fraction_of word
  den ← at_least (pos 1) f.den
  Ok (record { num = f.num; den = den })

unfoldable pub lower_said : Line → Result Entry CertKind
lower_said line = do
  f ← bound_said (codes "lower") line
  Ok (Lower f)

unfoldable pub upper_said : Line → Result Entry CertKind
upper_said line = do
  f ← bound_said (codes "upper") line
  Ok (Upper f)

unfoldable pub tail_said : Line → Result Entry CertKind
tail_said line = do
  f ← bound_said (codes "tail") line
  Ok (Tail f)

-- at least one node, a point for each state, and at most 1,024 of each
unfoldable pub sizes_said : ℕ → Line → Result Entry CertKind
sizes_said states line = do
  ns ← numbers_after (codes "sizes") 2 line
  n ← at_least (pos 1) (number_at ns 0)
  p ← at_least (pos states) (number_at ns 1)
  nodes ← few n
  points ← few p
  Ok (Sizes nodes points)

unfoldable pub start_said : ℕ → ℕ → Line → Result Entry CertKind
start_said nodes points line = do
  ns ← numbers_after (codes "start") 2 line
  i ← at_least (pos 0) (number_at ns 0)
  j ← at_least (pos 0) (number_at ns 1)
  node ← member_below nodes i
  point ← member_below points j
  Ok (Start node point)

-- ---- the lines of a node

unfoldable pub multiple_said : Line → Result Entry CertKind
multiple_said line = do
  ns ← numbers_after (codes "multiple") 1 line
  multiple ← limited kinds.Range (pos 1) (pos most_from) (number_at ns 0)
  Ok (Multiple multiple)

-- a start node and its weight
unfoldable pub from_said : Progress → Line → Result Entry CertKind
from_said progress line = do
  ns ← numbers_after (codes "from") 2 line
  number ← at_least (pos 0) (number_at ns 0)
  weight ← limited kinds.Range (pos 1) (pos most_from) (number_at ns 1)
  _ ← above_from progress.latest number
  node ← member_below progress.nodes number
  _ ← within_sum progress.starts.sum weight
  Ok (From node weight)

-- a start point and its weight, behind all start nodes
unfoldable pub over_said : Progress → Line → Result Entry CertKind
over_said progress line = do
  ns ← numbers_after (codes "over") 2 line
  number ← at_least (pos 0) (number_at ns 0)
  weight ← limited kinds.Range (pos 1) (pos most_over) (number_at ns 1)
  _ ← above_over progress.latest number
  point ← member_below progress.points number
  _ ← coprime progress.starts.nodes
  Ok (Over point weight)

-- the first node, behind all start points
unfoldable pub first_said : Starts → Line → Result Entry CertKind
first_said starts line = do
  ns ← numbers_after (codes "node") 1 line
  _ ← is_due 0 (number_at ns 0)
  _ ← whole_starts starts
  Ok (Node 0)

-- the node of this number, where no pair of the node before lacks anything
unfoldable pub node_said : ℕ → List ℤ → Line → Result Entry CertKind
node_said number lacking line = do
  ns ← numbers_after (codes "node") 1 line
  _ ← is_due number (number_at ns 0)
  _ ← none_lacks lacking
  Ok (Node number)

unfoldable pub vector_said : Limits → Line → Result Entry CertKind
vector_said limits line = do
  ns ← numbers_after (codes "vector") limits.states line
  _ ← each_within kinds.Range (neg_ℤ limits.span) limits.span ns
  Ok (Vector ns)

unfoldable pub mix_said : Limits → Line → Result Entry CertKind
mix_said limits line = do
  ns ← numbers_after (codes "mix") limits.own_actions line
  _ ← each_within kinds.Range (pos 0) (pos mix_total) ns
  _ ← sums_to_mix ns
  Ok (Mix ns)

-- a branch to one of so many members, with a weight of 1 to the most
unfoldable pub branch_said : List ℕ → ℤ → ℕ → Progress → Line → Result Branch CertKind
branch_said name most members progress line = do
  ns ← numbers_after name 4 line
  own ← below_limit kinds.Range progress.limits.own_actions (number_at ns 0)
  seen ← below_limit kinds.Range progress.limits.observations (number_at ns 1)
  k ← at_least (pos 0) (number_at ns 2)
  weight ← limited kinds.Range (pos 1) most (number_at ns 3)
  _ ← later_branch progress.latest own seen k
  member ← member_below members k
  Ok (record { own = own; seen = seen; member = member; weight = weight })

-- the index of a branch's pair, in rising order
abbrev pub pair_at : Limits → Branch → ℕ
pair_at limits b = b.own * limits.observations + b.seen

-- a step: no earlier pair lacks anything, and its own lacks its weight
unfoldable pub next_said : Progress → Line → Result Entry CertKind
next_said progress line = do
  b ← branch_said (codes "next") (pos mix_total) progress.nodes progress line
  _ ← none_lacks (take (pair_at progress.limits b) progress.lacking)
  _ ← fits_lack (slice_index_or progress.lacking (pair_at progress.limits b) (pos 0)) b.weight
  Ok (Next b)

-- ---- the lines of a point

-- the point of this number; before the first one no pair of the last node lacks anything
unfoldable pub point_said : ℕ → List ℤ → Line → Result Entry CertKind
point_said number lacking line = do
  ns ← numbers_after (codes "point") 1 line
  _ ← is_due number (number_at ns 0)
  _ ← none_lacks lacking
  Ok (Point number)

unfoldable pub belief_said : Limits → Line → Result Entry CertKind
belief_said limits line = do
  ns ← numbers_after (codes "belief") limits.states line
  _ ← each_within kinds.Range (pos 0) (pos most_belief) ns
  _ ← belief_total ns
  Ok (Belief ns)

-- a value within the span times the belief's total
unfoldable pub value_within : ℤ → ℤ → ℤ → Result ℤ CertKind
value_within span total value = limited kinds.Range (neg_ℤ (span *ℤ total)) (span *ℤ total) value

unfoldable pub value_said : Limits → ℤ → Line → Result Entry CertKind
value_said limits total line = do
  ns ← numbers_after (codes "value") 1 line
  value ← value_within limits.span total (number_at ns 0)
  Ok (Value value)

-- the mix of the state that is due
unfoldable pub mixes_said : Limits → ℕ → Line → Result Entry CertKind
mixes_said limits state line = do
  ns ← numbers_after (codes "mix") (limits.informed_actions + 1) line
  _ ← each_within kinds.Range (pos 0) (pos mix_total) (drop 1 ns)
  _ ← is_due state (number_at ns 0)
  _ ← sums_to_mix (drop 1 ns)
  Ok (Mixes state (drop 1 ns))

unfoldable pub split_said : Progress → Line → Result Entry CertKind
split_said progress line = do
  b ← branch_said (codes "split") most_share progress.points progress line
  Ok (Split b)

unfoldable pub end_said : Line → Result Entry CertKind
end_said line = do
  _ ← numbers_after (codes "end") 0 line
  Ok End

-- ---- every line

-- after the `sizes` line: the one line of starts of version 1, or the first one of version 2
unfoldable pub in_sizes : Progress → Line → Result Entry CertKind
in_sizes progress line =
    if progress.starts.version == 1 then start_said progress.nodes progress.points line else multiple_said line

-- after a `from` line: another one, or the first `over` line
unfoldable pub in_from : Progress → Line → Result Entry CertKind
in_from progress line = if begins (codes "from") line then from_said progress line else over_said progress line

-- after an `over` line: another one, or the first node
unfoldable pub in_over : Progress → Line → Result Entry CertKind
in_over progress line = if begins (codes "over") line then over_said progress line else first_said progress.starts line

-- after a node's `mix` or `next` line: a `next` line, the next node, or the first point
unfoldable pub in_node : Progress → Line → Result Entry CertKind
in_node progress line =
    if begins (codes "next") line then next_said progress line
    else if nat_lt progress.begun progress.nodes then node_said progress.begun progress.lacking line
    else point_said 0 progress.lacking line

-- after a point's last `mix` line or a `split` line: a `split` line, the next point, or `end`
unfoldable pub in_point : Progress → Line → Result Entry CertKind
in_point progress line =
    if begins (codes "split") line then split_said progress line
    else if nat_lt progress.begun progress.points then point_said progress.begun [] line
    else end_said line

-- after the `mix` line of a state of a point
unfoldable pub in_mixes : Progress → Line → Result Entry CertKind
in_mixes progress line =
    if nat_lt progress.state progress.limits.states then mixes_said progress.limits progress.state line else in_point progress line

-- what a line says behind this line
unfoldable pub entry_after : Progress → Latest → Line → Result Entry CertKind
entry_after progress latest.Nothing line = version_said line
entry_after progress latest.Version line = outcome_said line
entry_after progress latest.Outcome line = gap_said line
entry_after progress latest.Gap line = lower_said line
entry_after progress latest.Lower line = upper_said line
entry_after progress latest.Upper line = tail_said line
entry_after progress latest.Tail line = sizes_said progress.limits.states line
entry_after progress latest.Sizes line = in_sizes progress line
entry_after progress latest.Start line = node_said 0 [] line
entry_after progress latest.Multiple line = from_said progress line
entry_after progress (latest.From node) line = in_from progress line
entry_after progress (latest.Over point) line = in_over progress line
entry_after progress latest.Node line = vector_said progress.limits line
entry_after progress latest.Vector line = mix_said progress.limits line
entry_after progress latest.Mix line = in_node progress line
entry_after progress (latest.Next a o k) line = in_node progress line
entry_after progress latest.Point line = belief_said progress.limits line
entry_after progress latest.Belief line = value_said progress.limits progress.total line
entry_after progress latest.Value line = mixes_said progress.limits 0 line
entry_after progress latest.Mixes line = in_mixes progress line
entry_after progress (latest.Split a o k) line = in_point progress line
entry_after progress latest.End line = Err kinds.Trailing

-- what a line says where the reading is this far
abbrev pub entry_of : Progress → Line → Result Entry CertKind
entry_of progress line = entry_after progress progress.latest line

-- ---- how far the reading is behind a line

-- the most pairs of an own action and an observation
abbrev pub most_pairs : ℕ
most_pairs = 48

-- what each pair lacks behind a node's `mix` line: the weight of its own action
unfoldable pub lacking_of : ℕ → List ℤ → List ℤ
lacking_of observations weights = map (λ i. slice_index_or weights (i / observations) (pos 0)) (below most_pairs)

-- what each pair lacks behind a `next` line
abbrev pub lacking_less : List ℤ → ℕ → ℤ → List ℤ
lacking_less lacking i weight = slice_set lacking i (slice_index_or lacking i (pos 0) -ℤ weight)

-- the line that says this
abbrev pub latest_of : Entry → Latest
latest_of (Version number) = latest.Version
latest_of (Outcome ending) = latest.Outcome
latest_of (Gap f) = latest.Gap
latest_of (Lower f) = latest.Lower
latest_of (Upper f) = latest.Upper
latest_of (Tail f) = latest.Tail
latest_of (Sizes nodes points) = latest.Sizes
latest_of (Start node point) = latest.Start
latest_of (Multiple multiple) = latest.Multiple
latest_of (From node weight) = latest.From node
latest_of (Over point weight) = latest.Over point
latest_of (Node number) = latest.Node
latest_of (Vector entries) = latest.Vector
latest_of (Mix weights) = latest.Mix
latest_of (Next b) = latest.Next b.own b.seen b.member
latest_of (Point number) = latest.Point
latest_of (Belief parts) = latest.Belief
latest_of (Value value) = latest.Value
latest_of (Mixes state weights) = latest.Mixes
latest_of (Split b) = latest.Split b.own b.seen b.member
latest_of End = latest.End

-- before the first of some weights, and behind one more
abbrev pub no_weights : Weights
no_weights = record { some = false; many = false; divisor = 0 }

abbrev pub with_weight : ℤ → Weights → Weights
with_weight weight w = record {
  some = true;
  many = w.some;
  divisor = divisor_within w.divisor (unsigned_abs weight) w.divisor;
}

-- behind the lines that say the version and the starts
abbrev pub with_version : ℕ → Starts → Starts
with_version number s = record s { version = number }

abbrev pub with_from : ℤ → Starts → Starts
with_from weight s = record s { sum = weight +ℤ s.sum; nodes = with_weight weight s.nodes }

abbrev pub with_over : ℤ → Starts → Starts
with_over weight s = record s { points = with_weight weight s.points }

-- behind a line that says this
abbrev pub progress_after : Progress → Entry → Progress
progress_after progress (Version number) = record progress { latest = latest.Version; starts = with_version number progress.starts }
progress_after progress (Outcome ending) = record progress { latest = latest.Outcome }
progress_after progress (Gap f) = record progress { latest = latest.Gap }
progress_after progress (Lower f) = record progress { latest = latest.Lower }
progress_after progress (Upper f) = record progress { latest = latest.Upper }
progress_after progress (Tail f) = record progress { latest = latest.Tail }
progress_after progress (Sizes nodes points) = record progress { latest = latest.Sizes; nodes = nodes; points = points }
progress_after progress (Start node point) = record progress { latest = latest.Start }
progress_after progress (Multiple multiple) = record progress { latest = latest.Multiple }
progress_after progress (From node weight) = record progress { latest = latest.From node; starts = with_from weight progress.starts }
progress_after progress (Over point weight) = record progress { latest = latest.Over point; starts = with_over weight progress.starts }
progress_after progress (Node number) = record progress { latest = latest.Node; begun = number + 1 }
progress_after progress (Vector entries) = record progress { latest = latest.Vector }
progress_after progress (Mix weights) = record progress { latest = latest.Mix; lacking = lacking_of progress.limits.observations weights }
progress_after progress (Next b) =
    record progress { latest = latest.Next b.own b.seen b.member; lacking = lacking_less progress.lacking (pair_at progress.limits b) b.weight }
progress_after progress (Point number) = record progress { latest = latest.Point; begun = number + 1; state = 0 }
progress_after progress (Belief parts) = record progress { latest = latest.Belief; total = sum_of parts }
progress_after progress (Value value) = record progress { latest = latest.Value }
progress_after progress (Mixes state weights) = record progress { latest = latest.Mixes; state = state + 1 }
progress_after progress (Split b) = record progress { latest = latest.Split b.own b.seen b.member }
progress_after progress End = record progress { latest = latest.End }

-- behind these entries
abbrev pub behind : Progress → List Entry → Progress
behind progress [] = progress
behind progress (entry ∷ entries) = behind (progress_after progress entry) entries

abbrev pub limits_of : GameData → Limits
limits_of g = record {
  states = g.shape.states;
  own_actions = g.shape.own_actions;
  informed_actions = g.shape.informed_actions;
  observations = g.shape.observations;
  span = pos (span g);
}

abbrev pub no_starts : Starts
no_starts = record { version = 0; sum = pos 0; nodes = no_weights; points = no_weights }

-- before the first line
abbrev pub start_of : GameData → Progress
start_of g = record {
  limits = limits_of g;
  latest = latest.Nothing;
  nodes = 0;
  points = 0;
  starts = no_starts;
  begun = 0;
  state = 0;
  lacking = replicate most_pairs (pos 0);
  total = pos 0;
}
