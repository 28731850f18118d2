-- The stages of a certificate in the making: how far the reading is, the certificate so far, its text so far, and what is known.
use Rattle.std.proofs.Common.{◌≡◌, ℕ, zero, suc, ◌+◌, ◌*◌, ◌<◌, ◌≤◌, List, [], ◌∷◌, ◌++◌, reverse, length, ℤ, pos}
use Rattle.std.specs.Prelude.{flat_map, replicate, ◌-ℤ◌, ◌≤ℤ◌, slice_index_or, codes}
use Rattle.std.specs.List.{AllByRecursion}
use Rattle.scaled_num.specs.Sums.{below, sum_of, total}
use Rattle.text_words.specs.Lines.{line_text}
use Rattle.game_model.specs.Branches.{Branch, IsBranch, mix_total}
use Rattle.game_model.specs.Game.{GameData, IsWithin, numbers}
use Rattle.alpha_set.specs.Nodes.{NodeData, NodeFits, no_node}
use Rattle.belief.specs.Mixes.{MixesData, mix_at}
use Rattle.point_set.specs.Points.{PointData, PointFits, most_share, no_point}
use Rattle.controller.specs.Certificates.{CertificateData, CertificateFits, Ending, FractionData, IsShort}
use Rattle.cert_text.specs.declared.progress.Latest.{Latest}
use Rattle.cert_text.specs.declared.progress.Latest.TheVariants as latest
use Rattle.cert_text.specs.declared.progress.Progress.{Progress}
use Rattle.cert_text.specs.declared.progress.Starts.{Starts}
use Rattle.cert_text.specs.Rules.{AreCoprimeStarts}
use Rattle.controller.specs.Starts.{StartsFit, most_from, most_over, weights_sum}
use Rattle.cert_text.proofs.LawWords.{version_word_of}
use Rattle.cert_text.proofs.StartWeights.{Start, StartsSoFar, starts_of}
use Rattle.cert_text.specs.Text.{start_line, starts_text, version_word, fraction_line, outcome_word, node_text, mix_text, point_text}
use Rattle.text_words.specs.Spelled.{line_of}
use Rattle.cert_text.specs.Entries.{limits_of, start_of}
use Rattle.cert_text.specs.Made.{blank, new_point}
use Rattle.cert_text.proofs.LawSaid.{GapFits, SizesFit, VectorFits, MixFits, BeliefFits, ValueFits}
use Rattle.cert_text.proofs.LawLists.{member_texts, Falls, weight_at}

-- what the lines before the nodes say
pub record Head : Type 0 where
  pub outcome : Ending
  pub gap : FractionData
  pub lower : FractionData
  pub upper : FractionData
  pub tail : FractionData
  pub nodes : ℕ
  pub points : ℕ
  pub version : ℕ
  pub from : List Start
  pub over : List Start
  pub multiple : ℤ
  pub started : Starts

-- The starts, the steps of a node, and the shares of a point have the latest first.
pub data Stage : Type 0 where
  AtNothing : Stage
  AtVersion : (v : ℕ) → Stage
  AtOutcome : (v : ℕ) (o : Ending) → Stage
  AtGap : (v : ℕ) (o : Ending) (gap : FractionData) → Stage
  AtLower : (v : ℕ) (o : Ending) (gap lower : FractionData) → Stage
  AtUpper : (v : ℕ) (o : Ending) (gap lower upper : FractionData) → Stage
  AtTail : (v : ℕ) (o : Ending) (gap lower upper tail : FractionData) → Stage
  AtSizes : (v : ℕ) (o : Ending) (gap lower upper tail : FractionData) (nodes points : ℕ) → Stage
  AtFrom : (h : Head) (back : List Start) → Stage
  AtOver : (h : Head) (front back : List Start) → Stage
  AtStart : (h : Head) → Stage
  AtNode : (h : Head) (ns : List NodeData) (lacking : List ℤ) → Stage
  AtVector : (h : Head) (ns : List NodeData) (v lacking : List ℤ) → Stage
  AtSteps : (h : Head) (ns : List NodeData) (v m : List ℤ) (back : List Branch) (lacking : List ℤ) → Stage
  AtPoint : (h : Head) (ns : List NodeData) (ps : List PointData) (lacking : List ℤ) (sum : ℤ) → Stage
  AtBelief : (h : Head) (ns : List NodeData) (ps : List PointData) (b lacking : List ℤ) → Stage
  AtMixes : (h : Head) (ns : List NodeData) (ps : List PointData) (b : List ℤ) (v : ℤ) (s : ℕ) (w lacking : List ℤ) → Stage
  AtSplits : (h : Head) (ns : List NodeData) (ps : List PointData) (b : List ℤ) (v : ℤ) (w : List ℤ) (back : List Branch) (s : ℕ) (lacking : List ℤ) → Stage
  AtEnd : (h : Head) (ns : List NodeData) (ps : List PointData) (s : ℕ) (lacking : List ℤ) (sum : ℤ) → Stage

-- ---- how far the reading is

abbrev pub progress_with : GameData → Starts → ℕ → ℕ → ℕ → Latest → ℕ → List ℤ → ℤ → Progress
progress_with g starts nodes points begun now state lacking sum = record {
  limits = limits_of g;
  latest = now;
  nodes = nodes;
  points = points;
  starts = starts;
  begun = begun;
  state = state;
  lacking = lacking;
  total = sum;
}

abbrev pub zeros : List ℤ
zeros = replicate 48 (pos 0)

abbrev pub latest_step : List Branch → Latest
latest_step [] = latest.Mix
latest_step (b ∷ back) = latest.Next b.own b.seen b.member

-- the number of the version, and no start yet
abbrev pub fresh : ℕ → Starts
fresh v = starts_of v [] []

abbrev pub latest_from : List Start → Latest
latest_from [] = latest.Multiple
latest_from (s ∷ back) = latest.From s.0

abbrev pub latest_over : List Start → Latest
latest_over [] = latest.Multiple
latest_over (s ∷ back) = latest.Over s.0

-- the head with its starts
abbrev pub with_starts : Head → List Start → List Start → Head
with_starts h front back = record h { from = reverse front; over = reverse back; started = starts_of h.version front back }

abbrev pub latest_mix : ℕ → Latest
latest_mix zero = latest.Value
latest_mix (suc s) = latest.Mixes

abbrev pub latest_share : List Branch → Latest
latest_share [] = latest.Mixes
latest_share (b ∷ back) = latest.Split b.own b.seen b.member

abbrev pub progress_of : GameData → Stage → Progress
progress_of g AtNothing = start_of g
progress_of g (AtVersion v) = progress_with g (fresh v) 0 0 0 latest.Version 0 zeros (pos 0)
progress_of g (AtOutcome v o) = progress_with g (fresh v) 0 0 0 latest.Outcome 0 zeros (pos 0)
progress_of g (AtGap v o gap) = progress_with g (fresh v) 0 0 0 latest.Gap 0 zeros (pos 0)
progress_of g (AtLower v o gap lower) = progress_with g (fresh v) 0 0 0 latest.Lower 0 zeros (pos 0)
progress_of g (AtUpper v o gap lower upper) = progress_with g (fresh v) 0 0 0 latest.Upper 0 zeros (pos 0)
progress_of g (AtTail v o gap lower upper tail) = progress_with g (fresh v) 0 0 0 latest.Tail 0 zeros (pos 0)
progress_of g (AtSizes v o gap lower upper tail nodes points) = progress_with g (fresh v) nodes points 0 latest.Sizes 0 zeros (pos 0)
progress_of g (AtFrom h back) = progress_with g (starts_of h.version back []) h.nodes h.points 0 (latest_from back) 0 zeros (pos 0)
progress_of g (AtOver h front back) = progress_with g (starts_of h.version front back) h.nodes h.points 0 (latest_over back) 0 zeros (pos 0)
progress_of g (AtStart h) = progress_with g h.started h.nodes h.points 0 latest.Start 0 zeros (pos 0)
progress_of g (AtNode h ns lacking) = progress_with g h.started h.nodes h.points (length ns + 1) latest.Node 0 lacking (pos 0)
progress_of g (AtVector h ns v lacking) = progress_with g h.started h.nodes h.points (length ns + 1) latest.Vector 0 lacking (pos 0)
progress_of g (AtSteps h ns v m back lacking) = progress_with g h.started h.nodes h.points (length ns + 1) (latest_step back) 0 lacking (pos 0)
progress_of g (AtPoint h ns ps lacking sum) = progress_with g h.started h.nodes h.points (length ps + 1) latest.Point 0 lacking sum
progress_of g (AtBelief h ns ps b lacking) = progress_with g h.started h.nodes h.points (length ps + 1) latest.Belief 0 lacking (sum_of b)
progress_of g (AtMixes h ns ps b v s w lacking) = progress_with g h.started h.nodes h.points (length ps + 1) (latest_mix s) s lacking (sum_of b)
progress_of g (AtSplits h ns ps b v w back s lacking) = progress_with g h.started h.nodes h.points (length ps + 1) (latest_share back) s lacking (sum_of b)
progress_of g (AtEnd h ns ps s lacking sum) = progress_with g h.started h.nodes h.points (length ps) latest.End s lacking sum

-- ---- the certificate

abbrev pub made_head : Head → List NodeData → List PointData → CertificateData
made_head h ns ps = record {
  lower = h.lower;
  upper = h.upper;
  tail = h.tail;
  gap = h.gap;
  outcome = h.outcome;
  nodes = ns;
  points = ps;
  start_nodes = h.from;
  start_points = h.over;
  multiple = h.multiple;
}

abbrev pub node_from : List ℤ → List ℤ → List Branch → NodeData
node_from v m back = record { vector = v; mix = m; next = reverse back }

abbrev pub mixes_from : GameData → List ℤ → MixesData
mixes_from g w = record { states = g.shape.states; actions = g.shape.informed_actions; weights = w }

abbrev pub point_from : GameData → List ℤ → ℤ → List ℤ → List Branch → PointData
point_from g b v w back = record { belief = b; value = v; mixes = mixes_from g w; splits = reverse back }

abbrev pub made_of : GameData → Stage → CertificateData
made_of g AtNothing = blank
made_of g (AtVersion v) = blank
made_of g (AtOutcome v o) = record blank { outcome = o }
made_of g (AtGap v o gap) = record blank { outcome = o; gap = gap }
made_of g (AtLower v o gap lower) = record blank { outcome = o; gap = gap; lower = lower }
made_of g (AtUpper v o gap lower upper) = record blank { outcome = o; gap = gap; lower = lower; upper = upper }
made_of g (AtTail v o gap lower upper tail) = record blank { outcome = o; gap = gap; lower = lower; upper = upper; tail = tail }
made_of g (AtSizes v o gap lower upper tail nodes points) = record blank { outcome = o; gap = gap; lower = lower; upper = upper; tail = tail }
made_of g (AtFrom h back) = made_head (with_starts h back []) [] []
made_of g (AtOver h front back) = made_head (with_starts h front back) [] []
made_of g (AtStart h) = made_head h [] []
made_of g (AtNode h ns lacking) = made_head h (ns ++ no_node ∷ []) []
made_of g (AtVector h ns v lacking) = made_head h (ns ++ record no_node { vector = v } ∷ []) []
made_of g (AtSteps h ns v m back lacking) = made_head h (ns ++ node_from v m back ∷ []) []
made_of g (AtPoint h ns ps lacking sum) = made_head h ns (ps ++ new_point (limits_of g) ∷ [])
made_of g (AtBelief h ns ps b lacking) = made_head h ns (ps ++ record (new_point (limits_of g)) { belief = b } ∷ [])
made_of g (AtMixes h ns ps b v s w lacking) = made_head h ns (ps ++ point_from g b v w [] ∷ [])
made_of g (AtSplits h ns ps b v w back s lacking) = made_head h ns (ps ++ point_from g b v w back ∷ [])
made_of g (AtEnd h ns ps s lacking sum) = made_head h ns ps

-- ---- the text

abbrev pub version_bytes : List ℕ → List ℕ
version_bytes word = line_text (codes "certificate" ∷ word ∷ [])

abbrev pub outcome_bytes : Ending → List ℕ
outcome_bytes o = line_text (codes "outcome" ∷ outcome_word o ∷ [])

abbrev pub sizes_bytes : ℕ → ℕ → List ℕ
sizes_bytes nodes points = line_of (codes "sizes") (pos nodes ∷ pos points ∷ [])

abbrev pub start_bytes : ℕ → ℕ → List ℕ
start_bytes node point = line_of (codes "start") (pos node ∷ pos point ∷ [])

abbrev pub multiple_bytes : ℤ → List ℕ
multiple_bytes multiple = line_of (codes "multiple") (multiple ∷ [])

abbrev pub from_bytes : List Start → List ℕ
from_bytes back = flat_map (start_line (codes "from")) (reverse back)

abbrev pub over_bytes : List Start → List ℕ
over_bytes back = flat_map (start_line (codes "over")) (reverse back)

-- the lines up to the sizes, and these bytes
abbrev pub front_bytes : List ℕ → Head → List ℕ → List ℕ
front_bytes word h rest =
    version_bytes word
    ++ (outcome_bytes h.outcome
    ++ (fraction_line (codes "gap") h.gap
    ++ (fraction_line (codes "lower") h.lower
    ++ (fraction_line (codes "upper") h.upper
    ++ (fraction_line (codes "tail") h.tail
    ++ (sizes_bytes h.nodes h.points
    ++ rest))))))

abbrev pub head_bytes : Head → List ℕ
head_bytes h = front_bytes (version_word h.from h.over) h (starts_text h.from h.over h.multiple)

abbrev pub nodes_bytes : List NodeData → List ℕ
nodes_bytes ns = member_texts node_text no_node ns

abbrev pub points_bytes : List PointData → List ℕ
points_bytes ps = member_texts point_text no_point ps

abbrev pub node_line : ℕ → List ℕ
node_line i = line_of (codes "node") (pos i ∷ [])

abbrev pub vector_line : List ℤ → List ℕ
vector_line v = line_of (codes "vector") v

abbrev pub point_line : ℕ → List ℕ
point_line j = line_of (codes "point") (pos j ∷ [])

abbrev pub belief_line : List ℤ → List ℕ
belief_line b = line_of (codes "belief") b

abbrev pub value_line : ℤ → List ℕ
value_line v = line_of (codes "value") (v ∷ [])

-- the lines of the mixes of the first states
abbrev pub mixes_bytes : GameData → List ℤ → ℕ → List ℕ
mixes_bytes g w s = flat_map (mix_text (mixes_from g w)) (below s)

abbrev pub text_of : GameData → Stage → List ℕ
text_of g AtNothing = []
text_of g (AtVersion v) = version_bytes (version_word_of v)
text_of g (AtOutcome v o) = version_bytes (version_word_of v) ++ outcome_bytes o
text_of g (AtGap v o gap) = version_bytes (version_word_of v) ++ (outcome_bytes o ++ fraction_line (codes "gap") gap)
text_of g (AtLower v o gap lower) = version_bytes (version_word_of v) ++ (outcome_bytes o ++ (fraction_line (codes "gap") gap ++ fraction_line (codes "lower") lower))
text_of g (AtUpper v o gap lower upper) =
    version_bytes (version_word_of v) ++ (outcome_bytes o ++ (fraction_line (codes "gap") gap ++ (fraction_line (codes "lower") lower ++ fraction_line (codes "upper") upper)))
text_of g (AtTail v o gap lower upper tail) =
    version_bytes (version_word_of v) ++ (outcome_bytes o ++ (fraction_line (codes "gap") gap ++ (fraction_line (codes "lower") lower ++ (fraction_line (codes "upper") upper
    ++ fraction_line (codes "tail") tail))))
text_of g (AtSizes v o gap lower upper tail nodes points) =
    version_bytes (version_word_of v) ++ (outcome_bytes o ++ (fraction_line (codes "gap") gap ++ (fraction_line (codes "lower") lower ++ (fraction_line (codes "upper") upper
    ++ (fraction_line (codes "tail") tail ++ sizes_bytes nodes points)))))
text_of g (AtFrom h back) = front_bytes (codes "2") h (multiple_bytes h.multiple ++ from_bytes back)
text_of g (AtOver h front back) = front_bytes (codes "2") h (multiple_bytes h.multiple ++ (from_bytes front ++ over_bytes back))
text_of g (AtStart h) = head_bytes h
text_of g (AtNode h ns lacking) = head_bytes h ++ (nodes_bytes ns ++ node_line (length ns))
text_of g (AtVector h ns v lacking) = head_bytes h ++ (nodes_bytes ns ++ (node_line (length ns) ++ vector_line v))
text_of g (AtSteps h ns v m back lacking) = head_bytes h ++ (nodes_bytes ns ++ node_text (length ns) (node_from v m back))
text_of g (AtPoint h ns ps lacking sum) = head_bytes h ++ (nodes_bytes ns ++ (points_bytes ps ++ point_line (length ps)))
text_of g (AtBelief h ns ps b lacking) = head_bytes h ++ (nodes_bytes ns ++ (points_bytes ps ++ (point_line (length ps) ++ belief_line b)))
text_of g (AtMixes h ns ps b v s w lacking) =
    head_bytes h ++ (nodes_bytes ns ++ (points_bytes ps ++ (point_line (length ps) ++ (belief_line b ++ (value_line v ++ mixes_bytes g w s)))))
text_of g (AtSplits h ns ps b v w back s lacking) = head_bytes h ++ (nodes_bytes ns ++ (points_bytes ps ++ point_text (length ps) (point_from g b v w back)))
text_of g (AtEnd h ns ps s lacking sum) = head_bytes h ++ (nodes_bytes ns ++ (points_bytes ps ++ line_of (codes "end") []))

-- ---- what is known

abbrev pub BoundsFit : FractionData → FractionData → FractionData → Type 0
BoundsFit lower upper tail = IsShort lower × IsShort upper × IsShort tail

pub record HeadFits (g : GameData) (h : Head) : Type 0 where
  pub gap : GapFits h.gap
  pub bounds : BoundsFit h.lower h.upper h.tail
  pub sizes : SizesFit g.shape.states h.nodes h.points
  pub starts : StartsFit h.nodes h.points h.from h.over h.multiple

-- the lines up to the multiple
pub record FrontFits (g : GameData) (h : Head) : Type 0 where
  pub gap : GapFits h.gap
  pub bounds : BoundsFit h.lower h.upper h.tail
  pub sizes : SizesFit g.shape.states h.nodes h.points
  pub multiple : IsWithin (pos 1) (pos most_from) h.multiple

-- the start nodes so far, and all of them
pub record FromsFit (h : Head) (back : List Start) : Type 0 where
  pub so_far : StartsSoFar h.nodes (pos most_from) back
  pub sum : weights_sum back ≤ℤ pos most_from

pub record FromsDone (h : Head) (front : List Start) : Type 0 where
  pub all : FromsFit h front
  pub some : 1 ≤ length front
  pub coprime : AreCoprimeStarts front

pub record OversFit (h : Head) (back : List Start) : Type 0 where
  pub so_far : StartsSoFar h.points (pos most_over) back
  pub some : 1 ≤ length back

-- the nodes before, and one more
pub record NodesFit (g : GameData) (h : Head) (ns : List NodeData) : Type 0 where
  pub head : HeadFits g h
  pub each : AllByRecursion (NodeFits g h.nodes) ns
  pub more : length ns < h.nodes

-- all nodes
pub record NodesDone (g : GameData) (h : Head) (ns : List NodeData) : Type 0 where
  pub head : HeadFits g h
  pub each : AllByRecursion (NodeFits g h.nodes) ns
  pub all : length ns ≡ h.nodes

-- what each pair of a node lacks behind these steps
pub record Lacks (g : GameData) (m : List ℤ) (back : List Branch) (lacking : List ℤ) : Type 0 where
  pub long : length lacking ≡ 48
  pub each : (a o : ℕ) → a < g.shape.own_actions → o < g.shape.observations →
      slice_index_or lacking (a * g.shape.observations + o) (pos 0) ≡ slice_index_or m a (pos 0) -ℤ weight_at back a o
  pub past : (i : ℕ) → g.shape.own_actions * g.shape.observations ≤ i → slice_index_or lacking i (pos 0) ≡ pos 0

pub record BranchesFit (g : GameData) (members : ℕ) (most : ℤ) (back : List Branch) : Type 0 where
  pub falls : Falls back
  pub each : AllByRecursion (IsBranch (numbers g) members most) back

pub record StepsFit (g : GameData) (h : Head) (v m : List ℤ) (back : List Branch) (lacking : List ℤ) : Type 0 where
  pub vector : VectorFits (limits_of g) v
  pub mix : MixFits g.shape.own_actions m
  pub steps : BranchesFit g h.nodes (pos mix_total) back
  pub lacks : Lacks g m back lacking

-- the points before, and one more
pub record PointsFit (g : GameData) (h : Head) (ns : List NodeData) (ps : List PointData) : Type 0 where
  pub nodes : NodesDone g h ns
  pub each : AllByRecursion (PointFits g h.points) ps
  pub more : length ps < h.points

-- the mixes of the first states
pub record RowsFit (g : GameData) (s : ℕ) (w : List ℤ) : Type 0 where
  pub few : s ≤ g.shape.states
  pub long : length w ≡ s * g.shape.informed_actions
  pub each : AllByRecursion (IsWithin (pos 0) (pos mix_total)) w
  pub sums : (i : ℕ) → i < s → total (λ c. mix_at (mixes_from g w) i c) (below g.shape.informed_actions) ≡ pos mix_total

pub record PartFits (g : GameData) (b : List ℤ) (v : ℤ) (s : ℕ) (w : List ℤ) : Type 0 where
  pub belief : BeliefFits g.shape.states b
  pub value : ValueFits (limits_of g) (sum_of b) v
  pub rows : RowsFit g s w

-- the certificate fits, and has its numbers of members
pub record IsDone (g : GameData) (h : Head) (ns : List NodeData) (ps : List PointData) : Type 0 where
  pub fits : CertificateFits g (made_head h ns ps)
  pub nodes : length ns ≡ h.nodes
  pub points : length ps ≡ h.points

abbrev pub Known : GameData → Stage → Type 0
Known g AtNothing = Unit {0}
Known g (AtVersion v) = Unit {0}
Known g (AtOutcome v o) = Unit {0}
Known g (AtGap v o gap) = GapFits gap
Known g (AtLower v o gap lower) = GapFits gap × IsShort lower
Known g (AtUpper v o gap lower upper) = GapFits gap × IsShort lower × IsShort upper
Known g (AtTail v o gap lower upper tail) = GapFits gap × BoundsFit lower upper tail
Known g (AtSizes v o gap lower upper tail nodes points) = GapFits gap × BoundsFit lower upper tail × SizesFit g.shape.states nodes points
Known g (AtFrom h back) = FrontFits g h × FromsFit h back
Known g (AtOver h front back) = FrontFits g h × FromsDone h front × OversFit h back
Known g (AtStart h) = HeadFits g h
Known g (AtNode h ns lacking) = NodesFit g h ns
Known g (AtVector h ns v lacking) = NodesFit g h ns × VectorFits (limits_of g) v
Known g (AtSteps h ns v m back lacking) = NodesFit g h ns × StepsFit g h v m back lacking
Known g (AtPoint h ns ps lacking sum) = PointsFit g h ns ps
Known g (AtBelief h ns ps b lacking) = PointsFit g h ns ps × BeliefFits g.shape.states b
Known g (AtMixes h ns ps b v s w lacking) = PointsFit g h ns ps × PartFits g b v s w
Known g (AtSplits h ns ps b v w back s lacking) = PointsFit g h ns ps × PartFits g b v g.shape.states w × BranchesFit g h.points most_share back × (s ≡ g.shape.states)
Known g (AtEnd h ns ps s lacking sum) = IsDone g h ns ps
