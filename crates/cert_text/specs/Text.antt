-- The text of a certificate, spelled out from its numbers.
use Rattle.std.specs.Prelude.{ℕ, List, [], ◌∷◌, ◌++◌, map, flat_map, length, ℤ, pos, codes}
use Rattle.std.specs.Fmt.{signed_decimal}
use Rattle.scaled_num.specs.Sums.{below}
use Rattle.alpha_set.specs.Nodes.{NodeData, no_node}
use Rattle.belief.specs.Mixes.{MixesData, mix_at}
use Rattle.controller.specs.Certificates.{CertificateData, Closed, Ending, FractionData, Full, Trials}
use Rattle.game_model.specs.Branches.{Branch}
use Rattle.point_set.specs.Points.{PointData, no_point}
use Rattle.std.specs.Prelude.{slice_index_or}
use Rattle.text_words.specs.Lines.{line_text}
use Rattle.text_words.specs.Spelled.{line_of}

-- a line of a fraction: its first word, and numerator and denominator around `/`
abbrev pub fraction_line : List ℕ → FractionData → List ℕ
fraction_line name f = line_text (name ∷ (signed_decimal f.num ++ (47 ∷ signed_decimal f.den)) ∷ [])

abbrev pub outcome_word : Ending → List ℕ
outcome_word Closed = codes "closed"
outcome_word Trials = codes "trials"
outcome_word Full = codes "full"

-- the version of the text: 1 for one start node and one start point, 2 for every other certificate
abbrev pub version_word : List (ℕ × ℤ) → List (ℕ × ℤ) → List ℕ
version_word (node ∷ []) (point ∷ []) = codes "1"
version_word nodes points = codes "2"

-- the line of a start: its number and its weight
abbrev pub start_line : List ℕ → ℕ × ℤ → List ℕ
start_line name start = line_of name (pos start.0 ∷ start.1 ∷ [])

-- the lines of the starts of version 2
abbrev pub weighted_text : List (ℕ × ℤ) → List (ℕ × ℤ) → ℤ → List ℕ
weighted_text nodes points multiple =
    line_of (codes "multiple") (multiple ∷ [])
    ++ (flat_map (start_line (codes "from")) nodes ++ flat_map (start_line (codes "over")) points)

-- the lines of the starts
abbrev pub starts_text : List (ℕ × ℤ) → List (ℕ × ℤ) → ℤ → List ℕ
starts_text (node ∷ []) (point ∷ []) multiple = line_of (codes "start") (pos node.0 ∷ pos point.0 ∷ [])
starts_text nodes points multiple = weighted_text nodes points multiple

abbrev pub branch_line : List ℕ → Branch → List ℕ
branch_line name b = line_of name (pos b.own ∷ pos b.seen ∷ pos b.member ∷ b.weight ∷ [])

-- numbers, a space before each
abbrev pub numbers_text : List ℤ → List ℕ
numbers_text numbers = flat_map (λ z. 32 ∷ signed_decimal z) numbers

-- the lines of the node of this number
abbrev pub node_text : ℕ → NodeData → List ℕ
node_text i node =
    line_of (codes "node") (pos i ∷ [])
    ++ (line_of (codes "vector") node.vector
    ++ (line_of (codes "mix") node.mix
    ++ flat_map (branch_line (codes "next")) node.next))

-- the weights of a state's mix, a space before each
abbrev pub weights_text : MixesData → ℕ → List ℕ
weights_text mixes s = flat_map (λ c. 32 ∷ signed_decimal (mix_at mixes s c)) (below mixes.actions)

-- the line of a state's mix
abbrev pub mix_text : MixesData → ℕ → List ℕ
mix_text mixes s = line_of (codes "mix") (pos s ∷ map (mix_at mixes s) (below mixes.actions))

-- the lines of the point of this number
abbrev pub point_text : ℕ → PointData → List ℕ
point_text j point =
    line_of (codes "point") (pos j ∷ [])
    ++ (line_of (codes "belief") point.belief
    ++ (line_of (codes "value") (point.value ∷ [])
    ++ (flat_map (mix_text point.mixes) (below point.mixes.states)
    ++ flat_map (branch_line (codes "split")) point.splits)))

abbrev pub starts_in : CertificateData → List ℕ
starts_in k = starts_text k.start_nodes k.start_points k.multiple

-- the first two lines
abbrev pub first_text : List ℕ → Ending → List ℕ
first_text version outcome = line_text (codes "certificate" ∷ version ∷ []) ++ line_text (codes "outcome" ∷ outcome_word outcome ∷ [])

-- the lines before the nodes
abbrev pub head_text : CertificateData → List ℕ
head_text k =
    line_text (codes "certificate" ∷ version_word k.start_nodes k.start_points ∷ [])
    ++ (line_text (codes "outcome" ∷ outcome_word k.outcome ∷ [])
    ++ (fraction_line (codes "gap") k.gap
    ++ (fraction_line (codes "lower") k.lower
    ++ (fraction_line (codes "upper") k.upper
    ++ (fraction_line (codes "tail") k.tail
    ++ (line_of (codes "sizes") (pos (length k.nodes) ∷ pos (length k.points) ∷ [])
    ++ starts_in k))))))

-- the lines of nodes, and of points
abbrev pub nodes_text : List NodeData → List ℕ
nodes_text nodes = flat_map (λ i. node_text i (slice_index_or nodes i no_node)) (below (length nodes))

abbrev pub points_text : List PointData → List ℕ
points_text points = flat_map (λ j. point_text j (slice_index_or points j no_point)) (below (length points))

-- the text of a certificate: a certificate has just this one
abbrev pub certificate_text : CertificateData → List ℕ
certificate_text k =
    head_text k
    ++ (nodes_text k.nodes
    ++ (points_text k.points
    ++ line_of (codes "end") []))
