-- What each line of a certificate text must keep, and which kinds of fault apply to a line behind those before it.
use Rattle.std.specs.Prelude.{◌≡◌, ◌≢◌, ◌⊎◌, ℕ, ◌<◌, ◌≤◌, List, [], ◌∷◌, length, map, ℤ, pos, neg_ℤ, ◌+ℤ◌, ◌*ℤ◌, ◌≤ℤ◌, ◌<ℤ◌, drop, codes, ⊤}
use Rattle.game_model.specs.Limits.{most_belief, most_members}
use Rattle.std.specs.List.{AllByRecursion}
use Rattle.scaled_num.specs.Sums.{sum_of}
use Rattle.text_words.specs.Lines.{Line}
use Rattle.text_words.specs.Forms.{number_at}
use Rattle.game_model.specs.Branches.{Branch, IsBranchBefore, mix_total}
use Rattle.game_model.specs.Game.{AreCoprime, GameData, IsWithin, span}
use Rattle.point_set.specs.Points.{most_share}
use Rattle.controller.specs.Certificates.{most_gap, most_gap_under}
use Rattle.controller.specs.Starts.{most_from, most_over, weights_sum}
use Rattle.cert_text.specs.declared.fault.CertKind.{CertKind}
use Rattle.cert_text.specs.declared.fault.CertKind.TheVariants as kinds
use Rattle.cert_text.specs.Fault.{number_of_kind}
use Rattle.cert_text.specs.Entries.{Entry, From, Over, Next, Split}
use Rattle.cert_text.specs.Due.{Form, GapLine, LowerLine, UpperLine, TailLine, SizesLine, StartLine, MultipleLine, FromLine, OverLine, FirstNodeLine, NodeLine, VectorLine, MixLine, NextLine, FirstPointLine, PointLine, BeliefLine, ValueLine, StateLine, SplitLine, nodes_in, points_in, from_in, over_in, next_in, state_in, total_in, sum_at, must_reach, due, IsOneOf, IsOf, SayNumbers, branch_in, entry_in}

-- numbers of a `next` or `split` line with weights up to the most
pub record IsBranchWithin (g : GameData) (most : ℤ) (ns : List ℤ) : Type 0 where
  pub own : (pos 0 ≤ℤ number_at ns 0) × (number_at ns 0 <ℤ pos g.shape.own_actions)
  pub seen : (pos 0 ≤ℤ number_at ns 1) × (number_at ns 1 <ℤ pos g.shape.observations)
  pub member : pos 0 ≤ℤ number_at ns 2
  pub weight : IsWithin (pos 1) most (number_at ns 3)

-- greater than the branch of the line just before, where that has one
abbrev pub IsLater : List Entry → Branch → Type 0
IsLater (Next branch ∷ before) b = IsBranchBefore branch b
IsLater (Split branch ∷ before) b = IsBranchBefore branch b
IsLater _ b = ⊤

-- a pair of the latest node has the sum that it must reach, and so have all pairs
abbrev pub IsReached : List Entry → ℕ → ℕ → Type 0
IsReached before a o = sum_at before a o ≡ must_reach before a

abbrev pub AreReached : GameData → List Entry → Type 0
AreReached g before = (a o : ℕ) → a < g.shape.own_actions → o < g.shape.observations → IsReached before a o

-- the pairs before that of a branch have the sums that they must reach, and its own keeps within its
pub record FitsPair (g : GameData) (before : List Entry) (b : Branch) : Type 0 where
  pub earlier : (a o : ℕ) → o < g.shape.observations → (a < b.own) ⊎ ((a ≡ b.own) × (o < b.seen)) → IsReached before a o
  pub room : (sum_at before b.own b.seen +ℤ b.weight) ≤ℤ must_reach before b.own

abbrev pub AreMixWeights : List ℤ → Type 0
AreMixWeights ns = AllByRecursion (IsWithin (pos 0) (pos mix_total)) ns

-- a number above that of the `from` line just before, or of the `over` line, where there is one
abbrev pub IsAboveFrom : List Entry → ℤ → Type 0
IsAboveFrom (From node weight ∷ before) number = pos node <ℤ number
IsAboveFrom _ number = ⊤

abbrev pub IsAboveOver : List Entry → ℤ → Type 0
IsAboveOver (Over point weight ∷ before) number = pos point <ℤ number
IsAboveOver _ number = ⊤

-- nothing but 1 divides the weights of these starts
abbrev pub AreCoprimeStarts : List (ℕ × ℤ) → Type 0
AreCoprimeStarts starts = AreCoprime (map (λ start. start.1) starts)

-- Behind `over` lines: the weights of the start points are coprime, and there are several start nodes or several
-- start points.
abbrev pub AreStartsWhole : List Entry → Type 0
AreStartsWhole (Over point weight ∷ before) =
    AreCoprimeStarts ((point, weight) ∷ over_in before)
    × ((2 ≤ length (from_in before)) ⊎ (2 ≤ length ((point, weight) ∷ over_in before)))
AreStartsWhole _ = ⊤

-- What the numbers of a line of this form must keep: where they do not, this kind applies.
abbrev pub Rule : GameData → List Entry → Form → CertKind → List ℤ → Type 0
Rule g before GapLine kinds.Range ns =
    IsWithin (pos 0) (pos most_gap) (number_at ns 0) × IsWithin (pos 1) (pos most_gap_under) (number_at ns 1)
Rule g before LowerLine kinds.Range ns = pos 1 ≤ℤ number_at ns 1
Rule g before UpperLine kinds.Range ns = pos 1 ≤ℤ number_at ns 1
Rule g before TailLine kinds.Range ns = pos 1 ≤ℤ number_at ns 1
Rule g before SizesLine kinds.Range ns = (pos 1 ≤ℤ number_at ns 0) × (pos g.shape.states ≤ℤ number_at ns 1)
Rule g before SizesLine kinds.Full ns = (number_at ns 0 ≤ℤ pos most_members) × (number_at ns 1 ≤ℤ pos most_members)
Rule g before StartLine kinds.Range ns = (pos 0 ≤ℤ number_at ns 0) × (pos 0 ≤ℤ number_at ns 1)
Rule g before StartLine kinds.Index ns = (number_at ns 0 <ℤ pos (nodes_in before)) × (number_at ns 1 <ℤ pos (points_in before))
Rule g before MultipleLine kinds.Range ns = IsWithin (pos 1) (pos most_from) (number_at ns 0)
Rule g before FromLine kinds.Range ns = (pos 0 ≤ℤ number_at ns 0) × IsWithin (pos 1) (pos most_from) (number_at ns 1)
Rule g before FromLine kinds.Order ns = IsAboveFrom before (number_at ns 0)
Rule g before FromLine kinds.Index ns = number_at ns 0 <ℤ pos (nodes_in before)
Rule g before FromLine kinds.Total ns = (number_at ns 1 +ℤ weights_sum (from_in before)) ≤ℤ pos most_from
Rule g before OverLine kinds.Range ns = (pos 0 ≤ℤ number_at ns 0) × IsWithin (pos 1) (pos most_over) (number_at ns 1)
Rule g before OverLine kinds.Order ns = IsAboveOver before (number_at ns 0)
Rule g before OverLine kinds.Index ns = number_at ns 0 <ℤ pos (points_in before)
Rule g before OverLine kinds.Total ns = AreCoprimeStarts (from_in before)
Rule g before FirstNodeLine kinds.Order ns = number_at ns 0 ≡ pos 0
Rule g before FirstNodeLine kinds.Total ns = AreStartsWhole before
Rule g before NodeLine kinds.Order ns = number_at ns 0 ≡ pos (next_in before)
Rule g before NodeLine kinds.Total ns = AreReached g before
Rule g before VectorLine kinds.Range ns = AllByRecursion (IsWithin (neg_ℤ (pos (span g))) (pos (span g))) ns
Rule g before MixLine kinds.Range ns = AreMixWeights ns
Rule g before MixLine kinds.Total ns = sum_of ns ≡ pos mix_total
Rule g before NextLine kinds.Range ns = IsBranchWithin g (pos mix_total) ns
Rule g before NextLine kinds.Order ns = IsLater before (branch_in ns)
Rule g before NextLine kinds.Index ns = number_at ns 2 <ℤ pos (nodes_in before)
Rule g before NextLine kinds.Total ns = FitsPair g before (branch_in ns)
Rule g before FirstPointLine kinds.Order ns = number_at ns 0 ≡ pos 0
Rule g before FirstPointLine kinds.Total ns = AreReached g before
Rule g before PointLine kinds.Order ns = number_at ns 0 ≡ pos (next_in before)
Rule g before BeliefLine kinds.Range ns = AllByRecursion (IsWithin (pos 0) (pos most_belief)) ns
Rule g before BeliefLine kinds.Total ns = IsWithin (pos 1) (pos most_belief) (sum_of ns) × AreCoprime ns
Rule g before ValueLine kinds.Range ns =
    IsWithin (neg_ℤ (pos (span g) *ℤ total_in before)) (pos (span g) *ℤ total_in before) (number_at ns 0)
Rule g before StateLine kinds.Range ns = AreMixWeights (drop 1 ns)
Rule g before StateLine kinds.Order ns = number_at ns 0 ≡ pos (state_in before)
Rule g before StateLine kinds.Total ns = sum_of (drop 1 ns) ≡ pos mix_total
Rule g before SplitLine kinds.Range ns = IsBranchWithin g most_share ns
Rule g before SplitLine kinds.Order ns = IsLater before (branch_in ns)
Rule g before SplitLine kinds.Index ns = number_at ns 2 <ℤ pos (points_in before)
Rule g before form kind ns = ⊤

-- a line of a due form, behind these entries, with these words and numbers
abbrev pub IsDueLine : GameData → List Entry → Line → Form → Line → Type 0
IsDueLine g before line form words = IsOneOf (due g before) form × IsOf g form line words

-- The kind applies to the line behind these entries.
abbrev pub Applies : GameData → List Entry → Line → CertKind → Type 0
Applies g before line kinds.Version =
    (before ≡ []) × (line ≢ codes "certificate" ∷ codes "1" ∷ []) × (line ≢ codes "certificate" ∷ codes "2" ∷ [])
Applies g before line kinds.Shape = (before ≢ []) × ((form : Form) (words : Line) → IsDueLine g before line form words → ⊥)
Applies g before line kinds.Number =
    (form : Form) × (words : Line) × IsDueLine g before line form words × ((ns : List ℤ) → SayNumbers form words ns → ⊥)
Applies g before line kind =
    (form : Form) × (words : Line) × (ns : List ℤ) × IsDueLine g before line form words × SayNumbers form words ns × (Rule g before form kind ns → ⊥)

-- The line behind these entries says this entry.
abbrev pub Says : GameData → List Entry → Line → Entry → Type 0
Says g before line entry =
    (form : Form) × (words : Line) × (ns : List ℤ) × IsDueLine g before line form words × SayNumbers form words ns × (entry ≡ entry_in form words ns)

-- no kind applies to the line, and it says this entry
abbrev pub IsPassed : GameData → List Entry → Line → Entry → Type 0
IsPassed g before line entry = Says g before line entry × ((kind : CertKind) → Applies g before line kind → ⊥)

-- the kind applies to the line, and none of a lesser number does
abbrev pub IsLeast : GameData → List Entry → Line → CertKind → Type 0
IsLeast g before line kind =
    Applies g before line kind × ((lesser : CertKind) → number_of_kind lesser < number_of_kind kind → Applies g before line lesser → ⊥)
