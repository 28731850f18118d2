-- What the reader's own values say, and the limits that they keep.
use Rattle.std.specs.Prelude.{ℕ, ◌<◌, ◌≤◌, ◌^◌, length, All, ℤ, pos, ◌+ℤ◌, ◌≤ℤ◌, slice_index_or}
use Rattle.game_model.specs.Limits.{most_actions, most_belief, most_members, most_observations, most_states}
use Rattle.scaled_num.specs.Sums.{sum_of}
use Rattle.game_model.specs.Branches.{branch_of, mix_total}
use Rattle.game_model.specs.Game.{IsWithin}
use Rattle.controller.specs.Certificates.{FractionData}
use Rattle.controller.specs.Starts.{most_from}
use Rattle.controller.specs.Data.{ending_of}
use Rattle.cert_text.specs.declared.progress.Limits.{Limits}
use Rattle.cert_text.specs.declared.progress.Progress.{Progress}
use Rattle.cert_text.specs.declared.progress.Entry.{Entry as Read}
use Rattle.cert_text.specs.declared.progress.Entry.TheVariants as read
use Rattle.cert_text.specs.Entries.{Entry, Version, Outcome as OutcomeIs, Gap, Lower, Upper, Tail, Sizes, Start, Multiple, From, Over, Node, Vector, Mix, Next, Point, Belief, Value, Mixes, Split, End, pair_at}

abbrev pub fraction_is : (ℤ × ℤ) → FractionData
fraction_is f = record { num = f.0; den = f.1 }

abbrev pub entry_in : Read → Entry
entry_in (read.Version number) = Version number
entry_in (read.Outcome o) = OutcomeIs (ending_of o)
entry_in (read.Gap num den) = Gap (record { num = num; den = den })
entry_in (read.Lower num den) = Lower (record { num = num; den = den })
entry_in (read.Upper num den) = Upper (record { num = num; den = den })
entry_in (read.Tail num den) = Tail (record { num = num; den = den })
entry_in (read.Sizes nodes points) = Sizes nodes points
entry_in (read.Start node point) = Start node point
entry_in (read.Multiple multiple) = Multiple multiple
entry_in (read.From node weight) = From node weight
entry_in (read.Over point weight) = Over point weight
entry_in (read.Node number) = Node number
entry_in (read.Vector entries) = Vector entries.items
entry_in (read.Mix weights) = Mix weights.items
entry_in (read.Next b) = Next (branch_of b)
entry_in (read.Point number) = Point number
entry_in (read.Belief parts) = Belief parts.items
entry_in (read.Value value) = Value value
entry_in (read.Mixes state weights) = Mixes state weights.items
entry_in (read.Split b) = Split (branch_of b)
entry_in read.End = End

-- what a pair of a node lacks, if anything: part of a mix
abbrev pub IsLack : ℤ → Type 0
IsLack = IsWithin (pos 0) (pos mix_total)

-- more than the span of any game
abbrev pub most_span : ℕ
most_span = 2 ^ 90

-- the limits of a game
pub record AreLimits (limits : Limits) : Type 0 where
  pub states : (1 ≤ limits.states) × (limits.states ≤ most_states)
  pub own_actions : (1 ≤ limits.own_actions) × (limits.own_actions ≤ most_actions)
  pub informed_actions : (1 ≤ limits.informed_actions) × (limits.informed_actions ≤ most_actions)
  pub observations : (1 ≤ limits.observations) × (limits.observations ≤ most_observations)
  pub span : IsWithin (pos 0) (pos most_span) limits.span

-- the progress keeps its limits
pub record IsProgress (progress : Progress) : Type 0 where
  pub limits : AreLimits progress.limits
  pub begun : progress.begun ≤ most_members
  pub state : progress.state ≤ most_states
  pub nodes : progress.nodes ≤ most_members
  pub points : progress.points ≤ most_members
  pub sum : IsWithin (pos 0) (pos most_from) progress.starts.sum
  pub lacking : All IsLack progress.lacking
  pub total : IsWithin (pos 0) (pos most_belief) progress.total

-- what a line says stays in its limits here
abbrev pub FitsProgress : Progress → Entry → Type 0
FitsProgress progress (Sizes nodes points) = (nodes ≤ most_members) × (points ≤ most_members)
FitsProgress progress (From node weight) = (pos 1 ≤ℤ weight) × ((weight +ℤ progress.starts.sum) ≤ℤ pos most_from)
FitsProgress progress (Node number) = number < most_members
FitsProgress progress (Mix weights) = All IsLack weights
FitsProgress progress (Next b) =
    (b.own < progress.limits.own_actions) × (b.seen < progress.limits.observations)
    × (pos 1 ≤ℤ b.weight) × (b.weight ≤ℤ slice_index_or progress.lacking (pair_at progress.limits b) (pos 0))
FitsProgress progress (Point number) = number < most_members
FitsProgress progress (Belief parts) = (length parts ≤ most_states) × All (IsWithin (pos 0) (pos most_belief)) parts × IsWithin (pos 0) (pos most_belief) (sum_of parts)
FitsProgress progress (Mixes state weights) = state < most_states
FitsProgress progress _ = Unit {0}
