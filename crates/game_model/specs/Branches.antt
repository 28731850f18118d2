-- Branches of a member of a set: after an own action and an observation, go on with a member, by a weight.
use Rattle.std.specs.Prelude.{ℕ, ℤ, pos, unsigned_abs, List, [], ◌∷◌, filter, ◌≡◌, ◌<◌, ◌⊎◌, ◌==◌, ◌&&◌}
use Rattle.std.specs.List.{AllByRecursion}
use Rattle.game_model.specs.Game.{IsWithin}
use Rattle.game_model.specs.Numbers.{Numbers}
use Rattle.game_model.specs.declared.branches.Branch.{Branch as BranchParts}

-- the total of every mix
abbrev pub mix_total : ℕ
mix_total = 65536

pub record Branch : Type 0 where
  pub own : ℕ
  pub seen : ℕ
  pub member : ℕ
  pub weight : ℤ

-- a branch of the program as data
abbrev pub branch_of : BranchParts → Branch
branch_of b = record { own = b.a; seen = b.o; member = b.k; weight = b.weight }

-- branches rise strictly by own action, observation and member
abbrev pub IsBranchBefore : Branch → Branch → Type 0
IsBranchBefore b d = (b.own < d.own) ⊎ ((b.own ≡ d.own) × ((b.seen < d.seen) ⊎ ((b.seen ≡ d.seen) × (b.member < d.member))))

abbrev pub AreRising : List Branch → Type 0
AreRising [] = Unit {0}
AreRising (b ∷ []) = Unit {0}
AreRising (b ∷ d ∷ rest) = IsBranchBefore b d × AreRising (d ∷ rest)

-- the branches after an own action and an observation
abbrev pub branches_at : List Branch → ℕ → ℕ → List Branch
branches_at branches a o = filter (λ b. (b.own == a) && (b.seen == o)) branches

-- a branch is in range: it names one of so many members, and its weight is 1 to the most
pub record IsBranch (g : Numbers) (members : ℕ) (most : ℤ) (b : Branch) : Type 0 where
  pub own : b.own < g.own_actions
  pub seen : b.seen < g.observations
  pub member : b.member < members
  pub weight : IsWithin (pos 1) most b.weight

-- branches that rise, each in range
pub record AreBranches (g : Numbers) (members : ℕ) (most : ℤ) (branches : List Branch) : Type 0 where
  pub rising : AreRising branches
  pub each : AllByRecursion (IsBranch g members most) branches

-- how a member goes on, as the rules and the plans take it: a branch with its weight as a natural number
pub record Continuation : Type 0 where
  pub own : ℕ
  pub seen : ℕ
  pub member : ℕ
  pub weight : ℕ

abbrev pub continuation_of : Branch → Continuation
continuation_of b = record { own = b.own; seen = b.seen; member = b.member; weight = unsigned_abs b.weight }

-- the continuations after an own action and an observation
abbrev pub continuations_at : List Continuation → ℕ → ℕ → List Continuation
continuations_at continuations a o = filter (λ c. (c.own == a) && (c.seen == o)) continuations
