-- The limits of games, and of the sets over them.
use Rattle.std.specs.Prelude.{ℕ, ◌^◌}

-- the most states of a game, actions of either player, and observations
abbrev pub most_states : ℕ
most_states = 16

abbrev pub most_actions : ℕ
most_actions = 6

abbrev pub most_observations : ℕ
most_observations = 8

-- the greatest row total, and the greatest denominator of a discount
abbrev pub most_row_total : ℕ
most_row_total = 2 ^ 30

abbrev pub most_discount : ℕ
most_discount = 2 ^ 20

-- the greatest magnitude of a reward, and the most that the width rule lets pass
abbrev pub most_reward : ℕ
most_reward = 2 ^ 30

abbrev pub most_width : ℕ
most_width = 2 ^ 72

-- the greatest total of a belief, and the greatest weight in one
abbrev pub most_belief : ℕ
most_belief = 2 ^ 20

-- the greatest total of a mass, in row totals
abbrev pub most_mass : ℕ
most_mass = 2 ^ 36

-- the most members of a set
abbrev pub most_members : ℕ
most_members = 1024
