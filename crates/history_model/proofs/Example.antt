-- Both halves worked out over the definitions: every number is computed, and both sides are equal.
use Rattle.std.proofs.Common.{◌≡◌, ℕ, suc, zero, ◌*◌, ◌^◌, [], ◌∷◌, refl}
use Rattle.std.specs.Prelude.{List, ℤ, pos, ◌-ℤ◌, ◌*ℤ◌}
use Rattle.scaled_num.specs.Sums.{below, total}
use Rattle.belief.specs.Mixes.{MixesData}
use Rattle.controller.specs.Certificates.{CertificateData, Closed, FractionData, Trials, first_total}
use Rattle.game_model.specs.Branches.{Branch, mix_total}
use Rattle.game_model.specs.Game.{GameData, first_at, numbers, span, unit}
use Rattle.game_model.specs.Plan.{InformedPlan}
use Rattle.game_model.specs.Play.{always, pay}
use Rattle.game_model.specs.declared.parts.Landing.{Landing}
use Rattle.history_model.specs.Halves.{common, from_total, over_total, reply, reply_total, start, start_total}
use Rattle.history_model.specs.Starts.{starts_cost, starts_earn}

abbrev branch : ℕ → ℕ → ℕ → ℕ → Branch
branch a o k weight = record { own = a; seen = o; member = k; weight = pos weight }

abbrev over : ℕ → ℕ → FractionData
over num den = record { num = pos num; den = pos den }

-- one start, of weight 1
abbrev alone_at : ℕ → List (ℕ × ℤ)
alone_at i = (i, pos 1) ∷ []

-- ---- one state, a reward of 3 each stage, discount 1/2: worth 6, which is the span
abbrev three_halved : GameData
three_halved = record {
  shape = record { states = 1; own_actions = 1; informed_actions = 1; observations = 1; row_total = pos 1; discount = (pos 1, pos 2) };
  first = pos 1 ∷ [];
  rewards = pos 3 ∷ [];
  rows = (record { seen = 0; to = 0; weight = pos 1 } ∷ []) ∷ [];
}

abbrev three_certificate : CertificateData
three_certificate = record {
  lower = over 393216 65536;
  upper = over 393216 65536;
  tail = over 393216 65536;
  gap = over 0 1;
  outcome = Closed;
  nodes = record { vector = pos 393216 ∷ []; mix = pos 65536 ∷ []; next = branch 0 0 0 65536 ∷ [] } ∷ [];
  points = record { belief = pos 1 ∷ []; value = pos 393216; mixes = record { states = 1; actions = 1; weights = pos 65536 ∷ [] }; splits = branch 0 0 0 65536 ∷ [] } ∷ [];
  start_nodes = alone_at 0;
  start_points = alone_at 0;
  multiple = pos 1;
}

-- the one plan of the informed player, of total 1
abbrev alone : (n : ℕ) → InformedPlan n
alone zero = tt
alone (suc n) = λ c a o t. (1, alone n) ∷ []

-- over two stages there is one play, of weight 65536^2 and gain 3*4 + 3*2 = 18
three_pay : pay (numbers three_halved) 2 0 (start three_certificate 2) (alone 2) ≡ pos (65536 ^ 2 * 18)
three_pay = refl

-- the lower half over two stages: 65536 * 18 * 65536^2 on both sides
three_lower :
    (pos 393216 *ℤ pos ((numbers three_halved).discount_under ^ 2) -ℤ pos ((numbers three_halved).discount_over ^ 2 * span three_halved * first_total three_halved)) *ℤ pos (((numbers three_halved).row_total * mix_total * 1) ^ 2)
    ≡ pos unit *ℤ total (λ s. pos (first_at three_halved s) *ℤ pay (numbers three_halved) 2 s (start three_certificate 2) (alone 2)) (below 1)
three_lower = refl

-- ---- one of two states is drawn, and player one guesses it once
abbrev landing : ℕ → Landing
landing t = record { seen = 0; to = t; weight = pos 1 }

abbrev guess_the_state : GameData
guess_the_state = record {
  shape = record { states = 2; own_actions = 2; informed_actions = 1; observations = 1; row_total = pos 1; discount = (pos 0, pos 1) };
  first = pos 1 ∷ pos 1 ∷ [];
  rewards = pos 1 ∷ pos 0 ∷ pos 0 ∷ pos 1 ∷ [];
  rows = (landing 0 ∷ []) ∷ (landing 0 ∷ []) ∷ (landing 1 ∷ []) ∷ (landing 1 ∷ []) ∷ [];
}

abbrev sure : MixesData
sure = record { states = 2; actions = 1; weights = pos 65536 ∷ pos 65536 ∷ [] }

abbrev guess_certificate : CertificateData
guess_certificate = record {
  lower = over 65536 131072;
  upper = over 65536 131072;
  tail = over 65536 65536;
  gap = over 1 100;
  outcome = Closed;
  nodes = record { vector = pos 65536 ∷ pos 0 ∷ []; mix = pos 65536 ∷ pos 0 ∷ []; next = branch 0 0 0 65536 ∷ [] } ∷ [];
  points =
      record { belief = pos 1 ∷ pos 0 ∷ []; value = pos 65536; mixes = sure; splits = branch 0 0 0 65536 ∷ branch 1 0 0 65536 ∷ [] }
      ∷ record { belief = pos 0 ∷ pos 1 ∷ []; value = pos 65536; mixes = sure; splits = branch 0 0 1 65536 ∷ branch 1 0 1 65536 ∷ [] }
      ∷ record { belief = pos 1 ∷ pos 1 ∷ []; value = pos 65536; mixes = sure; splits = branch 0 0 0 65536 ∷ branch 0 0 1 65536 ∷ branch 1 0 0 65536 ∷ branch 1 0 1 65536 ∷ [] }
      ∷ [];
  start_nodes = alone_at 0;
  start_points = alone_at 2;
  multiple = pos 1;
}

-- eight masses are positive, each 65536
guess_common : common guess_the_state guess_certificate ≡ 65536 ^ 8
guess_common = refl

-- the upper half over one stage against always guessing state 0, where the tail is 0: 65536 * 65536 * 65536^8 on both sides
guess_upper :
    pos unit *ℤ total (λ s. pos (first_at guess_the_state s) *ℤ pay (numbers guess_the_state) 1 s (always 0 1) (reply guess_the_state guess_certificate s 1)) (below 2)
    ≡ pos (65536 * 1 * 65536 * common guess_the_state guess_certificate)
guess_upper = refl

-- ---- the same game with a draw among two nodes, one for each guess, and the first belief split into both corners
abbrev two_starts : CertificateData
two_starts = record {
  lower = over 131072 262144;
  upper = over 131072 131072;
  tail = over 65536 65536;
  gap = over 1 100;
  outcome = Trials;
  nodes =
      record { vector = pos 65536 ∷ pos 0 ∷ []; mix = pos 65536 ∷ pos 0 ∷ []; next = branch 0 0 0 65536 ∷ [] }
      ∷ record { vector = pos 0 ∷ pos 65536 ∷ []; mix = pos 0 ∷ pos 65536 ∷ []; next = branch 1 0 1 65536 ∷ [] }
      ∷ [];
  points =
      record { belief = pos 1 ∷ pos 0 ∷ []; value = pos 65536; mixes = sure; splits = branch 0 0 0 65536 ∷ branch 1 0 0 65536 ∷ [] }
      ∷ record { belief = pos 0 ∷ pos 1 ∷ []; value = pos 65536; mixes = sure; splits = branch 0 0 1 65536 ∷ branch 1 0 1 65536 ∷ [] }
      ∷ [];
  start_nodes = (0, pos 1) ∷ (1, pos 1) ∷ [];
  start_points = (0, pos 1) ∷ (1, pos 1) ∷ [];
  multiple = pos 1;
}

-- the two nodes are drawn among by weights of the sum 2, so that the total is 131072
two_totals : (from_total two_starts ≡ 2) × (start_total two_starts ≡ 131072) × (over_total guess_the_state two_starts ≡ 1)
two_totals = (refl, refl, refl)

-- over two stages each first state pays half of 131072^2: the node that guesses it is drawn with the weight 1 of 2
two_pay : pay (numbers guess_the_state) 2 0 (start two_starts 2) (alone 2) ≡ pos (65536 * 131072)
two_pay = refl

-- the lower half over two stages, where the tail is 0: 2 * 65536 * (1 + 1) * 65536 * 131072 on both sides
two_lower :
    (pos 131072 *ℤ pos (((numbers guess_the_state).row_total * start_total two_starts * 1) ^ 2))
    ≡ pos (from_total two_starts * unit) *ℤ total (λ s. pos (first_at guess_the_state s) *ℤ pay (numbers guess_the_state) 2 s (start two_starts 2) (alone 2)) (below 2)
two_lower = refl

-- in the first state alone: the entries of the start nodes add up to 65536
two_lower_at :
    (pos 65536 *ℤ pos (((numbers guess_the_state).row_total * start_total two_starts * 1) ^ 2)) ≡ pos (from_total two_starts * unit) *ℤ pay (numbers guess_the_state) 2 0 (start two_starts 2) (alone 2)
two_lower_at = refl

-- the own plans of the start nodes pay 65536^2 in each first state, all of it that of the node that guesses the state
two_earn : (starts_earn guess_the_state two_starts 2 0 (alone 2) ≡ pos (65536 ^ 2)) × (starts_earn guess_the_state two_starts 2 1 (alone 2) ≡ pos (65536 ^ 2))
two_earn = (refl, refl)

-- the lower half of these: 131072 * 65536^2 on both sides
two_starts_lower :
    (pos 131072 *ℤ pos (((numbers guess_the_state).row_total * mix_total * 1) ^ 2))
    ≡ pos unit *ℤ total (λ s. pos (first_at guess_the_state s) *ℤ starts_earn guess_the_state two_starts 2 s (alone 2)) (below 2)
two_starts_lower = refl

-- against the own plans of the start points to guess state 0 is worth something from that state alone, half of the upper bound
two_cost :
    (starts_cost guess_the_state two_starts 1 0 (always 0 1) ≡ pos (65536 * common guess_the_state two_starts))
    × (starts_cost guess_the_state two_starts 1 1 (always 0 1) ≡ pos 0)
two_cost = (refl, refl)

-- ---- the points of the first certificate, with the first belief twice as both corners and the point in the middle
abbrev three_points : CertificateData
three_points = record guess_certificate {
  upper = over 196608 262144;
  start_points = (0, pos 1) ∷ (1, pos 1) ∷ (2, pos 1) ∷ [];
  multiple = pos 2;
}

-- in each first state two points are drawn among, by weights of the sum 2: its corner and the one in the middle
three_totals : (over_total guess_the_state three_points ≡ 2) × (reply_total guess_the_state three_points ≡ 2 * (65536 * common guess_the_state three_points))
three_totals = (refl, refl)

-- always guessing state 0 earns 131072 of at most 196608 over two stages, where the tail is 0
three_upper :
    pos (2 * unit) *ℤ total (λ s. pos (first_at guess_the_state s) *ℤ pay (numbers guess_the_state) 2 s (always 0 2) (reply guess_the_state three_points s 2)) (below 2)
    ≡ pos 131072 *ℤ pos (((numbers guess_the_state).row_total * 1 * reply_total guess_the_state three_points) ^ 2)
three_upper = refl
