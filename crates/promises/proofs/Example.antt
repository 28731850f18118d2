-- The definitions at numbers, and a strategy that there is.
use Rattle.std.proofs.Common.{◌≡◌, ℕ, ◌*◌, ◌^◌, ◌≤◌, [], ◌∷◌, refl}
use Rattle.std.specs.Prelude.{pos, cond, ◌==◌}
use Rattle.belief.specs.Mixes.{MixesData}
use Rattle.controller.specs.Certificates.{CertificateData, FractionData, Trials}
use Rattle.game_model.specs.Branches.{Branch}
use Rattle.game_model.specs.Game.{GameData}
use Rattle.game_model.specs.Numbers.{Numbers}
use Rattle.game_model.specs.declared.parts.Landing.{Landing}
use Rattle.history_model.specs.Strategies.{OwnStrategy}
use Rattle.history_model.proofs.Pennies.{ones}
use Rattle.promises.specs.Promises.{against_splitting, common_multiple, controller_earned}
use Rattle.promises.specs.Watching.{IsWatchingStrategy, WatchingStrategy}

-- ---- a strategy that watches there is: to play each action alike
evenly_watching : WatchingStrategy
evenly_watching first start history c v = 1

evenly_watching-is : (g : Numbers) (nodes n : ℕ) → 1 ≤ g.informed_actions → IsWatchingStrategy g nodes 1 g.informed_actions n evenly_watching
unfolding evenly_watching
evenly_watching-is g nodes n some = record { some = some; sums = λ first start history lf ln lh all. ones 0 g.informed_actions }

-- ---- one of two states is drawn, and player one guesses it in the only stage that counts. The certificate draws among two nodes,
-- one for each guess, and splits the first belief into both states.
landing : ℕ → Landing
landing t = record { seen = 0; to = t; weight = pos 1 }

guess_the_state : GameData
unfolding landing
guess_the_state = record {
  shape = record { states = 2; own_actions = 2; informed_actions = 1; observations = 1; row_total = pos 1; discount = (pos 0, pos 1) };
  first = pos 1 ∷ pos 1 ∷ [];
  rewards = pos 1 ∷ pos 0 ∷ pos 0 ∷ pos 1 ∷ [];
  rows = (landing 0 ∷ []) ∷ (landing 0 ∷ []) ∷ (landing 1 ∷ []) ∷ (landing 1 ∷ []) ∷ [];
}

branch : ℕ → ℕ → Branch
branch a k = record { own = a; seen = 0; member = k; weight = pos 65536 }

sure : MixesData
sure = record { states = 2; actions = 1; weights = pos 65536 ∷ pos 65536 ∷ [] }

over : ℕ → ℕ → FractionData
over num den = record { num = pos num; den = pos den }

two_starts : CertificateData
two_starts = record {
  lower = over 131072 262144;
  upper = over 131072 131072;
  tail = over 65536 65536;
  gap = over 1 100;
  outcome = Trials;
  nodes =
      record { vector = pos 65536 ∷ pos 0 ∷ []; mix = pos 65536 ∷ pos 0 ∷ []; next = branch 0 0 ∷ [] }
      ∷ record { vector = pos 0 ∷ pos 65536 ∷ []; mix = pos 0 ∷ pos 65536 ∷ []; next = branch 1 1 ∷ [] }
      ∷ [];
  points =
      record { belief = pos 1 ∷ pos 0 ∷ []; value = pos 65536; mixes = sure; splits = branch 0 0 ∷ branch 1 0 ∷ [] }
      ∷ record { belief = pos 0 ∷ pos 1 ∷ []; value = pos 65536; mixes = sure; splits = branch 0 1 ∷ branch 1 1 ∷ [] }
      ∷ [];
  start_nodes = (0, pos 1) ∷ (1, pos 1) ∷ [];
  start_points = (0, pos 1) ∷ (1, pos 1) ∷ [];
  multiple = pos 1;
}

-- from each first state one of the two nodes earns 65536^2 over two stages, and the other nothing: the bound, as the entries add up
-- to 65536 and the tail is 0
two_earned :
    (controller_earned guess_the_state two_starts 1 2 0 (λ first history c v. 1) ≡ pos (65536 ^ 2))
    × (controller_earned guess_the_state two_starts 1 2 1 (λ first history c v. 1) ≡ pos (65536 ^ 2))
unfolding landing guess_the_state branch sure over two_starts
two_earned = (refl, refl)

-- the points bring four times 65536
two_multiple : common_multiple guess_the_state two_starts ≡ 65536 ^ 4
unfolding landing guess_the_state branch sure over two_starts
two_multiple = refl

-- always to guess state 0 earns from state 0 what the upper bound allows of both, and nothing from state 1: half of the bound
guesses_zero : OwnStrategy
guesses_zero history a u = cond (a == 0) 1 0

two_held : (against_splitting guess_the_state two_starts 1 1 0 guesses_zero ≡ pos (65536 * 65536 ^ 4)) × (against_splitting guess_the_state two_starts 1 1 1 guesses_zero ≡ pos 0)
unfolding landing guess_the_state branch sure over two_starts guesses_zero
two_held = (refl, refl)
