-- Strategies that there are, and what they earn in a small game, as sums over courses and as plans.
use Rattle.std.proofs.Common.{◌≡◌, ℕ, suc, zero, ◌+◌, ◌≤◌, [], ◌∷◌, refl, ap, arith, ◌∙◌}
use Rattle.std.specs.Prelude.{pos, negsuc, sum_by, cond, ◌==◌}
use Rattle.std.specs.List.{range_with_len}
use Rattle.std.proofs.lemmas.List.Sums.{sum_by-cons}
use Rattle.alpha_set.specs.Nodes.{Node}
use Rattle.game_model.specs.Numbers.{Numbers}
use Rattle.game_model.specs.Play.{always, pay}
use Rattle.history_model.specs.Courses.{chance, courses, earned}
use Rattle.history_model.specs.Machines.{node_weights, one_action}
use Rattle.history_model.specs.Plans.{own_plan}
use Rattle.history_model.specs.Strategies.{InformedStrategy, IsInformedStrategy, IsOwnStrategy, OwnStrategy, informed_weights}
use Rattle.history_model.specs.Trees.{informed_tree}

-- ---- to play each action alike is a strategy
evenly : InformedStrategy
evenly first history c v = 1

pub ones : (b n : ℕ) → sum_by (λ c. 1) (range_with_len b n) ≡ n
ones b zero = refl
ones b (suc n) = sum_by-cons (λ (c : ℕ). 1) b (range_with_len (b + 1) n) ∙ ap (λ (k : ℕ). 1 + k) (ones (b + 1) n) ∙ more n
  where
    more : (n : ℕ) → 1 + n ≡ suc n
    more n = omega arith

evenly-is : (g : Numbers) (n : ℕ) → 1 ≤ g.informed_actions → IsInformedStrategy g 1 g.informed_actions n evenly
unfolding evenly
evenly-is g n some = record { some = some; sums = λ first history lf lh all. ones 0 g.informed_actions }

-- for each player
evenly_own : OwnStrategy
evenly_own history a u = 1

evenly_own-is : (g : Numbers) (n : ℕ) → 1 ≤ g.own_actions → IsOwnStrategy g 1 g.own_actions n evenly_own
unfolding evenly_own
evenly_own-is g n some = record { some = some; sums = λ history lh all. ones 0 g.own_actions }

-- ---- matching pennies over two stages, discount 1/2: player one gets 1 where both show the same, and pays 1 where not
pennies : Numbers
pennies = record {
  states = 1;
  own_actions = 2;
  informed_actions = 2;
  observations = 1;
  row_total = 1;
  discount_over = 1;
  discount_under = 2;
  reward = λ s a c. cond (a == c) (pos 1) (negsuc 0);
  weight = λ s a c o t. 1;
}

-- heads at first, and then what player one showed before: it wins only the first stage of a player one that always shows heads
copies : InformedStrategy
copies first [] c v = cond (c == 0) 1 0
copies first (x ∷ history) c v = cond (c == x.own) 0 1

-- +1 at once and -1 half: 1 * 4 - 1 * 2 over 4
copied : earned pennies 1 1 2 0 (one_action 0) (informed_weights copies 0) ≡ pos 2
unfolding pennies copies
copied = refl

-- over no stage nothing is earned, and the one empty course has weight 1
at_once : earned pennies 1 1 0 0 (one_action 0) (informed_weights copies 0) ≡ pos 0
unfolding pennies copies
at_once = refl

-- a node that shows both alike and goes on with itself earns nothing, whoever plays: 2 * 2 courses of weight 1 in each stage
even_node : ℕ → Node
even_node i = record {
  vector = λ s. pos 0;
  mix = λ a. 1;
  next = record { own = 0; seen = 0; member = 0; weight = 1 } ∷ record { own = 1; seen = 0; member = 0; weight = 1 } ∷ [];
}

even : earned pennies 1 1 2 0 (node_weights even_node 0) (informed_weights copies 0) ≡ pos 0
unfolding pennies copies even_node
even = refl

-- the weights of all courses sum to (1 * 2 * 1)^2
even_weights : sum_by (chance pennies 2 0 (node_weights even_node 0) (informed_weights copies 0)) (courses pennies 1 1 2) ≡ 4
unfolding pennies copies even_node
even_weights = refl

-- the plans pay the same: a plan of one action, and one of the node, against the plan of the strategy
copied_plan : pay pennies 2 0 (always 0 2) (informed_tree copies 0 1 2 []) ≡ pos 2
unfolding pennies copies
copied_plan = refl

even_plan : pay pennies 2 0 (own_plan even_node 0 2) (informed_tree copies 0 1 2 []) ≡ pos 0
unfolding pennies copies even_node
even_plan = refl
