-- The game of a number and a size.
use Rattle.std.specs.Prelude.{ℕ, ℤ, pos, ◌+◌, ◌*◌, ◌/◌, List, map, min, replicate}
use Rattle.rand_pcg.specs.Lcg.{Lcg}
use Rattle.hsvi_draw.specs.Draws.{after_draws, seeded}
use Rattle.scaled_num.specs.Sums.{below}
use Rattle.game_model.specs.declared.parts.Shape.{Shape}
use Rattle.game_model.specs.declared.parts.Landing.{Landing}
use Rattle.game_model.specs.Game.{GameData, triples}
use Rattle.game_gen.specs.Rows.{reward_drawn, row_drawn}

-- the shape of the games of a size
abbrev pub shape_of : ℕ → Shape
shape_of size = record {
  states = size;
  own_actions = min 4 (1 + size / 3);
  informed_actions = min 4 (1 + size / 3);
  observations = min 3 (1 + size / 4);
  row_total = pos 100;
  discount = (pos 19, pos 20);
}

-- the rewards of the first n triples, each of which takes nine draws
abbrev pub rewards_drawn : Lcg → ℕ → List ℤ
rewards_drawn g n = map (λ i. reward_drawn (after_draws (9 * i) g)) (below n)

-- the rows of the first n triples
abbrev pub rows_drawn : Shape → Lcg → ℕ → List (List Landing)
rows_drawn shape g n = map (λ i. row_drawn shape (after_draws (9 * i) g)) (below n)

-- the game with the first n triples
abbrev pub game_drawn : Shape → List ℤ → Lcg → ℕ → GameData
game_drawn shape first g n = record {
  shape = shape;
  first = first;
  rewards = rewards_drawn g n;
  rows = rows_drawn shape g n;
}

-- the game of a number and a size: the triples draw one after another, and each first state is as likely as another
abbrev pub game_of : ℕ → ℕ → GameData
game_of number size = game_drawn (shape_of size) (replicate size (pos 1)) (seeded number) (triples (shape_of size))
