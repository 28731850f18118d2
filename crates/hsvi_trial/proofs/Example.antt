-- Thresholds, an excess and a start worked out; all numbers are those of an independent count.
use Rattle.std.proofs.Common.{◌≡◌, ℕ, zero, suc, ◌<◌, [], ◌∷◌, refl, arith}
use Rattle.std.specs.Prelude.{pos, map, ◌*◌, ◌≤ℤ◌}
use Rattle.std.proofs.Math.Nat.{eq-one_of_dvd-one}
use Rattle.std.proofs.lemmas.Int.{ints}
use Rattle.alpha_set.specs.Worth.{node_worth_at}
use Rattle.controller.specs.Certificates.{FractionData}
use Rattle.game_model.specs.Game.{GameData}
use Rattle.game_model.specs.declared.parts.Landing.{Landing}
use Rattle.point_set.proofs.BestExample.{halves, halves-sawtooth, halves-split, halves_items, toothed}
use Rattle.hsvi_trial.specs.Excess.{IsExcess, View}
use Rattle.hsvi_trial.specs.Sets.{Sets}
use Rattle.hsvi_trial.specs.Starts.{IsToothStart, StartData, upper_of}
use Rattle.hsvi_trial.specs.Thresholds.{threshold}

abbrev landing : ℕ → Landing
landing t = record { seen = 0; to = t; weight = pos 1 }

-- guess the state, with the discount 3/5
abbrev guess : GameData
guess = record {
  shape = record { states = 2; own_actions = 2; informed_actions = 1; observations = 1; row_total = pos 1; discount = (pos 3, pos 5) };
  first = pos 1 ∷ pos 1 ∷ [];
  rewards = pos 1 ∷ pos 0 ∷ pos 0 ∷ pos 1 ∷ [];
  rows = (landing 0 ∷ []) ∷ (landing 0 ∷ []) ∷ (landing 1 ∷ []) ∷ (landing 1 ∷ []) ∷ [];
}

abbrev hundredth : FractionData
hundredth = record { num = pos 1; den = pos 100 }

thresholds : map (threshold guess hundredth) (0 ∷ 1 ∷ 2 ∷ 3 ∷ 12 ∷ 13 ∷ []) ≡ 655 ∷ 1091 ∷ 1818 ∷ 3030 ∷ 300613 ∷ 327680 ∷ []
thresholds = refl

abbrev sets : Sets
sets = record { nodes = record { vector = pos 65536 ∷ pos 0 ∷ []; mix = pos 65536 ∷ pos 0 ∷ []; next = [] } ∷ []; points = toothed }

-- at the mass 65536 65536 the sawtooth is 32768 * 163840, and the node is worth 65536 * 65536
abbrev view : View
view = record {
  sets = sets;
  belief = pos 1 ∷ pos 1 ∷ [];
  informed = record { states = 2; actions = 1; weights = pos 65536 ∷ pos 65536 ∷ [] };
  own = pos 32768 ∷ pos 32768 ∷ [];
  threshold = pos (threshold guess hundredth 1);
}

excess : IsExcess view (pos 32768) halves (pos 465371136)
excess = record {
  high = pos (32768 * 163840);
  low = pos (65536 * 65536);
  node = 0;
  sawtooth = halves-sawtooth;
  worth = record {
    inside = omega arith;
    has = refl;
    greatest = one (λ i. (node_worth_at sets.nodes halves i) ≤ℤ pos (65536 * 65536)) (omega (arith, ints));
    first = λ i l. absurd (omega arith);
  };
  whole = pos 14202;
  floor = record { low = omega (arith, ints); high = omega (arith, ints) };
  same = refl;
}
  where
    one : (P : ℕ → Type 0) → P 0 → (i : ℕ) → i < 1 → P i
    one P p zero l = p
    one P p (suc i) l = absurd (omega arith)

abbrev start : StartData
start = record { node = 0; points = (0, pos 1) ∷ (2, pos 1) ∷ []; multiple = pos 2 }

-- divided by 32768 the items are (0, 1) and (2, 1), with the multiple 2
tooth_start : IsToothStart guess toothed start
tooth_start = record {
  items = halves_items;
  split = halves-split;
  listed = refl;
  lowest = record { divisor = 32768; times = refl; coprime = λ d divides. eq-one_of_dvd-one divides.0 };
  multiple = refl;
}

-- upper is 163840/262144
tooth_upper : upper_of guess sets start ≡ record { num = pos 163840; den = pos 262144 }
tooth_upper = refl
