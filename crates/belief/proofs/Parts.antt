-- Parts of beliefs.
use Rattle.std.proofs.Common.{◌≡◌, ℕ, zero, suc, ◌^◌, ◌<◌, ◌≤◌, List, length, set, replicate, take, refl, ap, arith, sym, subst, ◌∙◌}
use Rattle.std.specs.Prelude.{ℤ, pos}
use Rattle.std.specs.List.{AllByRecursion}
use Rattle.std.proofs.Math.Nat.{eq-one_of_dvd-one}
use Rattle.std.proofs.lemmas.Int.{ints}
use Rattle.std.proofs.Math.Seq.{take-set-lt}
use Rattle.std.proofs.lemmas.List.{length-set, length-replicate, take-replicate}
use Rattle.scaled_num.specs.Sums.{sum_of}
use Rattle.scaled_num.proofs.Floors.{sum-zeros}
use Rattle.game_model.specs.Game.{AreCoprime, GameData, IsBelief, IsGame, IsWithin}
use Rattle.belief.specs.Beliefs.{AreParts, corner_of}

abbrev pub IsWeight : ℤ → Type 0
IsWeight x = IsWithin (pos 0) (pos (2 ^ 20)) x

pub zeros-weights : (n : ℕ) → AllByRecursion IsWeight (replicate n (pos 0))
zeros-weights zero = tt
zeros-weights (suc n) = ((omega (arith, ints), omega (arith, ints)), zeros-weights n)

corner-weights : (n s : ℕ) → AllByRecursion IsWeight (corner_of n s)
corner-weights zero s = tt
corner-weights (suc n) zero = ((omega (arith, ints), omega (arith, ints)), zeros-weights n)
corner-weights (suc n) (suc s) = ((omega (arith, ints), omega (arith, ints)), corner-weights n s)

pub corner-sum : (n s : ℕ) → s < n → sum_of (corner_of n s) ≡ pos 1
corner-sum zero s l = absurd (omega arith)
corner-sum (suc n) zero l = omega (arith, ints, sum-zeros n)
corner-sum (suc n) (suc s) l = omega (arith, ints, corner-sum n s (omega arith))

corner-long : (n s : ℕ) → length (corner_of n s) ≡ n
corner-long n s = length-set (replicate n (pos 0)) s (pos 1) ∙ length-replicate n (pos 0)

corner-coprime : (n s : ℕ) → s < n → AreCoprime (corner_of n s)
corner-coprime zero s l d h = absurd (omega arith)
corner-coprime (suc n) zero l d h = eq-one_of_dvd-one h.0
corner-coprime (suc n) (suc s) l d h = corner-coprime n s (omega arith) d h.1

pub corner-parts : (n s : ℕ) → s < n → n ≤ 16 → AreParts (corner_of n s)
corner-parts n s l few = record {
  few = omega (arith, corner-long n s);
  belief = record {
    long = refl;
    each = corner-weights n s;
    sums = (omega (arith, ints, corner-sum n s l), omega (arith, ints, corner-sum n s l));
  };
  coprime = corner-coprime n s l;
}

-- the corner stands at the front of the array
pub corner-front : (n s : ℕ) → s < n → n ≤ 16 → take n (set (replicate 16 (pos 0)) s (pos 1)) ≡ corner_of n s
corner-front n s l few = take-set-lt n (replicate 16 (pos 0)) s (pos 1) l ∙ ap (λ (xs : List ℤ). set xs s (pos 1)) (take-replicate n 16 (pos 0) few)

pub first-parts : (g : GameData) → IsGame g → AreParts g.first
first-parts g h =
    let most = h.shape.states.1 in
    record {
      few = omega (arith, h.first.long);
      belief = subst (λ (n : ℕ). IsBelief n g.first) (sym h.first.long) h.first;
      coprime = h.coprime;
    }
