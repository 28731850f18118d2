-- The first belief in which each state is as likely.
use Rattle.std.proofs.Common.{◌≡◌, ℕ, zero, suc, ◌≤◌, List, [], ◌∷◌, map, replicate, refl, sym, subst, arith}
use Rattle.std.specs.Prelude.{ℤ, pos, negsuc, ◌*ℤ◌}
use Rattle.std.specs.List.{AllByRecursion}
use Rattle.std.proofs.Math.Nat.{eq-one_of_dvd-one}
use Rattle.std.proofs.lemmas.Int.{ints}
use Rattle.std.proofs.lemmas.List.{length-replicate}
use Rattle.scaled_num.specs.Sums.{sum_of}
use Rattle.game_model.specs.Game.{AreCoprime, IsBelief, IsWithin}

each-ones : (P : ℤ → Type 0) (n : ℕ) → P (pos 1) → AllByRecursion P (replicate n (pos 1))
each-ones P zero h = tt
each-ones P (suc n) h = (h, each-ones P n h)

sum-ones : (n : ℕ) → sum_of (replicate n (pos 1)) ≡ pos n
sum-ones zero = refl
sum-ones (suc n) = omega (arith, ints, sum-ones n)

pub ones_belief : (n : ℕ) → 1 ≤ n → n ≤ 16 → IsBelief n (replicate n (pos 1))
ones_belief n least most = record {
  long = length-replicate n (pos 1);
  each = each-ones (IsWithin (pos 0) (pos 1048576)) n (omega (arith, ints), omega (arith, ints));
  sums = subst (IsWithin (pos 1) (pos 1048576)) (sym (sum-ones n)) (omega (arith, ints), omega (arith, ints));
}

pub ones_coprime : (n : ℕ) → 1 ≤ n → AreCoprime (replicate n (pos 1))
ones_coprime zero least = absurd (omega arith)
ones_coprime (suc n) least = λ d all. eq-one_of_dvd-one all.0

-- what has 1 as a multiple is 1
one_part : (k : ℕ) (x : ℤ) → pos 1 ≡ pos k *ℤ x → x ≡ pos 1
one_part k (pos zero) e = absurd (omega (arith, ints))
one_part k (pos (suc zero)) e = refl
one_part zero (pos (suc (suc n))) e = absurd (omega (arith, ints))
one_part (suc k) (pos (suc (suc n))) e = absurd (omega (arith, ints))
one_part k (negsuc n) e = absurd (omega (arith, ints))

pub ones_kept : (n k : ℕ) (kept : List ℤ) → replicate n (pos 1) ≡ map (λ x. pos k *ℤ x) kept → kept ≡ replicate n (pos 1)
ones_kept zero k [] e = refl
ones_kept zero k (x ∷ kept) e = absurd (cc)
ones_kept (suc n) k [] e = absurd (cc)
ones_kept (suc n) k (x ∷ kept) e =
    let first : pos 1 ≡ pos k *ℤ x = cc in
    let rest : replicate n (pos 1) ≡ map (λ y. pos k *ℤ y) kept = cc in
    let one = one_part k x first in
    let ones = ones_kept n k kept rest in
    cc
