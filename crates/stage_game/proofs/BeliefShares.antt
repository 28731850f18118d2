-- The parts of a belief over its total.
use Rattle.std.proofs.Common.{ℕ, ◌^◌, ◌<◌, ◌≤◌, List, [], ◌∷◌, length, arith}
use Rattle.std.specs.Prelude.{ℤ, pos, ◌*ℤ◌, ◌≤ℤ◌}
use Rattle.std.specs.List.{AllByRecursion}
use Rattle.scaled_num.specs.Share.{at}
use Rattle.scaled_num.specs.Sums.{sum_of}
use Rattle.scaled_num.proofs.Floors.{All-from_recursion, at_le_sum}
use Rattle.scaled_num.proofs.Sums.{each-at}
use Rattle.game_model.specs.Game.{IsBelief, IsWithin}
use Rattle.stage_game.specs.Scaling.{most_scale, scale}
use Rattle.stage_game.proofs.Sizes.{IsQuotient, share-quotient}

pub low-each : (xs : List ℤ) → AllByRecursion (IsWithin (pos 0) (pos (2 ^ 20))) xs → AllByRecursion (λ x. pos 0 ≤ℤ x) xs
low-each [] h = tt
low-each (x ∷ xs) h = (h.0.0, low-each xs h.1)

pub record PartOf (part whole : ℤ) : Type 0 where
  pub low : pos 0 ≤ℤ part
  pub high : part ≤ℤ whole
  pub some : pos 1 ≤ℤ whole
  pub most : whole ≤ℤ pos (2 ^ 20)

pub part-of : (states : ℕ) (belief : List ℤ) → IsBelief states belief → (s : ℕ) → s < states → PartOf (at belief s) (sum_of belief)
part-of states belief h s l =
    let inside : s < length belief = omega (arith, h.long) in
    let low = low-each belief h.each in
    record {
      low = each-at (λ x. pos 0 ≤ℤ x) (pos 0) belief s low inside;
      high = at_le_sum belief s (All-from_recursion (λ x. pos 0 ≤ℤ x) belief low) inside;
      some = h.sums.0;
      most = h.sums.1;
    }

pub belief-quotient : (states : ℕ) (belief : List ℤ) → IsBelief states belief → (bits : ℕ) → 2 ^ bits ≤ most_scale → (s : ℕ) → s < states →
    IsQuotient (2 ^ bits) (scale bits *ℤ at belief s) (sum_of belief)
belief-quotient states belief h bits few s l = let p = part-of states belief h s l in share-quotient bits few (at belief s) (sum_of belief) p.low p.high p.some p.most
