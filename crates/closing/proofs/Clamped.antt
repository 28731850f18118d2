-- Weights that are brought into a range, and what is shared by them.
use Rattle.std.proofs.Common.{◌≡◌, ◌^◌, ◌*◌, ℕ, ◌<◌, ◌≤◌, [], List, length, sym, subst, ap, refl, ◌∙◌, arith}
use Rattle.std.specs.Prelude.{ℤ, pos, flat_map, ◌*ℤ◌, ◌≤ℤ◌}
use Rattle.std.specs.List.{All}
use Rattle.std.proofs.lemmas.Int.{ints}
use Rattle.std.proofs.Math.Nat.{mul-le-mul_right}
use Rattle.scaled_num.proofs.Floors.{All-at, All-to_recursion, product_le}
use Rattle.scaled_num.proofs.Sums.{sum-most}
use Rattle.scaled_num.specs.Sums.{below, sum_of}
use Rattle.belief.specs.Beliefs.{mixes_for}
use Rattle.game_model.specs.Branches.{mix_total}
use Rattle.game_model.specs.Game.{GameData, IsWithin}
use Rattle.stage_game.specs.Fits.{MixesFit}
use Rattle.stage_game.proofs.Families.{Adds}
use Rattle.stage_game.proofs.SharedTotals.{ArePartsOf}
use Rattle.stage_game.proofs.StateMixes.{are-mixes}

pub clamped-sum : (xs : List ℤ) → All (λ x. IsWithin (pos 0) (pos (2 ^ 80)) x) xs → length xs ≤ 1024 → sum_of xs ≤ℤ pos (2 ^ 100)
clamped-sum xs within few =
    let most : sum_of xs ≤ℤ pos (length xs * 2 ^ 80) = sum-most (2 ^ 80) xs (All-to_recursion (λ x. IsWithin (pos 0) (pos (2 ^ 80)) x) xs within) in
    let size : length xs * 2 ^ 80 ≤ 1024 * 2 ^ 80 = mul-le-mul_right (2 ^ 80) few in
    omega (arith, ints, most, size)

pub small-product : (s x : ℤ) → s ≤ℤ pos (2 ^ 100) → pos 0 ≤ℤ x → x ≤ℤ pos 65536 → (s *ℤ x) ≤ℤ pos (2 ^ 126)
small-product s x small low most = let product : (s *ℤ x) ≤ℤ (pos (2 ^ 100) *ℤ x) = product_le s (pos (2 ^ 100)) x low small in omega (arith, ints, product)

pub clamped-positive : (xs : List ℤ) → All (λ x. IsWithin (pos 0) (pos (2 ^ 80)) x) xs → All (λ x. pos 0 ≤ℤ x) xs
clamped-positive xs within = All-at (λ x. pos 0 ≤ℤ x) xs (λ i l. (within i (pos 0) l).0)

-- the mixes that a loop has written, state by state
pub written-mixes : (g : GameData) (count : ℕ) (written items : List ℤ) → count ≡ g.shape.states → items ≡ written
    → Adds {X = List ℤ} {Y = ℤ} (λ s mix. ArePartsOf (pos mix_total) g.shape.informed_actions mix) (λ mix. mix) count [] written → MixesFit g (mixes_for g items)
written-mixes g count written items done e adds =
    let all : items ≡ flat_map adds.made.value (below g.shape.states) = e ∙ adds.same ∙ adds.made.same ∙ ap (λ (n : ℕ). flat_map adds.made.value (below n)) done in
    subst (λ (xs : List ℤ). MixesFit g (mixes_for g xs)) (sym all) (record {
      states = refl;
      actions = refl;
      right = are-mixes g.shape.states g.shape.informed_actions adds.made.value (λ s l. adds.made.right s (subst (λ (n : ℕ). s < n) (sym done) l));
    })
