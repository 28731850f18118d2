-- Every action has a vector after each number of rounds.
use Rattle.std.proofs.Common.{◌≡◌, ℕ, suc, zero, ◌+◌, ◌*◌, ◌≤◌, refl, subst, arith}
use Rattle.std.specs.Prelude.{ℤ, pos, neg_ℤ, ◌<ℤ◌, unsigned_abs}
use Rattle.std.specs.Int.{int_min}
use Rattle.std.proofs.lemmas.Int.{ints}
use Rattle.scaled_num.proofs.Rounded.{rounded-down}
use Rattle.game_model.proofs.Games.{keeps-span}
use Rattle.game_model.proofs.Least.{floor-least, least-more, least-one}
use Rattle.game_model.specs.Bounds.{IsLeastOf}
use Rattle.game_model.specs.Game.{GameData, IsGame, numbers, span}
use Rattle.game_model.specs.Seeds.{IsLeastFloor, SeedsExist, stage_worth}

-- the least of so many numbers and one more
least-some : (f : ℕ → ℤ) (n : ℕ) → (x : ℤ) × IsLeastOf f (suc n) x
least-some f zero = (f 0, least-one f (f 0) refl)
least-some f (suc n) =
    let found = least-some f n in
    let next = least-more f (suc n) found.0 (f (suc n)) found.1 refl in
    let same : suc n + 1 ≡ suc (suc n) = omega arith in
    let least = int_min found.0 (f (suc n)) in
    (least, subst (λ (k : ℕ). IsLeastOf f k least) same next)

least-of : (f : ℕ → ℤ) (n : ℕ) → 1 ≤ n → (x : ℤ) × IsLeastOf f n x
least-of f zero l = absurd (omega arith)
least-of f (suc n) l = least-some f n

under-positive : (d q : ℕ) → 1 ≤ d → 1 ≤ q → pos 0 <ℤ pos (d * q)
under-positive zero q h k = absurd (omega arith)
under-positive (suc d) zero h k = absurd (omega arith)
under-positive (suc d) (suc q) h k = omega (arith, ints)

entry-some : (g : GameData) → IsGame g → (a s : ℕ) (old : ℕ → ℤ) → (x : ℤ) × IsLeastFloor (numbers g) a old s x
entry-some g game a s old =
    let least = least-of (stage_worth (numbers g) a old s) g.shape.informed_actions game.shape.informed_actions.0 in
    let keeps = keeps-span g game in
    let d = unsigned_abs g.shape.row_total in
    let under = unsigned_abs g.shape.discount.1 in
    let some : 1 ≤ under = let l = keeps.discount in omega arith in
    let q = rounded-down least.0 (pos (d * under)) (under-positive d under keeps.whole some) in
    (q.0, floor-least g a s old least.0 q.0 least.1 q.1.0 q.1.1)

pub seeds-exist : SeedsExist
seeds-exist g game a zero = ((λ s. neg_ℤ (pos (span g))), λ s l. refl)
seeds-exist g game a (suc n) =
    let old = seeds-exist g game a n in
    ((λ s. (entry-some g game a s old.0).0), (old.0, old.1, λ s l. (entry-some g game a s old.0).1))
