-- There is a first action of the greatest product, since every action has a seed vector.
use Rattle.std.proofs.Common.{◌≡◌, ℕ, suc, zero, ◌+◌, ◌≤◌, refl, subst, arith}
use Rattle.std.specs.Prelude.{ℤ}
use Rattle.std.proofs.lemmas.Int.{by_lt_z}
use Rattle.game_model.specs.Game.{GameData, IsGame, first_at, numbers}
use Rattle.game_model.specs.Numbers.{product}
use Rattle.game_model.specs.Seeds.{SeedsExist, seed_rounds}
use Rattle.osposg_cli.specs.Floor.{IsFloor, IsSeedProduct}
use Rattle.osposg_cli.proofs.Choice.{IsBest, first-best, kept-best, new-best, whole-best}

product-some : SeedsExist → (g : GameData) → IsGame g → (a : ℕ) → (x : ℤ) × IsSeedProduct g a x
product-some exist g game a =
    let seed = exist g game a seed_rounds in
    (product (numbers g) (first_at g) seed.0, (seed.0, seed.1, refl))

best-some : SeedsExist → (g : GameData) → IsGame g → (n : ℕ) → (a : ℕ) × (lower : ℤ) × IsBest g (suc n) a lower
best-some exist g game zero =
    let found = product-some exist g game 0 in
    (0, found.0, first-best g found.0 found.1)
best-some exist g game (suc n) =
    let best = best-some exist g game n in
    let next = product-some exist g game (suc n) in
    let same : suc n + 1 ≡ suc (suc n) = omega arith in
    by_lt_z best.1 next.0
    (λ more. (suc n, next.0, subst (λ (k : ℕ). IsBest g k (suc n) next.0) same (new-best g (suc n) best.0 best.1 next.0 best.2 next.1 more)))
    (λ less. (best.0, best.1, subst (λ (k : ℕ). IsBest g k best.0 best.1) same (kept-best g (suc n) best.0 best.1 next.0 best.2 next.1 less)))

best-of : SeedsExist → (g : GameData) → IsGame g → (n : ℕ) → 1 ≤ n → n ≡ g.shape.own_actions → (a : ℕ) × (lower : ℤ) × IsFloor g a lower
best-of exist g game zero l e = absurd (omega arith)
best-of exist g game (suc n) l e =
    let best = best-some exist g game n in
    (best.0, best.1, whole-best g (suc n) best.0 best.1 e best.2)

-- there is a first action of the greatest product
pub floor-some : SeedsExist → (g : GameData) → IsGame g → (a : ℕ) × (lower : ℤ) × IsFloor g a lower
floor-some exist g game = best-of exist g game g.shape.own_actions game.shape.own_actions.0 refl
