-- The gain of steps is within the limit of plays.
use Rattle.std.proofs.Common.{◌≡◌, ℕ, zero, suc, ◌+◌, ◌*◌, ◌^◌, ◌<◌, ◌≤◌, ◌-◌, List, [], ◌∷◌, drop, get_or, length, length-drop, arith, ap, ◌∙◌}
use Rattle.std.specs.Prelude.{ℤ, pos, ◌+ℤ◌, ◌*ℤ◌, FitsSigned, max, unsigned_abs}
use Rattle.std.specs.List.{AllByRecursion}
use Rattle.std.proofs.lemmas.Int.{fits_signed_from_abs, unsigned_abs-mul}
use Rattle.std.specs.Int.{w128}
use Rattle.std.proofs.Math.Nat.{one-le-pow, pow-zero}
use Rattle.std.proofs.Math.Seq.{drop-cons}
use Rattle.std.proofs.lemmas.Nat.{mul-le}
use Rattle.scaled_num.proofs.Products.{abs-add}
use Rattle.game_model.specs.Game.{GameData, IsGame, greatest_reward, numbers}
use Rattle.game_model.proofs.Games.{reward-bound}
use Rattle.simulate.specs.Lengths.{IsInGame, IsShortPlay, most_gain}
use Rattle.simulate.specs.Plays.{gain_of}
use Rattle.simulate.specs.declared.parts.Played.{Played}
use Rattle.simulate.proofs.Lengths.{gain-rises, has-limits, power}

reward-most : (g : GameData) → IsGame g → (played : Played) → IsInGame g played → unsigned_abs ((numbers g).reward played.state played.own played.informed) ≤ max 1 (greatest_reward g)
reward-most g game played h = omega (arith, reward-bound g game played.state played.own played.informed h.0 h.1 h.2)

-- a reward and the gain of the rest
step : (R Q P r v n p : ℕ) → r ≤ R → P ≤ Q → v ≤ n * R * p → r * (p * Q) + P * v ≤ suc n * R * (p * Q)
step R Q P r v n p lr lp lv =
    let first : r * (p * Q) ≤ R * (p * Q) = mul-le r (p * Q) R (p * Q) lr (omega arith) in
    let second : P * v ≤ Q * (n * R * p) = mul-le P v Q (n * R * p) lp lv in
    let same : Q * (n * R * p) ≡ n * (R * (p * Q)) = omega arith in
    let split : suc n * R * (p * Q) ≡ R * (p * Q) + n * (R * (p * Q)) = omega arith in
    omega (arith, first, second, same, split)

pub gain-most : (g : GameData) → IsGame g → (steps : List Played) → AllByRecursion (IsInGame g) steps → unsigned_abs (gain_of (numbers g) steps) ≤ most_gain g (length steps)
gain-most g game [] h = omega arith
gain-most g game (played ∷ rest) h =
    let Q : ℕ = (numbers g).discount_under in
    let P : ℕ = (numbers g).discount_over in
    let R : ℕ = max 1 (greatest_reward g) in
    let n : ℕ = length rest in
    let reward : ℤ = (numbers g).reward played.state played.own played.informed in
    let product : unsigned_abs (reward *ℤ pos (Q ^ suc n)) ≡ unsigned_abs reward * (Q ^ n * Q) = unsigned_abs-mul reward (pos (Q ^ suc n)) ∙ ap (λ (x : ℕ). unsigned_abs reward * x) (power Q n) in
    let limit : suc n * R * Q ^ suc n ≡ suc n * R * (Q ^ n * Q) = ap (λ (x : ℕ). suc n * R * x) (power Q n) in
    omega (
      arith,
      abs-add (reward *ℤ pos (Q ^ suc n)) (pos P *ℤ gain_of (numbers g) rest),
      product,
      limit,
      unsigned_abs-mul (pos P) (gain_of (numbers g) rest),
      step R Q P (unsigned_abs reward) (unsigned_abs (gain_of (numbers g) rest)) n (Q ^ n) (reward-most g game played h.0) (has-limits g game).over (gain-most g game rest h.1),
    )

-- ---- the last stages of a play
each-drop : {X : Type 0} (P : X → Type 0) (n : ℕ) (xs : List X) → AllByRecursion P xs → AllByRecursion P (drop n xs)
each-drop P zero xs h = h
each-drop P (suc n) [] h = tt
each-drop P (suc n) (x ∷ xs) h = each-drop P n xs h.1

last-long : {X : Type 0} (xs : List X) (n : ℕ) → n ≤ length xs → length (drop (length xs - n) xs) ≡ n
last-long xs n l = omega (arith, length-drop (length xs - n) xs)

pub last-next : (xs : List Played) (n : ℕ) (d : Played) → n < length xs → drop (length xs - (n + 1)) xs ≡ get_or xs (length xs - 1 - n) d ∷ drop (length xs - n) xs
last-next xs n d l =
    let here : length xs - 1 - n ≡ length xs - (n + 1) = omega arith in
    let next : suc (length xs - (n + 1)) ≡ length xs - n = omega arith in
    rw (here, ← next) (drop-cons xs (length xs - (n + 1)) d (omega arith))

-- the gain of one stage more
pub gain-next : (g : GameData) (xs : List Played) (n : ℕ) (d : Played) → n < length xs →
    let step = get_or xs (length xs - 1 - n) d in
    gain_of (numbers g) (drop (length xs - (n + 1)) xs)
    ≡ (numbers g).reward step.state step.own step.informed *ℤ pos ((numbers g).discount_under ^ suc n) +ℤ pos (numbers g).discount_over *ℤ gain_of (numbers g) (drop (length xs - n) xs)
gain-next g xs n d l =
    let step : Played = get_or xs (length xs - 1 - n) d in
    let rest : List Played = drop (length xs - n) xs in
    ap (gain_of (numbers g)) (last-next xs n d l)
    ∙ ap (λ (m : ℕ). (numbers g).reward step.state step.own step.informed *ℤ pos ((numbers g).discount_under ^ suc m) +ℤ pos (numbers g).discount_over *ℤ gain_of (numbers g) rest) (last-long xs n (omega arith))

-- what one stage more takes stays within the limit
pub stages-fit : (g : GameData) (n m : ℕ) → IsGame g → IsShortPlay g m → n < m → suc n * max 1 (greatest_reward g) * (numbers g).discount_under ^ suc n ≤ 2 ^ 120
stages-fit g n m game short l =
    let rises = gain-rises (max 1 (greatest_reward g)) (numbers g).discount_under (suc n) m (has-limits g game).some l in
    let most = short.1 in
    omega (arith, rises, most)

pub power-fits : (g : GameData) (n m : ℕ) → IsGame g → IsShortPlay g m → n < m → max 1 (greatest_reward g) * (numbers g).discount_under ^ suc n ≤ 2 ^ 120
power-fits g n m game short l =
    let one : 1 * max 1 (greatest_reward g) ≤ suc n * max 1 (greatest_reward g) = mul-le 1 (max 1 (greatest_reward g)) (suc n) (max 1 (greatest_reward g)) (omega arith) (omega arith) in
    let less = mul-le (1 * max 1 (greatest_reward g)) ((numbers g).discount_under ^ suc n) (suc n * max 1 (greatest_reward g)) ((numbers g).discount_under ^ suc n) one (omega arith) in
    let same : 1 * max 1 (greatest_reward g) ≡ max 1 (greatest_reward g) = omega arith in
    let whole = stages-fit g n m game short l in
    le-trans (rw same at less) whole
  where
    le-trans : {a b c : ℕ} → a ≤ b → b ≤ c → a ≤ c
    le-trans {a} {b} {c} h k = omega arith

pub later-fits : (g : GameData) (xs : List Played) (n : ℕ) → IsGame g → AllByRecursion (IsInGame g) xs → IsShortPlay g (length xs) → n < length xs →
    (numbers g).discount_under * unsigned_abs (gain_of (numbers g) (drop (length xs - n) xs)) ≤ 2 ^ 120
later-fits g xs n game each short l =
    let Q : ℕ = (numbers g).discount_under in
    let R : ℕ = max 1 (greatest_reward g) in
    let rest : List Played = drop (length xs - n) xs in
    let most = rw (last-long xs n (omega arith)) at (gain-most g game rest (each-drop (IsInGame g) (length xs - n) xs each)) in
    fits n R Q (Q ^ n) (unsigned_abs (gain_of (numbers g) rest)) most (rw (power Q n) at (stages-fit g n (length xs) game short l))
  where
    fits : (n R Q p v : ℕ) → v ≤ n * R * p → suc n * R * (p * Q) ≤ 2 ^ 120 → Q * v ≤ 2 ^ 120
    fits n R Q p v h k =
        let product = mul-le Q v Q (n * R * p) (omega arith) h in
        let split : suc n * R * (p * Q) ≡ R * (p * Q) + Q * (n * R * p) = omega arith in
        omega (arith, product, split, k)

-- the power of the denominator that a play takes
pub power-some : (g : GameData) (n : ℕ) → IsGame g → 1 ≤ (numbers g).discount_under ^ n
power-some g n game = one-le-pow n (numbers g).discount_under (has-limits g game).some

pub power-small : (g : GameData) (n : ℕ) → IsGame g → IsShortPlay g n → (numbers g).discount_under ^ n ≤ 2 ^ 120
power-small g zero game short = let none = pow-zero (numbers g).discount_under in rw none (omega arith)
power-small g (suc n) game short =
    let p : ℕ = (numbers g).discount_under ^ suc n in
    let R : ℕ = max 1 (greatest_reward g) in
    let fits = power-fits g n (suc n) game short (omega arith) in
    let whole : 1 * p ≤ R * p = mul-le 1 p R p (omega arith) (omega arith) in
    omega (arith, fits, whole)

-- ---- two products and their sum
pub record IsSum (r : ℤ) (p : ℕ) (o l : ℤ) : Type 0 where
  pub r_fits : FitsSigned w128 r
  pub p_fits : p < 2 ^ 127
  pub o_fits : FitsSigned w128 o
  pub l_fits : FitsSigned w128 l
  pub first_fits : FitsSigned w128 (r *ℤ pos p)
  pub second_fits : FitsSigned w128 (o *ℤ l)
  pub sum_fits : FitsSigned w128 (r *ℤ pos p +ℤ o *ℤ l)

pub is-sum : (r : ℤ) (p : ℕ) (o l : ℤ) → unsigned_abs r ≤ 2 ^ 30 → p ≤ 2 ^ 120 → unsigned_abs r * p ≤ 2 ^ 120 → unsigned_abs o ≤ 2 ^ 20 → unsigned_abs l ≤ 2 ^ 120 → unsigned_abs o * unsigned_abs l ≤ 2 ^ 120 → IsSum r p o l
is-sum r p o l hr hp first ho hl second =
    let one = unsigned_abs-mul r (pos p) in
    let two = unsigned_abs-mul o l in
    let both = abs-add (r *ℤ pos p) (o *ℤ l) in
    record {
      r_fits = fits_signed_from_abs w128 r (omega (arith, hr));
      p_fits = omega (arith, hp);
      o_fits = fits_signed_from_abs w128 o (omega (arith, ho));
      l_fits = fits_signed_from_abs w128 l (omega (arith, hl));
      first_fits = fits_signed_from_abs w128 (r *ℤ pos p) (omega (arith, one, first));
      second_fits = fits_signed_from_abs w128 (o *ℤ l) (omega (arith, two, second));
      sum_fits = fits_signed_from_abs w128 (r *ℤ pos p +ℤ o *ℤ l) (omega (arith, both, one, two, first, second));
    }
