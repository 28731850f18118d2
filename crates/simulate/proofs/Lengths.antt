-- How long plays may be.
use Rattle.std.proofs.Common.{◌≡◌, ℕ, zero, suc, ◌+◌, ◌*◌, ◌/◌, ◌%◌, ◌^◌, ◌<◌, ◌≤◌, max, List, [], ◌∷◌, ap, arith, inl, inr, ◌⊎◌, ◌∙◌}
use native.Mathlib.Numerals.{unary_clauses}
use Rattle.std.specs.Prelude.{ℤ, fold, unsigned_abs}
use Rattle.std.specs.List.{AllByRecursion}
use Rattle.std.proofs.Math.Nat.{pow-le-pow_right, pow-zero}
use Rattle.std.proofs.lemmas.Bool.{cases_order}
use Rattle.std.proofs.lemmas.Int.{ints}
use Rattle.std.proofs.lemmas.Nat.{div-add-mod', div_below, le-div, mod_below, mul-le}
use Rattle.game_model.specs.Game.{GameData, IsGame, IsRewardInRange, greatest_reward, numbers}
use Rattle.game_model.proofs.Pay.{each-from}
use Rattle.simulate.specs.Lengths.{IsLongest, IsShortPlay, LengthsAreOne, most_gain}

-- ---- the limits of a game
greatest-small : (rewards : List ℤ) (n : ℕ) → n ≤ 2 ^ 30 → AllByRecursion IsRewardInRange rewards → fold (λ most r. max most (unsigned_abs r)) n rewards ≤ 2 ^ 30
greatest-small [] n l h = l
greatest-small (r ∷ rs) n l h =
    let low = h.0.0 in
    let high = h.0.1 in
    greatest-small rs (max n (unsigned_abs r)) (omega (arith, ints)) h.1

pub record HasLimits (g : GameData) : Type 0 where
  pub reward : greatest_reward g ≤ 2 ^ 30
  pub some : 1 ≤ (numbers g).discount_under
  pub under : (numbers g).discount_under ≤ 2 ^ 20
  pub over : (numbers g).discount_over ≤ (numbers g).discount_under

pub has-limits : (g : GameData) → IsGame g → HasLimits g
has-limits g game =
    let zero_low = game.shape.discount.0 in
    let low = game.shape.discount.1 in
    let high = game.shape.discount.2 in
    record {
      reward = greatest-small g.rewards 0 (omega arith) (each-from _ IsRewardInRange g.rewards (λ r h. h.0) game.rewards);
      some = omega (arith, ints);
      under = omega (arith, ints);
      over = omega (arith, ints);
    }

-- ---- more stages may gain more
pub gain-rises : (R Q m n : ℕ) → 1 ≤ Q → m ≤ n → m * R * Q ^ m ≤ n * R * Q ^ n
gain-rises R Q m n some l =
    let front : m * R ≤ n * R = mul-le m R n R l (omega arith) in
    mul-le (m * R) (Q ^ m) (n * R) (Q ^ n) front (pow-le-pow_right {n = Q} some l)

pub shorter : (g : GameData) (m n : ℕ) → IsGame g → m ≤ n → IsShortPlay g n → IsShortPlay g m
shorter g m n game l h =
    let rises = gain-rises (max 1 (greatest_reward g)) (numbers g).discount_under m n (has-limits g game).some l in
    let few = h.0 in
    let most = h.1 in
    (omega (arith, few, l), omega (arith, rises, most))

pub longest-is : (g : GameData) (n : ℕ) → IsGame g → IsShortPlay g n → (IsShortPlay g (suc n) → ⊥) → IsLongest g n
longest-is g n game short more m = (
  (λ l. shorter g m n game l short),
  (λ h. at-most m n (λ l. more (shorter g (suc n) m game l h))),
)
  where
    at-most : (m n : ℕ) → (suc n ≤ m → ⊥) → m ≤ n
    at-most m n h = grind (arith, h)

-- so many stages reach the most, or gain more than the limit
pub ends-at_most : (g : GameData) → IsShortPlay g 65 → ⊥
ends-at_most g h = let few = h.0 in omega (arith, few)

-- ---- the test of one more stage
pub record IsEach (n R Q each : ℕ) : Type 0 where
  pub is : each ≡ suc n * R * Q
  pub some : 1 ≤ each
  pub half : suc n * R ≤ 2 ^ 36
  pub small : each ≤ 2 ^ 56
  pub under : Q ≤ each

pub is-each : (n R Q : ℕ) → n < 64 → 1 ≤ R → R ≤ 2 ^ 30 → 1 ≤ Q → Q ≤ 2 ^ 20 → IsEach n R Q (suc n * R * Q)
is-each n R Q few low high some small =
    let half : suc n * R ≤ 64 * 2 ^ 30 = mul-le (suc n) R 64 (2 ^ 30) few high in
    let one : 1 * 1 ≤ suc n * R = mul-le 1 1 (suc n) R (omega arith) low in
    record {
      is = omega arith;
      some = mul-le 1 1 (suc n * R) Q (omega (arith, one)) some;
      half = omega (arith, half);
      small = let whole = mul-le (suc n * R) Q (64 * 2 ^ 30) (2 ^ 20) half small in omega (arith, whole);
      under = let more = mul-le 1 Q (suc n * R) Q (omega (arith, one)) (omega arith) in omega (arith, more);
    }

pub fits-more : (power each most : ℕ) → 1 ≤ each → power ≤ most / each → power * each ≤ most
fits-more power each most some h =
    let whole = div-add-mod' most each in
    let product = mul-le power each (most / each) each h (omega arith) in
    omega (arith, whole, product)

pub passes : (power each most : ℕ) → 1 ≤ each → most / each < power → power * each ≤ most → ⊥
passes power each most some h l =
    let fits = le-div power most each some l in
    omega (arith, fits, h)

pub power : (Q n : ℕ) → Q ^ suc n ≡ Q ^ n * Q
power Q n = simp unary_clauses (omega arith)

one-power : (Q : ℕ) → Q ^ 1 ≡ Q
one-power Q = let none = pow-zero Q in power Q 0 ∙ rw none (omega arith)

more-gain : (n R Q p : ℕ) → p * (suc n * R * Q) ≡ suc n * R * (p * Q)
more-gain n R Q p = omega arith

-- one more stage where the test lets it pass, and none where it does not
pub one-more : (g : GameData) (n : ℕ) → IsGame g → n < 64 → (numbers g).discount_under ^ n ≤ 2 ^ 120 / (suc n * max 1 (greatest_reward g) * (numbers g).discount_under) → most_gain g (suc n) ≤ 2 ^ 120
one-more g n game few h =
    let limits = has-limits g game in
    let Q : ℕ = (numbers g).discount_under in
    let R : ℕ = max 1 (greatest_reward g) in
    let each = is-each n R Q few (omega arith) (let reward = limits.reward in omega (arith, reward)) limits.some limits.under in
    let fits = fits-more (Q ^ n) (suc n * R * Q) (2 ^ 120) each.some h in
    rw (power Q n) (omega (arith, fits, more-gain n R Q (Q ^ n)))

pub no-more : (g : GameData) (n : ℕ) → IsGame g → n < 64 → 2 ^ 120 / (suc n * max 1 (greatest_reward g) * (numbers g).discount_under) < (numbers g).discount_under ^ n → IsShortPlay g (suc n) → ⊥
no-more g n game few h short =
    let limits = has-limits g game in
    let Q : ℕ = (numbers g).discount_under in
    let R : ℕ = max 1 (greatest_reward g) in
    let each = is-each n R Q few (omega arith) (let reward = limits.reward in omega (arith, reward)) limits.some limits.under in
    let most = rw (power Q n) at short.1 in
    passes (Q ^ n) (suc n * R * Q) (2 ^ 120) each.some h (omega (arith, most, more-gain n R Q (Q ^ n)))

-- one stage is within the limit
pub one-short : (g : GameData) → IsGame g → IsShortPlay g 1
one-short g game =
    let limits = has-limits g game in
    let reward = limits.reward in
    let product = mul-le (max 1 (greatest_reward g)) (numbers g).discount_under (2 ^ 30) (2 ^ 20) (omega (arith, reward)) limits.under in
    (omega arith, rw (one-power (numbers g).discount_under) (omega (arith, product)))

-- so a test that lets none pass has passed one before
pub some-passed : (g : GameData) (n : ℕ) → IsGame g → (IsShortPlay g (suc n) → ⊥) → 1 ≤ n
some-passed g zero game more = absurd (more (one-short g game))
some-passed g (suc n) game more = omega arith

-- ---- the number of a triple as its state and actions
pub record IsTriple (S A C i : ℕ) : Type 0 where
  pub state : i / C / A < S
  pub own : i / C % A < A
  pub informed : i % C < C
  pub is : (i / C / A * A + i / C % A) * C + i % C ≡ i

pub is-triple : (S A C i : ℕ) → 0 < A → 0 < C → i < S * A * C → IsTriple S A C i
is-triple S A C i own informed l = record {
  state = div_below (i / C) A S own (div_below i C (S * A) informed l);
  own = mod_below (i / C) A own;
  informed = mod_below i C informed;
  is = ap (λ (n : ℕ). n * C + i % C) (div-add-mod' (i / C) A) ∙ div-add-mod' i C;
}

few-or-many : (n most : ℕ) → (n ≤ most) ⊎ (most < n)
few-or-many n most = elim (cases_order n most) [ inl e ↦ inl (omega (arith, e)) | inr l ↦ elim l [ inl a ↦ inl (omega (arith, a)) | inr b ↦ inr b ] ]

-- ---- every game has one greatest number of stages
longest-from : (g : GameData) (n : ℕ) → IsGame g → n ≤ 64 → (IsShortPlay g (suc n) → ⊥) → (m : ℕ) × IsLongest g m
longest-from g zero game few more = (0, longest-is g 0 game (omega arith, omega arith) more)
longest-from g (suc n) game few more =
    either (few-or-many (most_gain g (suc n)) (2 ^ 120))
    (λ fits. (suc n, longest-is g (suc n) game (few, fits) more))
    (λ beyond. longest-from g n game (omega arith) (λ short. let fits = short.1 in omega (arith, fits, beyond)))
  where
    either : {A B C : Type 0} → A ⊎ B → (A → C) → (B → C) → C
    either (inl a) f h = f a
    either (inr b) f h = h b

pub lengths-are_one : LengthsAreOne
lengths-are_one = record {
  some = λ g game. longest-from g 64 game (omega arith) (ends-at_most g);
  one = λ g n m h k.
      let first : n ≤ m = (k n).1 ((h n).0 (omega arith)) in
      let second : m ≤ n = (h m).1 ((k m).0 (omega arith)) in
      omega arith;
}
