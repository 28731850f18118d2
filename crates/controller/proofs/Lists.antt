-- Tests of lists: entries in range, branches that rise, and sums of weights.
use Rattle.std.proofs.Common.{◌≡◌, ℕ, zero, suc, ◌+◌, ◌-◌, ◌*◌, ◌^◌, ◌<◌, ◌≤◌, Bool, true, false, cond, ◌&&◌, ◌==◌, List, [], ◌∷◌, length, map, get_or, take, refl, ap, arith, sym, subst, ◌∙◌}
use Rattle.std.specs.Prelude.{ℤ, pos, neg_ℤ, ◌+ℤ◌, ◌-ℤ◌, ◌≤ℤ◌, FitsSigned}
use Rattle.std.specs.List.{AllByRecursion}
use Rattle.std.specs.Int.{w128}
use Rattle.std.proofs.lemmas.Int.{ints, fits_signed_from_abs}
use Rattle.scaled_num.specs.Sums.{total}
use Rattle.scaled_num.proofs.Sums.{each-at}
use Rattle.game_model.specs.Branches.{AreRising, Branch, IsBranchBefore, branches_at}
use Rattle.game_model.specs.Game.{IsWithin}
use Rattle.game_model.proofs.Sizes.{total-more}

-- branches that rise come each before the next
pub rising-from : {X : Type 0} (f : X → Branch) (d : X) (xs : List X) → ((k : ℕ) → suc k < length xs → IsBranchBefore (f (get_or xs k d)) (f (get_or xs (suc k) d))) → AreRising (map f xs)
rising-from f d [] h = tt
rising-from f d (x ∷ []) h = tt
rising-from f d (x ∷ y ∷ rest) h = (h 0 (omega arith), rising-from f d (y ∷ rest) (λ k l. h (suc k) (omega arith)))

pub rising-at : {X : Type 0} (f : X → Branch) (d : X) (xs : List X) → AreRising (map f xs) → (k : ℕ) → suc k < length xs → IsBranchBefore (f (get_or xs k d)) (f (get_or xs (suc k) d))
rising-at f d [] h k l = absurd (omega arith)
rising-at f d (x ∷ []) h k l = absurd (omega arith)
rising-at f d (x ∷ y ∷ rest) h zero l = h.0
rising-at f d (x ∷ y ∷ rest) h (suc k) l = rising-at f d (y ∷ rest) h.1 k (omega arith)

-- a sum over the first elements, each of whose terms is 0 to 65536
pub record SoFar {X : Type 0} (f : X → ℤ) (xs : List X) (i : ℕ) (sum : ℤ) : Type 0 where
  pub is : sum ≡ total f (take i xs)
  pub low : pos 0 ≤ℤ sum
  pub high : sum ≤ℤ pos (i * 65536)

pub record Next {X : Type 0} (f : X → ℤ) (xs : List X) (d : X) (i : ℕ) (sum : ℤ) : Type 0 where
  pub term_fits : FitsSigned w128 (f (get_or xs i d))
  pub sum_fits : FitsSigned w128 (sum +ℤ f (get_or xs i d))
  pub so_far : SoFar f xs (i + 1) (sum +ℤ f (get_or xs i d))

pub so_far-none : {X : Type 0} (f : X → ℤ) (xs : List X) → SoFar f xs 0 (pos 0)
so_far-none f xs = record { is = refl; low = omega (arith, ints); high = omega (arith, ints) }

pub next : {X : Type 0} (f : X → ℤ) (xs : List X) (d : X) (i : ℕ) (sum : ℤ) → i < length xs → length xs ≤ 2 ^ 64 → AllByRecursion (λ x. IsWithin (pos 0) (pos 65536) (f x)) xs → SoFar f xs i sum → Next f xs d i sum
next f xs d i sum l few each so_far =
    let x : ℤ = f (get_or xs i d) in
    let w = each-at (λ x. IsWithin (pos 0) (pos 65536) (f x)) d xs i each l in
    let low = w.0 in
    let high = w.1 in
    let before_low = so_far.low in
    let before_high = so_far.high in
    let sum_low : pos 0 ≤ℤ (sum +ℤ x) = omega (arith, ints) in
    let sum_high : (sum +ℤ x) ≤ℤ pos ((i + 1) * 65536) = omega (arith, ints) in
    record {
      term_fits = fits_signed_from_abs w128 x (omega (arith, ints));
      sum_fits = fits_signed_from_abs w128 (sum +ℤ x) (omega (arith, ints));
      so_far = record { is = ap (λ (z : ℤ). z +ℤ x) so_far.is ∙ sym (total-more f xs i d l); low = sum_low; high = sum_high };
    }

-- nothing added
pub same-sum : {X : Type 0} (f : X → ℤ) (xs : List X) (d : X) (i : ℕ) (sum : ℤ) → i < length xs → f (get_or xs i d) ≡ pos 0 → SoFar f xs i sum → SoFar f xs (i + 1) sum
same-sum f xs d i sum l none so_far =
    let before_high = so_far.high in
    record {
      is = so_far.is ∙ alike (total f (take i xs)) ∙ ap (λ (z : ℤ). total f (take i xs) +ℤ z) (sym none) ∙ sym (total-more f xs i d l);
      low = so_far.low;
      high = omega (arith, ints);
    }
  where
    alike : (z : ℤ) → z ≡ z +ℤ pos 0
    alike z = omega (arith, ints)

-- the weights after an own action and an observation
abbrev pub weight_at : {X : Type 0} → (X → Branch) → ℕ → ℕ → X → ℤ
weight_at f a o x = cond (((f x).own == a) && ((f x).seen == o)) (f x).weight (pos 0)

pub weights-at : {X : Type 0} (f : X → Branch) (a o : ℕ) (xs : List X) → total (weight_at f a o) xs ≡ total (λ (b : Branch). b.weight) (branches_at (map f xs) a o)
weights-at f a o [] = refl
weights-at f a o (x ∷ xs) =
    let others : List Branch = branches_at (map f xs) a o in
    elim (((f x).own == a) && ((f x).seen == o)) as (λ (b : Bool). cond b (f x).weight (pos 0) +ℤ total (weight_at f a o) xs ≡ total (λ (b : Branch). b.weight) (cond b (f x ∷ others) others)) [
      | true ↦ ap (λ (z : ℤ). (f x).weight +ℤ z) (weights-at f a o xs)
      | false ↦ nothing (total (weight_at f a o) xs) ∙ weights-at f a o xs
    ]
  where
    nothing : (z : ℤ) → pos 0 +ℤ z ≡ z
    nothing z = omega (arith, ints)

pub weights-within : {X : Type 0} (f : X → Branch) (a o : ℕ) (xs : List X) → AllByRecursion (λ (b : Branch). IsWithin (pos 1) (pos 65536) b.weight) (map f xs) → AllByRecursion (λ x. IsWithin (pos 0) (pos 65536) (weight_at f a o x)) xs
weights-within f a o [] h = tt
weights-within f a o (x ∷ xs) h = (
  elim (((f x).own == a) && ((f x).seen == o)) as (λ (b : Bool). IsWithin (pos 0) (pos 65536) (cond b (f x).weight (pos 0))) [ true ↦ lower (f x).weight h.0 | false ↦ (omega (arith, ints), omega (arith, ints)) ],
  weights-within f a o xs h.1,
)
  where
    lower : (x : ℤ) → IsWithin (pos 1) (pos 65536) x → IsWithin (pos 0) (pos 65536) x
    lower x w = let low = w.0 in (omega (arith, ints), w.1)

pub before-at : {X : Type 0} (f : X → Branch) (d : X) (xs : List X) (i : ℕ) → 1 ≤ i → i < length xs → AreRising (map f xs) → IsBranchBefore (f (get_or xs (i - 1) d)) (f (get_or xs i d))
before-at {X} f d xs i some l h =
    let next : suc (i - 1) ≡ i = omega arith in
    subst (λ (k : ℕ). IsBranchBefore (f (get_or xs (i - 1) d)) (f (get_or xs k d))) next (rising-at f d xs h (i - 1) (omega arith))

-- a value within a magnitude
pub value-within : (most x y : ℤ) → most ≡ x → ((neg_ℤ x) ≤ℤ y) × (y ≤ℤ x) → ((pos 0 -ℤ most) ≤ℤ y) × (y ≤ℤ most)
value-within most x y e h = let low = h.0 in let high = h.1 in (omega (arith, ints, e), omega (arith, ints, e))

pub value-from : (most x y : ℤ) → most ≡ x → (pos 0 -ℤ most) ≤ℤ y → y ≤ℤ most → ((neg_ℤ x) ≤ℤ y) × (y ≤ℤ x)
value-from most x y e low high = (omega (arith, ints, e), omega (arith, ints, e))
