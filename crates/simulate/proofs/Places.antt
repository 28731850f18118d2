-- The place that is drawn over weights is one of them, and weighs something.
use Rattle.std.proofs.Common.{◌≡◌, ℕ, suc, ◌+◌, ◌-◌, ◌<◌, ◌≤◌, Bool, true, false, refl, List, [], ◌∷◌, length, get_or, map, arith, sym, subst}
use Rattle.std.specs.Prelude.{nat_lt, if◌then◌else◌}
use Rattle.std.specs.List.{sum, sum_by}
use Rattle.std.proofs.lemmas.List.Sums.{sum-map, sum_by-cons}
use Rattle.std.proofs.lemmas.List.{length-map}
use Rattle.std.proofs.lemmas.List.FromFn.{get_or-map-range_with_len, length-map-range_with_len}
use Rattle.scaled_num.specs.Sums.{below}
use Rattle.scaled_num.proofs.Each.{get-map}
use Rattle.rand_pcg.specs.Lcg.{Lcg}
use Rattle.hsvi_draw.specs.Draws.{draw_at}
use Rattle.simulate.specs.Choices.{place_drawn, place_past}

-- a place of a list that weighs something
pub record IsWeighty (weights : List ℕ) (place : ℕ) : Type 0 where
  pub within : place < length weights
  pub weight : 1 ≤ get_or weights place 0

next-weighty : (number w : ℕ) (ws : List ℕ) (b : Bool) → nat_lt number w ≡ b → number < w + sum ws →
    (number - w < sum ws → IsWeighty ws (place_past (number - w) ws)) → IsWeighty (w ∷ ws) (if b then 0 else suc (place_past (number - w) ws))
next-weighty number w ws true e h rest = record { within = omega arith; weight = grind (arith, e) }
next-weighty number w ws false e h rest =
    let later = rest (grind (arith, e, h)) in
    record { within = omega (arith, later.within); weight = later.weight }

pub past-weighty : (number : ℕ) (weights : List ℕ) → number < sum weights → IsWeighty weights (place_past number weights)
past-weighty number [] h = omega (arith, h)
past-weighty number (w ∷ ws) h =
    next-weighty number w ws (nat_lt number w) refl (subst (λ (n : ℕ). number < n) (sum_by-cons (λ (x : ℕ). x) w ws) h) (λ l. past-weighty (number - w) ws l)

pub drawn-weighty : (g : Lcg) (weights : List ℕ) → 1 ≤ sum weights → IsWeighty weights (place_drawn g weights)
drawn-weighty g weights h = past-weighty (draw_at g 0 (sum weights)) weights (grind (arith, h))

-- drawn over f of the numbers below n: one of them, at which f is something
pub record IsSome (f : ℕ → ℕ) (n i : ℕ) : Type 0 where
  pub within : i < n
  pub weight : 1 ≤ f i

pub drawn-below : (g : Lcg) (f : ℕ → ℕ) (n : ℕ) → 1 ≤ sum_by f (below n) → IsSome f n (place_drawn g (map f (below n)))
drawn-below g f n h =
    let drawn = drawn-weighty g (map f (below n)) (subst (λ (x : ℕ). 1 ≤ x) (sym (sum-map f (below n))) h) in
    let inside : place_drawn g (map f (below n)) < n = subst (λ (x : ℕ). place_drawn g (map f (below n)) < x) (length-map-range_with_len f 0 n) drawn.within in
    record {
      within = inside;
      weight = subst (λ (x : ℕ). 1 ≤ x) (get_or-map-range_with_len f 0 n (place_drawn g (map f (below n))) (place_drawn g (map f (below n))) 0 inside (omega arith)) drawn.weight;
    }

-- drawn over f of a list: an item of it, at which f is something
pub record IsItem {X : Type 0} (f : X → ℕ) (xs : List X) (d : X) (i : ℕ) : Type 0 where
  pub within : i < length xs
  pub weight : 1 ≤ f (get_or xs i d)

pub drawn-item : {X : Type 0} (g : Lcg) (f : X → ℕ) (xs : List X) (d : X) → 1 ≤ sum_by f xs → IsItem f xs d (place_drawn g (map f xs))
drawn-item g f xs d h =
    let drawn = drawn-weighty g (map f xs) (subst (λ (x : ℕ). 1 ≤ x) (sym (sum-map f xs)) h) in
    let inside : place_drawn g (map f xs) < length xs = subst (λ (x : ℕ). place_drawn g (map f xs) < x) (length-map xs f) drawn.within in
    record {
      within = inside;
      weight = subst (λ (x : ℕ). 1 ≤ x) (get-map f xs (place_drawn g (map f xs)) d 0 inside) drawn.weight;
    }
