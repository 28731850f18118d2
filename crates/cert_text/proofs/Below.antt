-- A list that is f at each index.
use Rattle.std.proofs.Common.{◌≡◌, ℕ, suc, ◌+◌, ◌<◌, List, [], ◌∷◌, length, get_or, map, ℤ, pos, refl, ap, ◌∙◌, arith}
use Rattle.std.specs.List.{range_with_len}
use Rattle.scaled_num.specs.Sums.{below}

range_pointwise : (f : ℕ → ℤ) (a : ℕ) (xs : List ℤ) → ((k : ℕ) → k < length xs → get_or xs k (pos 0) ≡ f (a + k)) → xs ≡ map f (range_with_len a (length xs))
range_pointwise f a [] h = refl
range_pointwise f a (x ∷ xs) h =
    let e : a + 0 ≡ a = omega arith in
    let here : x ≡ f a = h 0 (omega arith) ∙ ap f e in
    let rest = range_pointwise f (a + 1) xs (λ k l. let p : a + suc k ≡ a + 1 + k = omega arith in h (suc k) (omega (arith, l)) ∙ ap f p) in
    ap (λ (y : ℤ). y ∷ xs) here ∙ ap (λ (ys : List ℤ). f a ∷ ys) rest

pub pointwise_below : (f : ℕ → ℤ) (n : ℕ) (xs : List ℤ) → length xs ≡ n → ((k : ℕ) → k < n → get_or xs k (pos 0) ≡ f k) → xs ≡ map f (below n)
pointwise_below f n xs long h =
    range_pointwise f 0 xs (λ k l. let p : k ≡ 0 + k = omega arith in h k (omega (arith, l, long)) ∙ ap f p) ∙ ap (λ (m : ℕ). map f (below m)) long
