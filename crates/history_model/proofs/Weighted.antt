-- Sums over starts of members, each by its weight.
use Rattle.std.proofs.Common.{◌≡◌, ℕ, List, [], ◌∷◌, ap, arith, sym, ◌∙◌}
use Rattle.std.specs.Prelude.{ℤ, pos, ◌+ℤ◌, ◌*ℤ◌, ◌≤ℤ◌, ◌-ℤ◌, sum_by, unsigned_abs}
use Rattle.std.specs.List.{AllByRecursion}
use Rattle.scaled_num.specs.Sums.{total}
use Rattle.scaled_num.proofs.Products.{add-mulℤ, le-mulℤ, magnitude-is, mul-addℤ, mulℤ_assoc, mulℤ_comm, mulℤ_left_comm, products, sums}
use Rattle.game_model.proofs.Pay.{each-from}
use Rattle.scaled_num.proofs.Sums.{each, total-pos, total-same, total-scale, total-swap}
use Rattle.controller.specs.Starts.{weighted, weights_sum}

-- the weight of each start is not negative
abbrev pub NotNegative : List (ℕ × ℤ) → Type 0
NotNegative starts = AllByRecursion (λ start. pos 0 ≤ℤ start.1) starts

-- weights as whole numbers that are not negative
pub weights-sum : (starts : List (ℕ × ℤ)) → NotNegative starts → pos (sum_by (λ start. unsigned_abs start.1) starts) ≡ weights_sum starts
weights-sum starts h =
    sym (total-pos (λ (start : ℕ × ℤ). unsigned_abs start.1) starts)
    ∙ total-same _ (λ (start : ℕ × ℤ). start.1) starts (each-from (λ (start : ℕ × ℤ). pos 0 ≤ℤ start.1) _ starts (λ start k. sym (magnitude-is start.1 k)) h)

-- a weighted sum with the weights as such numbers
pub weighted-is : (starts : List (ℕ × ℤ)) (f : ℕ → ℤ) → NotNegative starts → total (λ start. pos (unsigned_abs start.1) *ℤ f start.0) starts ≡ weighted starts f
weighted-is starts f h =
    total-same _ (λ (start : ℕ × ℤ). start.1 *ℤ f start.0) starts
    (each-from (λ (start : ℕ × ℤ). pos 0 ≤ℤ start.1) _ starts (λ start k. ap (λ (x : ℤ). x *ℤ f start.0) (sym (magnitude-is start.1 k))) h)

-- a weighted sum of sums is a sum of weighted sums
pub weighted-swap : {X : Type 0} (starts : List (ℕ × ℤ)) (b : X → ℤ) (f : ℕ → X → ℤ) (xs : List X) →
    total (λ x. b x *ℤ weighted starts (λ i. f i x)) xs ≡ weighted starts (λ i. total (λ x. b x *ℤ f i x) xs)
weighted-swap {X} starts b f xs =
    total-same _ (λ x. total (λ (start : ℕ × ℤ). start.1 *ℤ (b x *ℤ f start.0 x)) starts) xs (each (λ x.
    sym (total-scale (b x) (λ (start : ℕ × ℤ). start.1 *ℤ f start.0 x) starts)
    ∙ total-same _ (λ (start : ℕ × ℤ). start.1 *ℤ (b x *ℤ f start.0 x)) starts (each (λ (start : ℕ × ℤ). mulℤ_left_comm (b x) start.1 (f start.0 x)) starts)) xs)
    ∙ total-swap (λ x (start : ℕ × ℤ). start.1 *ℤ (b x *ℤ f start.0 x)) xs starts
    ∙ total-same _ (λ (start : ℕ × ℤ). start.1 *ℤ total (λ x. b x *ℤ f start.0 x) xs) starts (each (λ (start : ℕ × ℤ). total-scale start.1 (λ x. b x *ℤ f start.0 x) xs) starts)

-- a product with 0
zero : (x : ℤ) → x *ℤ pos 0 ≡ pos 0
zero x = sym (total-scale x (λ (y : ℤ). y) [])

pub zero_left : (x : ℤ) → pos 0 *ℤ x ≡ pos 0
zero_left x = mulℤ_comm (pos 0) x ∙ zero x

-- each member earns at least its entry less the tail, so the starts earn at least the weighted sum less the tails
pub weighted-least : (starts : List (ℕ × ℤ)) (v p : ℕ → ℤ) (e q t w : ℤ) → NotNegative starts → AllByRecursion (λ start. ((v start.0 *ℤ q -ℤ t) *ℤ w) ≤ℤ (e *ℤ p start.0)) starts →
    ((weighted starts v *ℤ q -ℤ weights_sum starts *ℤ t) *ℤ w) ≤ℤ (e *ℤ weighted starts p)
weighted-least [] v p e q t w some h = nothing e q t w
  where
    nothing : (e q t w : ℤ) → ((pos 0 *ℤ q -ℤ pos 0 *ℤ t) *ℤ w) ≤ℤ (e *ℤ pos 0)
    nothing e q t w =
        let none : pos 0 *ℤ q -ℤ pos 0 *ℤ t ≡ pos 0 = omega (arith, sums, zero_left q, zero_left t) in
        omega (arith, sums, zero e, ap (λ (z : ℤ). z *ℤ w) none ∙ zero_left w)
weighted-least (start ∷ starts) v p e q t w some h =
    let x : ℕ = unsigned_abs start.1 in
    let is : start.1 ≡ pos x = magnitude-is start.1 some.0 in
    rw is
    (join (pos x) (v start.0) (weighted starts v) (weights_sum starts) (p start.0) (weighted starts p) e q t w (le-mulℤ x _ _ h.0) (weighted-least starts v p e q t w some.1 h.1))
  where
    back : (x t : ℤ) → x ≡ x -ℤ t +ℤ t
    back x t = omega (arith, sums)

    join : (x v vs s p ps e q t w : ℤ) → (x *ℤ ((v *ℤ q -ℤ t) *ℤ w)) ≤ℤ (x *ℤ (e *ℤ p)) → ((vs *ℤ q -ℤ s *ℤ t) *ℤ w) ≤ℤ (e *ℤ ps) →
        (((x *ℤ v +ℤ vs) *ℤ q -ℤ (x +ℤ s) *ℤ t) *ℤ w) ≤ℤ (e *ℤ (x *ℤ p +ℤ ps))
    join x v vs s p ps e q t w a b =
        let one : ℤ = v *ℤ q -ℤ t in
        let rest : ℤ = vs *ℤ q -ℤ s *ℤ t in
        let split : (x *ℤ v +ℤ vs) *ℤ q ≡ x *ℤ (v *ℤ q) +ℤ vs *ℤ q = simp products (omega (arith, sums)) in
        let first : x *ℤ (v *ℤ q) ≡ x *ℤ one +ℤ x *ℤ t = ap (λ (z : ℤ). x *ℤ z) (back (v *ℤ q) t) ∙ mul-addℤ x one t in
        let whole : (x *ℤ v +ℤ vs) *ℤ q -ℤ (x +ℤ s) *ℤ t ≡ x *ℤ one +ℤ rest = omega (arith, sums, split, first, add-mulℤ x s t) in
        let left : ((x *ℤ v +ℤ vs) *ℤ q -ℤ (x +ℤ s) *ℤ t) *ℤ w ≡ x *ℤ (one *ℤ w) +ℤ rest *ℤ w =
        ap (λ (z : ℤ). z *ℤ w) whole ∙ add-mulℤ (x *ℤ one) rest w ∙ ap (λ (z : ℤ). z +ℤ rest *ℤ w) (mulℤ_assoc x one w) in
        let right : e *ℤ (x *ℤ p +ℤ ps) ≡ x *ℤ (e *ℤ p) +ℤ e *ℤ ps = simp products (omega (arith, sums)) in
        omega (arith, sums, left, right)

-- each member costs at most its value and tail, so the starts cost at most the weighted sums of both
pub weighted-most : (starts : List (ℕ × ℤ)) (v b p : ℕ → ℤ) (e q t w : ℤ) → NotNegative starts → AllByRecursion (λ start. (e *ℤ p start.0) ≤ℤ ((v start.0 *ℤ q +ℤ t *ℤ b start.0) *ℤ w)) starts →
    (e *ℤ weighted starts p) ≤ℤ ((weighted starts v *ℤ q +ℤ t *ℤ weighted starts b) *ℤ w)
weighted-most [] v b p e q t w some h = nothing e q t w
  where
    nothing : (e q t w : ℤ) → (e *ℤ pos 0) ≤ℤ ((pos 0 *ℤ q +ℤ t *ℤ pos 0) *ℤ w)
    nothing e q t w =
        let none : pos 0 *ℤ q +ℤ t *ℤ pos 0 ≡ pos 0 = omega (arith, sums, zero_left q, zero t) in
        omega (arith, sums, zero e, ap (λ (z : ℤ). z *ℤ w) none ∙ zero_left w)
weighted-most (start ∷ starts) v b p e q t w some h =
    let x : ℕ = unsigned_abs start.1 in
    let is : start.1 ≡ pos x = magnitude-is start.1 some.0 in
    rw is
    (join (pos x) (v start.0) (weighted starts v) (b start.0) (weighted starts b) (p start.0) (weighted starts p) e q t w (le-mulℤ x _ _ h.0) (weighted-most starts v b p e q t w some.1 h.1))
  where
    join : (x v vs b bs p ps e q t w : ℤ) → (x *ℤ (e *ℤ p)) ≤ℤ (x *ℤ ((v *ℤ q +ℤ t *ℤ b) *ℤ w)) → (e *ℤ ps) ≤ℤ ((vs *ℤ q +ℤ t *ℤ bs) *ℤ w) →
        (e *ℤ (x *ℤ p +ℤ ps)) ≤ℤ (((x *ℤ v +ℤ vs) *ℤ q +ℤ t *ℤ (x *ℤ b +ℤ bs)) *ℤ w)
    join x v vs b bs p ps e q t w h k =
        let left : e *ℤ (x *ℤ p +ℤ ps) ≡ x *ℤ (e *ℤ p) +ℤ e *ℤ ps = simp products (omega (arith, sums)) in
        let right : ((x *ℤ v +ℤ vs) *ℤ q +ℤ t *ℤ (x *ℤ b +ℤ bs)) *ℤ w ≡ x *ℤ ((v *ℤ q +ℤ t *ℤ b) *ℤ w) +ℤ (vs *ℤ q +ℤ t *ℤ bs) *ℤ w = simp products (omega (arith, sums)) in
        omega (arith, sums, left, right)
