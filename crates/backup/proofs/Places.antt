-- What holds at each place of a list, and what is known of lists that are filled place by place.
use Rattle.std.proofs.Common.{◌≡◌, ℕ, zero, suc, ◌+◌, ◌<◌, inl, inr, List, [], ◌∷◌, ◌++◌, length, get_or, drop, map, set, take, arith, ap, subst, sym, ◌∙◌}
use Rattle.std.specs.Prelude.{ℤ, pos}
use Rattle.std.proofs.lemmas.List.{get_or-set_same, get_or-set_other, get_or_append_left, length-append, take-append-le, take_all}
use Rattle.std.proofs.Math.Seq.{get_or-append_seam}
use Rattle.std.specs.List.{range_with_len}
use Rattle.scaled_num.specs.Sums.{below}
use Rattle.game_model.proofs.Least.{last-or}

-- what holds of the first entries of two lists still holds after the next ones are written
pub written-two : (P : ℕ → ℕ → ℤ → Type 0) (xs : List ℕ) (ys : List ℤ) (s : ℕ) (x : ℕ) (y : ℤ) → s < length xs → s < length ys →
    ((k : ℕ) → k < s → P k (get_or xs k 0) (get_or ys k (pos 0))) → P s x y → (k : ℕ) → k < s + 1 → P k (get_or (set xs s x) k 0) (get_or (set ys s y) k (pos 0))
written-two P xs ys s x y lx ly before here k l =
    elim (last-or k s l) [
      | inl b ↦
          let other : k ≡ s → ⊥ = apart b in
          subst (λ (m : ℕ). P k m (get_or (set ys s y) k (pos 0))) (sym (get_or-set_other xs s k x 0 other))
          (subst (P k (get_or xs k 0)) (sym (get_or-set_other ys s k y (pos 0) other)) (before k b))
      | inr e ↦ subst (λ (j : ℕ). P j (get_or (set xs s x) j 0) (get_or (set ys s y) j (pos 0))) (sym e)
          (subst (λ (m : ℕ). P s m (get_or (set ys s y) s (pos 0))) (sym (get_or-set_same xs s x 0 lx))
          (subst (P s x) (sym (get_or-set_same ys s y (pos 0) ly)) here))
    ]
  where
    apart : k < s → k ≡ s → ⊥
    apart b e = omega arith

-- what a function gives of one more number
map-from-more : {X : Type 0} (f : ℕ → X) (a n : ℕ) → map f (range_with_len a (n + 1)) ≡ map f (range_with_len a n) ++ f (a + n) ∷ []
map-from-more f a zero = ap (λ (k : ℕ). f k ∷ []) (omega arith)
map-from-more f a (suc n) =
    let next : a + 1 + n ≡ a + suc n = omega arith in
    let long : suc n + 1 ≡ suc (n + 1) = omega arith in
    ap (λ (k : ℕ). map f (range_with_len a k)) long ∙ ap (λ (ys : List _). f a ∷ ys) (map-from-more f (a + 1) n ∙ ap (λ (k : ℕ). map f (range_with_len (a + 1) n) ++ f k ∷ []) next)

pub map-below-more : {X : Type 0} (f : ℕ → X) (n : ℕ) → map f (below (n + 1)) ≡ map f (below n) ++ f n ∷ []
map-below-more f n = map-from-more f 0 n ∙ ap (λ (k : ℕ). map f (below n) ++ f k ∷ []) (omega arith)

-- what holds at each place of a list and of one more element
pub one-more : {X : Type 0} (P : ℕ → X → Type 0) (d : X) (xs ys : List X) (x : X) (n : ℕ) → length xs ≡ n → ys ≡ xs ++ x ∷ [] → ((k : ℕ) → k < n → P k (get_or xs k d)) → P n x →
    (k : ℕ) → k < n + 1 → P k (get_or ys k d)
one-more P d xs ys x n long is before here k l =
    subst (λ (zs : List _). P k (get_or zs k d)) (sym is)
    (elim (last-or k n l) [
      | inl b ↦ subst (P k) (sym (get_or_append_left xs (x ∷ []) d k (omega arith))) (before k b)
      | inr e ↦ subst (λ (j : ℕ). P j (get_or (xs ++ x ∷ []) j d)) (sym e) (subst (λ (j : ℕ). P n (get_or (xs ++ x ∷ []) j d)) long (subst (P n) (sym (get_or-append_seam xs x [] d)) here))
    ])

pub long-more : {X : Type 0} (xs ys : List X) (x : X) (n : ℕ) → length xs ≡ n → ys ≡ xs ++ x ∷ [] → length ys ≡ n + 1
long-more xs ys x n long is = ap length is ∙ length-append xs (x ∷ []) ∙ omega arith

-- a list that was written whole
pub front-is : (out items : List ℤ) (n : ℕ) → length out ≡ n → take n (out ++ drop (length out) items) ≡ out
front-is out items n e = ap (λ (k : ℕ). take k (out ++ drop (length out) items)) (sym e) ∙ take-append-le (length out) out (drop (length out) items) (omega arith) ∙ take_all (length out) out (omega arith)
